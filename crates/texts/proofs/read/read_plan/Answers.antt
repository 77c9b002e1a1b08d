use Rattle.std.proofs.Common.{length, drop, vec_items, ap, ◌∙◌, arith}
use Rattle.std.proofs.lemmas.List.{take_at}
use Rattle.texts.specs.Links.{linked}
use Rattle.texts.proofs.Links.{linked_read}
use Rattle.texts.proofs.read.read_plan.Goals as goal

pub returns : goal.returns
returns c =
    let now = c.link.new.nodes in
    linked_read c.args.text.now (vec_items c.in_ok-nodes.nodes) _ c.in_ok-nodes.ensures
    (take_at now (drop (length now) c.in_ok-nodes.nodes.items) c.in_ok-nodes.nodes.len (omega (arith, c.link.auto.nodes, c.as_mut_slice.ensures.len))
    ∙ c.in_ok-link.ensures ∙ ap linked c.as_mut_slice.ensures.value)
