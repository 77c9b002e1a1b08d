use Rattle.std.proofs.Common.{arith}
use Rattle.spaces.specs.OrdersLemmas.{root_small}
use Rattle.spaces.proofs.order.OrderLayerSpace.root.Goals as goal

pub placed-requires : goal.placed-requires
placed-requires g c =
    let below = c.args.self.now.below in
    omega (arith, c.root.ensures, root_small (g.S.Space.meaning below) (g.met.S.Space.lawful below))
