use Rattle.std.proofs.Common.{◌≡◌, ◌≢◌, ℕ, ◌<◌, List, length, Option, None, Some, MatchOption, ap, ◌∙◌, zero-le, rules, tests}
use Rattle.std.specs.List.{AllWithin, HoldsAt, slice_get}
use Rattle.std.proofs.lemmas.Iterator.{IsFirst-from_position, YieldsList-from_slice}
use Rattle.std.proofs.lemmas.Option.{get_or_from_slice_get, slice_get-get_or}
use Rattle.spaces.specs.declared.space.Alternative.{Alternative}
use Rattle.spaces.specs.Places.{some_below}
use Rattle.prepared.proofs.prepared.lookup.place_of.Goals as goal

-- the first place by what stands there
placed : (xs : List Alternative) (a : Alternative) (r : Option ℕ)
    → MatchOption r (AllWithin (λ x. x ≡ a → ⊥) xs 0 (length xs)) (λ i. (i < length xs) × HoldsAt (λ x. x ≡ a) xs i × AllWithin (λ x. x ≡ a → ⊥) xs 0 i)
    → MatchOption r ((i : ℕ) → slice_get xs i ≢ Some a) (λ i. slice_get xs i ≡ Some a)
placed xs a None none = λ i e. none i a zero-le (some_below xs i a e) (get_or_from_slice_get xs i a a e)
placed xs a (Some i) first = slice_get-get_or xs i a first.0 ∙ ap Some (first.1 a)

pub returns : goal.returns
returns c =
    let a = c.args.alternative in
    placed c.args.list.now a c.position.result
    (IsFirst-from_position _ _ _ (λ x. x ≡ a) (λ x. x ≡ a → ⊥) c.position.ensures.ran (YieldsList-from_slice c.args.list.now cc) (λ x q k. search (rules, tests)) (λ x q k. search (rules, tests)))
