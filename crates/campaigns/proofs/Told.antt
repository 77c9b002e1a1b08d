-- What an engine tells of two plans, read back from its verdict.
use Rattle.std.proofs.Common.{◌≡◌, ℕ, ◌<◌, Bool, true, false, cond, Ok, Err, Result, sym, refl, ap, ◌∙◌, arith}
use Rattle.spaces.specs.Spaces.{Lawful, Meaning}
use Rattle.numbering.specs.Listings.{listing}
use Rattle.numbering.specs.Refusals.{plans}
use Rattle.numbering.proofs.Listings.{listed, listing_of}
use Rattle.engines.specs.Values.{Rule, value_of_list}
use Rattle.engines.proofs.Values.{list_value}
use Rattle.campaigns.specs.declared.outcome.Outcome.{Outcome}
use Rattle.campaigns.specs.declared.outcome.Outcome.TheVariants.{Agreed, Differing}
use Rattle.campaigns.specs.Divisors.{Exactly}
use Rattle.campaigns.specs.Promises.{Steady}
use Rattle.campaigns.specs.Verdicts.{EveryHistoryWith, ResultsDiffer, ResultsIn, by_engine, told}
use Rattle.campaigns.proofs.Kept.{promised}

module _ {V : Type 0} (alike : V → V → Bool) where
  not_alike : (b : Bool) → ◌≡◌ {A = Result Outcome ℕ} (Ok (cond b Agreed Differing)) (Ok Differing) → b ≡ false
  not_alike b h = grind arith

  told_differing : (r s : Result V ℕ) → told alike r s ≡ Ok Differing → (a : V) × (b : V) × (r ≡ Ok a) × (s ≡ Ok b) × (alike a b ≡ false)
  told_differing (Err f) s h = grind arith
  told_differing (Ok a) (Err f) h = grind arith
  told_differing (Ok a) (Ok b) h = (a, b, refl, refl, not_alike (alike a b) h)

  differing_told : (r s : Result V ℕ) (a b : V) → r ≡ Ok a → s ≡ Ok b → alike a b ≡ false → told alike r s ≡ Ok Differing
  differing_told r s a b p q f = rw (p, q, f) refl

  -- no result differs from itself
  never_itself : ((a : V) → alike a a ≡ true) → (r : Result V ℕ) → told alike r r ≡ Ok Differing → ⊥
  never_itself reflexive (Ok a) h = let e = reflexive a in grind arith
  never_itself reflexive (Err f) h = grind arith

module _ {V : Type 0} (rule : Rule V) (alike : V → V → Bool) (m : Meaning) (law : Lawful m) where
  result_in : (x : ℕ) (v : V) → x < plans m → value_of_list rule (listing m x) ≡ Ok v → ResultsIn rule m x v
  result_in x v lt h =
      let l = listed m law x lt in
      (l.tree, l.numbered, sym (list_value rule l.tree) ∙ ap (value_of_list rule) l.list_is ∙ h)

  in_result : (x : ℕ) (v : V) → ResultsIn rule m x v → value_of_list rule (listing m x) ≡ Ok v
  in_result x v h =
      ap (λ y. value_of_list rule (listing m y)) (sym h.1) ∙ ap (value_of_list rule) (listing_of m law h.0) ∙ list_value rule h.0 ∙ h.2

  differ_exactly : (base x : ℕ) → base < plans m → x < plans m → Exactly (by_engine rule alike m base x ≡ Ok Differing) (ResultsDiffer rule alike m base x)
  differ_exactly base x hb hx = (
    λ h.
        let d = told_differing alike (value_of_list rule (listing m base)) (value_of_list rule (listing m x)) h in
        record { baseline_result = d.0; other_result = d.1; baseline_has = result_in base d.0 hb d.2; other_has = result_in x d.1 hx d.3; not_alike = d.4 },
    λ d.
        differing_told alike (value_of_list rule (listing m base)) (value_of_list rule (listing m x)) d.baseline_result d.other_result
        (in_result base d.baseline_result d.baseline_has) (in_result x d.other_result d.other_has) d.not_alike,
  )

pub engine_steady : {V : Type 0} (rule : Rule V) (alike : V → V → Bool) (m : Meaning) → ((a : V) → alike a a ≡ true) → Steady (by_engine rule alike m)
engine_steady rule alike m reflexive x h = never_itself alike reflexive (value_of_list rule (listing m x)) h

-- an engine that calls each result the same as itself keeps the promise
pub every_history_with : {V : Type 0} (rule : Rule V) (alike : V → V → Bool) → ((a : V) → alike a a ≡ true) → EveryHistoryWith rule alike
every_history_with rule alike reflexive m law quiet =
    promised m law quiet (by_engine rule alike m) (engine_steady rule alike m reflexive) (ResultsDiffer rule alike m) (differ_exactly rule alike m law)
