-- Answers: Option and Result.
use Rattle.std.proofs.Common.{◌≡◌, Some, None, Ok, Err, Option, Result, refl, ap}
use Rattle.memos.specs.Reading.{followed, passed}

pub passed_ok : {X E : Type 0} (o : Option E) (r : Result X E) (x : X) → passed o r ≡ Ok x → (o ≡ None) × (r ≡ Ok x)
passed_ok None r x e = (refl, e)
passed_ok (Some f) r x e = cc

pub passed_none : {X E : Type 0} (o : Option E) (r : Result X E) → o ≡ None → passed o r ≡ r
passed_none o r e = ap (λ t. passed t r) e

pub followed_ok : {X Y E : Type 0} (r : Result X E) (k : X → Result Y E) (y : Y) → followed r k ≡ Ok y → (x : X) × (r ≡ Ok x) × (k x ≡ Ok y)
followed_ok (Ok x) k y e = (x, refl, e)
followed_ok (Err f) k y e = cc

-- ---------- the refusal of an answer

abbrev pub refusal : {X E : Type 0} → Result X E → Option E
refusal (Ok x) = None
refusal (Err e) = Some e

abbrev pub or_else : {E : Type 0} → Option E → Option E → Option E
or_else None p = p
or_else (Some e) p = Some e

pub refusal_err : {X E : Type 0} (r : Result X E) (e : E) → refusal r ≡ Some e → r ≡ Err e
refusal_err (Ok x) e h = cc
refusal_err (Err f) e h = cc

pub refusal_passed : {X E : Type 0} (o : Option E) (x : X) → refusal (passed o (Ok x)) ≡ o
refusal_passed None x = refl
refusal_passed (Some e) x = refl

pub refusal_followed : {X Y E : Type 0} (a b : Option E) (x : X) (k : X → Result Y E) → refusal (followed (passed a (passed b (Ok x))) k) ≡ or_else a (or_else b (refusal (k x)))
refusal_followed None None x k = refl
refusal_followed None (Some e) x k = refl
refusal_followed (Some e) b x k = refl
