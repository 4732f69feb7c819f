-- An answer that is returned alone: what is told is the answer, a part of what is told is that part of the answer, and
-- a refusal is the same whatever the answer would be.
use Rattle.std.proofs.Common.{◌≡◌, ap}
use Rattle.std.specs.Prelude.{Ok, Err}
use Rattle.refusals.specs.declared.Refusal.{Refusal}
use Rattle.refusals.specs.Checked.{Checked}
use Rattle.refusals.specs.Given.{given}

pub given-told : {A : Type 0} (finding : Checked) (told answer : A) → Ok told ≡ given finding answer → told ≡ answer
given-told (Ok tt) told answer e = cc
given-told (Err refusal) told answer e = cc

pub given-part : {A B : Type 0} (part : A → B) (finding : Checked) (told answer : A) → Ok told ≡ given finding answer
    → Ok (part told) ≡ given finding (part answer)
given-part part (Ok tt) told answer e = ap (λ x. Ok (part x)) (given-told (Ok tt) told answer e)
given-part part (Err refusal) told answer e = cc

pub given-refused : {A B : Type 0} (finding : Checked) (refusal : Refusal) (answer : A) (other : B)
    → Err refusal ≡ given finding answer → Err refusal ≡ given finding other
given-refused (Ok tt) refusal answer other e = cc
given-refused (Err found) refusal answer other e = cc
