-- What all layers share: an equation is met by what it names and by nothing else, and a writing call's relation decides
-- both what it gives and what its output holds.
use Prim.Native.Nat.{ℕ}
use mathlib.Core.List.{List, [], ◌∷◌}
use mathlib.Core.Path.{◌≡◌, refl}
use lib.ListN.{length}
use Rattle.std.specs.Prelude.{Result}
use Rattle.refusals.specs.declared.Refusal.{Refusal}
use Rattle.refusals.specs.Checked.{Checked}
use Rattle.refusals.specs.FirstMet.{first_fault}
use Rattle.refusals.specs.Given.{if_good, given as alone, written, room_for, Given, WritesOut}
use Rattle.demands.specs.FileCalls.{Wrote, Writes}
use Rattle.demands.specs.Sameness.{OneResult}
use Rattle.demands.specs.JoinedContract.{Relation}
use Rattle.demands.specs.Demand1.{Answer}

-- each relation is the list's own
abbrev pub listed : {A : Type 0} {meets : A → Type 0} → Relation A meets
listed {meets = meets} = record { meets = meets; same = refl }

-- what is given and what the output holds are one each
pub both : {A : Type 0} → (meets : A → List ℕ → Type 0)
    → ((r s : A) (after later : List ℕ) → meets r after → meets s later → (r ≡ s) × (after ≡ later))
    → OneResult (Wrote A) (Writes meets)
both meets unique r s p q =
    let same = unique r.gives s.gives r.after s.after p q in
    λ i. record { gives = same.0 i; after = same.1 i }

-- an equation is met by what it names
pub is : {A : Type 0} → (a : A) → Answer A (λ r. r ≡ a)
is a = record { result = a; met = refl }

-- and a writing call's relation by its finding, and by the output after that
pub given : (finding : Checked) (answer out : List ℕ) → Answer (Wrote Checked) (Writes (Given finding answer out))
given finding answer out =
    let found = first_fault (finding ∷ room_for answer out ∷ []) in
    record {
      result = record { gives = found; after = if_good found (written answer out) out };
      met = record { finding-is = refl; output-is = refl };
    }

-- and one that tells a length by that
pub writes-out : (finding : Checked) (answer out : List ℕ)
    → Answer (Wrote (Result ℕ Refusal)) (Writes (WritesOut finding answer out))
writes-out finding answer out =
    let told = alone (first_fault (finding ∷ room_for answer out ∷ [])) (length answer) in
    record {
      result = record { gives = told; after = if_good told (written answer out) out };
      met = record { length-is = refl; output-is = refl };
    }
