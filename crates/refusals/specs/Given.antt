-- "Returned alone; nothing lent is altered": what comes with a finding, and for a call that writes
-- what it gives and what its output holds afterwards, of bytes or of anything else that is lent.
-- Rests on D25 and D26: 9 comes last, and goes by the answer's own length.
use Rattle.std.specs.Prelude.{ℕ, List, [], ◌∷◌, ◌++◌, ◌≡◌, ltb, length, drop}
use Rattle.refusals.specs.declared.Refusal.{Refusal}
use Rattle.refusals.specs.declared.Refusal.TheVariants.{OutputShort}
use Rattle.refusals.specs.Checked.{Checked}
use Rattle.std.specs.Prelude.{Result, Ok, Err}
use Rattle.refusals.specs.FirstMet.{first_fault, first_met}

-- what comes with a result: the answer where nothing is refused, else what a refusal leaves
abbrev pub if_good : {A B : Type 0} → Result B Refusal → A → A → A
if_good (Ok told) answer none = answer
if_good (Err refusal) answer none = none

-- "Returned alone": the answer where nothing is refused, else the refusal and nothing beside it
abbrev pub given : {A : Type 0} → Checked → A → Result A Refusal
given (Ok tt) answer = Ok answer
given (Err refusal) answer = Err refusal

-- what was found where a call gave a result
abbrev pub found_in : {A : Type 0} → Result A Refusal → Checked
found_in (Ok answer) = Ok tt
found_in (Err refusal) = Err refusal

-- the lent output with the answer at its front: what stands past the answer stays
abbrev pub written : {A : Type 0} → List A → List A → List A
written answer out = answer ++ drop (length answer) out

-- 9 is met where the lent output is shorter than the answer
abbrev pub room_for : {A : Type 0} → List A → List A → Checked
room_for answer out = first_met ((ltb (length out) (length answer), OutputShort) ∷ [])

-- what a writing call finds, and what its output holds afterwards
pub record Given {A : Type 0} (finding : Checked) (answer out : List A) (found : Checked)
    (after : List A) : Type 0 where
  pub finding-is : found ≡ first_fault (finding ∷ room_for answer out ∷ [])
  pub output-is : after ≡ if_good found (written answer out) out

-- what a writing call gives that tells a length: the answer's where it is written, else the refusal
pub record WritesOut {A : Type 0} (finding : Checked) (answer out : List A) (r : Result ℕ Refusal)
    (after : List A) : Type 0 where
  pub length-is : r ≡ given (first_fault (finding ∷ room_for answer out ∷ [])) (length answer)
  pub output-is : after ≡ if_good r (written answer out) out
