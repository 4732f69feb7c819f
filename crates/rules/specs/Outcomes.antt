-- "Start (its row, step and start), Idle or Done", and a refusal: what each answer of a move says.
use Rattle.std.specs.Prelude.{ℕ, List, [], ◌∷◌}
use Rattle.refusals.specs.Refusals.{number_of}
use Rattle.rules.specs.declared.Slot.{Slot}
use Rattle.rules.specs.declared.Outcome.{Outcome}
use Rattle.rules.specs.declared.Outcome.TheVariants.{Start, Idle, Done, Refused}

-- an answer in document 01's terms: its number (0 unless refused), and the starts it makes
pub record Told : Type 0 where
  pub number : ℕ
  pub starts : List Slot

-- what each answer says
abbrev pub told_by : Outcome → Told
told_by (Start slot) = record { number = 0; starts = slot ∷ [] }
told_by Idle = record { number = 0; starts = [] }
told_by Done = record { number = 0; starts = [] }
told_by (Refused refusal) = record { number = number_of refusal; starts = [] }
