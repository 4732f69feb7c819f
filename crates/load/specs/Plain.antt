-- "22 a class not 0 or a head not 1, written as version 1 or as a sheet, after 3 to 7 and before 9"
-- (2026-05): both are read as class 0 and head 1, and so carry nothing else. To be read after
-- Check. Rests on D92.
use Rattle.std.specs.Prelude.{Bool, ◌||◌, not, List, [], ◌∷◌, eqb}
use Rattle.counting.specs.Sums.{any_to}
use Rattle.refusals.specs.declared.Refusal.{Refusal}
use Rattle.refusals.specs.declared.Refusal.TheVariants.{NotCarried}
use Rattle.refusals.specs.Checked.{Checked}
use Rattle.refusals.specs.FirstMet.{first_met, first_fault}
use Rattle.load.specs.declared.Row.{Row}
use Rattle.load.specs.declared.Load.{Load}
use Rattle.load.specs.Load.{only_head, row_at}
use Rattle.load.specs.Check.{check_load}

-- a class that is not 0 or a head that is not 1
abbrev pub not_plain : Row → Bool
not_plain row = not (eqb row.class 0) || not (eqb row.head only_head)

-- some row of a load has one
abbrev pub carried_tests : Load → List (Bool × Refusal)
carried_tests load = (any_to (λ i. not_plain (row_at load i)) load.rows, NotCarried) ∷ []

-- what a load in memory is refused for that is to be written as version 1 or as a sheet
unfoldable pub check_plain : Load → Checked
check_plain load = first_fault (check_load load ∷ first_met (carried_tests load) ∷ [])
