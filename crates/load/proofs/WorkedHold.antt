-- The worked cases hold: each is decided by computing.
use Prim.Native.Nat.{ℕ}
use mathlib.Core.Path.{refl}
use Rattle.counting.specs.Sums.{sum_to, all_to, any_to}
use Rattle.counting.specs.Lists.{join_to, any_in}
use Rattle.refusals.specs.FirstMet.{first_fault_to}
use Rattle.load.specs.Load.{zero_row}
use Rattle.load.specs.View.{view_of, chain, embedded}
use Rattle.load.specs.Faults.{row_tests, taken_tests, step_tests, window_tests}
use Rattle.load.specs.Check.{check_parts, row_fault, check_load}
use Rattle.load.specs.Plain.{check_plain}
use Rattle.load.specs.WorkedRanges.{numbers_of, five, WorkedRanges}
use Rattle.load.specs.WorkedWindows.{WorkedWindows}
use Rattle.load.specs.WorkedCases.{WorkedCases}
use Rattle.load.specs.WorkedUnused.{not_zero, WorkedUnused}
use Rattle.load.specs.WorkedUrgent.{numbers_of_plain, WorkedUrgent}
use Rattle.load.specs.WorkedFactory.{WorkedFactory}
use Rattle.load.specs.WorkedParts.{numbers_of_parts, WorkedParts}

-- to open this is to open all that its line names
unfoldable computing : ℕ
unfolding sum_to all_to any_to join_to any_in first_fault_to zero_row view_of chain embedded row_tests taken_tests
    step_tests window_tests check_parts row_fault check_load numbers_of
computing = 0

pub ranges-hold : WorkedRanges
unfolding computing five
ranges-hold =
    record {
      identifiers = refl;
      boxes = refl;
      phases = refl;
      deadlines = refl;
      steps = refl;
      windows = refl;
      rows = refl;
      costs = refl;
      waits = refl;
      last-waits = refl;
      limits = refl;
      past-places = refl;
    }

pub windows-hold : WorkedWindows
unfolding computing
windows-hold =
    record {
      zeros = refl;
      last-steps = refl;
      in_order = refl;
      third-window = refl;
      limit-and-chain = refl;
      first-window = refl;
      chains = refl;
      chains-in = refl;
      chains-between = refl;
      steps-embedded = refl;
      steps-free = refl;
      waits-embedded = refl;
      waits-free = refl;
      two-windows = refl;
      steps-in-all = refl;
    }

pub cases-hold : WorkedCases
unfolding computing
cases-hold =
    record {
      shared = refl;
      fields-then-shared = refl;
      first-row = refl;
      first-row-windows = refl;
      row-order = refl;
      load-order = refl;
    }

pub unused-hold : WorkedUnused
unfolding computing not_zero
unused-hold =
    record {
      unused-steps = refl;
      unused-windows = refl;
      unused-rows = refl;
    }

pub urgent-hold : WorkedUrgent
unfolding computing five check_plain numbers_of_plain
urgent-hold =
    record {
      classes = refl;
      heads = refl;
      factory-later = refl;
      shared-later = refl;
      parts-later = refl;
      carried = refl;
      carried_later = refl;
    }

pub factory-hold : WorkedFactory
unfolding computing five
factory-hold =
    record {
      alone = refl;
      twice = refl;
      beside = refl;
      fields-first = refl;
      parts-later = refl;
      box-later = refl;
      row_before = refl;
      rows-first = refl;
    }

pub parts-hold : WorkedParts
unfolding computing five numbers_of_parts
parts-hold = record { fields-not-asked = refl; places = refl; in_order = refl }
