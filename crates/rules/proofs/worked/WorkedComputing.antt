-- One name that opens every definition of the rules, so that a worked case is decided by computing.
use Prim.Native.Nat.{ℕ}
use Rattle.counting.specs.Sums.{sum_to, max_to, all_to, any_to}
use Rattle.counting.specs.Lists.{join_to, join_in, any_in, keep_in, first_in, sum_in, changed}
use Rattle.counting.specs.Searches.{first_to, first_largest, found}
use Rattle.counting.specs.Sorting.{inserted, sorted}
use Rattle.words.specs.LittleEndian.{little_endian}
use Rattle.refusals.specs.FirstMet.{first_fault_to}
use Rattle.load.specs.Load.{zero_row}
use Rattle.load.specs.View.{view_of, chain, embedded, opens_at, open_at}
use Rattle.load.specs.Faults.{row_tests, taken_tests, step_tests, window_tests}
use Rattle.load.specs.Check.{check_parts, row_fault, check_load}
use Rattle.rules.specs.Cut.{kept, cut}
use Rattle.rules.specs.Bound.{
  all_costs,
  largest_phase,
  all_embedded_waits,
  largest_w,
  bound_by,
  partners,
  pair_costs,
  smallest_costs,
  bound,
}
use Rattle.rules.specs.Margins.{row_bound, margin, verdict, margins, bytes_of_margins}
use Rattle.rules.specs.Blame.{blame_among, place_waits, row_blame, blames}
use Rattle.rules.specs.State.{shaped}
use Rattle.rules.specs.Ready.{is_allowed, is_candidate, candidates}
use Rattle.rules.specs.Plan.{in_time_by, stack_by, due, window_left}
use Rattle.rules.specs.Lamps.{lamp_word, lamp_count}
use Rattle.rules.specs.Move.{started, ticked, passes, chosen, all_finished, shaped_move_with, move_with, move_by}
use Rattle.rules.specs.Slots.{slot_for}
use Rattle.rules.specs.Check.{slot_tests, check_slots, check_schedule}

-- to open this is to open all that its line names
unfoldable pub computing : ℕ
unfolding sum_to max_to all_to any_to join_to join_in any_in keep_in first_in sum_in changed first_to
    first_largest found
    inserted sorted little_endian first_fault_to zero_row view_of chain embedded row_tests taken_tests step_tests
    window_tests check_parts row_fault check_load kept cut all_costs largest_phase all_embedded_waits largest_w bound_by
    partners pair_costs smallest_costs bound row_bound margin verdict margins bytes_of_margins blame_among place_waits
    row_blame blames opens_at open_at shaped is_allowed is_candidate candidates due in_time_by stack_by
    window_left lamp_word
    lamp_count started ticked passes chosen all_finished shaped_move_with move_with move_by slot_for slot_tests
    check_slots check_schedule
computing = 0
