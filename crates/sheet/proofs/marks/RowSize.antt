-- How long the lines of an accepted row are, and the sheet of an accepted load: by the digits of each field's largest
-- number, since the last step's wait is 0 and there are no more limits than windows. A held row's numbers have ten
-- digits at most.
use Prim.Native.Nat.{ℕ, zero, suc, ◌+◌, ◌-◌, ◌*◌, ◌^◌, ◌≤◌, ◌<◌}
use mathlib.Core.Bool.{Bool, true, false, cond}
use mathlib.Core.Path.{◌≡◌, refl, ap}
use native.Mathlib.Decide.{dec_lt}
use native.Mathlib.Omega.{arith}
use borrow.Author.Tests.{ltb-false, eq-eqb}
use lib.Dec.{eqb}
use lib.ListN.{length, length-append, length-take, get_or-eq_default}
use Rattle.counting.specs.Sums.{sum_to, bit, count_to}
use Rattle.counting.proofs.sums.SumLaws.{sum_to-next, sum_to-le}
use Rattle.counting.proofs.lists.ListLaws.{join_to-length}
use Rattle.words.specs.Decimal.{decimal}
use Rattle.words.proofs.DecimalLaws.{decimal-length-le}
use Rattle.std.specs.Prelude.{Ok}
use Rattle.refusals.proofs.FirstFaultLaws.{test_at, first_met-good}
use Rattle.load.specs.declared.Row.{Row}
use Rattle.load.specs.declared.Load.{Load}
use Rattle.load.specs.Load.{
  most_steps,
  largest_number,
  latest_phase,
  last_moment,
  largest_cost,
  largest_wait,
  largest_limit,
  shown,
  no_step,
  row_at,
  step_at,
  window_at,
}
use Rattle.load.specs.View.{row_windows}
use Rattle.load.specs.Faults.{row_tests, step_tests, window_tests}
use Rattle.load.specs.Check.{check_load}
use Rattle.load.proofs.RangeLaws.{outside-least, outside-most}
use Rattle.load.proofs.CheckLaws.{RowGood, fields-steps-le, fields-windows-le, check_load-good}
use Rattle.load_file.specs.RoundTrip.{HeldRow, HeldStep}
use Rattle.load_file.proofs.faults.ZeroLaws.{no_step-held}
use Rattle.sheet_line.specs.declared.Mark.{Mark}
use Rattle.sheet_line.specs.declared.Mark.TheVariants.{Nothing, Dash, Limit}
use Rattle.sheet_line.specs.declared.Line.{Line}
use Rattle.sheet_line.specs.LineText.{mark_among, line_of, mark_bytes, line_bytes}
use Rattle.sheet_line.proofs.LineLaws.{Short}
use Rattle.sheet.specs.LineFaults.{is_limit}
use Rattle.sheet.specs.Writing.{row_lines, sheet_bytes, most_sheet_bytes}
use Rattle.sheet.proofs.marks.LimitLaws.{limit-lt, limits-le}
use Rattle.sheet.proofs.marks.RowTrip.{used-window, window-is}

module _ (row : Row) (held : HeldRow row) where
  -- behind the places of a row stands the step of zeros
  step-held : (j : ℕ) → HeldStep (step_at row j)
  step-held j =
      elim (dec_lt j most_steps) [
        | yes l ↦ held.each_step j l
        | no l ↦
            rw (get_or-eq_default row.step no_step {n = j} (omega (arith, held.step-places))) no_step-held
      ]

  limit-held : (j limit : ℕ) → mark_among j (row_windows row) ≡ Limit limit → limit < 2 ^ 16
  limit-held =
      limit-lt (2 ^ 16) (row_windows row)
      (λ k l.
      rw (window-is row k l)
      (held.each-window k (omega (arith, length-take row.windows row.window, held.window-places))
      ).limit-fits)

  -- the numbers of a row's lines have ten digits at most
  pub line_of-short : (j : ℕ) → Short (line_of row j)
  unfolding line_of
  line_of-short j =
      record {
        identifier-short = omega (arith, held.identifier-fits);
        box-short = omega (arith, held.box-fits);
        phase-short = omega (arith, held.phase-fits);
        deadline-short = omega (arith, held.deadline-fits);
        cost-short = omega (arith, (step-held j).cost-fits);
        wait-short = omega (arith, (step-held j).wait-fits);
        limit-short = λ limit e. omega (arith, limit-held j limit e);
      }

mark_bytes-le : (m : Mark) → ((limit : ℕ) → m ≡ Limit limit → limit < 10 ^ 5)
    → length (mark_bytes m) ≤ 1 + 4 * bit (is_limit m)
unfolding mark_bytes
mark_bytes-le Nothing h = omega arith
mark_bytes-le Dash h = omega arith
mark_bytes-le (Limit limit) h = omega (arith, decimal-length-le 4 limit (h limit refl))

-- six commas, CR LF
line_bytes-length : (line : Line)
    → length (line_bytes line)
    ≡ length (decimal line.identifier)
    + length (decimal line.box_number)
    + length (decimal line.phase)
    + length (decimal line.deadline)
    + length (decimal line.cost)
    + length (decimal line.wait)
    + length (mark_bytes line.mark)
    + 8
unfolding line_bytes
line_bytes-length line = simp length-append (omega arith)

-- n numbers of at most c, and 4 more where p is met
sum_to-marked-le : (f : ℕ → ℕ) (p : ℕ → Bool) (c n : ℕ) → ((j : ℕ) → j < n → f j ≤ c + 4 * bit (p j))
    → sum_to f n ≤ n * c + 4 * count_to p n
unfolding sum_to
sum_to-marked-le f p c zero h = omega arith
sum_to-marked-le f p c (suc n) h =
    omega (arith, sum_to-marked-le f p c n (λ j l. h j (omega arith)), h n (omega arith))

-- the most digits of a wait: one at the last step, whose wait is 0
abbrev wait_digits : Bool → ℕ
wait_digits is_last = cond is_last 1 4

wait-le : (is_last : Bool) (wait : ℕ) → wait ≤ cond is_last 0 largest_wait → length (decimal wait) ≤ wait_digits is_last
wait-le true wait h = decimal-length-le 0 wait (omega arith)
wait-le false wait h = decimal-length-le 3 wait (omega arith)

wait_digits-le : (is_last : Bool) → wait_digits is_last ≤ 4
wait_digits-le true = omega arith
wait_digits-le false = omega arith

module _ (load : Load) (i : ℕ) (row : Row) (good : RowGood load i row) where
  field : (k : ℕ) → test_at (row_tests row) k ≡ false
  field k = first_met-good (row_tests row) good.fields-good k

  limit-good : (j limit : ℕ) → mark_among j (row_windows row) ≡ Limit limit → limit < 10 ^ 5
  unfolding window_tests
  limit-good =
      limit-lt (10 ^ 5) (row_windows row)
      (λ k l.
      let test = first_met-good (window_tests row k) (good.each-window-good k (used-window row k l)) 2 in
      let most : (window_at row k).limit ≤ largest_limit = outside-most 1 _ _ test in
      rw (window-is row k l) (omega arith))

  -- a line is as long as its wait and its mark allow
  line-le : (j : ℕ) → j < row.steps
      → length (line_bytes (line_of row j))
      ≤ 44 + wait_digits (eqb (shown j) row.steps) + 4 * bit (is_limit (mark_among j (row_windows row)))
  unfolding line_of row_tests step_tests
  line-le j l =
      let step = first_met-good (step_tests row j) (good.each-step-good j l) in
      let identifier : row.identifier.0 ≤ largest_number = outside-most 1 _ _ (field 0) in
      let box : row.box_number.0 ≤ largest_number = outside-most 1 _ _ (field 1) in
      let phase : row.phase ≤ latest_phase = ltb-false _ _ (field 2) in
      let deadline : row.deadline ≤ last_moment = outside-most 1 _ _ (field 3) in
      let cost : (step_at row j).cost ≤ largest_cost = outside-most 1 _ _ (step 0) in
      omega (
        arith,
        line_bytes-length (line_of row j),
        decimal-length-le 9 row.identifier.0 (omega arith),
        decimal-length-le 9 row.box_number.0 (omega arith),
        decimal-length-le 4 row.phase (omega arith),
        decimal-length-le 6 row.deadline (omega arith),
        decimal-length-le 2 (step_at row j).cost (omega arith),
        wait-le (eqb (shown j) row.steps) (step_at row j).wait (ltb-false _ _ (step 1)),
        mark_bytes-le (mark_among j (row_windows row)) (limit-good j),
      )

  -- 8 lines of 43 bytes; seven waits of 4, and one of 1; 8 marks of 1, and 4 more for each of 4 windows
  pub row_lines-le : length (row_lines row) ≤ 397
  unfolding row_lines row_tests
  row_lines-le =
      let size : ℕ → ℕ = λ j. length (line_bytes (line_of row j)) in
      let limit : ℕ → Bool = λ j. is_limit (mark_among j (row_windows row)) in
      let m : ℕ = row.steps - 1 in
      let least : 1 ≤ row.steps = outside-least 1 _ _ (field 4) in
      let last : row.steps ≡ m + 1 = omega arith in
      let front : sum_to size m ≤ m * 48 + 4 * count_to limit m =
      sum_to-marked-le size limit 48 m
      (λ j l. omega (arith, line-le j (omega arith), wait_digits-le (eqb (shown j) row.steps))) in
      let end = line-le m (omega arith) in
      let one = ap wait_digits (eq-eqb (shown m) row.steps (omega arith)) in
      omega (
        arith,
        join_to-length (λ j. line_bytes (line_of row j)) row.steps,
        ap (sum_to size) last,
        sum_to-next size m,
        front,
        end,
        one,
        sum_to-next (λ j. bit (limit j)) m,
        limits-le (row_windows row) (m + 1),
        length-take row.windows row.window,
        fields-windows-le row good.fields-good,
        fields-steps-le row good.fields-good,
      )

-- 24 rows
pub sheet_bytes-le : (load : Load) → check_load load ≡ Ok tt → length (sheet_bytes load) ≤ most_sheet_bytes
unfolding sheet_bytes
sheet_bytes-le load e =
    let good = check_load-good load e in
    omega (
      arith,
      join_to-length (λ i. row_lines (row_at load i)) load.rows,
      sum_to-le (λ i. length (row_lines (row_at load i))) load.rows 397
          (λ i l. row_lines-le load i (row_at load i) (good.each-row-good i l)),
      good.few-rows,
    )
