-- Lines to the row that they spell and back, and an accepted row to its lines and back.
use Prim.Native.Nat.{ℕ, suc, ◌+◌, ◌-◌, ◌≤◌, ◌<◌}
use mathlib.Core.Bool.{false}
use mathlib.Core.List.{List, ◌++◌}
use mathlib.Core.Path.{◌≡◌, refl, ap, sym, ◌∙◌}
use native.Mathlib.Omega.{arith}
use borrow.Author.Tests.{eqb-false, leb-false, ltb-false}
use lib.ListN.{
  length,
  get_or,
  take,
  drop,
  replicate,
  take-append-drop,
  length-take,
  length-drop,
  length-replicate,
  get_or-replicate,
}
use lib.Seq.{ext_get_or, get_or-take, get_or-drop, take-append_seam, length-take-le}
use Rattle.counting.proofs.lists.ListLaws.{get_or-filled}
use Rattle.counting.proofs.lists.PieceLaws.{filled_is}
use Rattle.refusals.proofs.FirstFaultLaws.{first_met-good, test_at}
use Rattle.load.specs.declared.Step.{Step}
use Rattle.load.specs.declared.Window.{Window}
use Rattle.load.specs.declared.Row.{Row}
use Rattle.load.specs.declared.Load.{Load}
use Rattle.load.specs.Load.{most_steps, most_windows, only_head, no_step, no_window, step_at, window_at}
use Rattle.load.specs.View.{row_windows}
use Rattle.load.specs.Faults.{window_tests}
use Rattle.load.proofs.CheckLaws.{RowGood, fields-steps-le, fields-windows-le}
use Rattle.load_file.specs.RoundTrip.{HeldRow}
use Rattle.load_file.proofs.faults.ZeroLaws.{steps-unused, windows-unused}
use Rattle.sheet_line.specs.declared.Line.{Line}
use Rattle.sheet_line.specs.LineText.{mark_among, line_of}
use Rattle.sheet.specs.SheetRows.{windows_of, row_of}
use Rattle.sheet.specs.inner.Narrow.{RowLines}
use Rattle.sheet.proofs.marks.WindowLaws.{WindowsWell, chain-from, from-well}
use Rattle.sheet.proofs.marks.MarkLaws.{marks-back, marked-windows, windows-back}

-- the lines of the row that lines spell are those lines
module _ (line : ℕ → Line) (steps : ℕ) (h : RowLines line steps) (j : ℕ) (l : j < steps) where
  step_back : ◌≡◌ {A = Step} (step_at (row_of line steps) j) (record { cost = (line j).cost; wait = (line j).wait })
  unfolding row_of
  step_back = get_or-filled (λ j. record { cost = (line j).cost; wait = (line j).wait }) steps most_steps j
      no_step no_step l

  mark-back : mark_among j (row_windows (row_of line steps)) ≡ (line j).mark
  unfolding row_of
  mark-back =
      let ws : List Window = windows_of (λ j. (line j).mark) steps in
      ap (mark_among j) (take-append_seam ws (replicate (most_windows - length ws) no_window))
      ∙ marks-back (λ j. (line j).mark) steps h.marked j l

  pub lines-row : line_of (row_of line steps) j ≡ line j
  unfolding line_of row_of
  lines-row =
      λ i.
      record {
        identifier = sym (h.same-identifier j l) i;
        box_number = sym (h.same-box j l) i;
        phase = sym (h.same-phase j l) i;
        deadline = sym (h.same-deadline j l) i;
        cost = (step_back i).cost;
        wait = (step_back i).wait;
        mark = mark-back i;
      }

-- an array whose unused places hold z is its used ones with z behind them
padded : {A : Type 0} → (n last : ℕ) (z : A) (list : List A) → n ≤ last → length list ≡ last
    → ((i : ℕ) → n ≤ i → i < last → get_or list i z ≡ z) → take n list ++ replicate (last - n) z ≡ list
padded n last z list h e unused =
    let lengths : length (drop n list) ≡ length (replicate (last - n) z) =
    length-drop n list ∙ ap (λ k. k - n) e ∙ sym (length-replicate (last - n) z) in
    let rest : drop n list ≡ replicate (last - n) z =
    ext_get_or z (drop n list) (replicate (last - n) z) lengths
    (λ i b.
    get_or-drop n list i z
    ∙ unused (n + i) (omega arith) (omega (arith, length-drop n list))
    ∙ sym (get_or-replicate (last - n) i z z (omega (arith, length-drop n list)))) in
    ap (λ r. take n list ++ r) (sym rest) ∙ take-append-drop n list

-- a window that a row has is one of its used places
pub used-window : (row : Row) (k : ℕ) → k < length (row_windows row) → k < row.windows
used-window row k l = omega (arith, length-take row.windows row.window)

pub window-is : (row : Row) (k : ℕ) → k < length (row_windows row) → get_or (row_windows row) k no_window
    ≡ window_at row k
window-is row k l = get_or-take row.windows row.window k no_window (used-window row k l)

module _ (load : Load) (i : ℕ) (row : Row) (good : RowGood load i row) where
  window-test : (k : ℕ) → k < row.windows → (n : ℕ) → test_at (window_tests row k) n ≡ false
  window-test k l n = first_met-good (window_tests row k) (good.each-window-good k l) n

  pub row-well : WindowsWell (row_windows row) row.steps
  unfolding window_tests
  row-well =
      let ws : List Window = row_windows row in
      from-well row.steps ws
      (chain-from row.steps 0 ws
      (λ l.
      rw (window-is row 0 l)
      (omega (arith, eqb-false (window_at row 0).first 0 (window-test 0 (used-window row 0 l) 0))))
      (λ k l. rw (window-is row k l) (leb-false _ _ (window-test k (used-window row k l) 3)))
      (λ k l. rw (window-is row k l) (ltb-false _ _ (window-test k (used-window row k l) 4)))
      (λ k l.
      rw (window-is row (suc k) l, window-is row k (omega arith))
      (leb-false _ _ (window-test (suc k) (used-window row (suc k) l) 5))))

pub row-marked : (load : Load) (i : ℕ) (row : Row) → RowGood load i row → HeldRow row
    → RowLines (line_of row) row.steps
unfolding line_of
row-marked load i row good held =
    record {
      same-identifier = λ j l. refl;
      same-box = λ j l. refl;
      same-phase = λ j l. refl;
      same-deadline = λ j l. refl;
      marked = marked-windows (row_windows row) row.steps (row-well load i row good);
    }

-- a line carries no class and no head
pub row-lines : (load : Load) (i : ℕ) (row : Row) → RowGood load i row → HeldRow row → row.class ≡ 0
    → row.head ≡ only_head → row_of (line_of row) row.steps ≡ row
unfolding row_of line_of
row-lines load i row good held class head =
    let few : row.windows ≤ most_windows = fields-windows-le row good.fields-good in
    let ws : List Window = row_windows row in
    let back : windows_of (λ j. (line_of row j).mark) row.steps ≡ ws =
    windows-back ws row.steps (row-well load i row good) in
    let count : length ws ≡ row.windows =
    length-take-le row.windows row.window (omega (arith, held.window-places)) in
    let windows =
    padded row.windows most_windows no_window row.window few held.window-places
    (windows-unused row row.windows good.windows-zero) in
    let steps =
    filled_is (λ j. step_at row j) row.steps most_steps no_step no_step row.step
    (fields-steps-le row good.fields-good) held.step-places (λ j l. refl)
    (steps-unused row row.steps good.steps-zero) in
    λ i.
    record {
      identifier = row.identifier;
      box_number = row.box_number;
      phase = row.phase;
      deadline = row.deadline;
      steps = row.steps;
      windows = (ap length back ∙ count) i;
      class = sym class i;
      head = sym head i;
      step = steps i;
      window =
          (ap (λ (l : List Window). l ++ replicate (most_windows - length l) no_window) back
          ∙ ap (λ n. ws ++ replicate (most_windows - n) no_window) count
          ∙ windows)
          i;
    }
