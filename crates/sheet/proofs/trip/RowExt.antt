-- The row of so many lines looks at no other line: lines that agree below its steps spell one row.
use Prim.Native.Nat.{ℕ, suc, ◌+◌, ◌-◌, ◌<◌}
use mathlib.Core.Bool.{not}
use mathlib.Core.List.{◌++◌}
use mathlib.Core.Path.{◌≡◌, ap, ap₂}
use native.Mathlib.Omega.{arith}
use lib.ListN.{length, replicate}
use Rattle.counting.proofs.lists.ListLaws.{join_to-ext, filled-ext}
use Rattle.counting.proofs.searches.FirstToLaws.{first_to-ext}
use Rattle.load.specs.declared.Step.{Step}
use Rattle.load.specs.Load.{most_steps, most_windows, only_head, no_step, no_window}
use Rattle.sheet_line.specs.declared.Mark.{Mark}
use Rattle.sheet_line.specs.declared.Line.{Line}
use Rattle.sheet.specs.LineFaults.{is_dash}
use Rattle.sheet.specs.SheetRows.{dashes_behind, window_by, windows_of, row_of}

module _ (mark other : ℕ → Mark) (steps : ℕ) (same : (j : ℕ) → j < steps → mark j ≡ other j) where
  dashes_behind-ext : (j : ℕ) → dashes_behind mark steps j ≡ dashes_behind other steps j
  unfolding dashes_behind
  dashes_behind-ext j =
      first_to-ext _ _ (steps - suc j) (λ k l. ap (λ m. not (is_dash m)) (same (suc j + k) (omega arith)))

  windows_of-ext : windows_of mark steps ≡ windows_of other steps
  unfolding windows_of
  windows_of-ext =
      join_to-ext _ _ steps (λ j l. ap₂ (λ m behind. window_by m j behind) (same j l) (dashes_behind-ext j))

module _ (line other : ℕ → Line) (steps : ℕ) (least : 0 < steps)
    (same : (j : ℕ) → j < steps → line j ≡ other j) where
  pub row_of-ext : row_of line steps ≡ row_of other steps
  unfolding row_of
  row_of-ext =
      let first : line 0 ≡ other 0 = same 0 least in
      let windows : windows_of (λ j. (line j).mark) steps ≡ windows_of (λ j. (other j).mark) steps =
      windows_of-ext (λ j. (line j).mark) (λ j. (other j).mark) steps (λ j l. ap (λ n. n.mark) (same j l)) in
      let step =
      filled-ext {A = Step} (λ j. record { cost = (line j).cost; wait = (line j).wait })
      (λ j. record { cost = (other j).cost; wait = (other j).wait }) steps most_steps no_step
      (λ j l i. record { cost = (same j l i).cost; wait = (same j l i).wait }) in
      λ i.
      record {
        identifier = record { 0 = (first i).identifier };
        box_number = record { 0 = (first i).box_number };
        phase = (first i).phase;
        deadline = (first i).deadline;
        steps = steps;
        windows = length (windows i);
        class = 0;
        head = only_head;
        step = step i;
        window = windows i ++ replicate (most_windows - length (windows i)) no_window;
      }
