-- The first window that a step is in decides its mark: windows that it is not in may be left out, one after the other.
use Prim.Native.Nat.{ℕ, min, ◌+◌, ◌≤◌, ◌<◌}
use mathlib.Core.Bool.{Bool, true, false, cond}
use mathlib.Core.List.{List}
use mathlib.Core.Path.{◌≡◌, ap, ◌∙◌}
use native.Mathlib.Numerals.{add-one}
use native.Mathlib.Omega.{arith}
use lib.Dec.{eqb}
use lib.ListN.{length, take, drop, get_or, drop_of_length-le}
use lib.Seq.{drop-cons}
use Rattle.std.proofs.lemmas.List.{take_min}
use Rattle.words.proofs.DecimalLaws.{decimal-length-le}
use Rattle.load.specs.declared.Window.{Window}
use Rattle.load.specs.declared.Row.{Row}
use Rattle.load.specs.Load.{shown}
use Rattle.load.specs.View.{row_windows, in_window}
use Rattle.sheet_line.specs.declared.Mark.{Mark}
use Rattle.sheet_line.specs.declared.Mark.TheVariants.{Nothing, Dash, Limit}
use Rattle.sheet_line.specs.LineText.{mark_among, mark_bytes}

-- the mark of a step that is in a window
abbrev pub mark_in : ℕ → Window → Mark
mark_in j w = cond (eqb (shown j) w.first) (Limit w.limit) Dash

-- of so many places of an array, those that it has
pub windows-taken : (row : Row) (used : ℕ) → used ≡ min row.windows (length row.window)
    → take used row.window ≡ row_windows row
windows-taken row used e = ap (λ n. take n row.window) e ∙ take_min row.windows row.window

module _ (j : ℕ) (ws : List Window) where
  -- the step is in the next window: its mark is that window's
  pub among-here : (k : ℕ) (d : Window) → k < length ws → in_window (shown j) (get_or ws k d) ≡ true
      → mark_among j (drop k ws) ≡ mark_in j (get_or ws k d)
  unfolding mark_among
  among-here k d l e = rw (drop-cons ws k d l, e)

  -- it is not: the window is left out
  pub among_next : (k : ℕ) (d : Window) → k < length ws → in_window (shown j) (get_or ws k d) ≡ false
      → mark_among j (drop k ws) ≡ mark_among j (drop (k + 1) ws)
  unfolding mark_among
  among_next k d l e = rw (drop-cons ws k d l, e, add-one k)

  -- all windows are left out
  pub among_none : (k : ℕ) → length ws ≤ k → mark_among j (drop k ws) ≡ Nothing
  unfolding mark_among
  among_none k l = rw (drop_of_length-le ws {i = k} l)

-- a dash, or a limit of 16 bits
pub mark_in-length-le : (j : ℕ) (w : Window) → w.limit < 65536 → length (mark_bytes (mark_in j w)) ≤ 5
unfolding mark_bytes
mark_in-length-le j w h = go (eqb (shown j) w.first)
  where
    go : (t : Bool) → length (mark_bytes (cond t (Limit w.limit) Dash)) ≤ 5
    go true = decimal-length-le 4 w.limit (omega arith)
    go false = omega arith
