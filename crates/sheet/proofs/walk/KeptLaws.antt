-- A row of at most eight lines, as it is kept: its fields, its steps and its windows, each cut to its fields.
use Prim.Native.Nat.{ℕ, zero, suc, min, ◌-◌, ◌≤◌, ◌<◌}
use mathlib.Core.List.{List, [], ◌∷◌, ◌++◌, map, map-append}
use mathlib.Core.Path.{◌≡◌, refl, sym, ap, ap₂, ◌∙◌}
use borrow.Author.Tests.{le-leb, lt-leb}
use lib.ListN.{length, replicate, length-map}
use Rattle.counting.specs.Lists.{join_to, list_to, filled}
use Rattle.load.specs.declared.Step.{Step}
use Rattle.load.specs.declared.Window.{Window}
use Rattle.load.specs.declared.Row.{Row}
use Rattle.load.specs.Load.{most_steps, most_windows, only_head, no_step, no_window, zero_row}
use Rattle.sheet_line.specs.declared.Line.{Line}
use Rattle.sheet.specs.SheetRows.{windows_of, row_of, window_places}
use Rattle.sheet.specs.inner.Narrow.{most32, or_zero, narrow_step, narrow_window, narrow_row, kept_row}
use Rattle.sheet.specs.inner.Walk.{kept_step}

module _ {A B : Type 0} (f : A → B) where
  map-replicate : (n : ℕ) (a : A) → map f (replicate n a) ≡ replicate n (f a)
  map-replicate zero a = refl
  map-replicate (suc n) a = ap (λ l. f a ∷ l) (map-replicate n a)

  map-list_to : (g : ℕ → A) (n : ℕ) → map f (list_to g n) ≡ list_to (λ i. f (g i)) n
  unfolding join_to
  map-list_to g zero = refl
  map-list_to g (suc n) = map-append f (list_to g n) (g n ∷ []) ∙ ap (λ l. l ++ f (g n) ∷ []) (map-list_to g n)

  map-filled : (g : ℕ → A) (n last : ℕ) (z : A) → map f (filled g n last z) ≡ filled (λ i. f (g i)) n last (f z)
  map-filled g n last z =
      map-append f (list_to g n) (replicate (last - n) z) ∙ ap₂ ◌++◌ (map-list_to g n) (map-replicate (last - n) z)

map-windows : (ws : List Window)
    → map narrow_window (ws ++ replicate (most_windows - length ws) no_window) ≡ window_places (map narrow_window ws)
map-windows ws =
    map-append narrow_window ws (replicate (most_windows - length ws) no_window)
    ∙ ap (λ l. map narrow_window ws ++ l)
    (map-replicate narrow_window (most_windows - length ws) no_window
    ∙ ap (λ n. replicate (most_windows - n) no_window) (sym (length-map ws narrow_window)))

-- a row of so many lines, field by field
module _ (line : ℕ → Line) (steps : ℕ) where
  abbrev windows : List Window
  windows = windows_of (λ j. (line j).mark) steps

  abbrev row_with : ℕ → List Step → List Window → Row
  row_with count step window =
      record {
        identifier = record { 0 = or_zero most32 (line 0).identifier };
        box_number = record { 0 = or_zero most32 (line 0).box_number };
        phase = min (line 0).phase most32;
        deadline = or_zero most32 (line 0).deadline;
        steps = steps;
        windows = count;
        class = 0;
        head = only_head;
        step = step;
        window = window;
      }

  pub narrow_row-is : row_with (length (map narrow_window windows))
      (filled (λ j. kept_step (line j)) steps most_steps no_step)
      (window_places (map narrow_window windows))
      ≡ narrow_row (row_of line steps)
  unfolding narrow_row row_of
  narrow_row-is =
      ap₂ (λ count step. row_with count step (window_places (map narrow_window windows)))
      (length-map windows narrow_window)
      (sym (map-filled narrow_step (λ j. record { cost = (line j).cost; wait = (line j).wait }) steps
      most_steps no_step))
      ∙ ap (row_with (length windows) _) (sym (map-windows windows))

-- a row as it is kept: one of at most eight lines, and one of more
module _ (line : ℕ → Line) (steps : ℕ) where
  pub kept_row-short : steps ≤ most_steps → kept_row line steps ≡ narrow_row (row_of line steps)
  unfolding kept_row
  kept_row-short h = rw (le-leb steps most_steps h)

  pub kept_row-long : most_steps < steps → kept_row line steps ≡ zero_row
  unfolding kept_row
  kept_row-long h = rw (lt-leb steps most_steps h)
