-- The windows that marks spell are well: each has two steps or more, ends inside the row, and begins behind the one
-- before. Said place by place, and as the chain on which inductions go.
use Prim.Native.Nat.{ℕ, zero, suc, ◌*◌, ◌≤◌, ◌<◌}
use mathlib.Core.List.{List, [], ◌∷◌}
use native.Mathlib.Omega.{arith}
use lib.ListN.{length, get_or}
use Rattle.load.specs.declared.Window.{Window}
use Rattle.load.specs.Load.{no_window}
use Rattle.sheet_line.specs.declared.Mark.{Mark}
use Rattle.sheet.specs.SheetRows.{windows_of}
use Rattle.sheet.specs.inner.Narrow.{Marked}
use Rattle.sheet.proofs.marks.WellLaws.{HeadWell, WellFrom, well-half}
use Rattle.sheet.proofs.marks.SpelledLaws.{windows_of-spells}

-- windows of a row with so many steps
pub record WindowsWell (ws : List Window) (steps : ℕ) : Type 0 where
  pub first-least : (k : ℕ) → k < length ws → 1 ≤ (get_or ws k no_window).first
  pub first-last : (k : ℕ) → k < length ws → (get_or ws k no_window).first < (get_or ws k no_window).last
  pub last-most : (k : ℕ) → k < length ws → (get_or ws k no_window).last ≤ steps
  pub ascending : (k : ℕ) → suc k < length ws → (get_or ws k no_window).last < (get_or ws (suc k) no_window).first
  pub half : 2 * length ws ≤ steps

module _ (steps : ℕ) where
  -- each window of a chain
  well-at : (a : ℕ) (ws : List Window) → WellFrom steps a ws → (k : ℕ) → k < length ws
      → HeadWell steps a (get_or ws k no_window)
  well-at a [] h k l = absurd (omega arith)
  well-at a (w ∷ ws) h zero l = h.0
  well-at a (w ∷ ws) h (suc k) l =
      let r = well-at w.last ws h.1 k (omega arith) in
      record {
        begins = omega (arith, h.0.begins, h.0.grows, r.begins);
        grows = r.grows;
        ends = r.ends;
      }

  -- and the one behind it
  well-ascends : (a : ℕ) (ws : List Window) → WellFrom steps a ws → (k : ℕ) → suc k < length ws
      → (get_or ws k no_window).last < (get_or ws (suc k) no_window).first
  well-ascends a [] h k l = absurd (omega arith)
  well-ascends a (w ∷ ws) h zero l = (well-at w.last ws h.1 0 (omega arith)).begins
  well-ascends a (w ∷ ws) h (suc k) l = well-ascends w.last ws h.1 k (omega arith)

  pub from-well : (ws : List Window) → WellFrom steps 0 ws → WindowsWell ws steps
  from-well ws h =
      record {
        first-least = λ k l. (well-at 0 ws h k l).begins;
        first-last = λ k l. (well-at 0 ws h k l).grows;
        last-most = λ k l. (well-at 0 ws h k l).ends;
        ascending = well-ascends 0 ws h;
        half = omega (arith, well-half steps 0 ws (omega arith) h);
      }

  -- a chain of windows that are well place by place
  pub chain-from : (a : ℕ) (ws : List Window)
      → (0 < length ws → a < (get_or ws 0 no_window).first)
      → ((k : ℕ) → k < length ws → (get_or ws k no_window).first < (get_or ws k no_window).last)
      → ((k : ℕ) → k < length ws → (get_or ws k no_window).last ≤ steps)
      → ((k : ℕ) → suc k < length ws → (get_or ws k no_window).last < (get_or ws (suc k) no_window).first)
      → WellFrom steps a ws
  chain-from a [] begins grows ends ascends = tt
  chain-from a (w ∷ ws) begins grows ends ascends = (
    record { begins = begins (omega arith); grows = grows 0 (omega arith); ends = ends 0 (omega arith) },
    chain-from w.last ws
        (λ l. ascends 0 (omega arith))
        (λ k l. grows (suc k) (omega arith))
        (λ k l. ends (suc k) (omega arith))
        (λ k l. ascends (suc k) (omega arith)),
  )

  pub well-from : (ws : List Window) → WindowsWell ws steps → WellFrom steps 0 ws
  well-from ws h = chain-from 0 ws (h.first-least 0) h.first-last h.last-most h.ascending

-- the windows that marks spell are well
pub windows_of-well : (mark : ℕ → Mark) (steps : ℕ) → Marked mark steps → WindowsWell (windows_of mark steps) steps
windows_of-well mark steps marked = from-well steps (windows_of mark steps) (windows_of-spells mark steps marked).well
