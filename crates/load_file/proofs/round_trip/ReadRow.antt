-- Reading then writing, of a row: an accepted row is held as its types say, passes the check, since the reading made
-- the same tests and unused places are zero, and its records stand where they are read.
use Prim.Native.Nat.{ℕ, ◌+◌, ◌≤◌, ◌<◌}
use mathlib.Core.Bool.{Bool, true, false, cond}
use mathlib.Core.List.{List}
use mathlib.Core.Path.{◌≡◌, refl}
use native.Mathlib.Decide.{dec_lt}
use native.Mathlib.Omega.{arith}
use Rattle.counting.proofs.lists.ListLaws.{filled-length, get_or-filled, get_or-unfilled}
use Rattle.counting.proofs.lists.PieceLaws.{Stands}
use Rattle.words.specs.LittleEndian.{Bytes}
use Rattle.words.proofs.LittleEndianLaws.{number_at-lt}
use Rattle.load.specs.Load.{most_steps, most_windows, only_head, no_step, no_window, step_at, window_at}
use Rattle.load.proofs.CheckLaws.{RowGood, fields-steps-le, fields-windows-le}
use Rattle.load_records.specs.Records.{carries}
use Rattle.load_records.specs.Writing.{row_bytes}
use Rattle.load_file.specs.Places.{
  version_said,
  step_in,
  window_in,
  steps_said,
  windows_said,
  step_place,
  window_place,
  row_from,
  load_in,
  row_with,
}
use Rattle.load_file.specs.RoundTrip.{HeldStep, HeldWindow, HeldRow}
use Rattle.load_file.proofs.layout.FieldLaws.{
  step-stands,
  window-stands,
  RowRead,
  row-stands,
}
use Rattle.load_file.proofs.layout.PlaceLaws.{parts-row}
use Rattle.load_file.proofs.faults.ZeroLaws.{
  unused-steps,
  unused-windows,
  no_step-held,
  no_window-held,
}
use Rattle.load_file.proofs.faults.FaultLaws.{RowAccepted}

-- what stands in the row that is read at a place
module _ (bs : List ℕ) (at : ℕ) where
  pub read-fields : RowRead bs at (row_from bs at)
  unfolding row_from row_with
  read-fields =
      record {
        identifier-read = refl;
        box_read = refl;
        phase-read = refl;
        deadline-read = refl;
        steps-read = refl;
        windows-read = refl;
        class-read = refl;
        head_read = refl;
      }

  -- of a version that carries no class and no head
  pub class-none : carries (version_said bs) ≡ false → (row_from bs at).class ≡ 0
  unfolding row_from row_with
  class-none e = rw e

  pub head-none : carries (version_said bs) ≡ false → (row_from bs at).head ≡ only_head
  unfolding row_from row_with
  head-none e = rw e

  step-unused : (j : ℕ) → steps_said bs at ≤ j → j < most_steps → step_at (row_from bs at) j ≡ no_step
  unfolding row_from row_with
  step-unused j from l =
      get_or-unfilled (λ j. step_in bs (step_place bs at j)) (steps_said bs at) most_steps j no_step no_step from l

  step-used : (j : ℕ) → j < steps_said bs at → step_at (row_from bs at) j ≡ step_in bs (step_place bs at j)
  unfolding row_from row_with
  step-used j l = get_or-filled (λ j. step_in bs (step_place bs at j)) (steps_said bs at) most_steps j no_step no_step l

  window-unused : (k : ℕ) → windows_said bs at ≤ k → k < most_windows → window_at (row_from bs at) k ≡ no_window
  unfolding row_from row_with
  window-unused k from l =
      get_or-unfilled (λ k. window_in bs (window_place bs at k)) (windows_said bs at) most_windows k no_window
      no_window from l

  window-used : (k : ℕ) → k < windows_said bs at → window_at (row_from bs at) k ≡ window_in bs (window_place bs at k)
  unfolding row_from row_with
  window-used k l =
      get_or-filled (λ k. window_in bs (window_place bs at k)) (windows_said bs at) most_windows k no_window no_window l

-- a row that the reading passes
module _ (bs : List ℕ) (b : Bytes bs) (i at : ℕ) (r : RowAccepted bs i at) where
  pub read-row-stands : Stands (row_bytes (version_said bs) (row_from bs at)) bs at
  unfolding row_from row_with
  read-row-stands =
      parts-row bs at (row_from bs at)
      (record {
        own = row-stands bs at b r.due (row_from bs at) (read-fields bs at);
        each_step = λ j l. rw (step-used bs at j l) (step-stands bs (step_place bs at j) b (r.each-step-due j l));
        each-window =
            λ k l. rw (window-used bs at k l) (window-stands bs (window_place bs at k) b (r.each-window-due k l));
      })

  pub read-row-good : RowGood (load_in bs) i (row_from bs at)
  unfolding row_from row_with
  read-row-good =
      record {
        fields-good = r.fields-good;
        taken-good = r.taken-good;
        each-step-good = r.each-step-good;
        steps-zero = unused-steps (row_from bs at) (steps_said bs at) (step-unused bs at);
        each-window-good = r.each-window-good;
        windows-zero = unused-windows (row_from bs at) (windows_said bs at) (window-unused bs at);
      }

  held-step : (j : ℕ) → j < most_steps → HeldStep (step_at (row_from bs at) j)
  held-step j l =
      elim (dec_lt j (steps_said bs at)) [
        | yes l ↦
            rw (step-used bs at j l)
            (record {
              cost-fits = number_at-lt 2 bs (step_place bs at j + 2) b;
              wait-fits = number_at-lt 2 bs (step_place bs at j + 4) b;
            })
        | no g ↦ rw (step-unused bs at j (omega arith) l) no_step-held
      ]

  held-window : (k : ℕ) → k < most_windows → HeldWindow (window_at (row_from bs at) k)
  held-window k l =
      elim (dec_lt k (windows_said bs at)) [
        | yes l ↦
            rw (window-used bs at k l)
            (record {
              first_fits = b (window_place bs at k + 2);
              last_fits = b (window_place bs at k + 3);
              limit-fits = number_at-lt 2 bs (window_place bs at k + 4) b;
            })
        | no g ↦ rw (window-unused bs at k (omega arith) l) no_window-held
      ]

  -- a byte where it is carried, and a small number where it is not
  carried-fits : (carried : Bool) {byte other : ℕ} → byte < 256 → other < 256 → cond carried byte other < 256
  carried-fits true l m = l
  carried-fits false l m = m

  pub read-row-held : HeldRow (row_from bs at)
  unfolding row_from row_with
  read-row-held =
      record {
        identifier-fits = number_at-lt 4 bs (at + 2) b;
        box-fits = number_at-lt 4 bs (at + 6) b;
        phase-fits = number_at-lt 4 bs (at + 10) b;
        deadline-fits = number_at-lt 4 bs (at + 14) b;
        steps-fit = b (at + 18);
        windows-fit = b (at + 19);
        class-fits = carried-fits (carries (version_said bs)) (b (at + 20)) (omega arith);
        head-fits = carried-fits (carries (version_said bs)) (b (at + 21)) (omega arith);
        step-places =
            filled-length (λ j. step_in bs (step_place bs at j)) (steps_said bs at) most_steps no_step
            (fields-steps-le (row_from bs at) r.fields-good);
        window-places =
            filled-length (λ k. window_in bs (window_place bs at k)) (windows_said bs at) most_windows no_window
            (fields-windows-le (row_from bs at) r.fields-good);
        each_step = held-step;
        each-window = held-window;
      }
