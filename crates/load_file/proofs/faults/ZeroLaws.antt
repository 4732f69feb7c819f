-- Unused places: a part that passes the test of zeros is the zero part, and the zero part passes it.
use Prim.Native.Nat.{ℕ, ◌≤◌, ◌<◌}
use mathlib.Core.Bool.{Bool, true, ◌&&◌}
use mathlib.Core.Path.{◌≡◌, refl, ap, sym}
use native.Mathlib.Omega.{arith}
use lib.Dec.{eqb}
use lib.ListN.{replicate, get_or-replicate}
use borrow.Author.Tests.{eqb-true}
use Rattle.counting.specs.Sums.{all_to}
use Rattle.counting.specs.Lists.{join_to}
use Rattle.counting.proofs.tests.TestLaws.{and_left, and_right}
use Rattle.counting.proofs.tests.TestLaws.{all_from-true, true-all_from}
use Rattle.counting.proofs.lists.PieceLaws.{filled_is}
use Rattle.load.specs.declared.Step.{Step}
use Rattle.load.specs.declared.Window.{Window}
use Rattle.load.specs.declared.Row.{Row}
use Rattle.load.specs.Load.{most_steps, most_windows, no_step, no_window, zero_row, step_at, window_at}
use Rattle.load.specs.Check.{
  is_zero_step,
  is_zero_window,
  zero_fields,
  zero_steps_from,
  zero_windows_from,
  is_zero_row,
}
use Rattle.load_file.specs.RoundTrip.{HeldStep, HeldWindow, HeldRow}

-- the last of several fields that are all zero
last-zero : (front : Bool) (n : ℕ) → (front && eqb n 0) ≡ true → n ≡ 0
last-zero front n h = eqb-true n 0 (and_right front (eqb n 0) h)

zero-step : (s : Step) → is_zero_step s ≡ true → s ≡ no_step
zero-step s h =
    let c = eqb-true s.cost 0 (and_left (eqb s.cost 0) (eqb s.wait 0) h) in
    let w = last-zero (eqb s.cost 0) s.wait h in
    λ i. record { cost = c i; wait = w i }

zero-window : (w : Window) → is_zero_window w ≡ true → w ≡ no_window
zero-window w h =
    let front = and_left (eqb w.first 0 && eqb w.last 0) (eqb w.limit 0) h in
    let f = eqb-true w.first 0 (and_left (eqb w.first 0) (eqb w.last 0) front) in
    let l = last-zero (eqb w.first 0) w.last front in
    let m = last-zero (eqb w.first 0 && eqb w.last 0) w.limit h in
    λ i. record { first = f i; last = l i; limit = m i }

-- the steps and the windows of a row from a place on
module _ (row : Row) (a : ℕ) where
  pub steps-unused : zero_steps_from row a ≡ true → (j : ℕ) → a ≤ j → j < most_steps → step_at row j ≡ no_step
  steps-unused h j from l =
      zero-step (step_at row j) (all_from-true (λ j. is_zero_step (step_at row j)) a most_steps h j from l)

  pub unused-steps : ((j : ℕ) → a ≤ j → j < most_steps → step_at row j ≡ no_step) → zero_steps_from row a ≡ true
  unused-steps h =
      true-all_from (λ j. is_zero_step (step_at row j)) a most_steps (λ j from l. ap is_zero_step (h j from l))

  pub windows-unused : zero_windows_from row a ≡ true → (k : ℕ) → a ≤ k → k < most_windows → window_at row k ≡ no_window
  windows-unused h k from l =
      zero-window (window_at row k) (all_from-true (λ k. is_zero_window (window_at row k)) a most_windows h k from l)

  pub unused-windows : ((k : ℕ) → a ≤ k → k < most_windows → window_at row k ≡ no_window)
      → zero_windows_from row a ≡ true
  unused-windows h =
      true-all_from (λ k. is_zero_window (window_at row k)) a most_windows (λ k from l. ap is_zero_window (h k from l))

pub no_step-held : HeldStep no_step
no_step-held = record { cost-fits = omega arith; wait-fits = omega arith }

pub no_window-held : HeldWindow no_window
no_window-held = record { first_fits = omega arith; last_fits = omega arith; limit-fits = omega arith }

-- the row that an unused place holds
pub zero_row-zero : is_zero_row zero_row ≡ true
unfolding zero_row all_to
zero_row-zero = refl

pub zero_row-held : HeldRow zero_row
unfolding zero_row
zero_row-held =
    record {
      identifier-fits = omega arith;
      box-fits = omega arith;
      phase-fits = omega arith;
      deadline-fits = omega arith;
      steps-fit = omega arith;
      windows-fit = omega arith;
      class-fits = omega arith;
      head-fits = omega arith;
      step-places = refl;
      window-places = refl;
      each_step = λ j l. rw (get_or-replicate most_steps j no_step no_step l) no_step-held;
      each-window = λ k l. rw (get_or-replicate most_windows k no_window no_window l) no_window-held;
    }

-- the fields of a row beside its steps and windows
record FieldsZero (row : Row) : Type 0 where
  identifier-zero : row.identifier.0 ≡ 0
  box-zero : row.box_number.0 ≡ 0
  phase-zero : row.phase ≡ 0
  deadline-zero : row.deadline ≡ 0
  steps-zero : row.steps ≡ 0
  windows-zero : row.windows ≡ 0
  class-zero : row.class ≡ 0
  head-zero : row.head ≡ 0

fields-zero : (row : Row) → zero_fields row ≡ true → FieldsZero row
fields-zero row h₈ =
    let t₁ : Bool = eqb row.identifier.0 0 in
    let t₂ : Bool = t₁ && eqb row.box_number.0 0 in
    let t₃ : Bool = t₂ && eqb row.phase 0 in
    let t₄ : Bool = t₃ && eqb row.deadline 0 in
    let t₅ : Bool = t₄ && eqb row.steps 0 in
    let t₆ : Bool = t₅ && eqb row.windows 0 in
    let t₇ : Bool = t₆ && eqb row.class 0 in
    let h₇ : t₇ ≡ true = and_left t₇ (eqb row.head 0) h₈ in
    let h₆ : t₆ ≡ true = and_left t₆ (eqb row.class 0) h₇ in
    let h₅ : t₅ ≡ true = and_left t₅ (eqb row.windows 0) h₆ in
    let h₄ : t₄ ≡ true = and_left t₄ (eqb row.steps 0) h₅ in
    let h₃ : t₃ ≡ true = and_left t₃ (eqb row.deadline 0) h₄ in
    let h₂ : t₂ ≡ true = and_left t₂ (eqb row.phase 0) h₃ in
    record {
      identifier-zero = eqb-true row.identifier.0 0 (and_left t₁ (eqb row.box_number.0 0) h₂);
      box-zero = last-zero t₁ row.box_number.0 h₂;
      phase-zero = last-zero t₂ row.phase h₃;
      deadline-zero = last-zero t₃ row.deadline h₄;
      steps-zero = last-zero t₄ row.steps h₅;
      windows-zero = last-zero t₅ row.windows h₆;
      class-zero = last-zero t₆ row.class h₇;
      head-zero = last-zero t₇ row.head h₈;
    }

-- a row of zeros, held in memory, is that row
pub zero_row-is : (row : Row) → HeldRow row → is_zero_row row ≡ true → row ≡ zero_row
unfolding zero_row join_to
zero_row-is row held h =
    let front = and_left (zero_fields row && zero_steps_from row 0) (zero_windows_from row 0) h in
    let z = fields-zero row (and_left (zero_fields row) (zero_steps_from row 0) front) in
    let steps = steps-unused row 0 (and_right (zero_fields row) (zero_steps_from row 0) front) in
    let windows =
    windows-unused row 0 (and_right (zero_fields row && zero_steps_from row 0) (zero_windows_from row 0) h) in
    let s : row.step ≡ replicate most_steps no_step =
    sym
    (filled_is (step_at row) 0 most_steps no_step no_step row.step (omega arith) held.step-places (λ j l. refl) steps)
    in
    let w : row.window ≡ replicate most_windows no_window =
    sym
    (filled_is (window_at row) 0 most_windows no_window no_window row.window (omega arith) held.window-places
    (λ k l. refl) windows) in
    λ i.
    record {
      identifier = record { 0 = z.identifier-zero i };
      box_number = record { 0 = z.box-zero i };
      phase = z.phase-zero i;
      deadline = z.deadline-zero i;
      steps = z.steps-zero i;
      windows = z.windows-zero i;
      class = z.class-zero i;
      head = z.head-zero i;
      step = s i;
      window = w i;
    }
