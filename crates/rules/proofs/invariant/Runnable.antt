-- What the proof of demand 3 needs of a load, in one record: its ranges, and of its windows what the bench sees of them
-- once so many steps of a row are finished. An acceptable load has all of it.
use Prim.Native.Nat.{ℕ, suc, ◌+◌, ◌≤◌, ◌<◌}
use mathlib.Core.Bool.{true, false}
use mathlib.Core.Path.{◌≡◌}
use lib.ListN.{length}
use Rattle.load.specs.Load.{most_rows, most_steps, latest_phase, largest_cost, largest_wait}
use Rattle.load.specs.View.{View, embedded, open_at}
use Rattle.load.specs.Acceptable.{window_of}
use Rattle.load.proofs.WindowLeft.{limit_at, left_at}

pub record Runnable (L : View) : Type 0 where
  -- ranges
  pub rows-most : L.rows ≤ most_rows
  pub phase-most : (i : ℕ) → i < L.rows → L.phase i ≤ latest_phase
  pub steps-least : (i : ℕ) → i < L.rows → 1 ≤ L.steps i
  pub steps-most : (i : ℕ) → i < L.rows → L.steps i ≤ most_steps
  pub cost-least : (i j : ℕ) → i < L.rows → j < L.steps i → 1 ≤ L.cost i j
  pub cost-most : (i j : ℕ) → i < L.rows → j < L.steps i → L.cost i j ≤ largest_cost
  pub wait-most : (i j : ℕ) → i < L.rows → j < L.steps i → L.wait i j ≤ largest_wait
  -- a row's first step is free, and an embedded step is a step
  pub first-free : (i : ℕ) → i < L.rows → embedded L i 0 ≡ false
  pub embedded-in : (i j : ℕ) → i < L.rows → embedded L i j ≡ true → j < L.steps i
  -- neighbouring embedded steps stand in one window
  pub one-limit : (i j : ℕ) → i < L.rows → embedded L i j ≡ true → embedded L i (suc j) ≡ true
      → limit_at L i (suc j) ≡ limit_at L i j
  -- what is left of a window, by one step
  pub left-more : (i j : ℕ) → i < L.rows → embedded L i j ≡ true → embedded L i (suc j) ≡ true
      → left_at L i j ≡ L.cost i j + (L.wait i j + left_at L i (suc j))
  pub left-last : (i j : ℕ) → i < L.rows → embedded L i j ≡ true → embedded L i (suc j) ≡ false
      → left_at L i j ≡ L.cost i j
  -- the limit is at least the chain, from the window's first step on
  pub chain_fits : (i j : ℕ) → i < L.rows → embedded L i j ≡ false → embedded L i (suc j) ≡ true
      → L.cost i j + (L.wait i j + left_at L i (suc j)) ≤ limit_at L i (suc j)
  -- a window has two steps or more, all of them the row's, the first of them free, and is the open one in between
  pub first-least : (i p : ℕ) → i < L.rows → p < length (L.windows i) → 1 ≤ (window_of L i p).first
  pub first-last : (i p : ℕ) → i < L.rows → p < length (L.windows i)
      → (window_of L i p).first < (window_of L i p).last
  pub last-most : (i p : ℕ) → i < L.rows → p < length (L.windows i) → (window_of L i p).last ≤ L.steps i
  pub window-first : (i p f : ℕ) → i < L.rows → p < length (L.windows i) → (window_of L i p).first ≡ suc f
      → embedded L i f ≡ false
  pub open-window : (i p f : ℕ) → i < L.rows → p < length (L.windows i) → (window_of L i p).first ≤ f
      → f < (window_of L i p).last → open_at L i f ≡ window_of L i p
