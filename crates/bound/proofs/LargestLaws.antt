-- The largest of some numbers with its place: one number more takes its place only where it is larger.
use Prim.Native.Nat.{ℕ, ◌+◌, ◌<◌}
use mathlib.Core.Bool.{cond}
use mathlib.Core.Path.{◌≡◌, ap₂, sym, ◌∙◌}
use native.Mathlib.Decide.{dec_lt}
use native.Mathlib.Omega.{arith}
use borrow.Author.Tests.{lt-ltb, le-ltb}
use lib.Dec.{ltb}
use Rattle.counting.specs.Sums.{max_to}
use Rattle.counting.proofs.sums.SumLaws.{max_to-next, max_to-ext}
use Rattle.counting.proofs.sums.MaxLaws.{max_to-none}
use Rattle.counting.proofs.searches.LargestLaws.{first_largest-none, first_largest-next, first_largest-ext}
use Rattle.rules.specs.declared.LargestW.{LargestW}
use Rattle.rules.specs.Blame.{none_left}
use Rattle.bound.specs.inner.Marks.{largest_to}

-- one W and its row
abbrev both : ℕ → ℕ → LargestW
both left row = record { left = left; row = row }

pub largest_to-none : (f : ℕ → ℕ) (n : ℕ) → ((i : ℕ) → i < n → f i ≡ 0) → none_left ≡ largest_to f n
largest_to-none f n h =
    let e = max_to-none f n h in ap₂ both (sym e) (sym (first_largest-none f n e))

pub largest_to-zero : (f : ℕ → ℕ) → none_left ≡ largest_to f 0
largest_to-zero f = largest_to-none f 0 (λ i l. absurd (omega arith))

pub largest_to-ext : (f g : ℕ → ℕ) (n : ℕ) → ((i : ℕ) → i < n → f i ≡ g i) → largest_to f n ≡ largest_to g n
largest_to-ext f g n h = ap₂ both (max_to-ext f g n h) (first_largest-ext f g n h)

largest_to-next : (f : ℕ → ℕ) (n : ℕ)
    → cond (ltb (max_to f n) (f n)) (both (f n) (n + 1)) (largest_to f n) ≡ largest_to f (n + 1)
largest_to-next f n =
    elim (dec_lt (max_to f n) (f n)) [
      | yes l ↦
          rw (lt-ltb (max_to f n) (f n) l)
          (ap₂ both (omega (arith, max_to-next f n))
          (sym (first_largest-next f n ∙ rw (lt-ltb (max_to f n) (f n) l))))
      | no l ↦
          rw (le-ltb (max_to f n) (f n) (omega arith))
          (ap₂ both (omega (arith, max_to-next f n))
          (sym (first_largest-next f n ∙ rw (le-ltb (max_to f n) (f n) (omega arith)))))
    ]

-- a turn of a loop that keeps the largest so far: with one number more, and with one that is 0
module _ (f : ℕ → ℕ) (n : ℕ) (most : LargestW) (held : most ≡ largest_to f n) where
  pub largest_to-turn : (left : ℕ) (r : LargestW) → left ≡ f n
      → r ≡ cond (ltb most.left left) (both left (n + 1)) most → r ≡ largest_to f (n + 1)
  largest_to-turn left r e kept =
      kept
      ∙ ap₂ (λ (m : LargestW) v. cond (ltb m.left v) (both v (n + 1)) m) held e
      ∙ largest_to-next f n

  pub largest_to-skips : f n ≡ 0 → most ≡ largest_to f (n + 1)
  largest_to-skips e = held ∙ sym (rw (le-ltb (max_to f n) (f n) (omega arith))) ∙ largest_to-next f n
