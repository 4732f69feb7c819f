-- Laws of a chain, the costs and the waits between them from place a on and below place b: one step, a step at the
-- front, no step, and equal chains from equal costs and waits.
use Prim.Native.Nat.{ℕ, suc, ◌+◌, ◌-◌, ◌≤◌, ◌<◌}
use mathlib.Core.Path.{◌≡◌, ap₂}
use native.Mathlib.Omega.{arith}
use Rattle.counting.proofs.sums.SumLaws.{sum_from-none, sum_from-front, sum_from-ext}
use Rattle.load.specs.View.{chain}

module _ (cost wait : ℕ → ℕ) where
  pub chain-one : (a : ℕ) → chain cost wait a (suc a) ≡ cost a
  unfolding chain
  chain-one a =
      omega (
        arith,
        sum_from-front cost a (suc a) (omega arith),
        sum_from-none cost (suc a) (suc a) (omega arith),
        sum_from-none wait a (suc a - 1) (omega arith),
      )

  pub chain-front : (a b : ℕ) → suc a < b → chain cost wait a b ≡ cost a + wait a + chain cost wait (suc a) b
  unfolding chain
  chain-front a b h =
      omega (arith, sum_from-front cost a b (omega arith), sum_from-front wait a (b - 1) (omega arith))

pub chain-ext : (c d w v : ℕ → ℕ) (a b : ℕ) → ((j : ℕ) → a ≤ j → j < b → c j ≡ d j)
    → ((j : ℕ) → a ≤ j → suc j < b → w j ≡ v j) → chain c w a b ≡ chain d v a b
unfolding chain
chain-ext c d w v a b costs waits =
    ap₂ ◌+◌ (sum_from-ext c d a b costs) (sum_from-ext w v a (b - 1) (λ j from l. waits j from (omega arith)))

pub chain-none : (cost wait : ℕ → ℕ) (a b : ℕ) → b ≤ a → chain cost wait a b ≡ 0
unfolding chain
chain-none cost wait a b h =
    omega (arith, sum_from-none cost a b h, sum_from-none wait a (b - 1) (omega arith))
