-- `words::decimal::digit_count` asks std for the power of ten; 0 has none, and one digit.
use Prim.Native.Nat.{ℕ, ◌+◌, ◌*◌, ◌^◌, ◌≤◌, ◌<◌}
use mathlib.Core.Path.{◌≡◌, ap, ◌∙◌}
use native.Mathlib.Omega.{arith}
use lib.ListN.{length}
use Rattle.std.specs.Prelude.{Option, Some, None, IfSome, IfNone, unwrap_or}
use Rattle.words.specs.Decimal.{decimal}
use Rattle.words.proofs.DecimalLaws.{decimal-small, decimal-length-is}
use Rattle.words.proofs.decimal.digit_count.Goals as goal

counted : (n : ℕ) (power : Option ℕ) → n < 10 ^ 10 → IfNone power (n ≡ 0)
    → IfSome power (λ k. 10 ^ k ≤ n) → IfSome power (λ k. n < 10 * 10 ^ k)
    → unwrap_or power 0 + 1 ≡ length (decimal n)
counted n None l none from below = omega (arith, ap length (decimal-small n (omega arith)))
counted n (Some k) l none from below = omega (arith, decimal-length-is k n from below l)

pub returns : goal.returns
returns c =
    let asked = c.checked_ilog10 in
    ap (λ n. n + 1) c.unwrap_or.ensures
    ∙ counted c.args.number asked.result (omega arith) asked.ensures.none asked.ensures.power_le
    asked.ensures.next_power_gt
