-- `words::plain::spelled` takes one digit a turn, as the definition does: what the first of them spell stays below
-- 10 ^ 9 while another is to come.
use Prim.Native.Nat.{◌+◌, ◌-◌, ◌*◌, ◌^◌, ◌<◌}
use mathlib.Core.Path.{◌≡◌, refl, ap, ap₂, sym, ◌∙◌}
use native.Mathlib.Nat.{pow-le-pow_right, zero-add}
use native.Mathlib.Omega.{arith}
use lib.ListN.{get_or}
use Rattle.words.specs.LittleEndian.{byte_at}
use Rattle.words.specs.PlainDecimal.{value_at}
use Rattle.words.proofs.DigitLaws.{value_at-lt, value_at-next}
use Rattle.words.proofs.plain.spelled.Goals as goal
use Rattle.words.proofs.plain.spelled.Goals.{In-loop-digit}

pub loop-digit-init : goal.loop-digit-init
unfolding value_at
loop-digit-init c = refl

so_far : (c : In-loop-digit) → c.loop-digit.value < 10 ^ 9
so_far c =
    let turn = c.loop-digit in
    let below = value_at-lt c.args.digits.now 0 turn.digit-index
    (λ d l. rw zero-add (c.requires.are d (omega arith))) in
    omega (arith, below, pow-le-pow_right {n = 10} (omega arith) {i = turn.digit-index} {j = 9} (omega arith))

pub overflow_mul-value : goal.overflow_mul-value
overflow_mul-value c = omega (arith, so_far c)

pub overflow_add-value : goal.overflow_add-value
overflow_add-value c =
    let here = (goal.at.overflow_add-value c).In-loop-digit in
    omega (arith, so_far here)

pub loop-digit-preserved : goal.loop-digit-preserved
loop-digit-preserved c =
    let turn = c.loop-digit in
    let digits = c.args.digits.now in
    let here : get_or digits turn.digit-index 0 ≡ byte_at digits (0 + turn.digit-index) = rw zero-add in
    ap₂ (λ v d. 10 * v + d) turn.invariant (c.from.ensures ∙ ap (λ b. b - 48) here)
    ∙ sym (value_at-next digits 0 turn.digit-index)
