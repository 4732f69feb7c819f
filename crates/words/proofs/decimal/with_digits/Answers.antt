-- `words::decimal::with_digits` writes one digit a turn, from the last to the first: the digits that are left, written
-- over the bytes so far, are the digits asked for.
use Prim.Native.Nat.{◌+◌}
use mathlib.Core.Path.{ap, ap₂}
use native.Mathlib.Omega.{arith}
use borrow.Author.Rules.{rules}
use lib.ListN.{length-set}
use Rattle.words.proofs.DecimalLaws.{decimal-length-most, all-left, next-left, none-left}
use Rattle.words.proofs.decimal.with_digits.Goals as goal

pub overflow_add-length : goal.overflow_add-length
overflow_add-length c =
    let few = decimal-length-most c.args.number in
    omega arith

pub loop-place-init : goal.loop-place-init
loop-place-init c =
    let start = c.args in
    let length-is = c.digit_count.ensures in (
      search rules,
      search rules,
      all-left start.bytes start.at (start.at + c.digit_count.result) start.number (omega arith),
    )

pub bounds-written-place : goal.bounds-written-place
bounds-written-place c =
    let few = decimal-length-most c.args.number in
    omega arith

pub loop-place-preserved : goal.loop-place-preserved
loop-place-preserved c =
    let turn = c.loop-place in (
      omega arith,
      simp length-set turn.invariant.1,
      next-left c.args.bytes turn.written c.args.at turn.place c.args.number turn.rest turn.invariant.2
          c.loop-place-test.true,
    )

pub returns : goal.returns
returns c =
    let turn = c.loop-place in
    let start = c.args in
    ap₂ (λ n bs. record { length = n; bytes = bs }) (ap (λ n. start.at + n) c.digit_count.ensures)
    (none-left start.bytes turn.written start.at turn.place start.number turn.rest turn.invariant.2
    c.loop-place-test.false)
