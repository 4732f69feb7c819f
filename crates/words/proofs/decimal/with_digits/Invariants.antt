-- `words::decimal::with_digits` writes one digit a turn, from the last to the first: the digits that are left, written
-- over the bytes so far, are the digits asked for.
use Prim.Native.Nat.{◌^◌, ◌<◌}
use mathlib.Core.Path.{◌≡◌}
use lib.ListN.{length}
use Rattle.words.proofs.DecimalLaws.{AreLeft}
use Rattle.words.proofs.decimal.with_digits.Given as goal

abbrev pub invariant-loop-place : goal.invariant-loop-place
invariant-loop-place l =
    (l.rest < 2 ^ 32) × (length l.written ≡ 11) × AreLeft l.initial.written l.written l.at l.place l.number l.rest
