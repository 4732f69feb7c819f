-- `words::plain::spelled` takes one digit a turn, as the definition does: what the first of them spell stays below
-- 10 ^ 9 while another is to come.
use mathlib.Core.Path.{◌≡◌}
use Rattle.words.specs.PlainDecimal.{value_at}
use Rattle.words.proofs.plain.spelled.Given as goal

abbrev pub invariant-loop-digit : goal.invariant-loop-digit
invariant-loop-digit l = l.value ≡ value_at l.digits 0 l.digit-index
