-- `lines::Text::put_verdict` puts one of two words.
use Rattle.words.specs.Decimal.{text}
use Rattle.lines.proofs.Text.put_verdict.Goals as goal

pub returns-then-verdict : goal.returns-then-verdict
unfolding text
returns-then-verdict c = rw c.if-verdict.true c.put.ensures

pub returns-else-verdict : goal.returns-else-verdict
unfolding text
returns-else-verdict c = rw c.if-verdict.false c.put-else-verdict.ensures
