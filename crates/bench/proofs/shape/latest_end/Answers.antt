-- `latest_end` gives the clock once a step is finished.
use borrow.Author.Tests.{eq-eqb, ne_eqb}
use Rattle.bench.proofs.shape.latest_end.Goals as goal

pub returns-then-finished-eq0 : goal.returns-then-finished-eq0
returns-then-finished-eq0 c = rw (eq-eqb _ _ c.if-finished-eq0.true)

pub returns-else-finished-eq0 : goal.returns-else-finished-eq0
returns-else-finished-eq0 c = rw (ne_eqb _ _ c.if-finished-eq0.false)
