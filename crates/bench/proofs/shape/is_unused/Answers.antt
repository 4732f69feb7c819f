-- `is_unused` asks the row's three numbers in turn.
use borrow.Author.Tests.{eq-eqb, ne_eqb}
use Rattle.bench.proofs.shape.is_unused.Goals as goal

pub returns-then-finished-ne0 : goal.returns-then-finished-ne0
returns-then-finished-ne0 c = rw (ne_eqb _ _ c.if-finished-ne0.true)

pub returns-then-end-ne0 : goal.returns-then-end-ne0
returns-then-end-ne0 c = rw (eq-eqb _ _ c.if-finished-ne0.false, ne_eqb _ _ c.if-end-ne0.true)

pub returns : goal.returns
returns c = rw (eq-eqb _ _ c.if-finished-ne0.false, eq-eqb _ _ c.if-end-ne0.false)
