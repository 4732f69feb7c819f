-- `cost_below` keeps a cost that is below t.
use native.Mathlib.Omega.{arith}
use borrow.Author.Tests.{lt-ltb, le-ltb}
use Rattle.bound.proofs.smallest.cost_below.Goals as goal

pub returns-then-cost-t : goal.returns-then-cost-t
returns-then-cost-t c = (rw (lt-ltb _ _ c.if-cost-t.true), omega arith)

pub returns-else-cost-t : goal.returns-else-cost-t
returns-else-cost-t c = (rw (le-ltb _ _ c.if-cost-t.false), omega arith)
