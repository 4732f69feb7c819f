-- `larger` gives the new W where it is larger, and else the one found before.
use borrow.Author.Tests.{lt-ltb, le-ltb}
use Rattle.bound.proofs.waits.larger.Goals as goal

pub returns-then-most-left : goal.returns-then-most-left
returns-then-most-left c = rw (lt-ltb _ _ c.if-most-left.true)

pub returns-else-most-left : goal.returns-else-most-left
returns-else-most-left c = rw (le-ltb _ _ c.if-most-left.false)
