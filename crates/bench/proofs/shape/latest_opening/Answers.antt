-- `latest_opening` gives the end while the window's last step is to come.
use borrow.Author.Tests.{lt-ltb, le-ltb}
use Rattle.bench.proofs.shape.latest_opening.Goals as goal

pub returns-then-finished-last : goal.returns-then-finished-last
returns-then-finished-last c = rw (lt-ltb _ _ c.if-finished-last.true)

pub returns-else-finished-last : goal.returns-else-finished-last
returns-else-finished-last c = rw (le-ltb _ _ c.if-finished-last.false)
