-- `most_wait` gives 0 after the last step.
use Rattle.load.proofs.faults.most_wait.Goals as goal

pub returns-then-is_last : goal.returns-then-is_last
returns-then-is_last c = rw c.if-is_last.true

pub returns-else-is_last : goal.returns-else-is_last
returns-else-is_last c = rw c.if-is_last.false
