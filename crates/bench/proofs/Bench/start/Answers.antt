-- `Bench::start` puts the end of the step, one more step finished and the opening in the row's places.
use Rattle.bench.proofs.Bench.start.Goals as goal

pub returns : goal.returns
returns c = rw c.end_of-end.ensures
