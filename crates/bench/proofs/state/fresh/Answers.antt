-- `fresh` is the fresh state held in memory: every place of it is 0.
use borrow.Author.Rules.{rules}
use Rattle.counting.specs.Lists.{join_to}
use Rattle.rules.specs.State.{fresh}
use Rattle.bench.specs.Held.{bench_of}
use Rattle.bench.proofs.state.fresh.Goals as goal

pub returns : goal.returns
unfolding bench_of fresh join_to
returns c = search rules
