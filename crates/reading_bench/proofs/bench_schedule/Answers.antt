-- `bench_schedule` gives the number of what writing the run finds.
use Rattle.reading_bench.proofs.bench_schedule.Goals as goal

pub returns : goal.returns
returns c =
    record { found = c.write_run.result; given = c.write_run.ensures; number_is = c.number_given.ensures }
