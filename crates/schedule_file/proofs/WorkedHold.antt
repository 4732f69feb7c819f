-- The worked cases of the schedule file hold: each is decided by computing.
use mathlib.Core.Path.{refl}
use Rattle.counting.specs.Lists.{join_in}
use Rattle.words.specs.LittleEndian.{little_endian}
use Rattle.schedule_file.specs.ScheduleFile.{schedule_bytes}
use Rattle.schedule_file.specs.WorkedCases.{WorkedCases}

pub worked-hold : WorkedCases
unfolding join_in little_endian schedule_bytes
worked-hold =
    record {
      head = refl;
      head-long = refl;
      slot = refl;
      room-short = refl;
      room-exact = refl;
      room_most = refl;
      room-never = λ room. refl;
      none = refl;
      one = refl;
      two = refl;
      most = refl;
      one_more = refl;
      most-fit = record { finding-is = refl; output-is = refl };
      three-first = record { finding-is = refl; output-is = refl };
      three-leaves = record { finding-is = refl; output-is = refl };
      short = record { finding-is = refl; output-is = refl };
      exact = record { finding-is = refl; output-is = refl };
      longer = record { finding-is = refl; output-is = refl };
      front = refl;
    }
