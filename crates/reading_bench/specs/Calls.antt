-- "It lends a load file's bytes and gets the bound, margins, verdict or schedule file": what each
-- call for C gives, over the bytes it is lent. Rests on D47.
use Rattle.std.specs.Prelude.{ℕ, List, [], ◌∷◌, ◌≡◌}
use Rattle.counting.specs.Sums.{bit}
use Rattle.words.specs.LittleEndian.{little_endian}
use Rattle.refusals.specs.Checked.{Checked}
use Rattle.refusals.specs.Refusals.{number_given}
use Rattle.refusals.specs.Given.{Given}
use Rattle.load.specs.View.{View, view_of}
use Rattle.load_file.specs.Places.{load_in}
use Rattle.load_file.specs.Reading.{file_for_bench}
use Rattle.rules.specs.Bound.{bound}
use Rattle.rules.specs.Margins.{margin_bytes, verdict}
use Rattle.rules.specs.Run.{schedule}
use Rattle.schedule_file.specs.ScheduleFile.{schedule_bytes}

-- the number r of what a writing call finds, and what its output holds afterwards
pub record Numbered (finding : Checked) (answer out : List ℕ) (r : ℕ) (after : List ℕ)
    : Type 0 where
  pub found : Checked
  pub given : Given finding answer out found after
  pub number_is : r ≡ number_given found

-- what the file is refused for, 1 to 8 or 21, then 9, and the output as it was; or 0, and the
-- answer for the load that the bytes spell at the output's front
abbrev pub ForC : (View → List ℕ) → List ℕ → List ℕ → ℕ → List ℕ → Type 0
ForC answer bs out r after =
    Numbered (file_for_bench bs) (answer (view_of (load_in bs))) out r after

-- the bound: 4 bytes, little-endian
abbrev pub bound_bytes : View → List ℕ
bound_bytes L = little_endian 4 (bound L)

-- the verdict: 1 byte, 1 for yes and 0 for no
abbrev pub verdict_bytes : View → List ℕ
verdict_bytes L = bit (verdict L) ∷ []

-- the schedule file of the starts from fresh to Done
abbrev pub schedule_file : View → List ℕ
schedule_file L = schedule_bytes (schedule L)

-- bench_bound(load, out): the bound
abbrev pub BenchBound : List ℕ → List ℕ → ℕ → List ℕ → Type 0
BenchBound = ForC bound_bytes

-- bench_verdict(load, out): the verdict
abbrev pub BenchVerdict : List ℕ → List ℕ → ℕ → List ℕ → Type 0
BenchVerdict = ForC verdict_bytes

-- bench_margins(load, out): all margins, 96 bytes
abbrev pub BenchMargins : List ℕ → List ℕ → ℕ → List ℕ → Type 0
BenchMargins = ForC margin_bytes

-- bench_schedule(load, out): the schedule file of the run
abbrev pub BenchSchedule : List ℕ → List ℕ → ℕ → List ℕ → Type 0
BenchSchedule = ForC schedule_file
