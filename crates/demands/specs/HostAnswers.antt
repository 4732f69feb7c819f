-- "It lends a load file's bytes and gets the bound, margins, verdict or schedule file": what C and
-- the programs get, over any results of the calls and of the reading. To be read after PublicCalls.
-- Rests on D47 and D49.
use Rattle.std.specs.Prelude.{ℕ, ◌+◌, ◌≤◌, List, [], ◌∷◌, ◌≡◌, length, take, Ok, Err, Result}
use Rattle.counting.specs.Sums.{bit}
use Rattle.words.specs.LittleEndian.{little_endian, Bytes}
use Rattle.refusals.specs.declared.Refusal.{Refusal}
use Rattle.refusals.specs.Refusals.{number_of}
use Rattle.refusals.specs.Given.{Given, found_in}
use Rattle.load.specs.declared.Load.{Load}
use Rattle.load.specs.View.{View, view_of}
use Rattle.load_records.specs.Records.{most_file_bytes}
use Rattle.load_file.specs.Calls.{ReadLoad}
use Rattle.rules.specs.Bound.{bound}
use Rattle.rules.specs.Margins.{margin_bytes, verdict}
use Rattle.rules.specs.Run.{schedule}
use Rattle.schedule_file.specs.ScheduleFile.{schedule_bytes}
use Rattle.reading_bench.specs.Calls.{
  Numbered,
  BenchBound,
  BenchVerdict,
  BenchMargins,
  BenchSchedule,
}
use Rattle.lines.specs.declared.Text.{Text}
use Rattle.lines.specs.Lines.{printed, printed_blamed}
use Rattle.lines.specs.Calls.{text_places, TextOf, BlamedTextOf, PrintLines, PrintBlames}

-- a call for C: of a file that is read as a load, it refuses nothing but the room, and gives that
-- load's answer
abbrev pub GivesAnswer : (List ℕ → List ℕ → ℕ → List ℕ → Type 0) → (View → List ℕ) → Type 0
GivesAnswer call answer =
    (bs : List ℕ) (load : Load) → ReadLoad bs (Ok load)
    → (out : List ℕ) (n : ℕ) (after : List ℕ) → call bs out n after
    → Numbered (Ok tt) (answer (view_of load)) out n after

-- of a file that is refused, it gives the number of the reading's refusal
abbrev pub Refuses : (List ℕ → List ℕ → ℕ → List ℕ → Type 0) → Type 0
Refuses call =
    (bs : List ℕ) (refusal : Refusal) → ReadLoad bs (Err refusal)
    → (out : List ℕ) (n : ℕ) (after : List ℕ) → call bs out n after → n ≡ number_of refusal

-- what a program gets: a text, or lines in an output, of what is printed
pub record Prints
    (printed_for : List ℕ → List ℕ)
    (text : List ℕ → Text → Type 0)
    (print : List ℕ → List ℕ → Result ℕ Refusal → List ℕ → Type 0)
    : Type 0
  where
    -- the text of any bytes is all that is printed for them, and its first places hold it
    pub texts : (bs : List ℕ) (r : Text) → text bs r → take r.length r.bytes ≡ printed_for bs
    -- it fits the text's places, whatever the bytes are
    pub texts-fit : (bs : List ℕ) → Bytes bs → length (printed_for bs) ≤ text_places
    -- which the first bytes decide: one more than the longest load file has
    pub fronts : (bs : List ℕ) (r : Text) → text (take (most_file_bytes + 1) bs) r → text bs r
    -- the lines stand in the output, and so many bytes of them are counted
    pub lines : (bs out : List ℕ) (r : Result ℕ Refusal) (after : List ℕ) → print bs out r after
        → Given (Ok tt) (printed_for bs) out (found_in r) after
    pub lines-counted : (bs out : List ℕ) (n : ℕ) (after : List ℕ) → print bs out (Ok n) after
        → n ≡ length (printed_for bs)

-- what the host gets
pub record HostAnswers : Type 0 where
  -- the bound, 4 bytes
  pub bounds : GivesAnswer BenchBound (λ L. little_endian 4 (bound L))
  -- the verdict, 1 byte: 1 for yes and 0 for no
  pub verdicts : GivesAnswer BenchVerdict (λ L. bit (verdict L) ∷ [])
  -- all margins, 96 bytes
  pub margins : GivesAnswer BenchMargins margin_bytes
  -- the schedule file of the starts from fresh to Done
  pub schedules : GivesAnswer BenchSchedule (λ L. schedule_bytes (schedule L))
  -- a file that is refused has the number that reading gives
  pub bounds-refused : Refuses BenchBound
  pub verdicts-refused : Refuses BenchVerdict
  pub margins-refused : Refuses BenchMargins
  pub schedules-refused : Refuses BenchSchedule
  -- the program's lines, and those of the program that says whom to blame
  pub program : Prints printed TextOf PrintLines
  pub blames : Prints printed_blamed BlamedTextOf PrintBlames
