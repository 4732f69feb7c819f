-- "Loads to try": those marked P, "gathered as a single statement over the whole list", and with
-- them the loads of requests 2026-04 and 2026-05. To be read after LoadsToTry.
use Rattle.std.specs.Prelude.{List, [], ◌∷◌, map, ◌≡◌, Ok, Err}
use Rattle.refusals.specs.Refusals.{number_of}
use Rattle.load.specs.Check.{check_load}
use Rattle.load.specs.View.{view_of}
use Rattle.load.specs.Notation.{padded}
use Rattle.load_records.specs.Writing.{load_bytes}
use Rattle.load_file.specs.Places.{version_said}
use Rattle.load_file.specs.Reading.{read_load}
use Rattle.load_file.specs.RoundTrip.{accepted}
use Rattle.rules.specs.Margins.{margin_bytes}
use Rattle.schedule_file.specs.ScheduleFile.{schedule_bytes}
use Rattle.lines.specs.Lines.{printed, printed_blamed}
use Rattle.demands.specs.LoadsToTry.{
  answers_for,
  glimpse_after,
  Sound,
  blamed_lines,
  Faulty,
  refused,
}
use Rattle.demands.specs.LoadA.{load_a}
use Rattle.demands.specs.LoadB.{load_b}
use Rattle.demands.specs.LoadB9.{load_b9}
use Rattle.demands.specs.LoadPhase.{load_phase8, load_phase7}
use Rattle.demands.specs.SmallLoads.{load_unequal, load_waits0, load_empty}
use Rattle.demands.specs.FaultyLoads.{load_b7, load_twins, load_twins_in_one_box, load_factory}
use Rattle.demands.specs.LoadUrgent.{load_urgent}
use Rattle.demands.specs.Notation.{bytes_of, lines_of}

-- what is claimed of an acceptable load
pub record SoundHolds (e : Sound) : Type 0 where
  -- its file is read as that load
  pub reads : read_load (bytes_of e.file) ≡ accepted e.load
  -- the load is written, in the version that the file names, as that file
  pub writes : load_bytes (version_said (bytes_of e.file)) e.load ≡ bytes_of e.file
  -- the check of the load in memory meets nothing
  pub checks : check_load e.load ≡ Ok tt
  -- bound, row bounds, margins, verdict, starts, end and the check of the schedule are as stated
  pub answered : answers_for e.load ≡ e.answers
  -- and so are the moves looked at
  pub seen : map (λ g. glimpse_after e.load g.moves) e.glimpses ≡ e.glimpses
  -- the margins are these bytes, and zeros up to 96
  pub margined : margin_bytes (view_of e.load) ≡ padded 96 0 (bytes_of e.margin-bytes)
  -- the schedule is written as that file
  pub scheduled : schedule_bytes e.answers.slots ≡ bytes_of e.schedule-file
  -- the program prints those lines
  pub prints : printed (bytes_of e.file) ≡ lines_of e.lines
  -- and the one that says whom to blame those
  pub prints-blames : printed_blamed (bytes_of e.file) ≡ lines_of (blamed_lines e)

-- what is claimed of a load that is refused
pub record FaultyHolds (e : Faulty) : Type 0 where
  -- reading its file gives that refusal
  pub reads : read_load (bytes_of e.file) ≡ refused e.refusal
  -- the check of the load in memory gives it too
  pub checks : check_load e.load ≡ Err e.refusal
  -- it has that number
  pub numbered : number_of e.refusal ≡ e.number
  -- and both programs print it
  pub prints : printed (bytes_of e.file) ≡ lines_of e.lines
  pub prints-blames : printed_blamed (bytes_of e.file) ≡ lines_of e.lines

-- a load to try
pub data Entry : Type 0 where
  sound : Sound → Entry
  faulty : Faulty → Entry

-- the loads marked P, the factory identifier's and the urgent one
abbrev pub loads_to_try : List Entry
loads_to_try =
    sound load_a
    ∷ sound load_b
    ∷ sound load_b9
    ∷ faulty load_b7
    ∷ sound load_phase8
    ∷ sound load_phase7
    ∷ sound load_unequal
    ∷ sound load_waits0
    ∷ sound load_empty
    ∷ faulty load_twins
    ∷ faulty load_twins_in_one_box
    ∷ faulty load_factory
    ∷ sound load_urgent
    ∷ []

-- what is claimed of a load to try
abbrev pub Holds : Entry → Type 0
Holds (sound e) = SoundHolds e
Holds (faulty e) = FaultyHolds e

-- every member of a list has P
abbrev pub All : {A : Type 0} → (A → Type 0) → List A → Type 0
All P [] = Unit {0}
All P (a ∷ rest) = P a × All P rest

-- what is claimed of all of them
abbrev pub LoadsHold : Type 0
LoadsHold = All Holds loads_to_try
