-- The calls that write: with which numbers they refuse, and that a refusal leaves the output.
use Prim.Native.Nat.{ℕ}
use mathlib.Core.Bool.{true}
use mathlib.Core.List.{List, [], ◌∷◌, ◌++◌}
use mathlib.Core.Logic.{◌≢◌}
use mathlib.Core.Path.{◌≡◌, refl, sym, ◌∙◌, subst}
use lib.Dec.{ltb}
use lib.ListN.{length}
use Rattle.counting.specs.Lists.{any_in}
use Rattle.refusals.specs.declared.Refusal.{Refusal}
use Rattle.refusals.specs.declared.Refusal.TheVariants.{OutOfRange, OutputShort}
use Rattle.refusals.specs.Checked.{Checked}
use Rattle.std.specs.Prelude.{Result, Ok, Err}
use Rattle.refusals.specs.Refusals.{number_given}
use Rattle.refusals.specs.Given.{if_good, found_in, written, Given, WritesOut}
use Rattle.refusals.proofs.GivenLaws.{WritesOut-given}
use Rattle.load.specs.declared.Load.{Load}
use Rattle.load.specs.View.{View, view_of}
use Rattle.load.specs.Check.{check_load}
use Rattle.load.specs.Plain.{check_plain}
use Rattle.load_records.specs.Writing.{load_bytes}
use Rattle.load_records.specs.Calls.{WriteVersion1, WriteVersion2}
use Rattle.load_file.specs.Places.{load_in}
use Rattle.load_file.specs.Reading.{file_fault, read_load}
use Rattle.sheet.specs.Writing.{sheet_bytes}
use Rattle.sheet.specs.Calls.{WriteSheet}
use Rattle.rules.specs.declared.Slot.{Slot}
use Rattle.rules.specs.Slots.{most_slots}
use Rattle.schedule_file.specs.ScheduleFile.{slot_place, schedule_bytes, count_fault, slots_fault, room_fault}
use Rattle.schedule_file.specs.Calls.{WriteSchedule}
use Rattle.bench.specs.Calls.{WriteRun}
use Rattle.reading_bench.specs.Calls.{ForC, schedule_file}
use Rattle.demands.specs.NumberLists.{
  OneOf,
  of_load,
  of_plain,
  of_file,
  of_output,
  of_c,
  of_writing,
  of_plain_writing,
  of_slot_writing,
}
use Rattle.demands.proofs.demand1.NumberLaws.{Gives, tests-give, then-gives, last-gives, each_among, OneOf-more}
use Rattle.demands.proofs.demand1.CallNumbers.{load_gives, plain-gives, file-gives}

-- 9 comes last, behind whatever a finding gives
given-gives : (numbers : List ℕ) (finding : Checked) (answer out : List ℕ) (found : Checked) (after : List ℕ)
    → OneOf numbers 9 → Gives numbers finding → Given finding answer out found after
    → OneOf numbers (number_given found)
unfolding any_in
given-gives numbers finding answer out found after nine f g =
    subst (λ (f : Checked). OneOf numbers (number_given f)) (sym g.finding-is)
    (then-gives numbers finding _ f
    (last-gives numbers _
    (tests-give numbers ((ltb (length out) (length answer), OutputShort) ∷ []) (rw nine)))).passes

-- one of some numbers is one of them and 9
with-nine : (numbers : List ℕ) (found : Checked) → each_among (numbers ++ of_output) numbers ≡ true
    → Gives numbers found
    → Gives (numbers ++ of_output) found
with-nine numbers found each g =
    record { passes = OneOf-more numbers (numbers ++ of_output) each (number_given found) g.passes }

pub plain-written-gives : (load : Load) (out : List ℕ) (r : Checked) (after : List ℕ)
    → WriteVersion1 load out r after → OneOf of_plain_writing (number_given r)
unfolding any_in
plain-written-gives load out r after g =
    given-gives of_plain_writing (check_plain load) (load_bytes 1 load) out r after refl
    (with-nine of_plain (check_plain load) refl (plain-gives load)) g

pub load-written-gives : (load : Load) (out : List ℕ) (r : Checked) (after : List ℕ)
    → WriteVersion2 load out r after → OneOf of_writing (number_given r)
unfolding any_in
load-written-gives load out r after g =
    given-gives of_writing (check_load load) (load_bytes 2 load) out r after refl
    (with-nine of_load (check_load load) refl (load_gives load)) g

pub sheet-written-gives : (load : Load) (out : List ℕ) (r : Result ℕ Refusal) (after : List ℕ)
    → WriteSheet load out r after → OneOf of_plain_writing (number_given (found_in r))
unfolding any_in
sheet-written-gives load out r after p =
    given-gives of_plain_writing (check_plain load) (sheet_bytes load) out (found_in r) after refl
    (with-nine of_plain (check_plain load) refl (plain-gives load))
    (WritesOut-given (check_plain load) (sheet_bytes load) out r after p)

count_gives : (n : ℕ) → Gives of_slot_writing (count_fault n)
unfolding any_in
count_gives n = tests-give of_slot_writing ((ltb most_slots n, OutOfRange) ∷ []) refl

pub room-gives : (n room : ℕ) → Gives of_slot_writing (room_fault n room)
unfolding any_in
room-gives n room =
    then-gives of_slot_writing (count_fault n) _ (count_gives n)
    (last-gives of_slot_writing _ (tests-give of_slot_writing ((ltb room (slot_place n), OutputShort) ∷ []) refl))

pub slots-written-give : (slots : List Slot) (out : List ℕ) (r : Checked) (after : List ℕ)
    → WriteSchedule slots out r after → OneOf of_slot_writing (number_given r)
unfolding any_in
slots-written-give slots out r after g =
    given-gives of_slot_writing (slots_fault slots) (schedule_bytes slots) out r after refl
    (count_gives (length slots)) g

pub c-gives : (answer : View → List ℕ) (bs out : List ℕ) (r : ℕ) (after : List ℕ) → ForC answer bs out r after
    → OneOf of_c r
unfolding read_load any_in
c-gives answer bs out r after c =
    rw c.number_is
    (given-gives of_c (file_fault bs) (answer (view_of (load_in bs))) out c.found after refl
    (with-nine of_file (file_fault bs) refl (file-gives bs)) c.given)

-- so does the writing of a file's run
pub run-gives : (bs out : List ℕ) (r : Checked) (after : List ℕ) → WriteRun bs out r after
    → OneOf of_c (number_given r)
run-gives bs out r after g =
    c-gives schedule_file bs out (number_given r) after (record { found = r; given = g; number_is = refl })

-- a call that refuses nothing but a short output gives 9 alone
pub out-gives : (answer out : List ℕ) (r : Result ℕ Refusal) (after : List ℕ) → WritesOut (Ok tt) answer out r after
    → OneOf of_output (number_given (found_in r))
unfolding any_in
out-gives answer out r after p =
    given-gives of_output (Ok tt) answer out (found_in r) after refl (record { passes = refl })
    (WritesOut-given (Ok tt) answer out r after p)

-- a finding whose number is not 0 leaves the output
number-stays : (finding : Checked) (answer out : List ℕ) (found : Checked) (after : List ℕ)
    → Given finding answer out found after → number_given found ≢ 0 → after ≡ out
number-stays finding answer out found after g ne = go found ne g.output-is
  where
    go : (c : Checked) → number_given c ≢ 0 → after ≡ if_good c (written answer out) out → after ≡ out
    go (Ok tt) other e = absurd (other refl)
    go (Err refusal) other e = e

pub c-keeps : (answer : View → List ℕ) (bs out : List ℕ) (r : ℕ) (after : List ℕ) → ForC answer bs out r after
    → r ≢ 0 → after ≡ out
c-keeps answer bs out r after c ne =
    number-stays (file_fault bs) (answer (view_of (load_in bs))) out c.found after c.given
    (λ e. ne (c.number_is ∙ e))
