-- Demand 2 for load files holds: the round trips of load_file told of the calls, in both versions.
use Prim.Native.Nat.{ℕ}
use mathlib.Core.Bool.{true}
use mathlib.Core.List.{List, [], ◌∷◌}
use mathlib.Core.Path.{◌≡◌, refl, ap, sym, ◌∙◌}
use lib.ListN.{length, take, drop}
use lib.Seq.{take-append_seam}
use Rattle.words.specs.LittleEndian.{Bytes}
use Rattle.refusals.specs.Checked.{Checked}
use Rattle.std.specs.Prelude.{Result, Ok}
use Rattle.refusals.specs.declared.Refusal.{Refusal}
use Rattle.refusals.proofs.GivenLaws.{given-is}
use Rattle.refusals.specs.FirstMet.{first_fault}
use Rattle.refusals.specs.Given.{Given, room_for}
use Rattle.refusals.proofs.FirstMetLaws.{and_then-good-first}
use Rattle.load.specs.declared.Load.{Load}
use Rattle.load.specs.Check.{check_load}
use Rattle.load_records.specs.Records.{is_version}
use Rattle.load_records.specs.Writing.{load_bytes, write_fault}
use Rattle.load_records.specs.Calls.{WriteIn, WriteVersion1, WriteVersion2}
use Rattle.load_records.proofs.WritingLaws.{written-good}
use Rattle.load_file.specs.Places.{version_said}
use Rattle.load_file.specs.Reading.{read_load}
use Rattle.load_file.specs.Calls.{ReadLoad}
use Rattle.load_file.specs.RoundTrip.{Held, accepted, AcceptedFile, WrittenLoad, ThereAndBack}
use Rattle.load_file.proofs.CallLaws.{ReadLoad-good}
use Rattle.load_file.proofs.faults.FaultLaws.{file_fault-good}
use Rattle.load_file.proofs.round_trip.RoundTrip.{round_trip, write_read}
use Rattle.demands.specs.FileAnswers.{file_in, FileAnswers}

-- what is read of a file that is not refused
module _ (bs : List ℕ) (load : Load) (e : ReadLoad bs (Ok load)) where
  version-named : is_version (version_said bs) ≡ true
  version-named = (file_fault-good bs (ReadLoad-good bs load e)).version-is

  module _ (b : Bytes bs) where
    read-file : AcceptedFile bs load
    read-file = record { bytes = b; reads = sym e }

    -- the file, written back
    file-back : WrittenLoad (version_said bs) load bs
    file-back = round_trip.read-write bs load read-file

    -- its load passes its check
    pub file-good : check_load load ≡ Ok tt
    file-good = written-good (version_said bs) load file-back.good

    -- a version 1 file, moved
    moved : version_said bs ≡ 1 → ThereAndBack bs load
    moved one = round_trip.there_and_back bs load one read-file

-- a load that was written in a version is not refused there
written-finding : (v : ℕ) (load : Load) (out after : List ℕ) → WriteIn v load out (Ok tt) after
    → write_fault v load ≡ Ok tt
written-finding v load out after h =
    and_then-good-first (write_fault v load) (first_fault (room_for (load_bytes v load) out ∷ [])) (sym h.finding-is)

-- and its file stands at the output's front
front-is : (v : ℕ) (load : Load) (out after : List ℕ) → WriteIn v load out (Ok tt) after
    → file_in v load after ≡ load_bytes v load
front-is v load out after h =
    ap (take (length (load_bytes v load))) h.output-is
    ∙ take-append_seam (load_bytes v load) (drop (length (load_bytes v load)) out)

writes_reads : (v : ℕ) → is_version v ≡ true → (load : Load) → Held load → (out after : List ℕ)
    → WriteIn v load out (Ok tt) after → (r : Result Load Refusal) → ReadLoad (file_in v load after) r
    → r ≡ accepted load
writes_reads v named load held out after h r e =
    e ∙ ap read_load (front-is v load out after h)
    ∙ write_read v named load held (written-finding v load out after h)

-- a load that is not refused is refused for want of room alone
written_in : (v : ℕ) (load : Load) (bs out : List ℕ) (found : Checked) (after : List ℕ) → write_fault v load ≡ Ok tt
    → load_bytes v load ≡ bs → WriteIn v load out found after → Given (Ok tt) bs out found after
written_in v load bs out found after good file h =
    let told : Given (write_fault v load) (load_bytes v load) out found after = h in
    rw (good, file) at told

goes-there : (bs : List ℕ) (load : Load) → Bytes bs → ReadLoad bs (Ok load) → version_said bs ≡ 1
    → (out : List ℕ) (found : Checked) (after : List ℕ) → WriteVersion2 load out found after
    → Given (Ok tt) (load_bytes 2 load) out found after
goes-there bs load b e one out found after h =
    written_in 2 load (load_bytes 2 load) out found after (file-good bs load e b) refl h

comes_back : (bs : List ℕ) (load : Load) → Bytes bs → ReadLoad bs (Ok load) → version_said bs ≡ 1
    → (two after : List ℕ) → WriteVersion2 load two (Ok tt) after
    → (again : Load) → ReadLoad (file_in 2 load after) (Ok again)
    → (out : List ℕ) (found : Checked) (last : List ℕ) → WriteVersion1 again out found last
    → Given (Ok tt) bs out found last
comes_back bs load b e one two after h again a out found last w =
    let w₁ : WrittenLoad 1 load bs = (moved bs load e b one).back in
    let same : again ≡ load = given-is (Ok tt) load again (writes_reads 2 refl load w₁.held two after h (Ok again) a) in
    let told : WriteVersion1 load out found last = rw same at w in
    written_in 1 load bs out found last w₁.good (sym w₁.file) told

pub file-answers : FileAnswers
file-answers =
    record {
      round-trips = round_trip;
      one-load = λ bs a c p q. given-is (Ok tt) c a (p ∙ sym q);
      named = version-named;
      read-write = λ bs load b e out found after h.
          let w = file-back bs load e b in
          written_in (version_said bs) load bs out found after w.good (sym w.file) h;
      write_read = writes_reads;
      plain = λ bs load b e one. sym (moved bs load e b one).back.good;
      there = goes-there;
      back = comes_back;
    }
