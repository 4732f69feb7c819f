-- Demand 2 for load files: the witness of the round trip, and what follows from it. An accepted file reads to one
-- load, which is written back to the same bytes; a written load reads back as itself.
use Prim.Native.Nat.{ℕ, ◌<◌}
use mathlib.Core.Bool.{true}
use mathlib.Core.List.{List}
use mathlib.Core.Path.{◌≡◌, refl, ap, sym, ◌∙◌}
use native.Mathlib.Decide.{ℕ_discrete}
use native.Mathlib.Omega.{arith}
use lib.Dec.{eqb}
use borrow.Author.Tests.{ne_eqb, eqb-true}
use Rattle.words.specs.LittleEndian.{Bytes}
use Rattle.std.specs.Prelude.{Ok}
use Rattle.refusals.proofs.GivenLaws.{given-good, given-is}
use Rattle.load.specs.declared.Load.{Load}
use Rattle.load.specs.Load.{row_at}
use Rattle.load.proofs.CheckLaws.{check_load-good}
use Rattle.load.proofs.PlainLaws.{check_plain-good}
use Rattle.load_records.specs.Records.{is_version}
use Rattle.load_records.specs.Writing.{load_bytes, write_fault}
use Rattle.load_records.proofs.WritingLaws.{written-good}
use Rattle.load_file.specs.Places.{version_said, load_in}
use Rattle.load_file.specs.Reading.{file_fault, read_load}
use Rattle.load_file.specs.RoundTrip.{
  Held,
  accepted,
  AcceptedFile,
  WrittenLoad,
  ThereAndBack,
  RoundTrip,
}
use Rattle.load_file.proofs.faults.FaultLaws.{FileAccepted, file_fault-good, good-file_fault}
use Rattle.load_file.proofs.layout.FieldLaws.{Carried}
use Rattle.load_file.proofs.layout.ByteLaws.{load_bytes-bytes}
use Rattle.load_file.proofs.round_trip.WrittenFile.{written-load, written-accepted}
use Rattle.load_file.proofs.round_trip.ReadFile.{read_held, read-writes, read-file}

-- what reading a file gives that is not refused
read_load-good : (bs : List ℕ) → file_fault bs ≡ Ok tt → read_load bs ≡ accepted (load_in bs)
unfolding read_load
read_load-good bs h = rw h

good-read_load : (bs : List ℕ) (load : Load) → read_load bs ≡ accepted load → file_fault bs ≡ Ok tt
unfolding read_load
good-read_load bs load h = given-good (file_fault bs) (load_in bs) load (sym h)

-- an accepted file reads to exactly one load
reads_load : (bs : List ℕ) → Bytes bs → file_fault bs ≡ Ok tt → AcceptedFile bs (load_in bs)
reads_load bs b h = record { bytes = b; reads = read_load-good bs h }

pub AcceptedFile-unique : (bs : List ℕ) (load other : Load) → AcceptedFile bs load → AcceptedFile bs other
    → load ≡ other
AcceptedFile-unique bs load other a c = given-is (Ok tt) other load (sym a.reads ∙ c.reads)

load_in-is : (bs : List ℕ) (load : Load) → read_load bs ≡ accepted load → load_in bs ≡ load
unfolding read_load
load_in-is bs load h = sym (given-is (file_fault bs) (load_in bs) load (sym h))

-- what an accepted file is, read
read-parts : (bs : List ℕ) (load : Load) → AcceptedFile bs load → FileAccepted bs
read-parts bs load a = file_fault-good bs (good-read_load bs load a.reads)

accepted-written : (bs : List ℕ) (load : Load) → AcceptedFile bs load → WrittenLoad (version_said bs) load bs
accepted-written bs load a =
    let e : load_in bs ≡ load = load_in-is bs load a.reads in
    let f = read-parts bs load a in
    rw (← e)
    (record {
      held = read_held bs a.bytes f;
      good = read-writes bs a.bytes f;
      file = read-file bs a.bytes f;
    })

-- a file names the version that it is written in
version-named : (v : ℕ) (bs : List ℕ) (load : Load) → bs ≡ load_bytes v load → version_said bs ≡ v
unfolding load_bytes
version-named v bs load e = ap version_said e

-- a version is a byte
version-small : (v : ℕ) → is_version v ≡ true → v < 256
version-small v h =
    elim (ℕ_discrete v 1) [
      | yes e ↦ omega arith
      | no n ↦
          let two : eqb v 2 ≡ true = rw (ne_eqb v 1 n) at h in
          omega (arith, eqb-true v 2 two)
    ]

-- where a version carries no class and no head, the load that is written in it has class 0 and head 1 throughout
written-carried : (bs : List ℕ) (load : Load) → write_fault (version_said bs) load ≡ Ok tt → (i : ℕ) → i < load.rows
    → Carried bs (row_at load i)
written-carried bs load h i l =
    record {
      class-zero = λ e. (check_plain-good load (rw e at h)).class-zero i l;
      head-one = λ e. (check_plain-good load (rw e at h)).head-one i l;
    }

-- of a file whose bytes name its version
named-reads : (bs : List ℕ) (load : Load) → is_version (version_said bs) ≡ true → WrittenLoad (version_said bs) load bs
    → AcceptedFile bs load
named-reads bs load named w =
    let g = check_load-good load (written-good (version_said bs) load w.good) in
    let carried = written-carried bs load w.good in
    let f = written-accepted bs load w.held g carried w.file named in
    record {
      bytes = rw w.file (load_bytes-bytes (version_said bs) (version-small (version_said bs) named) load w.held g);
      reads =
          read_load-good bs (good-file_fault bs f)
          ∙ ap accepted (written-load bs load w.held g carried w.file);
    }

written-reads : (v : ℕ) → is_version v ≡ true → (bs : List ℕ) (load : Load) → WrittenLoad v load bs
    → AcceptedFile bs load
written-reads v named bs load w =
    let e : v ≡ version_said bs = sym (version-named v bs load w.file) in
    named-reads bs load (rw e at named) (rw e at w)

moves : (bs : List ℕ) (load : Load) → version_said bs ≡ 1 → AcceptedFile bs load → ThereAndBack bs load
moves bs load first a =
    let w : WrittenLoad 1 load bs = rw first at (accepted-written bs load a) in
    record {
      there =
          written-reads 2 refl (load_bytes 2 load) load
          (record { held = w.held; good = written-good 1 load w.good; file = refl });
      back = w;
    }

pub round_trip : RoundTrip
round_trip =
    record {
      some-load = reads_load;
      one-load = AcceptedFile-unique;
      read-write = accepted-written;
      write_read = written-reads;
      there_and_back = moves;
    }

-- an accepted file's load is written back to the same bytes
pub read-write : (bs : List ℕ) (load : Load) → Bytes bs → read_load bs ≡ accepted load
    → load_bytes (version_said bs) load ≡ bs
read-write bs load b h = sym (round_trip.read-write bs load (record { bytes = b; reads = h })).file

-- a written load reads back as itself
pub write_read : (v : ℕ) → is_version v ≡ true → (load : Load) → Held load → write_fault v load ≡ Ok tt
    → read_load (load_bytes v load) ≡ accepted load
write_read v named load held good =
    (round_trip.write_read v named (load_bytes v load) load (record { held = held; good = good; file = refl })).reads
