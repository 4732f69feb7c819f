-- Demand 2 for route sheets holds: the round trips told of the calls.
use Prim.Native.Nat.{ℕ, ◌≤◌}
use mathlib.Core.List.{List, [], ◌∷◌}
use mathlib.Core.Path.{◌≡◌, refl, ap, sym, ◌∙◌}
use lib.ListN.{length, take, drop}
use lib.Seq.{take-append_seam}
use Rattle.words.specs.LittleEndian.{Bytes}
use Rattle.std.specs.Prelude.{Result, Ok}
use Rattle.refusals.specs.declared.Refusal.{Refusal}
use Rattle.refusals.specs.FirstMet.{first_fault}
use Rattle.refusals.specs.Given.{room_for, WritesOut}
use Rattle.refusals.proofs.FirstMetLaws.{and_then-good-first}
use Rattle.refusals.proofs.GivenLaws.{given-good, given-is}
use Rattle.load.specs.declared.Load.{Load}
use Rattle.load.specs.Check.{check_load}
use Rattle.load.specs.Plain.{check_plain}
use Rattle.load.proofs.PlainLaws.{check_plain-good}
use Rattle.load_file.specs.RoundTrip.{Held, accepted}
use Rattle.sheet.specs.Reading.{read_sheet}
use Rattle.sheet.specs.Writing.{sheet_bytes, most_sheet_bytes}
use Rattle.sheet.specs.SheetTrip.{ExportedLoad}
use Rattle.sheet.specs.Calls.{ReadSheet, WriteSheet}
use Rattle.sheet.proofs.trip.SheetTrip.{sheet-trip}
use Rattle.sheet.proofs.marks.RowSize.{sheet_bytes-le}
use Rattle.demands.specs.SheetAnswers.{SheetAnswers}

-- a sheet that is not refused, exported again
sheet-back : (bs : List ℕ) (load : Load) → Bytes bs → ReadSheet bs (Ok load) → ExportedLoad load bs
sheet-back bs load b e = sheet-trip.read-write bs load (record { bytes = b; reads = sym e })

-- its load passes its check
pub sheet-good : (bs : List ℕ) (load : Load) → Bytes bs → ReadSheet bs (Ok load) → check_load load ≡ Ok tt
sheet-good bs load b e = (check_plain-good load (sheet-back bs load b e).plain).load-good

reads-writes : (bs : List ℕ) (load : Load) → Bytes bs → ReadSheet bs (Ok load) → (out : List ℕ)
    (w : Result ℕ Refusal) (after : List ℕ) → WriteSheet load out w after → WritesOut (Ok tt) bs out w after
reads-writes bs load b e out w after h =
    let x : ExportedLoad load bs = sheet-back bs load b e in
    let told : WritesOut (check_plain load) (sheet_bytes load) out w after = h in
    rw (x.plain, ← x.sheet) at told

-- a load that is written is plain
plain-load : (load : Load) (out : List ℕ) (n : ℕ) (after : List ℕ) → WriteSheet load out (Ok n) after
    → check_plain load ≡ Ok tt
plain-load load out n after h =
    and_then-good-first (check_plain load) (first_fault (room_for (sheet_bytes load) out ∷ []))
    (given-good _ _ n h.length-is)

-- and what the output's front holds is its sheet
front-is : (load : Load) (out : List ℕ) (n : ℕ) (after : List ℕ) → WriteSheet load out (Ok n) after
    → take n after ≡ sheet_bytes load
front-is load out n after h =
    ap (λ m. take m after) (given-is _ _ n h.length-is)
    ∙ ap (take (length (sheet_bytes load))) h.output-is
    ∙ take-append_seam (sheet_bytes load) (drop (length (sheet_bytes load)) out)

writes_reads : (load : Load) → Held load → (out : List ℕ) (n : ℕ) (after : List ℕ) → WriteSheet load out (Ok n) after
    → (r : Result Load Refusal) → ReadSheet (take n after) r → r ≡ accepted load
writes_reads load held out n after h r e =
    e
    ∙ ap read_sheet (front-is load out n after h)
    ∙ (sheet-trip.write_read (sheet_bytes load) load
    (record { held = held; plain = plain-load load out n after h; sheet = refl })).reads

few_bytes : (load : Load) (out : List ℕ) (n : ℕ) (after : List ℕ) → WriteSheet load out (Ok n) after
    → n ≤ most_sheet_bytes
few_bytes load out n after h =
    rw (given-is _ _ n h.length-is)
    (sheet_bytes-le load (check_plain-good load (plain-load load out n after h)).load-good)

pub sheet-answers : SheetAnswers
sheet-answers =
    record {
      round-trips = sheet-trip;
      one-load = λ bs a c p q. given-is (Ok tt) c a (p ∙ sym q);
      held = λ bs load b e. (sheet-back bs load b e).held;
      plain = λ bs load b e. sym (sheet-back bs load b e).plain;
      read-write = reads-writes;
      write_read = writes_reads;
      most_bytes = few_bytes;
    }
