-- Any two results that meet the call's contract are equal. Also: what a reading finds, by what it gives, which load it
-- gives, and that this load passes its check.
use Prim.Native.Nat.{ℕ}
use mathlib.Core.List.{List}
use mathlib.Core.Path.{◌≡◌, ap, sym, ◌∙◌}
use Rattle.words.specs.LittleEndian.{Bytes}
use Rattle.std.specs.Prelude.{Result, Ok, Err}
use Rattle.refusals.specs.declared.Refusal.{Refusal}
use Rattle.refusals.proofs.GivenLaws.{given-refused, given-good, given-is}
use Rattle.load.specs.declared.Load.{Load}
use Rattle.load.specs.Check.{check_load}
use Rattle.load.proofs.CheckLaws.{good-check_load}
use Rattle.load_file.specs.Places.{load_in}
use Rattle.load_file.specs.Reading.{file_fault, read_load}
use Rattle.load_file.specs.Calls.{ReadLoad}
use Rattle.load_file.proofs.faults.FaultLaws.{file_fault-good}
use Rattle.load_file.proofs.round_trip.ReadFile.{read-good}

pub ReadLoad-unique : (bs : List ℕ) (r s : Result Load Refusal) → ReadLoad bs r → ReadLoad bs s → r ≡ s
ReadLoad-unique bs r s p q = p ∙ sym q

pub ReadLoad-refused : (bs : List ℕ) (refusal : Refusal) → ReadLoad bs (Err refusal) → file_fault bs ≡ Err refusal
unfolding read_load
ReadLoad-refused bs refusal e = given-refused (file_fault bs) (load_in bs) refusal e

module _ (bs : List ℕ) (load : Load) (e : ReadLoad bs (Ok load)) where
  pub ReadLoad-good : file_fault bs ≡ Ok tt
  unfolding read_load
  ReadLoad-good = given-good (file_fault bs) (load_in bs) load e

  pub ReadLoad-load : load ≡ load_in bs
  unfolding read_load
  ReadLoad-load = given-is (file_fault bs) (load_in bs) load e

  pub ReadLoad-accepted : Bytes bs → check_load load ≡ Ok tt
  ReadLoad-accepted bytes =
      let file = file_fault-good bs ReadLoad-good in
      ap check_load ReadLoad-load ∙ good-check_load (load_in bs) (read-good bs bytes file)
