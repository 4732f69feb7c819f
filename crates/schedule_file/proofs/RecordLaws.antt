-- Slots written record by record behind the head: what the output holds in the end is their file.
use Prim.Native.Nat.{ℕ, ◌+◌, ◌<◌}
use mathlib.Core.List.{List, [], ◌∷◌, ◌++◌, append-nil}
use mathlib.Core.Path.{◌≡◌, refl, ap, sym, ◌∙◌}
use native.Mathlib.Numerals.{add-one}
use native.Mathlib.Omega.{arith}
use lib.ListN.{length, take}
use lib.Seq.{sets, take-suc, take-length, length-take-le}
use Rattle.counting.specs.Lists.{join_in}
use Rattle.counting.proofs.lists.ListLaws.{join_in-append}
use Rattle.words.proofs.OverwriteLaws.{sets_more}
use Rattle.rules.specs.declared.Slot.{Slot}
use Rattle.rules.specs.Slots.{no_slot, slot_at}
use Rattle.schedule_file.specs.ScheduleFile.{header_size, slot_place, slot_of}
use Rattle.schedule_file.specs.ScheduleFile.{head_bytes, slot_record, schedule_bytes}
use Rattle.schedule_file.proofs.FileLaws.{join_in-length, head-length, file-is}

-- the records of the first so many slots of a list
abbrev pub records_of : List Slot → ℕ → List ℕ
records_of slots k = join_in slot_record (take k slots)

pub records_of-zero : (slots : List Slot) → records_of slots 0 ≡ []
unfolding join_in
records_of-zero slots = refl

-- the record of the slot with these numbers, which is the one at a place
pub record-here : (slots : List Slot) (piece : List ℕ) (k row step start : ℕ)
    → piece ≡ slot_record (slot_of row step start) → slot_of row step start ≡ slot_at slots k
    → piece ≡ slot_record (slot_at slots k)
record-here slots piece k row step start made here = made ∙ ap slot_record here

-- one record more is written behind them
pub records-next : (slots : List Slot) (out so_far after piece : List ℕ) (k : ℕ) → k < length slots
    → so_far ≡ sets out header_size (records_of slots k) → piece ≡ slot_record (slot_at slots k)
    → after ≡ sets so_far (slot_place k) piece → after ≡ sets out header_size (records_of slots (k + 1))
unfolding join_in
records-next slots out so_far after piece k l p made q =
    let one_more : records_of slots (k + 1) ≡ records_of slots k ++ slot_record (slot_at slots k) =
    rw add-one
    (ap (join_in slot_record) (take-suc slots k no_slot l)
    ∙ (join_in-append slot_record (take k slots) (slot_at slots k ∷ [])
    ∙ ap (λ l. records_of slots k ++ l) (append-nil (slot_record (slot_at slots k))))) in
    let so-long : length (take k slots) ≡ k = length-take-le k slots (omega arith) in
    sets_more out so_far after header_size (slot_place k) (records_of slots k) (slot_record (slot_at slots k))
    (omega (arith, join_in-length (take k slots), so-long)) p (q ∙ ap (sets so_far (slot_place k)) made)
    ∙ ap (sets out header_size) (sym one_more)

-- the head, and then all records
pub records-all : (slots : List Slot) (out after-head after : List ℕ)
    → after-head ≡ sets out 0 (head_bytes (length slots))
    → after ≡ sets after-head header_size (records_of slots (length slots)) → after ≡ sets out 0 (schedule_bytes slots)
records-all slots out after-head after p q =
    let n = length slots in
    sets_more out after-head after 0 header_size (head_bytes n) (records_of slots n)
    (omega (arith, head-length n)) p q
    ∙ ap (λ l. sets out 0 (head_bytes n ++ join_in slot_record l)) (take-length slots)
    ∙ ap (sets out 0) (file-is slots)
