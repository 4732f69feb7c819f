-- The file of a list of slots is its head, and behind it the record of each slot; and how many bytes it has.
use Prim.Native.Nat.{ℕ, ◌+◌, ◌*◌, ◌/◌, ◌%◌}
use mathlib.Core.List.{List, [], ◌∷◌, ◌++◌}
use mathlib.Core.Path.{◌≡◌, refl, ap, ap₂, sym, ◌∙◌}
use native.Mathlib.Omega.{arith}
use lib.ListN.{length, length-append}
use Rattle.counting.specs.Lists.{join_in}
use Rattle.words.specs.LittleEndian.{little_endian}
use Rattle.words.proofs.LittleEndianLaws.{little_endian-length}
use Rattle.rules.specs.declared.Slot.{Slot}
use Rattle.schedule_file.specs.ScheduleFile.{header_size, slot_size, slot_place}
use Rattle.schedule_file.specs.ScheduleFile.{head_bytes, slot_record, schedule_bytes}

-- how many numbers the head's count has room for
abbrev counts : ℕ
counts = 65536

lower-byte : (q k : ℕ) → (256 * q + k) % 256 ≡ k % 256
lower-byte q k = omega arith

-- of a number that is larger, the same two bytes
pub count-bytes : (n : ℕ) → little_endian 2 (n % counts) ≡ little_endian 2 n
unfolding little_endian
count-bytes n =
    let low : n % counts % 256 ≡ n % 256 = omega arith in
    let upper : n / 256 ≡ 256 * (n / counts) + n % counts / 256 = omega arith in
    ap₂ (λ a b. a ∷ b ∷ []) low (sym (ap (λ k. k % 256) upper ∙ lower-byte (n / counts) (n % counts / 256)))

pub record-length : (slot : Slot) → length (slot_record slot) ≡ slot_size
record-length slot = omega (arith, little_endian-length 4 slot.start)

pub join_in-length : (slots : List Slot) → length (join_in slot_record slots) ≡ slot_size * length slots
unfolding join_in
join_in-length [] = refl
join_in-length (slot ∷ rest) =
    omega (
      arith,
      length-append (slot_record slot) (join_in slot_record rest),
      record-length slot,
      join_in-length rest,
    )

pub head-length : (n : ℕ) → length (head_bytes n) ≡ header_size
head-length n = omega (arith, little_endian-length 2 n)

pub file-is : (slots : List Slot) → head_bytes (length slots) ++ join_in slot_record slots ≡ schedule_bytes slots
unfolding schedule_bytes
file-is slots = refl

pub file-length : (slots : List Slot)
    → length (head_bytes (length slots) ++ join_in slot_record slots) ≡ slot_place (length slots)
file-length slots =
    omega (
      arith,
      length-append (head_bytes (length slots)) (join_in slot_record slots),
      head-length (length slots),
      join_in-length slots,
    )

pub schedule_bytes-length : (slots : List Slot) → length (schedule_bytes slots) ≡ slot_place (length slots)
schedule_bytes-length slots = ap length (sym (file-is slots)) ∙ file-length slots
