-- What is written is bytes: pieces whose members are all below 256, put together.
use Prim.Native.Nat.{ℕ, zero, suc, ◌+◌, ◌-◌, ◌/◌, ◌%◌, ◌<◌}
use mathlib.Core.Bool.{Bool, true, false}
use mathlib.Core.List.{List, [], ◌∷◌, ◌++◌}
use mathlib.Core.Path.{◌≡◌, refl, ap, ◌∙◌}
use native.Mathlib.Decide.{dec_lt}
use native.Mathlib.Omega.{arith}
use lib.Dec.{ltb}
use lib.ListN.{length, get_or-append}
use lib.Seq.{get_or-append-add}
use borrow.Author.Tests.{ltb-true}
use Rattle.counting.specs.Lists.{join_to}
use Rattle.words.specs.LittleEndian.{little_endian, byte_at, Bytes}
use Rattle.words.specs.Decimal.{digit, decimal_to}
use Rattle.words.proofs.LittleEndianLaws.{little_endian-bytes}

-- a piece of bytes
pub record Piece (bs : List ℕ) : Type 0 where
  pub bytes : Bytes bs

pub none : Piece []
none = record { bytes = λ at. omega arith }

cons-bytes : (a : ℕ) (bs : List ℕ) → a < 256 → Bytes bs → Bytes (a ∷ bs)
cons-bytes a bs h b zero = h
cons-bytes a bs h b (suc at) = b at

-- a byte and a piece
pub one_then : {a : ℕ} {bs : List ℕ} → a < 256 → Piece bs → Piece (a ∷ bs)
one_then {a} {bs} l p = record { bytes = cons-bytes a bs l p.bytes }

append-bytes : (bs cs : List ℕ) → Bytes bs → Bytes cs → Bytes (bs ++ cs)
append-bytes bs cs b c at =
    elim (dec_lt at (length bs)) [
      | yes l ↦ rw (get_or-append bs cs 0 at l) (b at)
      | no g ↦
          let e : at ≡ length bs + (at - length bs) = omega arith in
          let p : byte_at (bs ++ cs) at ≡ byte_at cs (at - length bs) =
          ap (byte_at (bs ++ cs)) e ∙ get_or-append-add bs cs (at - length bs) 0 in
          rw p (c (at - length bs))
    ]

-- a piece, and behind it another
pub then : {bs cs : List ℕ} → Piece bs → Piece cs → Piece (bs ++ cs)
then {bs} {cs} p q = record { bytes = append-bytes bs cs p.bytes q.bytes }

-- pieces one behind the other
pub joined : (f : ℕ → List ℕ) (n : ℕ) → ((i : ℕ) → i < n → Piece (f i)) → Piece (join_to f n)
unfolding join_to
joined f zero h = none
joined f (suc n) h = then (joined f n (λ i l. h i (omega arith))) (h n (omega arith))

-- the bytes of a number
pub number : (width n : ℕ) → Piece (little_endian width n)
number width n = record { bytes = little_endian-bytes width n }

-- its digits
pub digits : (most n : ℕ) → Piece (decimal_to most n)
unfolding decimal_to
digits zero n = none
digits (suc most) n = go (ltb n 10) refl (digits most (n / 10))
  where
    go : (b : Bool) → ltb n 10 ≡ b → Piece (decimal_to most (n / 10))
        → Piece (elim b [ true ↦ digit n | false ↦ decimal_to most (n / 10) ++ digit (n % 10) ])
    go true e h = one_then (omega (arith, ltb-true n 10 e)) none
    go false e h = then h (one_then (omega arith) none)
