-- `check_due` asks in order whether the file holds the record and whether the two bytes of its mark are the kind's: as
-- each is below 256, they are where both pairs have one number.
use Rattle.std.proofs.Common.{ℕ, ◌+◌, ◌*◌, ◌<◌, List, ◌≡◌, ◌∙◌, arith, get_or, rules, ◌-◌, ap}
use native.Mathlib.Decide.{ℕ_discrete}
use borrow.Author.Tests.{le-ltb, eq-eqb, ne_eqb}
use Rattle.words.specs.LittleEndian.{byte_at, number_at}
use Rattle.load_file.proofs.layout.SliceLaws.{number-in}
use Rattle.load_file.proofs.read_parts.check_due.Goals as goal
use Rattle.load_file.proofs.read_parts.check_due.Goals.{After-from_le_bytes}

pair-bytes : (a b m n : ℕ) → a < 256 → m < 256 → a + 256 * b ≡ m + 256 * n → (a ≡ m) × (b ≡ n)
pair-bytes a b m n a_lt m-lt e = (omega (arith, e), omega (arith, e))

-- the number of two bytes
pair-is : (bs : List ℕ) (at : ℕ) → number_at 2 bs at ≡ byte_at bs at + 256 * byte_at bs (at + 1)
unfolding number_at
pair-is bs at = omega arith

-- the two numbers that are compared
read-is : (c : After-from_le_bytes)
    → c.number16_at.result ≡ byte_at c.args.bytes.now c.args.at + 256 * byte_at c.args.bytes.now (c.args.at + 1)
read-is c =
    let bs = c.args.bytes.now in
    let at = c.args.at in
    let front : at + 0 ≡ at = omega arith in
    c.number16_at.ensures
    ∙ number-in bs at (at + c.args.size - at) 2 0 (omega (arith, c.requires))
    ∙ ap (number_at 2 bs) front
    ∙ pair-is bs at

mark-is : (c : After-from_le_bytes) → c.from_le_bytes.result ≡ get_or c.args.mark 0 0 + 256 * get_or c.args.mark 1 0
mark-is c = omega (arith, c.from_le_bytes.ensures)

byte-small : (c : After-from_le_bytes) → byte_at c.args.bytes.now c.args.at < 256
byte-small c = search rules

mark-small : (c : After-from_le_bytes) → get_or c.args.mark 0 0 < 256
mark-small c = search rules

pub returns-then-number16_at-from_le_bytes : goal.returns-then-number16_at-from_le_bytes
returns-then-number16_at-from_le_bytes c =
    let mark = c.args.mark in
    let bs = c.args.bytes.now in
    let here = (goal.at.returns-then-number16_at-from_le_bytes c).After-from_le_bytes in
    elim (ℕ_discrete (byte_at bs c.args.at) (get_or mark 0 0)) [
      | no n ↦ simp (le-ltb _ _ c.if-bytes-at.false, ne_eqb _ _ n)
      | yes e ↦
          let n : byte_at bs (c.args.at + 1) ≡ get_or mark 1 0 → ⊥ =
          λ s. c.if-number16_at-from_le_bytes.true (omega (arith, e, s, read-is here, mark-is here)) in
          simp (le-ltb _ _ c.if-bytes-at.false, eq-eqb _ _ e, ne_eqb _ _ n)
    ]

pub returns : goal.returns
returns c =
    let mark = c.args.mark in
    let bs = c.args.bytes.now in
    let here = (goal.at.returns c).After-from_le_bytes in
    let same =
    pair-bytes (byte_at bs c.args.at) (byte_at bs (c.args.at + 1)) (get_or mark 0 0) (get_or mark 1 0)
    (byte-small here)
    (mark-small here)
    (omega (arith, read-is here, mark-is here, c.if-number16_at-from_le_bytes.false)) in
    simp (le-ltb _ _ c.if-bytes-at.false, eq-eqb _ _ same.0, eq-eqb _ _ same.1)
