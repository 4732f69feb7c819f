-- `sheet_line::reading::mark_at` asks for a dash, then for a number. Where either stands it lies inside, so the place
-- behind it fits.
use Prim.Native.Nat.{◌+◌}
use mathlib.Core.Path.{◌≡◌, ap, ap₂, sym, ◌∙◌}
use native.Mathlib.Omega.{arith}
use borrow.Author.Tests.{eq-eqb, ne_eqb, lt-ltb, le-ltb}
use Rattle.words.specs.LittleEndian.{byte_at}
use Rattle.words.specs.PlainDecimal.{plain_at}
use Rattle.words.proofs.ReadLaws.{given-some, given_none}
use Rattle.sheet_line.specs.declared.Mark.TheVariants.{Nothing, Limit}
use Rattle.sheet_line.specs.LineText.{dash}
use Rattle.sheet_line.specs.Line.{mark_at, behind_mark}
use Rattle.sheet_line.proofs.reading.mark_at.Goals as goal
use Rattle.sheet_line.proofs.reading.mark_at.Goals.{Else-byte_at-eq-DASH}

pub returns-then-byte_at-eq-DASH : goal.returns-then-byte_at-eq-DASH
unfolding mark_at behind_mark
returns-then-byte_at-eq-DASH c =
    let args = c.args in
    rw (eq-eqb (byte_at args.bytes.now args.place) dash (sym c.byte_at.ensures ∙ c.if-byte_at-eq-DASH.true))

-- no dash
other : (c : Else-byte_at-eq-DASH) → byte_at c.args.bytes.now c.args.place ≡ dash → ⊥
other c e = c.if-byte_at-eq-DASH.false (c.byte_at.ensures ∙ e)

pub overflow_add-result-in-Some : goal.overflow_add-result-in-Some
overflow_add-result-in-Some c =
    let read = given-some c.args.bytes.now c.args.place c.in-Some.digits c.in-Some.ensures in
    omega (arith, read.inside)

pub returns-in-Some : goal.returns-in-Some
unfolding mark_at behind_mark
returns-in-Some c =
    let args = c.args in
    let read = given-some args.bytes.now args.place c.in-Some.digits c.in-Some.ensures in
    rw (
      ne_eqb (byte_at args.bytes.now args.place) dash (other (goal.at.returns-in-Some c).Else-byte_at-eq-DASH),
      lt-ltb 0 (plain_at args.bytes.now args.place) read.some,
    )
    (ap₂ (λ v n. record { mark = Limit v; next = args.place + n }) read.value-is read.count-is)

pub returns-in-None : goal.returns-in-None
unfolding mark_at behind_mark
returns-in-None c =
    let args = c.args in
    let none = given_none args.bytes.now args.place c.in-None.ensures in
    rw (
      ne_eqb (byte_at args.bytes.now args.place) dash (other (goal.at.returns-in-None c).Else-byte_at-eq-DASH),
      le-ltb 0 (plain_at args.bytes.now args.place) (omega arith),
    )
    (ap (λ n. record { mark = Nothing; next = n }) (omega arith))
