-- `sheet_line::reading::fields_at` reads one field a turn, each from where the one before ended: after so many turns
-- the first of them stand there, their numbers are kept, and the place is that of the next.
use Prim.Native.Nat.{ℕ, ◌+◌}
use mathlib.Core.Bool.{Bool, false}
use mathlib.Core.List.{List}
use mathlib.Core.Path.{◌≡◌, ap, sym, ◌∙◌}
use native.Mathlib.Omega.{arith}
use Rattle.std.proofs.lemmas.Option.{cond_some}
use Rattle.counting.proofs.lists.ListLaws.{filled_none, filled-stored, filled-all}
use Rattle.counting.proofs.tests.TestLaws.{and_both, all_to-zero, all_to-next, false-all_to}
use Rattle.words.specs.PlainDecimal.{plain_value}
use Rattle.words.proofs.ReadLaws.{cond_none}
use Rattle.sheet_line.specs.declared.reading.Field.{Field}
use Rattle.sheet_line.specs.Line.{behind_digits, field_place, field_in, is_field_at}
use Rattle.sheet_line.specs.inner.Fields.{fields_to}
use Rattle.sheet_line.proofs.ReadingLaws.{field_place-zero, field_place-next, fields_none, fields-some}
use Rattle.sheet_line.proofs.reading.fields_at.Goals as goal

-- field k stands where it should
abbrev is_nth : List ℕ → ℕ → ℕ → Bool
is_nth bs at k = is_field_at bs (field_place bs at k)

pub loop-value-init : goal.loop-value-init
loop-value-init c =
    let args = c.args in (
      sym (field_place-zero args.bytes.now args.at),
      all_to-zero (is_nth args.bytes.now args.at),
      sym (filled_none (field_in args.bytes.now args.at) 6 0),
    )

pub returns-in_err-field : goal.returns-in_err-field
returns-in_err-field c =
    let bs = c.args.bytes.now in
    let turn = c.loop-value in
    let lacks : is_field_at bs turn.next ≡ false =
    cond_none (is_field_at bs turn.next) _ (sym c.in_err-field.ensures) in
    let none : fields_to bs c.args.at 6 ≡ false =
    false-all_to (is_nth bs c.args.at) 6 turn.value-index (omega arith)
    (ap (is_field_at bs) (sym turn.invariant.0) ∙ lacks) in
    c.from_residual.ensures ∙ fields_none bs c.args.at none

pub loop-value-preserved : goal.loop-value-preserved
loop-value-preserved c =
    let bs = c.args.bytes.now in
    let at = c.args.at in
    let turn = c.loop-value in
    let k = turn.value-index in
    let field = c.in_ok-field.field in
    let there : Field = record { value = plain_value bs turn.next; next = behind_digits bs turn.next + 1 } in
    let given = cond_some (is_field_at bs turn.next) there field (sym c.in_ok-field.ensures) in
    let value : field.value ≡ field_in bs at k =
    sym (ap (λ (f : Field). f.value) given.1) ∙ ap (plain_value bs) turn.invariant.0 in (
      sym (ap (λ (f : Field). f.next) given.1)
          ∙ ap (λ p. behind_digits bs p + 1) turn.invariant.0
          ∙ sym (field_place-next bs at k),
      all_to-next (is_nth bs at) k
          ∙ and_both _ _ turn.invariant.1 (ap (is_field_at bs) (sym turn.invariant.0) ∙ given.0),
      filled-stored (field_in bs at) k 6 0 field.value turn.value-items turn.invariant.2 value (omega arith),
    )

pub returns : goal.returns
returns c =
    let bs = c.args.bytes.now in
    let turn = c.loop-value in
    let e : turn.value-index ≡ 6 = omega arith in
    fields-some bs c.args.at turn.value-items turn.next (rw e at turn.invariant.1)
    (rw e at turn.invariant.2 ∙ filled-all (field_in bs c.args.at) 6 0)
    (rw e at turn.invariant.0)
