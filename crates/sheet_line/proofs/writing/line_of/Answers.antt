-- `sheet_line::writing::line_of` puts the six numbers, the mark and CR LF behind one another over zeros, and there is
-- room for all of it.
use Prim.Native.Nat.{ℕ, ◌≤◌, ◌<◌}
use mathlib.Core.List.{List, [], ◌∷◌}
use mathlib.Core.Path.{ap, ap₂, ◌∙◌}
use native.Mathlib.Omega.{arith}
use borrow.Author.Rules.{rules}
use mir.Syntax.{w16}
use mir.Val.{Fits}
use Rattle.load.specs.declared.Row.{Row}
use Rattle.load.specs.declared.Step.{Step}
use Rattle.load.specs.Load.{step_at}
use Rattle.sheet_line.specs.declared.LineText.{LineText}
use Rattle.sheet_line.specs.inner.Behind.{behind}
use Rattle.sheet_line.proofs.TextLaws.{fields_text, empty_text, fields_text-length-most, line_bytes-length-le, line-put}
use Rattle.sheet_line.proofs.writing.line_of.Goals as goal
use Rattle.sheet_line.proofs.writing.line_of.Goals.{After-step_at-step, After-with_fields}

-- the numbers of a row's line, of which the last two are those of a step
abbrev numbers : Row → ℕ → ℕ → List ℕ
numbers row cost wait =
    row.identifier.0 ∷ row.box_number.0 ∷ row.phase ∷ row.deadline ∷ cost ∷ wait ∷ []

module _ (c : After-step_at-step) where
  abbrev step : Step
  step = step_at c.args.row c.args.j

  costs : step.cost < 65536
  costs =
      let fits : Fits w16 c.step_at-step.result.cost = search rules in
      omega (arith, ap (λ (s : Step). s.cost) c.step_at-step.ensures)

  waits : step.wait < 65536
  waits =
      let fits : Fits w16 c.step_at-step.result.wait = search rules in
      omega (arith, ap (λ (s : Step). s.wait) c.step_at-step.ensures)

fields-length : (c : After-with_fields) → c.with_fields.result.length ≤ 66
fields-length c =
    let row = c.args.row in
    omega (
      arith,
      ap (λ (t : LineText). t.length) c.with_fields.ensures,
      fields_text-length-most (numbers row c.from.result c.from-2.result) 6,
    )

pub with_mark-marked-requires : goal.with_mark-marked-requires
with_mark-marked-requires c = omega (arith, fields-length (goal.at.with_mark-marked-requires c).After-with_fields)

pub with_bytes-requires : goal.with_bytes-requires
with_bytes-requires c =
    let marked = c.with_mark-marked.ensures in
    let e = ap (λ (t : LineText). t.length) marked.is in
    (omega (arith, fields-length (goal.at.with_bytes-requires c).After-with_fields, marked.few), search rules)

pub returns : goal.returns
returns c =
    let here = (goal.at.returns c).After-step_at-step in
    let row = c.args.row in
    let j = c.args.j in
    line-put row j c.step_at-step.result c.with_fields.result c.with_mark-marked.result
    c.with_bytes.result
    c.step_at-step.ensures
    (c.with_fields.ensures
    ∙ ap₂ (λ cost wait. behind empty_text (fields_text (numbers row cost wait) 6)) c.from.ensures c.from-2.ensures)
    c.with_mark-marked.ensures.is
    c.with_bytes.ensures
    (line_bytes-length-le row j (costs here) (waits here) c.with_mark-marked.ensures.few)
