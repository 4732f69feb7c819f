-- `kept_of` seeks the first step from the certain ones on that is not embedded: where it stops is what the row keeps.
use Rattle.std.proofs.Common.{ℕ, Option, ◌≡◌, ◌∙◌, ap, arith, rules, sym, tests}
use Rattle.std.specs.Prelude.{true, false}
use Rattle.std.specs.Option.{unwrap_or}
use Rattle.std.proofs.lemmas.Iterator.{first_from_Range}
use Rattle.load.specs.View.{row_windows, embedded_among}
use Rattle.bound.specs.inner.CutTerms.{kept_from, kept_of}
use Rattle.bound.proofs.KeptLaws.{kept_from-found}
use Rattle.bound.proofs.cut.kept_of.Goals as goal
use Rattle.bound.proofs.cut.kept_of.Goals.{After-find}

-- what the search gives, and the row's end where it gives nothing
stopped : (c : After-find)
    → unwrap_or c.find.result c.args.row.now.steps ≡ kept_of c.args.row.now c.args.m
stopped c =
    let row = c.args.row.now in
    kept_from-found row c.min-first.result c.find.result (omega (arith, c.min-first.ensures))
    (first_from_Range _ _ _ _ (λ j. embedded_among j (row_windows row) ≡ false)
    (λ j. embedded_among j (row_windows row) ≡ true) c.find.ensures.ran (λ x q k. search (rules, tests))
    (λ x q k. search (rules, tests)))
    ∙ ap (kept_from row) c.min-first.ensures

pub returns-in-Some : goal.returns-in-Some
returns-in-Some c =
    ap (λ (found : Option ℕ). unwrap_or found c.args.row.now.steps) (sym c.in-Some.is)
    ∙ stopped (goal.at.returns-in-Some c).After-find

pub returns-in-None : goal.returns-in-None
returns-in-None c =
    ap (λ (found : Option ℕ). unwrap_or found c.args.row.now.steps) (sym c.in-None.is)
    ∙ stopped (goal.at.returns-in-None c).After-find
