-- `frees_at` makes the mark of each row.
use Rattle.std.proofs.Common.{ℕ, ◌∙◌, rules, sym, tests, ltb}
use Rattle.std.specs.Prelude.{cond, false}
use Rattle.counting.proofs.lists.ListLaws.{filled-list_to}
use Rattle.load.specs.Load.{row_at}
use Rattle.bound.specs.inner.Marks.{free_in}
use Rattle.counting.proofs.lists.MadeLaws.{made-list_to}
use Rattle.bound.proofs.places.frees_at.Goals as goal

pub returns : goal.returns
returns c =
    let load = c.args.load.now in
    let at = λ (i : ℕ). cond (ltb i load.rows) (free_in (row_at load i) c.args.j) false in
    made-list_to _ at false 24 _ (λ i y q l k. search (rules, tests)) _ c.from_fn.ensures.items
    ∙ sym (filled-list_to (λ i. free_in (row_at load i) c.args.j) load.rows 24 false c.requires)
