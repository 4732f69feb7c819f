-- `identifier_taken` asks the first n places.
use Rattle.std.proofs.Common.{ap, arith, eqb, get_or, rules, ◌∙◌}
use Rattle.counting.specs.Sums.{any_to}
use Rattle.counting.proofs.lists.TestedLaws.{list_any-take}
use Rattle.load.proofs.taken.identifier_taken.Goals as goal

pub returns : goal.returns
returns c =
    c.is_held.ensures
    ∙ list_any-take (λ x. eqb x.0 c.args.identifier.0) (record { 0 = 0 }) _ 24 c.args.identifiers (search rules)
    ∙ ap (any_to (λ k. eqb (get_or c.args.identifiers k (record { 0 = 0 })).0 c.args.identifier.0)) (omega arith)
