-- `any_marked` asks the marks of the first n rows.
use Rattle.std.proofs.Common.{arith, ap, ◌≡◌, min, ◌∙◌, rules, tests}
use Rattle.std.specs.Prelude.{false}
use Rattle.std.proofs.lemmas.Iterator.{YieldsList-from_slice, YieldsList-from_take}
use Rattle.std.proofs.lemmas.Iterator.Search.{any_from_yields_List}
use Rattle.counting.specs.Sums.{any_to}
use Rattle.counting.specs.Lists.{is_marked}
use Rattle.counting.proofs.lists.TestedLaws.{list_any-take}
use Rattle.bound.proofs.waits.any_marked.Goals as goal

pub returns : goal.returns
returns c =
    let marks = c.args.marks.now in
    let few : min c.args.n 24 ≡ c.args.n = omega arith in
    any_from_yields_List (λ b. b) _ _ _ c.any.ensures.ran
    (YieldsList-from_take c.args.n (YieldsList-from_slice marks cc) cc)
    (λ x b q k. search (rules, tests))
    ∙ list_any-take (λ b. b) false c.args.n 24 marks (search rules)
    ∙ ap (any_to (is_marked marks)) few
