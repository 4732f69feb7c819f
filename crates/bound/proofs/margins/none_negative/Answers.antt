-- `none_negative` asks the first n margins.
use Rattle.std.proofs.Common.{arith, ap, ◌≡◌, min, ◌∙◌, rules, tests}
use Rattle.std.specs.Prelude.{not, pos}
use Rattle.std.proofs.lemmas.Iterator.{YieldsList-from_slice, YieldsList-from_take}
use Rattle.std.proofs.lemmas.Iterator.Search.{all_from_yields_List}
use Rattle.counting.specs.Sums.{all_to}
use Rattle.counting.proofs.lists.TestedLaws.{list_all-take}
use Rattle.rules.specs.Margins.{is_negative, margin_in}
use Rattle.bound.proofs.SignLaws.{is_negative-test}
use Rattle.bound.proofs.margins.none_negative.Goals as goal

pub returns : goal.returns
returns c =
    let margins = c.args.margins.now in
    let few : min c.args.n 24 ≡ c.args.n = omega arith in
    all_from_yields_List (λ z. not (is_negative z)) _ _ _ c.all.ensures.ran
    (YieldsList-from_take c.args.n (YieldsList-from_slice margins cc) cc)
    (λ x b q k. search (rules, tests, is_negative-test))
    ∙ list_all-take (λ z. not (is_negative z)) (pos 0) c.args.n 24 margins (search rules)
    ∙ ap (all_to (λ i. not (is_negative (margin_in margins i)))) few
