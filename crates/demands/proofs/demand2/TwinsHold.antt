-- Two accepted loads that differ in identifiers and boxes alone get the same answers: they have one view, and what is
-- given where nothing is refused is defined over it.
use mathlib.Core.Path.{◌≡◌, sym, ◌∙◌}
use Rattle.std.specs.Prelude.{Ok}
use Rattle.refusals.specs.Given.{given}
use Rattle.load.specs.declared.Load.{Load}
use Rattle.load.specs.Check.{check_load}
use Rattle.rules.specs.SameLoads.{SameLoad}
use Rattle.rules.specs.Run.{schedule}
use Rattle.rules.proofs.bound.SameBound.{
  view_of-same,
  bound-same,
  margins-same,
  verdict-same,
  place_waits-same,
  blames-same,
}
use Rattle.bench.specs.Runs.{ran_with}
use Rattle.bench.proofs.SameMoves.{next_move-same}
use Rattle.demands.specs.Twins.{SameAnswers, Twins}

module _ (a b : Load) (same : SameLoad a b) (ga : check_load a ≡ Ok tt) (gb : check_load b ≡ Ok tt) where
  one-check : check_load a ≡ check_load b
  one-check = ga ∙ sym gb

  same-answers : SameAnswers a b
  same-answers =
      record {
        place-waits = λ r s p q. p ∙ (λ t. given (one-check t) (place_waits-same a b same t)) ∙ sym q;
        bounds = λ r s p q. p ∙ (λ t. given (one-check t) (bound-same a b same t)) ∙ sym q;
        verdicts = λ r s p q. p ∙ (λ t. given (one-check t) (verdict-same a b same t)) ∙ sym q;
        margins = λ r s p q. p ∙ (λ t. given (one-check t) (margins-same a b same t)) ∙ sym q;
        blames = λ r s p q.
            p
            ∙ (λ t. given (one-check t) (record {
              margins = margins-same a b same t;
              blames = blames-same a b same t;
            }))
            ∙ sym q;
        together = λ r s p q.
            p
            ∙ (λ t. given (one-check t) (record {
              bound = bound-same a b same t;
              margins = margins-same a b same t;
              verdict = verdict-same a b same t;
              blames = blames-same a b same t;
            }))
            ∙ sym q;
        moves = λ bench r s p q. p ∙ next_move-same a b same ga gb bench ∙ sym q;
        schedules = λ r s p q.
            p ∙ (λ t. given (one-check t) (ran_with (schedule (view_of-same a b same t)))) ∙ sym q;
      }

pub twins-answered : Twins
twins-answered a b same ga gb = same-answers a b same (sym ga) (sym gb)
