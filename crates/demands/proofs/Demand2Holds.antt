-- Demand 2 holds: what load files and sheets give, the equations of bound and bench read where nothing is refused, the
-- check that says yes exactly when the rules hold, what the host gets, and twins.
use mathlib.Core.Path.{ap, sym, ◌∙◌}
use Rattle.load.specs.View.{view_of}
use Rattle.load.proofs.AcceptableLaws.{check-registered}
use Rattle.rules.specs.Margins.{bytes_of_margins}
use Rattle.rules.proofs.moves.OneClassLaws.{one-class-move}
use Rattle.bound.proofs.GoodLaws.{
  BoundOf-good,
  MarginsOf-good,
  VerdictOf-good,
  BlamesOf-margins,
  BlamesOf-good,
  PlaceWaitsOf-good,
  AnswersOf-bound,
  AnswersOf-margins,
  AnswersOf-verdict,
  AnswersOf-blames,
  BlamesOf-margins-refused,
  AnswersOf-bound-refused,
  AnswersOf-margins-refused,
  AnswersOf-verdict-refused,
  AnswersOf-blames-refused,
}
use Rattle.schedule.proofs.CheckExactly.{check_schedule-exactly}
use Rattle.bench.specs.Held.{state_of}
use Rattle.demands.specs.NoFactory.{NoFactory}
use Rattle.demands.specs.Demand2.{Demand2}
use Rattle.demands.proofs.moves.MovesHeld.{next-same}
use Rattle.demands.proofs.demand2.FilesHold.{file-good, file-answers}
use Rattle.demands.proofs.demand2.HostHolds.{host-answers}
use Rattle.demands.proofs.demand2.SheetHolds.{sheet-good, sheet-answers}
use Rattle.demands.proofs.demand2.TwinsHold.{twins-answered}

-- a load that is accepted, in memory or as what a file or a sheet reads to, has its facts
no-factory : NoFactory
no-factory =
    record {
      in_memory = λ load e. (check-registered load (sym e)).not-factory;
      in-files = λ bs load b e. (check-registered load (file-good bs load e b)).not-factory;
      in-sheets = λ bs load b e. (check-registered load (sheet-good bs load b e)).not-factory;
    }

pub demand2 : Demand2
demand2 =
    record {
      files = file-answers;
      sheets = sheet-answers;
      no-factory = no-factory;
      bounds = BoundOf-good;
      margins-are = MarginsOf-good;
      margins-written = λ load given e bytes h. h ∙ ap bytes_of_margins (MarginsOf-good load given e);
      verdicts = VerdictOf-good;
      place-waits = PlaceWaitsOf-good;
      blames-are = BlamesOf-good;
      blames-margins = BlamesOf-margins;
      no-blames-margins = BlamesOf-margins-refused;
      together = λ load r e. record {
        bound-is = AnswersOf-bound load r e;
        margins-are = AnswersOf-margins load r e;
        verdict-is = AnswersOf-verdict load r e;
        blames-are = AnswersOf-blames load r e;
      };
      refused-together = λ load refusal e. record {
        no_bound = AnswersOf-bound-refused load refusal e;
        no-margins = AnswersOf-margins-refused load refusal e;
        no-verdict = AnswersOf-verdict-refused load refusal e;
        no-blames = AnswersOf-blames-refused load refusal e;
      };
      moves = λ load bench r good held e. rw e (next-same load (sym good) bench held);
      as_before = λ load class bench r good held one e.
          rw (← one-class-move (view_of load) (state_of bench) class one) (rw e (next-same load (sym good) bench held));
      says-yes = λ load slots r e. rw e (check_schedule-exactly load slots);
      host = host-answers;
      twins = twins-answered;
    }
