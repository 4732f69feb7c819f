-- Demand 1 holds: an equation is met, the table gives each refusal a number of its own, the definitions refuse with no
-- other and exactly then, and a refusal leaves what it was lent.
use mathlib.Core.Path.{ap, sym, ◌∙◌}
use Rattle.refusals.proofs.TableLaws.{number_of-apart, number_of-least, number_of-le}
use Rattle.rules.specs.Margins.{margin_bytes}
use Rattle.bench.specs.declared.Moved.{Moved}
use Rattle.reading_bench.specs.Calls.{bound_bytes, verdict_bytes, schedule_file}
use Rattle.demands.specs.Demand1.{Demand1}
use Rattle.demands.proofs.CallsDecided.{every-answer}
use Rattle.demands.proofs.demand1.RefusedAlone.{returned-alone}
use Rattle.demands.proofs.demand1.WritingCalls.{c-keeps}
use Rattle.demands.proofs.demand1.RefusedMoves.{bench-kept}
use Rattle.demands.proofs.demand1.NumbersHold.{numbers}
use Rattle.demands.proofs.demand1.ExactlyHolds.{exactly-then}
use Rattle.demands.proofs.demand1.LoadFirstHolds.{load-first}

pub demand1 : Demand1
demand1 =
    record {
      answered = every-answer;
      numbered = λ refusal n e. rw e (record { least = number_of-least refusal; most = number_of-le refusal });
      apart = λ a b n p q. number_of-apart a b (sym p ∙ q);
      numbers = numbers;
      exactly = exactly-then;
      load-first = load-first;
      alone = returned-alone;
      version-1-stays = λ load out refusal after g. g.output-is;
      version-2-stays = λ load out refusal after g. g.output-is;
      sheet-stays = λ load out refusal after p. p.output-is;
      schedule-stays = λ slots out refusal after g. g.output-is;
      run-stays = λ bs out refusal after g. g.output-is;
      array-stays = λ slots n out refusal after g. g.output-is;
      bound-stays = c-keeps bound_bytes;
      verdict-stays = c-keeps verdict_bytes;
      margins-stay = c-keeps margin_bytes;
      c-schedule-stays = c-keeps schedule_file;
      lines_stay = λ bs out refusal after p. p.output-is;
      blames-stay = λ bs out refusal after p. p.output-is;
      bench-stays = λ load bench refusal r e h.
          e ∙ bench-kept load bench refusal (ap (λ (m : Moved). m.outcome) (sym e) ∙ h);
    }
