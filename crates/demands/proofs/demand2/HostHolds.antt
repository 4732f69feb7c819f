-- What C and the programs get: a file that is read as a load is not refused, and the load that its bytes spell is that
-- load, so that the answer given is that load's.
use Prim.Native.Nat.{ℕ}
use mathlib.Core.Bool.{Bool, true, false}
use mathlib.Core.List.{List, [], ◌∷◌}
use mathlib.Core.Path.{◌≡◌, ap, sym, ◌∙◌, subst}
use Rattle.refusals.specs.declared.Refusal.{Refusal}
use Rattle.std.specs.Prelude.{Ok, Err}
use Rattle.refusals.specs.Refusals.{number_of, number_given}
use Rattle.refusals.specs.FirstMet.{first_fault}
use Rattle.refusals.specs.Given.{room_for, WritesOut}
use Rattle.refusals.proofs.GivenLaws.{given-is, WritesOut-given}
use Rattle.load.specs.declared.Load.{Load}
use Rattle.load.specs.View.{View, view_of}
use Rattle.load_file.specs.Places.{load_in}
use Rattle.load_file.specs.Calls.{ReadLoad}
use Rattle.load_file.proofs.CallLaws.{ReadLoad-good, ReadLoad-load, ReadLoad-refused}
use Rattle.rules.specs.Margins.{margin_bytes}
use Rattle.reading_bench.specs.Calls.{Numbered, ForC, bound_bytes, verdict_bytes, schedule_file}
use Rattle.lines.specs.Lines.{printed_by}
use Rattle.lines.specs.Calls.{text_holding}
use Rattle.lines.proofs.PrintedLaws.{text-taken}
use Rattle.lines.proofs.LengthLaws.{printed_by-le}
use Rattle.lines.proofs.PrintedFront.{printed_by-front}
use Rattle.demands.specs.HostAnswers.{GivesAnswer, Prints, HostAnswers}

answers : (answer : View → List ℕ) → GivesAnswer (ForC answer) answer
answers answer bs load m out n after c =
    subst (λ (l : Load). Numbered (Ok tt) (answer (view_of l)) out n after) (sym (ReadLoad-load bs load m))
    (subst (λ f. Numbered f (answer (view_of (load_in bs))) out n after) (ReadLoad-good bs load m) c)

refused-number : (answer : View → List ℕ) (bs : List ℕ) (refusal : Refusal) → ReadLoad bs (Err refusal)
    → (out : List ℕ) (n : ℕ) (after : List ℕ) → ForC answer bs out n after → n ≡ number_of refusal
refused-number answer bs refusal m out n after c =
    c.number_is
    ∙ ap number_given
    (c.given.finding-is
    ∙ ap (λ f. first_fault (f ∷ room_for (answer (view_of (load_in bs))) out ∷ [])) (ReadLoad-refused bs refusal m))

prints : (blamed : Bool)
    → Prints (printed_by blamed) (λ bs r. r ≡ text_holding (printed_by blamed bs))
    (λ bs out r after. WritesOut (Ok tt) (printed_by blamed bs) out r after)
prints blamed =
    record {
      texts = λ bs r e. text-taken (printed_by blamed bs) r e;
      texts-fit = printed_by-le blamed;
      fronts = λ bs r e. e ∙ ap text_holding (sym (printed_by-front blamed bs));
      lines = λ bs out r after p. WritesOut-given (Ok tt) (printed_by blamed bs) out r after p;
      lines-counted = λ bs out n after p. given-is _ _ n p.length-is;
    }

pub host-answers : HostAnswers
host-answers =
    record {
      bounds = answers bound_bytes;
      verdicts = answers verdict_bytes;
      margins = answers margin_bytes;
      schedules = answers schedule_file;
      bounds-refused = refused-number bound_bytes;
      verdicts-refused = refused-number verdict_bytes;
      margins-refused = refused-number margin_bytes;
      schedules-refused = refused-number schedule_file;
      program = prints false;
      blames = prints true;
    }
