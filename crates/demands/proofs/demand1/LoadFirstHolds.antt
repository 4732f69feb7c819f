-- The load comes first: each relation names the check's own finding, or takes it as the first of its findings.
use mathlib.Core.Path.{◌≡◌, ap, sym, ◌∙◌}
use mathlib.Core.List.{List}
use Rattle.refusals.specs.declared.Refusal.{Refusal}
use Rattle.refusals.specs.Checked.{Checked}
use Rattle.std.specs.Prelude.{length, Err}
use Rattle.refusals.specs.FirstMet.{and_then}
use Rattle.refusals.specs.Given.{found_in, given}
use Rattle.refusals.proofs.GivenLaws.{found_in-given}
use Rattle.load.specs.declared.Load.{Load}
use Rattle.load.specs.Check.{check_load}
use Rattle.load.specs.Plain.{check_plain}
use Rattle.sheet.specs.Writing.{sheet_bytes}
use Rattle.rules.specs.declared.Slot.{Slot}
use Rattle.rules.specs.Check.{check_schedule}
use Rattle.schedule.specs.Calls.{first_slots}
use Rattle.bench.specs.declared.Moved.{Moved}
use Rattle.bench.proofs.choice.NextLaws.{next_move-refused}
use Rattle.demands.specs.LoadFirst.{LoadFirst}

-- a finding that refuses decides, whatever comes behind it
first-refused : (found : Checked) (behind : Checked) (refusal : Refusal) → found ≡ Err refusal
    → and_then found behind ≡ Err refusal
first-refused found behind refusal e = rw e

check-refused : (load : Load) (slots : List Slot) (refusal : Refusal) → check_load load ≡ Err refusal
    → check_schedule load slots ≡ Err refusal
unfolding check_schedule
check-refused load slots refusal e = first-refused (check_load load) _ refusal e

plain-refused : (load : Load) (refusal : Refusal) → check_load load ≡ Err refusal
    → check_plain load ≡ Err refusal
unfolding check_plain
plain-refused load refusal e = first-refused (check_load load) _ refusal e

pub load-first : LoadFirst
load-first =
    record {
      alike = λ load found c. record {
        place-waits-of = λ r e. ap found_in e ∙ found_in-given (check_load load) _ ∙ sym c;
        answers_of = λ r e. ap found_in e ∙ found_in-given (check_load load) _ ∙ sym c;
        bound_of = λ r e. ap found_in e ∙ found_in-given (check_load load) _ ∙ sym c;
        margins-of = λ r e. ap found_in e ∙ found_in-given (check_load load) _ ∙ sym c;
        verdict-of = λ r e. ap found_in e ∙ found_in-given (check_load load) _ ∙ sym c;
        blames-of = λ r e. ap found_in e ∙ found_in-given (check_load load) _ ∙ sym c;
        run = λ r e. ap found_in e ∙ found_in-given (check_load load) _ ∙ sym c;
      };
      first = λ load refusal c. record {
        next-move = λ bench r e.
            ap (λ (x : Moved). x.outcome) (e ∙ next_move-refused load bench refusal (sym c));
        check-schedule = λ slots r e. e ∙ check-refused load slots refusal (sym c);
        check-array = λ slots n r e. e ∙ check-refused load (first_slots slots n) refusal (sym c);
        check-plain = λ r e. e ∙ plain-refused load refusal (sym c);
        write-version-1 = λ out r after g.
            g.finding-is ∙ first-refused (check_plain load) _ refusal (plain-refused load refusal (sym c));
        write-version-2 = λ out r after g. g.finding-is ∙ first-refused (check_load load) _ refusal (sym c);
        write-sheet = λ out r after p.
            p.length-is
            ∙ ap (λ f. given f (length (sheet_bytes load)))
            (first-refused (check_plain load) _ refusal (plain-refused load refusal (sym c)));
      };
    }
