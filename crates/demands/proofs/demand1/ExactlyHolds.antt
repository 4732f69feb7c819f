-- Loads, states and schedules are refused exactly then: the check of a load is Good exactly of its facts, a move of a
-- load in order is the rules' and the slots of one are looked at by the rules; and a load that is not in order is
-- refused with a load's own numbers alone.
use Prim.Native.Nat.{ℕ}
use mathlib.Core.Bool.{false}
use mathlib.Core.List.{List, ◌∷◌}
use mathlib.Core.Logic.{◌↔◌}
use mathlib.Core.Path.{◌≡◌, refl, ap, sym, ◌∙◌}
use lib.Dec.{eqb}
use Rattle.counting.specs.Lists.{any_in}
use Rattle.counting.proofs.tests.TestLaws.{true-false}
use Rattle.refusals.specs.declared.Refusal.{Refusal}
use Rattle.refusals.specs.declared.Refusal.TheVariants.{StateShape, ClockFull, SlotCount}
use Rattle.refusals.specs.Checked.{Checked}
use Rattle.std.specs.Prelude.{Ok, Err}
use Rattle.refusals.specs.Refusals.{number_of, number_given}
use Rattle.refusals.proofs.FirstMetLaws.{and_then-last}
use Rattle.load.specs.declared.Load.{Load}
use Rattle.load.specs.View.{view_of}
use Rattle.load.specs.Check.{check_load}
use Rattle.load.proofs.AcceptableLaws.{check-acceptable, check-registered, check-placed}
use Rattle.load.proofs.AcceptableGood.{acceptable-check}
use Rattle.rules.specs.declared.Slot.{Slot}
use Rattle.rules.specs.declared.Outcome.{Outcome}
use Rattle.rules.specs.declared.Outcome.TheVariants as outcome
use Rattle.rules.specs.Outcomes.{told_by}
use Rattle.rules.specs.Move.{move}
use Rattle.rules.specs.Check.{check_slots, check_schedule}
use Rattle.rules.specs.FirstBroken.{Rule, thirteen, fourteen, fifteen, sixteen, seventeen, refusal_for}
use Rattle.rules.proofs.moves.MoveRefused.{shape-refused, clock-refused}
use Rattle.rules.proofs.check.CheckGiven.{count-given, rule-given}
use Rattle.bench.specs.declared.Bench.{Bench}
use Rattle.bench.specs.declared.Moved.{Moved}
use Rattle.schedule.specs.Calls.{CheckSchedule}
use Rattle.bench.specs.Held.{state_of}
use Rattle.bench.specs.Calls.{NextMove}
use Rattle.bench.proofs.choice.NextLaws.{next_move-good, next_move-refused}
use Rattle.demands.specs.NumberLists.{OneOf, of_load}
use Rattle.demands.specs.ExactlyThen.{InOrder, Then, ExactlyThen}
use Rattle.demands.proofs.demand1.CallNumbers.{load_gives}

good-order : (load : Load) → (check_load load ≡ Ok tt) ↔ InOrder load
good-order load = (
  λ e. record {
    acceptable = check-acceptable load e;
    registered = check-registered load e;
    placed = check-placed load e;
  },
  λ o. acceptable-check load o.acceptable o.registered o.placed,
)

-- a number is none of a load's own, and not 0
abbrev NotOfLoad : ℕ → Type 0
NotOfLoad n = any_in (eqb n) (0 ∷ of_load) ≡ false

-- the numbers of slots are not
rule-other : (rule : Rule) → NotOfLoad (number_of (refusal_for rule))
unfolding any_in
rule-other thirteen = refl
rule-other fourteen = refl
rule-other fifteen = refl
rule-other sixteen = refl
rule-other seventeen = refl

module _ (load : Load) where
  -- what is given only of a load in order, and then exactly when P holds, is given exactly when both do
  both : (given P : Type 0) → (given → check_load load ≡ Ok tt) → (check_load load ≡ Ok tt → given ↔ P)
      → given ↔ Then load P
  both given P order exactly = (
    λ g. record { in_order = (good-order load).0 (order g); holds = (exactly (order g)).0 g },
    λ t. (exactly ((good-order load).1 t.in_order)).1 t.holds,
  )

  -- a number that is none of a load's own is given of a load in order
  module _ (number : ℕ) (other : NotOfLoad number)
      (own : (refusal : Refusal) → check_load load ≡ Err refusal → number_of refusal ≡ number) where
    in_order : check_load load ≡ Ok tt
    in_order = go (check_load load) refl (load_gives load).passes
      where
        go : (found : Checked) → check_load load ≡ found → OneOf of_load (number_given found) → check_load load ≡ Ok tt
        go (Ok tt) q o = q
        go (Err refusal) q o =
            absurd (true-false _ o (ap (λ n. any_in (eqb n) (0 ∷ of_load)) (own refusal q) ∙ other))

  -- of a move
  module _ (bench : Bench) (r : Moved) (m : NextMove load bench r) where
    move-order : (refusal : Refusal) → NotOfLoad (number_of refusal) → r.outcome ≡ outcome.Refused refusal
        → check_load load ≡ Ok tt
    move-order refusal other e =
        in_order (number_of refusal) other
        (λ own q. ap (λ (x : Moved). (told_by x.outcome).number) (sym (m ∙ next_move-refused load bench own q))
        ∙ ap (λ (o : Outcome). (told_by o).number) e)

    same_move : check_load load ≡ Ok tt → r.outcome ≡ (move (view_of load) (state_of bench)).outcome
    same_move q = ap (λ (x : Moved). x.outcome) (m ∙ next_move-good load bench q)

    move-exactly : (refusal : Refusal) (P : Type 0) → NotOfLoad (number_of refusal)
        → ((move (view_of load) (state_of bench)).outcome ≡ outcome.Refused refusal) ↔ P
        → (r.outcome ≡ outcome.Refused refusal) ↔ Then load P
    move-exactly refusal P other rules =
        both (r.outcome ≡ outcome.Refused refusal) P (move-order refusal other)
        (λ q. (λ e. rules.0 (sym (same_move q) ∙ e), λ p. same_move q ∙ rules.1 p))

  -- of a schedule
  module _ (slots : List Slot) (r : Checked) (m : CheckSchedule load slots r) where
    check-order : (refusal : Refusal) → NotOfLoad (number_of refusal) → r ≡ Err refusal → check_load load ≡ Ok tt
    unfolding check_schedule
    check-order refusal other e =
        in_order (number_of refusal) other
        (λ own q. ap number_given (sym (let z : check_schedule load slots ≡ Err own = rw q in z) ∙ sym m ∙ e))

    same_check : check_load load ≡ Ok tt → r ≡ check_slots (view_of load) slots
    unfolding check_schedule
    same_check q = m ∙ rw q (and_then-last (check_slots (view_of load) slots))

    check-exactly : (refusal : Refusal) (P : Type 0) → NotOfLoad (number_of refusal)
        → (check_load load ≡ Ok tt → (check_slots (view_of load) slots ≡ Err refusal) ↔ P)
        → (r ≡ Err refusal) ↔ Then load P
    check-exactly refusal P other rules =
        both (r ≡ Err refusal) P (check-order refusal other)
        (λ q. (λ e. (rules q).0 (sym (same_check q) ∙ e), λ p. same_check q ∙ (rules q).1 p))

pub exactly-then : ExactlyThen
unfolding any_in
exactly-then =
    record {
      accepted = λ load r e. (λ g. (good-order load).0 (sym e ∙ g), λ o. e ∙ (good-order load).1 o);
      ten = λ load bench r m.
          move-exactly load bench r m StateShape _ refl (shape-refused (view_of load) (state_of bench));
      eleven = λ load bench r m.
          move-exactly load bench r m ClockFull _ refl (clock-refused (view_of load) (state_of bench));
      twelve = λ load slots r m.
          check-exactly load slots r m SlotCount _ refl
          (λ q. count-given (view_of load) (check-acceptable load q) slots);
      from-thirteen = λ load slots r m rule.
          check-exactly load slots r m (refusal_for rule) _ (rule-other rule)
          (λ q. rule-given (view_of load) (check-acceptable load q) slots rule);
    }
