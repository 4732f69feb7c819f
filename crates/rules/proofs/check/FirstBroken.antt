-- 13 to 17 are given exactly when the rule is the first that is met: the tests of all slots end in one of two ways,
-- none breaks a rule or one rule is the first broken, and no two rules are the first.
use Prim.Native.Nat.{ℕ, zero, suc, ◌≤◌, ◌<◌}
use mathlib.Core.Bool.{Bool, true, false}
use mathlib.Core.List.{List}
use mathlib.Core.Logic.{◌↔◌}
use mathlib.Core.Path.{◌≡◌, refl, ap, sym, ◌∙◌, subst}
use native.Mathlib.Decide.{ℕ_discrete, dec_lt}
use native.Mathlib.Omega.{arith}
use lib.ListN.{length}
use Rattle.std.specs.Prelude.{Ok, Err}
use Rattle.refusals.specs.Refusals.{number_given}
use Rattle.refusals.specs.FirstMet.{first_fault_to}
use Rattle.refusals.proofs.FirstMetLaws.{good-refused}
use Rattle.load.specs.Load.{shown}
use Rattle.load.specs.View.{View}
use Rattle.load.specs.Acceptable.{Acceptable}
use Rattle.rules.specs.declared.Slot.{Slot}
use Rattle.rules.specs.Slots.{slot_at}
use Rattle.rules.specs.Check.{slot_fault}
use Rattle.rules.specs.FirstBroken.{Rule, thirteen, refusal_for, Breaks, FirstBroken}
use Rattle.rules.proofs.slots.SlotLaws.{of_row}
use Rattle.rules.proofs.slots.NextLaws.{NextTo}
use Rattle.rules.proofs.check.BrokenTests.{asks13, met13, unmet13}
use Rattle.rules.proofs.check.BrokenSlot.{
  numbered,
  rule-same,
  numbered-range,
  KeepsBelow,
  Way,
  fine,
  broken,
  way,
}

module _ (L : View) (ok : Acceptable L) (slots : List Slot) where
  -- no slot before place n breaks a rule
  abbrev FineTo : ℕ → Type 0
  FineTo n = (rule : Rule) (h : ℕ) → h < n → ¬ Breaks rule L slots h

  next-to : (n : ℕ) → FineTo n → NextTo slots n
  next-to n f h l = go (asks13 L slots h) refl
    where
      go : (a : Bool) → asks13 L slots h ≡ a → (slot_at slots h).step ≡ shown (of_row slots (slot_at slots h).row h)
      go true q = absurd (f thirteen h l (met13 L slots h q))
      go false q = (unmet13 L slots h q).next

  -- and those of all slots below n
  data Ways (n : ℕ) : Type 0 where
    all-fine : first_fault_to (slot_fault L slots) n ≡ Ok tt → FineTo n → Ways n
    one : (rule : Rule) → first_fault_to (slot_fault L slots) n ≡ Err (refusal_for rule) → (k : ℕ) → k < n
        → Breaks rule L slots k → KeepsBelow L ok slots (numbered rule) k → FineTo k → Ways n

  -- one slot more
  extend : (n : ℕ) → n < length slots → Ways n → Ways (suc n)
  unfolding first_fault_to
  extend n l (one rule e k lk b low f) = one rule (rw e) k (omega arith) b low f
  extend n l (all-fine e f) = go (way L ok slots n l (next-to n f))
    where
      also : ((rule : Rule) → ¬ Breaks rule L slots n) → FineTo (suc n)
      also g rule h lh =
          elim (ℕ_discrete h n) [
            | yes q ↦ (λ b. g rule (subst (λ y. Breaks rule L slots y) q b))
            | no q ↦ f rule h (omega arith)
          ]

      go : Way L ok slots n → Ways (suc n)
      go (fine q g) = all-fine (rw (e, q)) (also g)
      go (broken rule q b low) = one rule (rw (e, q)) n (omega arith) b low f

  ways : (n : ℕ) → n ≤ length slots → Ways n
  unfolding first_fault_to
  ways zero l = all-fine refl (λ rule h lh. absurd (omega arith))
  ways (suc n) l = extend n l (ways n (omega arith))

  -- no two rules are the first
  first-unique : (a b : Rule) → FirstBroken L slots a → FirstBroken L slots b → a ≡ b
  first-unique a b f g =
      elim (dec_lt f.place g.place) [
        | yes l ↦ absurd (g.none_before a f.place l f.broken)
        | no l ↦ elim (dec_lt g.place f.place) [
          | yes m ↦ absurd (f.none_before b g.place m g.broken)
          | no m ↦ rule-same a b (same (omega arith))
        ]
      ]
    where
      same : f.place ≡ g.place → numbered a ≡ numbered b
      same e =
          elim (dec_lt (numbered a) (numbered b)) [
            | yes l ↦
                absurd (g.none-lower a l (subst (λ y. Breaks a L slots y) e f.broken))
            | no l ↦ elim (dec_lt (numbered b) (numbered a)) [
              | yes m ↦ absurd (f.none-lower b m (subst (λ y. Breaks b L slots y) (sym e) g.broken))
              | no m ↦ omega arith
            ]
          ]

  -- what the slots are refused with is the first rule that is met
  pub first-given : (rule : Rule)
      → (first_fault_to (slot_fault L slots) (length slots) ≡ Err (refusal_for rule)) ↔ FirstBroken L slots rule
  first-given rule = (λ e. to (ways (length slots) (omega arith)) e, λ f. from (ways (length slots) (omega arith)) f)
    where
      to : Ways (length slots) → first_fault_to (slot_fault L slots) (length slots) ≡ Err (refusal_for rule)
          → FirstBroken L slots rule
      to (all-fine q f) e = absurd (good-refused _ _ q e)
      to (one own q k l b low f) e =
          subst (λ (r : Rule). FirstBroken L slots r)
          (rule-same own rule (ap number_given (sym q ∙ e)))
          (record { place = k; below = l; broken = b; none-lower = low; none_before = f })

      from : Ways (length slots) → FirstBroken L slots rule
          → first_fault_to (slot_fault L slots) (length slots) ≡ Err (refusal_for rule)
      from (all-fine q f) g = absurd (f rule g.place g.below g.broken)
      from (one own q k l b low f) g =
          q
          ∙ ap (λ (r : Rule). Err (refusal_for r))
          (first-unique own rule
          (record { place = k; below = l; broken = b; none-lower = low; none_before = f }) g)

  -- and nothing else: not 12
  pub found_number : ¬ (number_given (first_fault_to (slot_fault L slots) (length slots)) ≡ 12)
  found_number e = go (ways (length slots) (omega arith))
    where
      go : Ways (length slots) → ⊥
      go (all-fine q f) = omega (arith, ap number_given q)
      go (one rule q k l b low f) = omega (arith, ap number_given q, (numbered-range rule).0)
