-- The tests of a slot, where none before it breaks a rule, end in one of two ways: it keeps all five rules, or it
-- breaks the one whose number is found and keeps those of lower numbers.
use Prim.Native.Nat.{ℕ, suc, ◌≤◌, ◌<◌}
use mathlib.Core.Bool.{Bool, true, false, cond, ◌||◌}
use mathlib.Core.List.{List}
use mathlib.Core.Path.{◌≡◌, refl, ap, sym, ◌∙◌, subst}
use native.Mathlib.Decide.{ℕ_discrete}
use native.Mathlib.Omega.{arith}
use lib.Dec.{eqb, ltb}
use lib.ListN.{length}
use Rattle.refusals.specs.declared.Refusal.TheVariants.{NoSuchSlot, SlotOverlaps, SlotEarly, WindowLate, RowLate}
use Rattle.refusals.specs.Checked.{Checked}
use Rattle.std.specs.Prelude.{Ok, Err}
use Rattle.refusals.specs.Refusals.{number_of}
use Rattle.load.specs.Load.{last_moment}
use Rattle.load.specs.View.{View}
use Rattle.load.specs.Acceptable.{Acceptable}
use Rattle.rules.specs.declared.Slot.{Slot}
use Rattle.rules.specs.Slots.{slot_at}
use Rattle.rules.specs.Check.{
  names_no_step,
  not_next,
  overlaps,
  starts_early,
  ends_window_late,
  ends_row_late,
  slot_tests,
  slot_fault,
}
use Rattle.rules.specs.FirstBroken.{
  Rule,
  thirteen,
  fourteen,
  fifteen,
  sixteen,
  seventeen,
  refusal_for,
  Breaks,
}
use Rattle.rules.proofs.slots.NextLaws.{NextTo}
use Rattle.rules.proofs.check.BrokenTests.{
  Named,
  asks13,
  met13,
  unmet13,
  named-right,
  met14,
  unmet14,
  met17,
  unmet17,
}
use Rattle.rules.proofs.check.BrokenBefore.{met15, unmet15, met16, unmet16}

-- a rule's number
abbrev pub numbered : Rule → ℕ
numbered rule = number_of (refusal_for rule)

-- the rule of a number
rule_of : ℕ → Rule
rule_of n =
    cond (eqb n 13) thirteen (cond (eqb n 14) fourteen (cond (eqb n 15) fifteen (cond (eqb n 16) sixteen seventeen)))

rule_of-numbered : (rule : Rule) → rule_of (numbered rule) ≡ rule
unfolding rule_of
rule_of-numbered thirteen = refl
rule_of-numbered fourteen = refl
rule_of-numbered fifteen = refl
rule_of-numbered sixteen = refl
rule_of-numbered seventeen = refl

pub rule-same : (a b : Rule) → numbered a ≡ numbered b → a ≡ b
rule-same a b e = sym (rule_of-numbered a) ∙ ap rule_of e ∙ rule_of-numbered b

-- they are 13 to 17
pub numbered-range : (rule : Rule) → (13 ≤ numbered rule) × (numbered rule < 18)
numbered-range thirteen = (omega arith, omega arith)
numbered-range fourteen = (omega arith, omega arith)
numbered-range fifteen = (omega arith, omega arith)
numbered-range sixteen = (omega arith, omega arith)
numbered-range seventeen = (omega arith, omega arith)

-- the tests of a slot, those of 13 as one
five : (a b c d e : Bool) → Checked
five a b c d e =
    cond a (Err NoSuchSlot)
    (cond b (Err SlotOverlaps)
    (cond c (Err SlotEarly) (cond d (Err WindowLate) (cond e (Err RowLate) (Ok tt)))))

module _ (L : View) (ok : Acceptable L) (slots : List Slot) where
  slot_fault-five : (k : ℕ) → slot_fault L slots k
      ≡ five (asks13 L slots k) (overlaps L slots k (slot_at slots k)) (starts_early L slots (slot_at slots k))
      (ends_window_late L slots (slot_at slots k)) (ends_row_late L (slot_at slots k))
  unfolding slot_tests five
  slot_fault-five k = go (names_no_step L x) (not_next slots k x) (ltb last_moment x.start) _
    where
      x : Slot
      x = slot_at slots k

      go : (p q r : Bool) (rest : Checked)
          → cond p (Err NoSuchSlot) (cond q (Err NoSuchSlot) (cond r (Err NoSuchSlot) rest))
          ≡ cond (p || q || r) (Err NoSuchSlot) rest
      go true q r rest = refl
      go false true r rest = refl
      go false false true rest = refl
      go false false false rest = refl

  -- a slot keeps the rules whose numbers are below n
  abbrev pub KeepsBelow : ℕ → ℕ → Type 0
  KeepsBelow n k = (other : Rule) → numbered other < n → ¬ Breaks other L slots k

  keeps_below-13 : (k : ℕ) → KeepsBelow 13 k
  keeps_below-13 k other l = absurd (omega (arith, (numbered-range other).0))

  -- one rule more
  keep : (k : ℕ) (rule : Rule) → KeepsBelow (numbered rule) k → ¬ Breaks rule L slots k
      → KeepsBelow (suc (numbered rule)) k
  keep k rule low mine other l =
      elim (ℕ_discrete (numbered other) (numbered rule)) [
        | yes e ↦ (λ b. mine (subst (λ (r : Rule). Breaks r L slots k) (rule-same other rule e) b))
        | no e ↦ low other (omega arith)
      ]

  -- the two ways in which the tests of a slot end
  pub data Way (k : ℕ) : Type 0 where
    fine : slot_fault L slots k ≡ Ok tt → ((rule : Rule) → ¬ Breaks rule L slots k) → Way k
    broken : (rule : Rule) → slot_fault L slots k ≡ Err (refusal_for rule) → Breaks rule L slots k
        → KeepsBelow (numbered rule) k → Way k

  pub way : (k : ℕ) → k < length slots → NextTo slots k → Way k
  unfolding five
  way k l before = first (asks13 L slots k) refl (slot_fault-five k)
    where
      x : Slot
      x = slot_at slots k

      fifth : KeepsBelow 17 k → (e : Bool) → ends_row_late L (slot_at slots k) ≡ e
          → slot_fault L slots k ≡ five false false false false e → Way k
      fifth low true q is = broken seventeen is (met17 L slots k q) low
      fifth low false q is =
          fine is (λ rule. keep k seventeen low (unmet17 L slots k q) rule (numbered-range rule).1)

      fourth : Named L slots k → KeepsBelow 16 k → (d : Bool) → ends_window_late L slots (slot_at slots k) ≡ d
          → slot_fault L slots k ≡ five false false false d (ends_row_late L (slot_at slots k)) → Way k
      fourth n low true q is = broken sixteen is (met16 L slots k l before n ok q) low
      fourth n low false q is = fifth (keep k sixteen low (unmet16 L slots k l before n ok q)) _ refl is

      third : Named L slots k → KeepsBelow 15 k → (c : Bool) → starts_early L slots (slot_at slots k) ≡ c
          → slot_fault L slots k
          ≡ five false false c (ends_window_late L slots (slot_at slots k)) (ends_row_late L (slot_at slots k))
          → Way k
      third n low true q is = broken fifteen is (met15 L slots k l before n q) low
      third n low false q is = fourth n (keep k fifteen low (unmet15 L slots k l before n q)) _ refl is

      keeps_below-14 : Named L slots k → KeepsBelow 14 k
      keeps_below-14 n = keep k thirteen (keeps_below-13 k) (named-right L slots k n)

      second : Named L slots k → (b : Bool) → overlaps L slots k (slot_at slots k) ≡ b
          → slot_fault L slots k
          ≡ five false b (starts_early L slots (slot_at slots k)) (ends_window_late L slots (slot_at slots k))
          (ends_row_late L (slot_at slots k))
          → Way k
      second n true q is = broken fourteen is (met14 L slots k q) (keeps_below-14 n)
      second n false q is = third n (keep k fourteen (keeps_below-14 n) (unmet14 L slots k q)) _ refl is

      first : (a : Bool) → asks13 L slots k ≡ a
          → slot_fault L slots k
          ≡ five a (overlaps L slots k (slot_at slots k)) (starts_early L slots (slot_at slots k))
          (ends_window_late L slots (slot_at slots k)) (ends_row_late L (slot_at slots k))
          → Way k
      first true q is = broken thirteen is (met13 L slots k q) (keeps_below-13 k)
      first false q is = second (unmet13 L slots k q) _ refl is
