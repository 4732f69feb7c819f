-- `load::check_fields` asks a row's own fields in their order. Behind each test that is not met the check is what the
-- tests that are left find, so each return is at the first test that is met.
use Prim.Native.Nat.{ℕ}
use mathlib.Core.Path.{◌≡◌, sym, ◌∙◌}
use lib.ListN.{drop}
use borrow.Author.Tests.{eq-eqb, ne_eqb, lt-ltb, le-ltb}
use Rattle.refusals.specs.FirstMet.{first_met}
use Rattle.load.specs.Faults.{row_tests}
use Rattle.load.proofs.faults.check_fields.Goals as goal
use Rattle.load.proofs.faults.check_fields.Goals.{Start, Else-is_outside, Else-is_outside-2, Else-row-gt-LATEST_PHASE}
use Rattle.load.proofs.faults.check_fields.Goals.{Else-is_outside-3, Else-is_outside-4, Else-row-gt-MOST_WINDOWS}
use Rattle.load.proofs.faults.check_fields.Goals.{Else-row-gt-MOST_CLASS, Else-row-ne-ONLY_HEAD}

-- the call, from behind a test
abbrev call1 : Else-is_outside → Start
call1 c = c.before.before

abbrev call2 : Else-is_outside-2 → Start
call2 c = call1 c.before.before

abbrev call3 : Else-row-gt-LATEST_PHASE → Start
call3 c = call2 c.before.before

abbrev call4 : Else-is_outside-3 → Start
call4 c = call3 c.before.before

abbrev call5 : Else-is_outside-4 → Start
call5 c = call4 c.before.before.before

abbrev call6 : Else-row-gt-MOST_WINDOWS → Start
call6 c = call5 c.before.before

abbrev call7 : Else-row-gt-MOST_CLASS → Start
call7 c = call6 c.before.before

abbrev call8 : Else-row-ne-ONLY_HEAD → Start
call8 c = call7 c.before.before

-- the first k tests of the row in hand are not met
abbrev Passed : Start → ℕ → Type 0
Passed c k = let tests = row_tests c.args.row in first_met tests ≡ first_met (drop k tests)

passed1 : (c : Else-is_outside) → Passed (call1 c) 1
unfolding row_tests
passed1 c = simp (sym c.is_outside.ensures ∙ c.if-is_outside.false)

passed2 : (c : Else-is_outside-2) → Passed (call2 c) 2
unfolding row_tests
passed2 c = passed1 c.before.before ∙ simp (sym c.is_outside-2.ensures ∙ c.if-is_outside-2.false)

passed3 : (c : Else-row-gt-LATEST_PHASE) → Passed (call3 c) 3
unfolding row_tests
passed3 c = passed2 c.before.before ∙ simp (le-ltb _ _ c.if-row-gt-LATEST_PHASE.false)

passed4 : (c : Else-is_outside-3) → Passed (call4 c) 4
unfolding row_tests
passed4 c = passed3 c.before.before ∙ simp (sym c.is_outside-3.ensures ∙ c.if-is_outside-3.false)

passed5 : (c : Else-is_outside-4) → Passed (call5 c) 5
unfolding row_tests
passed5 c = passed4 c.before.before.before ∙ simp (sym c.is_outside-4.ensures ∙ c.if-is_outside-4.false)

passed6 : (c : Else-row-gt-MOST_WINDOWS) → Passed (call6 c) 6
unfolding row_tests
passed6 c = passed5 c.before.before ∙ simp (le-ltb _ _ c.if-row-gt-MOST_WINDOWS.false)

passed7 : (c : Else-row-gt-MOST_CLASS) → Passed (call7 c) 7
unfolding row_tests
passed7 c = passed6 c.before.before ∙ simp (le-ltb _ _ c.if-row-gt-MOST_CLASS.false)

passed8 : (c : Else-row-ne-ONLY_HEAD) → Passed (call8 c) 8
unfolding row_tests
passed8 c = passed7 c.before.before ∙ simp (eq-eqb _ _ c.if-row-ne-ONLY_HEAD.false)

pub returns-then-is_outside : goal.returns-then-is_outside
unfolding row_tests
returns-then-is_outside c = simp (sym c.is_outside.ensures ∙ c.if-is_outside.true)

pub returns-then-is_outside-2 : goal.returns-then-is_outside-2
unfolding row_tests
returns-then-is_outside-2 c = sym (passed1 (goal.at.returns-then-is_outside-2 c).Else-is_outside ∙ simp (sym
    c.is_outside-2.ensures ∙ c.if-is_outside-2.true))

pub returns-then-row-gt-LATEST_PHASE : goal.returns-then-row-gt-LATEST_PHASE
unfolding row_tests
returns-then-row-gt-LATEST_PHASE c = sym (passed2 (goal.at.returns-then-row-gt-LATEST_PHASE c).Else-is_outside-2
    ∙ simp (lt-ltb _ _ c.if-row-gt-LATEST_PHASE.true))

pub returns-then-is_outside-3 : goal.returns-then-is_outside-3
unfolding row_tests
returns-then-is_outside-3 c = sym (passed3 (goal.at.returns-then-is_outside-3 c).Else-row-gt-LATEST_PHASE ∙ simp
    (sym c.is_outside-3.ensures ∙ c.if-is_outside-3.true))

pub returns-then-is_outside-4 : goal.returns-then-is_outside-4
unfolding row_tests
returns-then-is_outside-4 c = sym (passed4 (goal.at.returns-then-is_outside-4 c).Else-is_outside-3 ∙ simp (sym
    c.is_outside-4.ensures ∙ c.if-is_outside-4.true))

pub returns-then-row-gt-MOST_WINDOWS : goal.returns-then-row-gt-MOST_WINDOWS
unfolding row_tests
returns-then-row-gt-MOST_WINDOWS c = sym (passed5 (goal.at.returns-then-row-gt-MOST_WINDOWS c).Else-is_outside-4
    ∙ simp (lt-ltb _ _ c.if-row-gt-MOST_WINDOWS.true))

pub returns-then-row-gt-MOST_CLASS : goal.returns-then-row-gt-MOST_CLASS
unfolding row_tests
returns-then-row-gt-MOST_CLASS
    c = sym (passed6 (goal.at.returns-then-row-gt-MOST_CLASS c).Else-row-gt-MOST_WINDOWS ∙ simp (lt-ltb _ _
    c.if-row-gt-MOST_CLASS.true))

pub returns-then-row-ne-ONLY_HEAD : goal.returns-then-row-ne-ONLY_HEAD
unfolding row_tests
returns-then-row-ne-ONLY_HEAD c = sym (passed7 (goal.at.returns-then-row-ne-ONLY_HEAD c).Else-row-gt-MOST_CLASS
    ∙ simp (ne_eqb _ _ c.if-row-ne-ONLY_HEAD.true))

pub returns-then-row-eq-FACTORY_IDENTIFIER : goal.returns-then-row-eq-FACTORY_IDENTIFIER
unfolding row_tests
returns-then-row-eq-FACTORY_IDENTIFIER c = sym (passed8 (goal.at.returns-then-row-eq-FACTORY_IDENTIFIER
    c).Else-row-ne-ONLY_HEAD ∙ simp (eq-eqb _ _ c.if-row-eq-FACTORY_IDENTIFIER.true))

pub returns : goal.returns
unfolding row_tests
returns c = sym
    (passed8 (goal.at.returns c).Else-row-ne-ONLY_HEAD ∙ simp (ne_eqb _ _ c.if-row-eq-FACTORY_IDENTIFIER.false))
