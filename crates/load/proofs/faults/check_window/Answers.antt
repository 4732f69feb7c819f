-- `load::check_window` asks a window's numbers in their order. Behind each test that is not met the check is what the
-- tests that are left find, so each return is at the first test that is met.
use Prim.Native.Nat.{ℕ}
use mathlib.Core.Path.{◌≡◌, sym, ◌∙◌}
use lib.ListN.{drop}
use borrow.Author.Tests.{eq-eqb, ne_eqb, lt-ltb, le-ltb, le-leb, lt-leb}
use Rattle.refusals.specs.FirstMet.{first_met}
use Rattle.load.specs.Faults.{window_numbers}
use Rattle.load.proofs.faults.check_window.Goals as goal
use Rattle.load.proofs.faults.check_window.Goals.{Start, Else-window-eq0, Else-window-eq0-2, Else-is_outside}
use Rattle.load.proofs.faults.check_window.Goals.{Else-window, Else-row-window, Else-window-before}

-- the call, from behind a test
abbrev call1 : Else-window-eq0 → Start
call1 c = c.before.before

abbrev call2 : Else-window-eq0-2 → Start
call2 c = call1 c.before.before

abbrev call3 : Else-is_outside → Start
call3 c = call2 c.before.before.before

abbrev call4 : Else-window → Start
call4 c = call3 c.before.before

abbrev call5 : Else-row-window → Start
call5 c = call4 c.before.before.before

abbrev call6 : Else-window-before → Start
call6 c = call5 c.before.before

-- the first n tests of the window in hand are not met
abbrev Passed : Start → ℕ → Type 0
Passed c n =
    let tests = window_numbers c.args.row c.args.window c.args.«before» in
    first_met tests ≡ first_met (drop n tests)

passed1 : (c : Else-window-eq0) → Passed (call1 c) 1
passed1 c = simp (ne_eqb _ _ c.if-window-eq0.false)

passed2 : (c : Else-window-eq0-2) → Passed (call2 c) 2
passed2 c = passed1 c.before.before ∙ simp (ne_eqb _ _ c.if-window-eq0-2.false)

passed3 : (c : Else-is_outside) → Passed (call3 c) 3
passed3 c = passed2 c.before.before.before ∙ simp (sym c.is_outside.ensures ∙ c.if-is_outside.false)

passed4 : (c : Else-window) → Passed (call4 c) 4
passed4 c = passed3 c.before.before ∙ simp (lt-leb _ _ c.if-window.false)

passed5 : (c : Else-row-window) → Passed (call5 c) 5
passed5 c = passed4 c.before.before.before ∙ simp (le-ltb _ _ c.if-row-window.false)

passed6 : (c : Else-window-before) → Passed (call6 c) 6
passed6 c = passed5 c.before.before ∙ simp (lt-leb _ _ c.if-window-before.false)

pub returns-then-window-eq0 : goal.returns-then-window-eq0
returns-then-window-eq0 c = simp (eq-eqb _ _ c.if-window-eq0.true)

pub returns-then-window-eq0-2 : goal.returns-then-window-eq0-2
returns-then-window-eq0-2 c = sym (passed1 (goal.at.returns-then-window-eq0-2 c).Else-window-eq0 ∙ simp (eq-eqb
    _ _ c.if-window-eq0-2.true))

pub returns-then-is_outside : goal.returns-then-is_outside
returns-then-is_outside c = sym (passed2 (goal.at.returns-then-is_outside c).Else-window-eq0-2 ∙ simp (sym
    c.is_outside.ensures ∙ c.if-is_outside.true))

pub returns-then-window : goal.returns-then-window
returns-then-window c = sym (passed3 (goal.at.returns-then-window c).Else-is_outside ∙ simp (le-leb _ _
    c.if-window.true))

pub returns-then-row-window : goal.returns-then-row-window
returns-then-row-window c = sym (passed4 (goal.at.returns-then-row-window c).Else-window ∙ simp (lt-ltb _ _
    c.if-row-window.true))

pub returns-then-window-before : goal.returns-then-window-before
returns-then-window-before c = sym (passed5 (goal.at.returns-then-window-before c).Else-row-window ∙ simp
    (le-leb _ _ c.if-window-before.true))

pub returns-then-window-chain_between : goal.returns-then-window-chain_between
returns-then-window-chain_between c =
    sym (passed6 (goal.at.returns-then-window-chain_between c).Else-window-before ∙ simp (
      ←
          c.chain_between.ensures,
      lt-ltb _ _ c.if-window-chain_between.true,
    ))

pub returns : goal.returns
returns c =
    sym (passed6 (goal.at.returns c).Else-window-before ∙ simp (
      ← c.chain_between.ensures,
      le-ltb _ _
          c.if-window-chain_between.false,
    ))
