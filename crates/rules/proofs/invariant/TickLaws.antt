-- What a tick changes: nothing that is spent, and the time that has passed of an embedded wait. When a next step is
-- allowed, and that what is left of a free wait is at most the largest W.
use Prim.Native.Nat.{ℕ, zero, suc, ◌+◌, ◌-◌, ◌≤◌, ◌<◌, min}
use mathlib.Core.Bool.{Bool, true, false, cond, ◌||◌}
use mathlib.Core.Path.{◌≡◌, refl, subst}
use native.Mathlib.Omega.{arith}
use borrow.Author.Tests.{leb-true, le-leb}
use Rattle.counting.specs.Sums.{max_to, all_to}
use Rattle.counting.proofs.tests.TestLaws.{all_to-true, true-all_to, true-false}
use Rattle.counting.proofs.sums.SumLaws.{sum_to-mono, value-le-max_to}
use Rattle.counting.proofs.sums.ChangeLaws.{sum_to-change-ge}
use Rattle.load.specs.View.{View, embedded, is_free}
use Rattle.rules.specs.Bound.{wait_left, largest_w}
use Rattle.rules.specs.State.{State}
use Rattle.rules.specs.Ready.{release, released, finished_below, is_allowed}
use Rattle.rules.specs.Move.{ticked}
use Rattle.rules.proofs.invariant.Setting.{Gives, AllBelow}
use Rattle.rules.proofs.invariant.Invariant.{spent, waited_row, waited_of, waited, waited_row-mono}

pub allowed-embedded : (L : View) (s : State) (i : ℕ) → embedded L i (s.finished i) ≡ true → is_allowed L s i ≡ true
unfolding is_allowed
allowed-embedded L s i e = rw e

-- an allowed next step that is free is a lowest one
pub allowed-free : (L : View) (s : State) (i : ℕ) → is_allowed L s i ≡ true → embedded L i (s.finished i) ≡ false
    → AllBelow L s (s.finished i)
unfolding is_allowed
allowed-free L s i allowed free k l = go (embedded L i (s.finished i)) free allowed
  where
    go : (b : Bool) → b ≡ false → (b || all_to (finished_below L s (s.finished i)) L.rows) ≡ true
        → min (s.finished i) (L.steps k) ≤ s.finished k
    go true e h = absurd (true-false true refl e)
    go false e h =
        leb-true (min (s.finished i) (L.steps k)) (s.finished k)
        (all_to-true (finished_below L s (s.finished i)) L.rows h k l)

-- and a lowest next step is allowed
pub allowed-lowest : (L : View) (s : State) (i : ℕ) → AllBelow L s (s.finished i) → is_allowed L s i ≡ true
unfolding is_allowed
allowed-lowest L s i h =
    go (embedded L i (s.finished i))
    (true-all_to (finished_below L s (s.finished i)) L.rows
    (λ k l. le-leb (min (s.finished i) (L.steps k)) (s.finished k) (h k l)))
  where
    go : (b : Bool) → all_to (finished_below L s (s.finished i)) L.rows ≡ true
        → (b || all_to (finished_below L s (s.finished i)) L.rows) ≡ true
    go true e = refl
    go false e = e

-- a tick leaves what is spent
pub tick-spent : (L : View) (s : State) → spent L (ticked s) ≡ spent L s
unfolding spent ticked
tick-spent L s = refl

pub tick-waited : (L : View) (s : State) → waited L s ≤ waited L (ticked s)
unfolding waited ticked
tick-waited L s =
    sum_to-mono (waited_of L s) (waited_of L (ticked s)) L.rows
    (λ i l. waited_row-mono L i (s.finished i) (s.clock - s.end i) (s.clock + 1 - s.end i) (omega arith))

-- a tick inside row r's embedded wait
waited_row-more : (L : View) (i f since ended : ℕ) → embedded L i f ≡ true → embedded L i 0 ≡ false
    → ended + since < release L i f ended → waited_row L i f since + 1 ≤ waited_row L i f (since + 1)
waited_row-more L i zero since ended e h w = absurd (true-false (embedded L i 0) e h)
waited_row-more L i (suc j) since ended e h w = rw e (omega arith)

pub tick-waited-more : (L : View) (s : State) (r : ℕ) → r < L.rows → embedded L r (s.finished r) ≡ true
    → embedded L r 0 ≡ false → s.end r ≤ s.clock → s.clock < released L s r → waited L s + 1 ≤ waited L (ticked s)
unfolding waited ticked
tick-waited-more L s r lr e free le lt =
    let later : s.clock - s.end r + 1 ≡ s.clock + 1 - s.end r = omega arith in
    sum_to-change-ge (waited_of L s) (waited_of L (ticked s)) L.rows r 1 lr
    (λ i l ne. waited_row-mono L i (s.finished i) (s.clock - s.end i) (s.clock + 1 - s.end i) (omega arith))
    (subst (λ x. waited_of L s r + 1 ≤ waited_row L r (s.finished r) x) later
    (waited_row-more L r (s.finished r) (s.clock - s.end r) (s.end r) e free (omega arith)))

pub wait_left-le : (gives : Gives) (L : View) (p i : ℕ) → i < L.rows → is_free L i (suc p) ≡ true
    → L.wait i p - gives L p i ≤ largest_w gives L p
unfolding largest_w
wait_left-le gives L p i l e =
    subst (λ b. cond b (L.wait i p - gives L p i) 0 ≤ max_to (wait_left gives L p) L.rows) e
    (value-le-max_to (wait_left gives L p) L.rows i l)
