-- Which starts pass the plan: the first row of the stack once it is ready, whose plan afterwards is the plan before, or
-- its tail; and any row while no window is open.
use Prim.Native.Nat.{ℕ, suc, ◌+◌, ◌≤◌, ◌<◌}
use mathlib.Core.Bool.{Bool, true, false, ◌&&◌, cond}
use mathlib.Core.List.{List, [], ◌∷◌}
use mathlib.Core.Logic.{◌≢◌}
use mathlib.Core.Path.{◌≡◌, refl, ap, sym, ◌∙◌, subst}
use native.Mathlib.Decide.{ℕ_discrete}
use native.Mathlib.Omega.{arith}
use lib.Dec.{leb}
use borrow.Author.Tests.{le-leb}
use Rattle.counting.specs.Sorting.{inserted, sorted, by_key}
use Rattle.counting.proofs.tests.TestLaws.{and_left, and_right, and_both, true-false}
use Rattle.counting.proofs.sorting.SortLaws.{Every, Every-map}
use Rattle.counting.proofs.lists.EveryLaws.{numbers_where-one}
use Rattle.counting.proofs.sorting.KeyLaws.{sorted-same, sorted-first-once, sorted_rest}
use Rattle.load.specs.View.{View, embedded, opens_at}
use Rattle.load.proofs.WindowLaws.{opens_at-embedded}
use Rattle.rules.specs.State.{State, fresh, is_open}
use Rattle.rules.specs.Ready.{released}
use Rattle.rules.specs.Plan.{stack_by, finish, in_time_by, due, jobs, stack, plan_passes}
use Rattle.rules.specs.Move.{started, started_full, passes}
use Rattle.rules.proofs.invariant.Runnable.{Runnable}
use Rattle.rules.proofs.moves.MoveLaws.{started-clock, opening_after-kept, opening_after-new}
use Rattle.rules.proofs.plan.PlanLaws.{SameJob, in_time_by-ext, in_time_by-next, in_time_by-none}
use Rattle.rules.proofs.plan.StackLaws.{
  due-is,
  window_left-is,
  every-stack_by,
  stack_by-ext,
  stack_by-none,
  is_open-other,
  is_open-same,
  job-other,
  released-same,
  window_left-same,
  due-same,
}

-- the first row of the stack is open
pub head-there : (L : View) (s : State) (r : ℕ) (rest : List ℕ) → stack L s ≡ r ∷ rest
    → (r < L.rows) × (is_open L s r ≡ true)
head-there L s r rest first =
    (subst (Every (λ i. (i < L.rows) × (is_open L s i ≡ true))) first
    (every-stack_by (is_open L s) (due L s) L.rows (λ i. (i < L.rows) × (is_open L s i ≡ true)) (λ i l o. (l, o)))
    ).0

-- and stands in it once
head-once : (L : View) (s : State) (r : ℕ) (rest : List ℕ) → stack L s ≡ r ∷ rest → Every (λ i. i ≢ r) rest
unfolding stack_by
head-once L s r rest first = sorted-first-once (due L s) (is_open L s) L.rows r rest first

-- where its start closes its window the stack is the rest
stack-rest : (L : View) (s : State) (r : ℕ) (rest : List ℕ) (long : ℕ) → stack L s ≡ r ∷ rest
    → opens_at L r (suc (s.finished r)) ≡ false → stack L (started L s r long) ≡ rest
unfolding stack_by
stack-rest L s r rest long first shut =
    sorted-same (due L s') (due L s) (is_open L s') (is_open L s') L.rows (λ i l. refl)
    (λ i l o. (job-other L s r long i (λ e. true-false (is_open L s' r) (rw e at o) gone)).due-same)
    ∙ sorted_rest (due L s) (is_open L s) L.rows r rest first (is_open L s') gone
    (λ i l ne. is_open-other L s r long i ne)
  where
    s' : State
    s' = started L s r long

    gone : is_open L s' r ≡ false
    gone = is_open-same L s r long ∙ shut

module _ (L : View) (s : State) (g : Runnable L) (r : ℕ) (rest : List ℕ) (first : stack L s ≡ r ∷ rest) where
  pub head-embedded : embedded L r (s.finished r) ≡ true
  head-embedded =
      let h = head-there L s r rest first in
      sym (opens_at-embedded L r (s.finished r)) ∙ h.1

  pub head-passes : released L s r ≤ s.clock → plan_passes L s s.clock ≡ true → passes L s r ≡ true
  unfolding passes
  head-passes ready p = go (embedded L r (suc f)) refl
    where
      f : ℕ
      f = s.finished r

      c : ℕ
      c = L.cost r f

      s' : State
      s' = started_full L s r

      there : r < L.rows
      there = (head-there L s r rest first).0

      inside : embedded L r f ≡ true
      inside = head-embedded

      was : is_open L s r ≡ true
      was = (head-there L s r rest first).1

      t : ℕ
      t = finish (jobs L s) s.clock r

      both : (leb t (due L s r) && in_time_by (jobs L s) t rest) ≡ true
      both = sym (in_time_by-next (jobs L s) s.clock r rest) ∙ (sym (ap (in_time_by (jobs L s) s.clock) first) ∙ p)

      others : (u : ℕ) → in_time_by (jobs L s') u rest ≡ in_time_by (jobs L s) u rest
      others u =
          in_time_by-ext (jobs L s') (jobs L s) u rest
          (Every-map (λ i. i ≢ r) (SameJob (jobs L s') (jobs L s)) rest (job-other L s r c)
          (head-once L s r rest first))

      tail : in_time_by (jobs L s') t rest ≡ true
      tail = others t ∙ and_right (leb t (due L s r)) (in_time_by (jobs L s) t rest) both

      now : s'.clock ≡ s.clock + c
      now = started-clock L s r c

      go : (b : Bool) → embedded L r (suc f) ≡ b → plan_passes L s' s'.clock ≡ true
      go false e =
          let shut : opens_at L r (suc f) ≡ false = opens_at-embedded L r (suc f) ∙ e in
          let q : s'.clock ≡ t =
          omega (arith, now, window_left-is L s r, g.left-last r f there inside e) in
          ap (in_time_by (jobs L s') s'.clock) (stack-rest L s r rest c first shut)
          ∙ ap (λ u. in_time_by (jobs L s') u rest) q
          ∙ tail
      go true e =
          ap (in_time_by (jobs L s') s'.clock) (same ∙ first) ∙ (in_time_by-next (jobs L s') s'.clock r rest ∙ on)
        where
          opened : opens_at L r (suc f) ≡ true
          opened = opens_at-embedded L r (suc f) ∙ e

          kept : due L s' r ≡ due L s r
          kept =
              omega (
                arith,
                due-same L s r c,
                due-is L s r,
                opening_after-kept L s r s.clock was opened,
                g.one-limit r f there inside e,
              )

          same : stack L s' ≡ stack L s
          same =
              stack_by-ext (is_open L s') (is_open L s) (due L s') (due L s) L.rows
              (λ i l. elim (ℕ_discrete i r) [
                | yes q ↦ rw q (is_open-same L s r c ∙ (opened ∙ sym was))
                | no q ↦ is_open-other L s r c i q
              ])
              (λ i l o. elim (ℕ_discrete i r) [ yes q ↦ rw q kept | no q ↦ (job-other L s r c i q).due-same ])

          ends : finish (jobs L s') s'.clock r ≡ t
          ends =
              omega (
                arith,
                now,
                window_left-is L s r,
                window_left-same L s r c,
                released-same L s r c,
                g.left-more r f there inside e,
              )

          on : (leb (finish (jobs L s') s'.clock r) (due L s' r)
              && in_time_by (jobs L s') (finish (jobs L s') s'.clock r) rest) ≡ true
          on =
              rw (ends, kept)
              (and_both (leb t (due L s r)) (in_time_by (jobs L s') t rest)
              (and_left (leb t (due L s r)) (in_time_by (jobs L s) t rest) both) tail)

-- one window alone
stack-one : (L : View) (s : State) (k : ℕ) → k < L.rows → ((i : ℕ) → i < L.rows → i ≢ k → is_open L s i ≡ false)
    → is_open L s k ≡ true → stack L s ≡ k ∷ []
unfolding stack_by sorted inserted
stack-one L s k l h o =
    ap (sorted (by_key (due L s)))
    (numbers_where-one (is_open L s) L.rows k l h ∙ ap (λ b. cond b (k ∷ []) []) o)

-- any next step passes while no window is open
pub free-passes : (L : View) (s : State) (k : ℕ) → Runnable L → k < L.rows
    → ((i : ℕ) → i < L.rows → embedded L i (s.finished i) ≡ false) → passes L s k ≡ true
unfolding passes
free-passes L s k g l none = go (embedded L k (suc (s.finished k))) refl
  where
    f : ℕ
    f = s.finished k

    c : ℕ
    c = L.cost k f

    s' : State
    s' = started_full L s k

    shut : (i : ℕ) → i < L.rows → is_open L s i ≡ false
    shut i li = opens_at-embedded L i (s.finished i) ∙ none i li

    other : (i : ℕ) → i < L.rows → i ≢ k → is_open L s' i ≡ false
    other i li ne = is_open-other L s k c i ne ∙ shut i li

    own : is_open L s' k ≡ embedded L k (suc f)
    own = is_open-same L s k c ∙ opens_at-embedded L k (suc f)

    go : (b : Bool) → embedded L k (suc f) ≡ b → plan_passes L s' s'.clock ≡ true
    go false e =
        let q : stack L s' ≡ [] =
        stack_by-none (is_open L s') (due L s') L.rows
        (λ i li. elim (ℕ_discrete i k) [ yes z ↦ rw z (own ∙ e) | no z ↦ other i li z ]) in
        ap (in_time_by (jobs L s') s'.clock) q ∙ in_time_by-none (jobs L s') s'.clock
    go true e =
        let opened : opens_at L k (suc f) ≡ true = opens_at-embedded L k (suc f) ∙ e in
        let fits : finish (jobs L s') s'.clock k ≤ due L s' k =
        omega (
          arith,
          started-clock L s k c,
          window_left-same L s k c,
          released-same L s k c,
          due-same L s k c,
          opening_after-new L s k s.clock (shut k l) opened,
          g.chain_fits k f l (none k l) e,
        ) in
        ap (in_time_by (jobs L s') s'.clock) (stack-one L s' k l other (own ∙ e))
        ∙ (in_time_by-next (jobs L s') s'.clock k []
        ∙ and_both (leb (finish (jobs L s') s'.clock k) (due L s' k))
        (in_time_by (jobs L s') (finish (jobs L s') s'.clock k) [])
        (le-leb (finish (jobs L s') s'.clock k) (due L s' k) fits)
        (in_time_by-none (jobs L s') (finish (jobs L s') s'.clock k)))

-- and fresh passes
pub fresh-passes : (L : View) → Runnable L → plan_passes L fresh 0 ≡ true
unfolding fresh
fresh-passes L g =
    ap (in_time_by (jobs L fresh) 0)
    (stack_by-none (is_open L fresh) (due L fresh) L.rows (λ i l. opens_at-embedded L i 0 ∙ g.first-free i l))
    ∙ in_time_by-none (jobs L fresh) 0
