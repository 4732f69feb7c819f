-- A board goes on showing its load: with the clock at another moment as it is, and with row i looked up anew once the
-- row's next step is over. The bench that it shows is in no place of memory; it holds the state of the rules.
use Prim.Native.Nat.{ℕ, ◌+◌, ◌≤◌, ◌<◌}
use mathlib.Core.Path.{◌≡◌, refl, ap, ap₂, sym, ◌∙◌, subst}
use mathlib.Core.Logic.{◌≢◌}
use native.Mathlib.Decide.{ℕ_discrete}
use native.Mathlib.Omega.{arith}
use lib.ListN.{get_or}
use lib.Seq.{get_or-set_same, get_or-set_other}
use Rattle.load.specs.declared.Load.{Load}
use Rattle.load.specs.Load.{last_moment, row_at}
use Rattle.load.specs.View.{view_of}
use Rattle.rules.specs.Move.{started_full}
use Rattle.bench.specs.declared.Bench.{Bench}
use Rattle.plan.specs.declared.Look.{Look}
use Rattle.bench.specs.Held.{state_of, HeldBench, bench_at}
use Rattle.plan.specs.Looks.{look_of, look_by}
use Rattle.plan.specs.declared.Board.{Board}
use Rattle.plan.specs.Boards.{look_in}
use Rattle.bench.specs.inner.Boards.{Shows, Renewed}
use Rattle.plan.specs.Choices.{opening_in}
use Rattle.bench.specs.inner.Moves.{bench_started}
use Rattle.bench.specs.inner.Running.{look_after}
use Rattle.bench.proofs.shown.HeldLaws.{bench_started-state}
use Rattle.bench.proofs.shown.LookLaws.{look-of-row}
use Rattle.plan.proofs.SearchLaws.{opening_by-le}
use Rattle.bench.proofs.choice.JoinLaws.{finished-same, steps-same, cost-same}
use Rattle.bench.proofs.choice.ChoiceLaws.{opening-after}

-- a bench once row i's next step, of which a board tells, is over
abbrev pub bench_over : Bench → Board → ℕ → Bench
bench_over bench board i = bench_started bench i (look_in board i).cost (opening_in board bench.clock i)

look-same : (load : Load) (bench bench' : Bench) (k : ℕ) → get_or bench'.finished k 0 ≡ get_or bench.finished k 0
    → get_or bench'.end k 0 ≡ get_or bench.end k 0 → get_or bench'.opening k 0 ≡ get_or bench.opening k 0
    → look_of (view_of load) (state_of bench) k ≡ look_of (view_of load) (state_of bench') k
look-same load bench bench' k e f g =
    sym (look-of-row load bench k)
    ∙ sym (ap₂ (λ a b. look_by (row_at load k) a b (get_or bench'.opening k 0)) e f
    ∙ ap (look_by (row_at load k) _ _) g)
    ∙ look-of-row load bench' k

module _ (load : Load) (bench : Bench) (board : Board) (shows : Shows load bench board) where
  pub shows-at : (t : ℕ) → Shows load (bench_at bench t) board
  shows-at t =
      record {
        wide = shows.wide;
        looks = λ k l. shows.looks k l ∙ look-same load bench (bench_at bench t) k refl refl refl;
        steps-most = shows.steps-most;
        opening-most = shows.opening-most;
      }

  module _ (size : HeldBench bench) (i : ℕ) (l : i < load.rows) (inside : i < 24) where
    abbrev after : Bench
    after = bench_over bench board i

    -- it holds the state after the start
    pub after-state : state_of after ≡ started_full (view_of load) (state_of bench) i
    after-state =
        ap₂ (λ c o. state_of (bench_started bench i c o)) (cost-same load bench board shows i l)
        (opening-after load bench board shows i l)
        ∙ bench_started-state bench size (view_of load) i _ inside

    renewed : look_after (row_at load i) board bench.clock i ≡ look_of (view_of load) (state_of after) i
    renewed =
        sym
        (ap₂ (λ a b. look_by (row_at load i) a b (get_or after.opening i 0))
        (get_or-set_same bench.finished i _ 0 (omega (arith, size.finished-places))
        ∙ ap (λ f. f + 1) (sym (finished-same load bench board shows i l)))
        (get_or-set_same bench.end i _ 0 (omega (arith, size.end-places)))
        ∙ ap (look_by (row_at load i) _ _) (get_or-set_same bench.opening i _ 0 (omega (arith, size.opening-places))))
        ∙ look-of-row load after i

    other : (k : ℕ) → k ≢ i → look_of (view_of load) (state_of bench) k ≡ look_of (view_of load) (state_of after) k
    other k q =
        look-same load bench after k (get_or-set_other bench.finished i k _ 0 q)
        (get_or-set_other bench.end i k _ 0 q) (get_or-set_other bench.opening i k _ 0 q)

    -- the row is looked up anew, and the others are as they were
    pub shows-started : (next : Board) → load.rows ≤ 24
        → Renewed board i (look_after (row_at load i) board bench.clock i) next → bench.clock ≤ last_moment
        → Shows load after next
    unfolding look_of view_of
    shows-started next most renewal early =
        let was = look_in board i in
        record {
          wide = renewal.wide;
          looks = λ k lk. elim (ℕ_discrete k i) [
            | yes q ↦ rw q (renewal.same ∙ renewed)
            | no q ↦ renewal.others k (omega arith) q ∙ shows.looks k lk ∙ other k q
          ];
          steps-most = λ k lk. elim (ℕ_discrete k i) [
            | yes q ↦
                subst (λ (look : Look). look.steps ≤ 8) (sym (ap (look_in next) q ∙ renewal.same))
                (omega (arith, shows.steps-most i l, steps-same load bench board shows i l))
            | no q ↦ subst (λ (look : Look). look.steps ≤ 8) (sym (renewal.others k (omega arith) q))
                (shows.steps-most k lk)
          ];
          opening-most = λ k lk. elim (ℕ_discrete k i) [
            | yes q ↦
                subst (λ (look : Look). look.opening ≤ last_moment) (sym (ap (look_in next) q ∙ renewal.same))
                (opening_by-le was.stays was.opened was.opening bench.clock early)
            | no q ↦ subst (λ (look : Look). look.opening ≤ last_moment) (sym (renewal.others k (omega arith) q))
                (shows.opening-most k lk)
          ];
        }
