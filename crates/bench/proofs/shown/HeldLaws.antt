-- A bench in memory and the state that it holds: a bench as it is held is the bench of its state, and a state of which
-- nothing stands past the 24 places, stored and read again, is itself; what the code stores at a start and at a tick is
-- the bench of the state that the rules say.
use Prim.Native.Nat.{ℕ, ◌+◌, ◌≤◌, ◌<◌}
use mathlib.Core.List.{List}
use mathlib.Core.Path.{◌≡◌, refl, ap, sym, ◌∙◌, fun_ext}
use native.Mathlib.Decide.{dec_lt}
use native.Mathlib.Numerals.{add-one}
use native.Mathlib.Omega.{arith}
use lib.ListN.{length, set, length-set, get_or-eq_default}
use Rattle.counting.specs.Lists.{list_to, changed, member_at}
use Rattle.counting.proofs.lists.ListLaws.{list_to-length, get_or-list_to}
use Rattle.counting.proofs.sums.ChangeLaws.{changed-same, changed-other}
use Rattle.load.specs.Load.{most_rows}
use Rattle.load.specs.View.{View}
use Rattle.rules.specs.State.{State, fresh}
use Rattle.rules.specs.Shape.{Unused}
use Rattle.rules.specs.Move.{opening_after, started, ticked}
use Rattle.bench.specs.declared.Bench.{Bench}
use Rattle.bench.specs.Held.{state_of, bench_of, HeldBench, bench_at}
use Rattle.bench.specs.inner.Moves.{bench_started}
use Rattle.plan.proofs.StoreLaws.{list_to-read, stored}

pub bench_of-state_of : (bench : Bench) → HeldBench bench → bench_of (state_of bench) ≡ bench
unfolding bench_of
bench_of-state_of bench size =
    rw (
      list_to-read 0 bench.finished 24 size.finished-places,
      list_to-read 0 bench.end 24 size.end-places,
      list_to-read 0 bench.opening 24 size.opening-places,
    )

pub bench_of-held : (s : State) → HeldBench (bench_of s)
unfolding bench_of
bench_of-held s =
    record {
      finished-places = list_to-length s.finished most_rows;
      end-places = list_to-length s.end most_rows;
      opening-places = list_to-length s.opening most_rows;
    }

-- nothing stands past the last place
abbrev pub Ends : State → Type 0
Ends s = (i : ℕ) → most_rows ≤ i → Unused s i

member_at-past : (l : List ℕ) (i : ℕ) → length l ≤ i → member_at l i ≡ 0
member_at-past l i h = get_or-eq_default l 0 {n = i} h

pub held-ends : (bench : Bench) → HeldBench bench → Ends (state_of bench)
held-ends bench h i l =
    record {
      no_steps = member_at-past bench.finished i (omega (arith, h.finished-places));
      no_end = member_at-past bench.end i (omega (arith, h.end-places));
      no-opening = member_at-past bench.opening i (omega (arith, h.opening-places));
    }

-- what is stored in 24 places and read again
member_at-list_to : (f : ℕ → ℕ) → ((i : ℕ) → most_rows ≤ i → f i ≡ 0) → (i : ℕ)
    → member_at (list_to f most_rows) i ≡ f i
member_at-list_to f past i =
    elim (dec_lt i most_rows) [
      | yes l ↦ get_or-list_to f most_rows i 0 l
      | no l ↦
          member_at-past (list_to f most_rows) i (omega (arith, list_to-length f most_rows))
          ∙ sym (past i (omega arith))
    ]

pub state_of-bench_of : (s : State) → Ends s → state_of (bench_of s) ≡ s
unfolding bench_of
state_of-bench_of s ends =
    λ k. record {
      clock = s.clock;
      finished = λ i. member_at-list_to s.finished (λ n l. (ends n l).no_steps) i k;
      end = λ i. member_at-list_to s.end (λ n l. (ends n l).no_end) i k;
      opening = λ i. member_at-list_to s.opening (λ n l. (ends n l).no-opening) i k;
    }

pub fresh-state : state_of (bench_of fresh) ≡ fresh
unfolding fresh
fresh-state = state_of-bench_of fresh (λ i l. record { no_steps = refl; no_end = refl; no-opening = refl })

-- a store in a list is a change of what is read
set-changed : (l : List ℕ) (i v : ℕ) → i < length l → member_at (set l i v) ≡ changed (member_at l) i v
set-changed l i v h =
    fun_ext
    (λ k. stored 0 (λ k a. a ≡ changed (member_at l) i v k) l i v h (sym (changed-same (member_at l) i v)) k
    (λ q. sym (changed-other (member_at l) i v k q)))

module _ (bench : Bench) (size : HeldBench bench) where
  pub bench_at-held : (t : ℕ) → HeldBench (bench_at bench t)
  bench_at-held t =
      record {
        finished-places = size.finished-places;
        end-places = size.end-places;
        opening-places = size.opening-places;
      }

  pub bench_started-held : (i long opening : ℕ) → HeldBench (bench_started bench i long opening)
  bench_started-held i long opening =
      record {
        finished-places = length-set bench.finished i (member_at bench.finished i + 1) ∙ size.finished-places;
        end-places = length-set bench.end i (bench.clock + long) ∙ size.end-places;
        opening-places = length-set bench.opening i opening ∙ size.opening-places;
      }

  pub ticked-is : bench_at bench (bench.clock + 1) ≡ bench_of (ticked (state_of bench))
  unfolding ticked
  ticked-is = sym (bench_of-state_of (bench_at bench (bench.clock + 1)) (bench_at-held (bench.clock + 1)))

  module _ (L : View) (i long : ℕ) (inside : i < 24) where
    abbrev after : Bench
    after = bench_started bench i long (opening_after L (state_of bench) i bench.clock)

    pub bench_started-state : state_of after ≡ started L (state_of bench) i long
    unfolding started
    bench_started-state =
        rw (
          set-changed bench.finished i (member_at bench.finished i + 1) (omega (arith, size.finished-places)),
          set-changed bench.end i (bench.clock + long) (omega (arith, size.end-places)),
          set-changed bench.opening i (opening_after L (state_of bench) i bench.clock)
              (omega (arith, size.opening-places)),
          add-one,
        )

    pub bench_started-is : after ≡ bench_of (started L (state_of bench) i long)
    bench_started-is =
        sym (bench_of-state_of after (bench_started-held i long (opening_after L (state_of bench) i bench.clock)))
        ∙ ap bench_of bench_started-state
