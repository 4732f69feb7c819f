-- Rows of a board that are shown: a row of a bench in shape is looked up with no number counted as less, and storing
-- its look shows one row more and leaves the others as they are; and so does storing its class.
use Prim.Native.Nat.{ℕ, min, ◌+◌, ◌≤◌, ◌<◌}
use mathlib.Core.List.{List}
use mathlib.Core.Path.{◌≡◌, refl, ap, ap₂, sym, ◌∙◌, subst}
use native.Mathlib.Decide.{ℕ_discrete}
use native.Mathlib.Omega.{arith}
use lib.ListN.{length, set}
use Rattle.counting.specs.Lists.{member_at}
use Rattle.load.specs.declared.Load.{Load}
use Rattle.load.specs.Load.{most_steps, last_moment, row_at}
use Rattle.load.specs.View.{view_of}
use Rattle.plan.specs.declared.Look.{Look}
use Rattle.plan.specs.Looks.{look_of, look_by}
use Rattle.plan.specs.declared.Board.{Board}
use Rattle.plan.specs.Boards.{look_in}
use Rattle.plan.proofs.StoreLaws.{stored}
use Rattle.bench.specs.declared.Bench.{Bench}
use Rattle.bench.specs.Held.{state_of}
use Rattle.bench.specs.inner.Boards.{Wide, Shows, ClassesOf, Renewed}
use Rattle.bench.proofs.shown.CheckedLaws.{InShape}
use Rattle.bench.proofs.shown.LookLaws.{look-of-row}

-- a board shows row k
pub record Shown (load : Load) (bench : Bench) (board : Board) (k : ℕ) : Type 0 where
  pub look_is : look_in board k ≡ look_of (view_of load) (state_of bench) k
  pub steps-le : (look_in board k).steps ≤ most_steps
  pub opening-le : (look_in board k).opening ≤ last_moment

-- a row of the load, looked up by numbers that are in range
module _ (load : Load) (bench : Bench) (i : ℕ) (steps : (row_at load i).steps ≤ most_steps)
    (shape : InShape (view_of load) (state_of bench) i) (clock : bench.clock ≤ last_moment) where
  finished-most : member_at bench.finished i ≤ most_steps
  unfolding view_of
  finished-most = omega (arith, shape.finished-le)

  pub row-looked : look_by (row_at load i) (min (member_at bench.finished i) most_steps)
      (min (member_at bench.end i) last_moment) (min (member_at bench.opening i) last_moment)
      ≡ look_of (view_of load) (state_of bench) i
  row-looked =
      let f : min (member_at bench.finished i) most_steps ≡ member_at bench.finished i =
      omega (arith, finished-most) in
      let e : min (member_at bench.end i) last_moment ≡ member_at bench.end i =
      omega (arith, shape.end-le) in
      let o : min (member_at bench.opening i) last_moment ≡ member_at bench.opening i =
      omega (arith, shape.opening-le) in
      ap (λ n. look_by (row_at load i) n (min (member_at bench.end i) last_moment)
      (min (member_at bench.opening i) last_moment)) f
      ∙ ap₂ (look_by (row_at load i) (member_at bench.finished i)) e o
      ∙ look-of-row load bench i

  pub row-steps : (look_of (view_of load) (state_of bench) i).steps ≤ most_steps
  unfolding look_of view_of
  row-steps = steps

  pub row-opening : (look_of (view_of load) (state_of bench) i).opening ≤ last_moment
  unfolding look_of
  row-opening = omega (arith, shape.opening-le)

-- the same look has the same numbers
few : {a b : Look} → a ≡ b → b.steps ≤ most_steps → a.steps ≤ most_steps
few e h = subst (λ (look : Look). look.steps ≤ most_steps) (sym e) h

soon : {a b : Look} → a ≡ b → b.opening ≤ last_moment → a.opening ≤ last_moment
soon e h = subst (λ (look : Look). look.opening ≤ last_moment) (sym e) h

-- one row more is shown, once its look is stored
module _ (load : Load) (bench : Bench) (board after : Board) (i : ℕ) (look : Look) (l : i < 24)
    (renewed : Renewed board i look after) (shown : (k : ℕ) → k < i → Shown load bench board k)
    (same : look ≡ look_of (view_of load) (state_of bench) i)
    (steps : (look_of (view_of load) (state_of bench) i).steps ≤ most_steps)
    (opening : (look_of (view_of load) (state_of bench) i).opening ≤ last_moment) where
  pub shown-next : (k : ℕ) → k < i + 1 → Shown load bench after k
  shown-next k b =
      elim (ℕ_discrete k i) [
        | yes q ↦
            (let here = renewed.same ∙ same in
            rw q
            (record { look_is = here; steps-le = few here steps; opening-le = soon here opening }))
        | no q ↦
            (let was = shown k (omega arith) in
            let kept = renewed.others k (omega arith) q in
            record {
              look_is = kept ∙ was.look_is;
              steps-le = few kept was.steps-le;
              opening-le = soon kept was.opening-le;
            })
      ]

-- so that in the end all are
pub shows-all : (load : Load) (bench : Bench) (board : Board) → Wide board
    → ((k : ℕ) → k < load.rows → Shown load bench board k) → Shows load bench board
shows-all load bench board wide shown =
    record {
      wide = wide;
      looks = λ i l. (shown i l).look_is;
      steps-most = λ i l. (shown i l).steps-le;
      opening-most = λ i l. (shown i l).opening-le;
    }

-- one class more
pub classes-next : (load : Load) (classes : List ℕ) (i : ℕ) → i < length classes → ClassesOf load i classes
    → ClassesOf load (i + 1) (set classes i (row_at load i).class)
classes-next load classes i inside told k l =
    stored 0 (λ n v. v ≡ (row_at load n).class) classes i (row_at load i).class inside refl k
    (λ ne. told k (omega arith))
