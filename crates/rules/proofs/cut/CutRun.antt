-- A row ends by the bound of the load cut at the row's number of steps, in any setting that the cut loads share: these
-- run through the same states until the row is finished, so the bound holds until then, and a finished row stays as it
-- is.
use Prim.Native.Nat.{ℕ, zero, suc, ◌≤◌, ◌<◌}
use mathlib.Core.Bool.{Bool, true, false}
use mathlib.Core.Logic.{◌≢◌}
use mathlib.Core.Path.{◌≡◌, refl, ap, sym, ◌∙◌, subst}
use native.Mathlib.Decide.{dec_lt}
use native.Mathlib.Omega.{arith}
use Rattle.counting.specs.Searches.{Found, at, none}
use Rattle.load.specs.View.{View}
use Rattle.rules.specs.Cut.{kept, cut}
use Rattle.rules.specs.Bound.{bound_by}
use Rattle.rules.specs.State.{State, fresh}
use Rattle.rules.specs.Move.{Moved, ticked, chosen, all_finished, start_or_idle_by, move_by}
use Rattle.rules.specs.Run.{state_after_by}
use Rattle.rules.proofs.cut.CutLaws.{first_kept-le, kept-le, steps-of-cut}
use Rattle.rules.proofs.invariant.Setting.{Long, Gives, Charge, Charging, Setting}
use Rattle.rules.proofs.moves.MoveLaws.{
  Turn,
  starts,
  idles,
  started-finished-other,
  started-end-other,
  chosen_at,
  can_start-is_candidate,
}
use Rattle.rules.proofs.moves.MoveRefused.{left-unfinished}
use Rattle.rules.proofs.invariant.MoveKeeps.{Accounted, accounted-done, accounted-turn, accounted-goes}
use Rattle.rules.proofs.run.RunLaws.{state_after-next, run-accounted, run-clock}
use Rattle.rules.proofs.cut.CutRunnable.{runnable-of-cut}
use Rattle.rules.proofs.cut.CutMoves.{candidate-alike, chosen-same}

-- a finished row stays as it is
record Stays (s t : State) (z : ℕ) : Type 0 where
  finished-same : t.finished z ≡ s.finished z
  end_same : t.end z ≡ s.end z

move-stays : (L : View) (s : State) (z : ℕ) {long : Long} {gives : Gives} {charged : Charge}
    → Setting L long gives charged → Accounted gives charged L s → L.steps z ≤ s.finished z
    → Stays s (move_by long L s).then z
unfolding ticked
move-stays L s z {long} g v h = go (all_finished L s) refl
  where
    by : Turn long L s → Stays s (move_by long L s).then z
    by (starts i c e) =
        let ne : z ≢ i = λ q. omega (arith, c.more, ap L.steps q, ap s.finished q) in
        let d = long i (s.finished i) in
        rw e
        (record {
          finished-same = started-finished-other L s i d z ne;
          end_same = started-end-other L s i d z ne;
        })
    by (idles no_one e) = rw e (record { finished-same = refl; end_same = refl })

    go : (b : Bool) → all_finished L s ≡ b → Stays s (move_by long L s).then z
    go true d = rw (accounted-done L s g v d) (record { finished-same = refl; end_same = refl })
    go false d = by (accounted-turn L s g v d)

module _ (L : View) {long : Long} {gives : Gives} {charged : Charge} (g : Setting L long gives charged)
    (cuts : (m : ℕ) → 1 ≤ m → Charging (cut L m) long gives charged) (z : ℕ) (lz : z < L.rows) where
  abbrev m : ℕ
  m = L.steps z

  abbrev K : View
  K = cut L m

  g_k : Setting K long gives charged
  unfolding cut
  g_k =
      record {
        runnable = runnable-of-cut L m g.runnable (g.runnable.steps-least z lz);
        lengths = record {
          least = λ i j l h. g.lengths.least i j l (omega (arith, kept-le L m i));
          most = λ i j l h. g.lengths.most i j l (omega (arith, kept-le L m i));
        };
        charging = cuts m (g.runnable.steps-least z lz);
      }

  lz' : z < K.rows
  unfolding cut
  lz' = lz

  -- the two loads move alike
  move_same : (s : State) → Accounted gives charged L s → Accounted gives charged K s → s.finished z < L.steps z
      → (move_by long K s).then ≡ (move_by long L s).then
  unfolding cut
  move_same s v v_k late =
      ap (λ (w : Moved). w.then) (accounted-goes K s g_k v_k n_k)
      ∙ (ap (λ f. (start_or_idle_by long K s f).then) (chosen-same L m g.runnable s inside z lz (omega arith) late)
      ∙ (go (chosen L s) refl ∙ sym (ap (λ (w : Moved). w.then) (accounted-goes L s g v n_l))))
    where
      inside : (i : ℕ) → i < L.rows → s.finished i ≤ kept L m i
      inside i l = omega (arith, v_k.invariant.shape.finished-le i l, steps-of-cut L m i)

      n_l : all_finished L s ≡ false
      n_l = left-unfinished L s (record { row = z; there = lz; left = late })

      n_k : all_finished K s ≡ false
      n_k =
          left-unfinished K s
          (record { row = z; there = lz'; left = omega (arith, steps-of-cut L m z, first_kept-le L m z) })

      go : (f : Found) → chosen L s ≡ f → (start_or_idle_by long K s f).then ≡ (start_or_idle_by long L s f).then
      go none e = refl
      go (at i) e =
          let c = chosen_at L s i e in
          candidate-alike L m g.runnable s inside z lz (omega arith) late i (long i (s.finished i)) c.there
          (can_start-is_candidate L s i c)

  -- until the row is finished the two run through the same states; from then on it has ended by the cut load's bound
  record Race (t : ℕ) : Type 0 where
    still : (state_after_by long L t fresh).finished z < L.steps z
        → state_after_by long K t fresh ≡ state_after_by long L t fresh
    over : L.steps z ≤ (state_after_by long L t fresh).finished z → (state_after_by long L t fresh).end z
        ≤ bound_by gives K

  start-race : Race 0
  unfolding state_after_by fresh
  start-race = record { still = λ _. refl; over = λ _. omega arith }

  next-race : (t : ℕ) → Race t → Race (suc t)
  unfolding cut
  next-race t r =
      elim (dec_lt (s.finished z) (L.steps z)) [
        | yes late ↦
            (let same : state_after_by long K (suc t) fresh ≡ state_after_by long L (suc t) fresh =
            state_after-next long K t fresh
            ∙ (ap (λ x. (move_by long K x).then) (r.still late)
            ∙ (alike late ∙ sym (state_after-next long L t fresh))) in
            let v = run-accounted K g_k (suc t) in
            record {
              still = λ _. same;
              over = λ _.
                  (omega (
                    arith,
                    ap (λ (x : State). x.end z) same,
                    v.invariant.shape.end-le z lz,
                    run-clock K g_k (suc t),
                  ));
            })
        | no done ↦
            (let o = move-stays L s z g (run-accounted L g t) (omega arith) in
            let e = state_after-next long L t fresh in
            record {
              still = λ l. absurd (omega (arith, o.finished-same, ap (λ (x : State). x.finished z) e));
              over = λ _. omega (arith, o.end_same, ap (λ (x : State). x.end z) e, r.over (omega arith));
            })
      ]
    where
      s : State
      s = state_after_by long L t fresh

      alike : s.finished z < L.steps z → (move_by long K s).then ≡ (move_by long L s).then
      alike late =
          move_same s (run-accounted L g t) (subst (Accounted gives charged K) (r.still late) (run-accounted K g_k t))
          late

  race : (t : ℕ) → Race t
  race zero = start-race
  race (suc t) = next-race t (race t)

  -- the row has ended by the cut load's bound
  pub row-in-bound : (t : ℕ) → L.steps z ≤ (state_after_by long L t fresh).finished z
      → (state_after_by long L t fresh).end z ≤ bound_by gives (cut L (L.steps z))
  row-in-bound t h = (race t).over h
