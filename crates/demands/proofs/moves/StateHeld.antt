-- A move leaves nothing past the 24 places of memory where nothing stood before it.
use Prim.Native.Nat.{ℕ, ◌≤◌, ◌<◌}
use mathlib.Core.Path.{◌≡◌, refl, ◌∙◌}
use native.Mathlib.Omega.{arith}
use Rattle.counting.specs.Searches.{Found, at, none}
use Rattle.load.specs.Load.{most_rows}
use Rattle.load.specs.View.{View}
use Rattle.rules.specs.State.{State}
use Rattle.rules.specs.Move.{started, ticked, start_or_idle_by, chosen, move}
use Rattle.rules.proofs.moves.MoveLaws.{
  started-finished-other,
  started-end-other,
  started-opening-other,
  Way,
  unshaped,
  finished,
  full,
  goes,
  move-way,
  chosen_at,
}
use Rattle.bench.proofs.shown.HeldLaws.{Ends}

module _ (L : View) (s : State) (few : L.rows ≤ most_rows) (ends : Ends s) where
  ticked-ends : Ends (ticked s)
  unfolding ticked
  ticked-ends i l =
      let u = ends i l in
      record { no_steps = u.no_steps; no_end = u.no_end; no-opening = u.no-opening }

  started-ends : (k long : ℕ) → k < L.rows → Ends (started L s k long)
  started-ends k long there i l =
      let apart : i ≡ k → ⊥ = λ e. omega (arith, e) in
      record {
        no_steps = started-finished-other L s k long i apart ∙ (ends i l).no_steps;
        no_end = started-end-other L s k long i apart ∙ (ends i l).no_end;
        no-opening = started-opening-other L s k long i apart ∙ (ends i l).no-opening;
      }

  choice-ends : (choice : Found) → chosen L s ≡ choice → Ends (start_or_idle_by L.cost L s choice).then
  choice-ends (at k) e = started-ends k (L.cost k (s.finished k)) (chosen_at L s k e).there
  choice-ends none e = ticked-ends

  pub move-ends : Ends (move L s).then
  move-ends = go (move-way L.cost L s)
    where
      go : Way L.cost L s → Ends (move L s).then
      go (unshaped e q) = rw q ends
      go (finished e q) = rw q ends
      go (full e d l q) = rw q ends
      go (goes e q) = rw q (choice-ends (chosen L s) refl)
