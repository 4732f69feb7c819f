-- Two accepted loads that differ only in identifiers and boxes have the same moves: no wait is kept under an
-- identifier.
use mathlib.Core.Path.{◌≡◌, ap, sym, ◌∙◌}
use Rattle.std.specs.Prelude.{Ok}
use Rattle.load.specs.declared.Load.{Load}
use Rattle.load.specs.Check.{check_load}
use Rattle.load.specs.View.{View}
use Rattle.rules.specs.Move.{move}
use Rattle.rules.specs.SameLoads.{SameLoad}
use Rattle.rules.proofs.bound.SameBound.{view_of-same}
use Rattle.bench.specs.declared.Bench.{Bench}
use Rattle.bench.specs.Held.{state_of, handed_on, next_move}
use Rattle.bench.proofs.choice.NextLaws.{next_move-good}

pub next_move-same : (a b : Load) → SameLoad a b → check_load a ≡ Ok tt → check_load b ≡ Ok tt → (bench : Bench)
    → next_move a bench ≡ next_move b bench
next_move-same a b same ga gb bench =
    next_move-good a bench ga
    ∙ ap (λ (L : View). handed_on bench (move L (state_of bench))) (view_of-same a b same)
    ∙ sym (next_move-good b bench gb)
