-- Any two results that meet a call's contract are equal.
use Prim.Native.Nat.{ℕ}
use mathlib.Core.List.{List}
use mathlib.Core.Path.{◌≡◌, sym, ◌∙◌}
use Rattle.std.specs.Prelude.{Result}
use Rattle.refusals.specs.declared.Refusal.{Refusal}
use Rattle.refusals.specs.Checked.{Checked}
use Rattle.refusals.proofs.CallLaws.{Given-unique-finding, Given-unique-output}
use Rattle.load.specs.declared.Load.{Load}
use Rattle.bench.specs.declared.Bench.{Bench}
use Rattle.bench.specs.declared.Moved.{Moved}
use Rattle.bench.specs.declared.Ran.{Ran}
use Rattle.bench.specs.Calls.{Fresh, NextMove, Runs, WriteRun}

pub Fresh-unique : (r s : Bench) → Fresh r → Fresh s → r ≡ s
Fresh-unique r s p q = p ∙ sym q

pub NextMove-unique : (load : Load) (bench : Bench) (r s : Moved) → NextMove load bench r → NextMove load bench s
    → r ≡ s
NextMove-unique load bench r s p q = p ∙ sym q

pub Runs-unique : (load : Load) (r s : Result Ran Refusal) → Runs load r → Runs load s → r ≡ s
Runs-unique load r s p q = p ∙ sym q

-- the same finding, and the same output afterwards
pub WriteRun-unique : (bs out : List ℕ) (r s : Checked) (after then : List ℕ) → WriteRun bs out r after
    → WriteRun bs out s then → (r ≡ s) × (after ≡ then)
WriteRun-unique bs out r s after then p q =
    (Given-unique-finding _ _ out r s after then p q, Given-unique-output _ _ out r s after then p q)
