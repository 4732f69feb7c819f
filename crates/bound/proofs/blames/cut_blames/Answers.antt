-- `cut_blames` looks at one place a turn, keeps the worst so far, and stores it for the next number of steps.
use Prim.Native.Nat.{◌+◌}
use mathlib.Core.List.{List}
use mathlib.Core.Path.{◌≡◌, sym, ◌∙◌, ap}
use native.Mathlib.Omega.{arith}
use lib.ListN.{replicate}
use Rattle.counting.specs.Sums.{max_to}
use Rattle.counting.specs.Lists.{filled}
use Rattle.counting.proofs.sums.SumLaws.{max_to-zero}
use Rattle.counting.proofs.lists.ListLaws.{filled_none, filled-stored, filled-all}
use Rattle.rules.specs.declared.LargestW.{LargestW}
use Rattle.rules.specs.Blame.{nobody, blame_among}
use Rattle.rules.proofs.bound.BlameLaws.{blame_among-zero}
use Rattle.bound.specs.inner.CutTerms.{place_in}
use Rattle.bound.proofs.PlacesRead.{worse-turn, other-turn}
use Rattle.bound.proofs.blames.cut_blames.Goals as goal
use Rattle.bound.proofs.blames.cut_blames.Goals.{then-most-place, else-most-place}

-- below the first place nobody is blamed
first : (places : List LargestW) → replicate 8 nobody ≡ filled (blame_among (place_in places)) 1 8 nobody
first places =
    filled-stored (blame_among (place_in places)) 0 8 nobody nobody (replicate 8 nobody) (sym (filled_none _ 8 nobody))
    (blame_among-zero (place_in places)) (omega arith)

pub loop-k-init : goal.loop-k-init
loop-k-init c =
    let places = c.args.places.now in
    record { largest = sym (max_to-zero _); blamed = blame_among-zero (place_in places); stored = first places }

pub loop-k-preserved : goal.loop-k-preserved
loop-k-preserved c =
    let loop = c.loop-k in
    let places = c.args.places.now in
    let now : (c.if-most-place.most ≡ max_to (λ j. (place_in places j).left) (loop.k + 1))
    × (c.if-most-place.worst ≡ blame_among (place_in places) (loop.k + 1)) =
    elim c.if-most-place.branch [
      | then-most-place w ↦
          let turn = worse-turn places loop.k loop.most loop.invariant.largest w.if-most-place.true in
          (w.most-is ∙ turn.0, w.worst-is ∙ turn.1)
      | else-most-place w ↦
          let turn =
          other-turn places loop.k loop.most loop.invariant.largest loop.worst loop.invariant.blamed
          w.if-most-place.false
          in
          (w.most-is ∙ turn.0, w.worst-is ∙ turn.1)
    ]
    in
    record {
      largest = now.0;
      blamed = now.1;
      stored =
          filled-stored (blame_among (place_in places)) (loop.k + 1) 8 nobody _ loop.blames loop.invariant.stored now.1
          (omega arith);
    }

pub returns : goal.returns
returns c =
    let places = c.args.places.now in
    let e : c.loop-k.k + 1 ≡ 8 = omega arith in
    c.loop-k.invariant.stored
    ∙ ap (λ k. filled (blame_among (place_in places)) k 8 nobody) e
    ∙ filled-all (blame_among (place_in places)) 8 nobody
