-- `waits_below` adds the largest W of one place a turn, and stores the sum at the next place.
use Rattle.std.proofs.Common.{◌+◌, List, ◌≡◌, ◌∙◌, ap, arith, refl, replicate, rules}
use Rattle.counting.specs.Sums.{sum_to}
use Rattle.counting.specs.Lists.{join_to, filled}
use Rattle.counting.proofs.sums.SumLaws.{sum_to-next}
use Rattle.counting.proofs.lists.ListLaws.{filled-stored, filled-all}
use Rattle.rules.specs.declared.LargestW.{LargestW}
use Rattle.bound.specs.inner.CutTerms.{place_in, waits_below}
use Rattle.bound.proofs.bounds.waits_below.Goals as goal

-- below the first place there is no W
first : (places : List LargestW) → replicate 8 0 ≡ filled (waits_below places) 1 8 0
unfolding sum_to join_to
first places = refl

none : (places : List LargestW) → 0 ≡ waits_below places 0
unfolding sum_to
none places = refl

pub loop-k-init : goal.loop-k-init
loop-k-init c =
    record { so_far = none c.args.places.now; few = search rules; stored = first c.args.places.now }

pub loop-k-preserved : goal.loop-k-preserved
loop-k-preserved c =
    let loop = c.loop-k in
    let places = c.args.places.now in
    let more : loop.sum + (place_in places loop.k).left ≡ waits_below places (loop.k + 1) =
    omega (arith, sum_to-next (λ j. (place_in places j).left) loop.k, loop.invariant.so_far)
    in
    record {
      so_far = more;
      few = search rules;
      stored =
          filled-stored (waits_below places) (loop.k + 1) 8 0 _ loop.sums loop.invariant.stored more (omega arith);
    }

pub returns : goal.returns
returns c =
    let places = c.args.places.now in
    let e : c.loop-k.k + 1 ≡ 8 = omega arith in
    c.loop-k.invariant.stored ∙ ap (λ k. filled (waits_below places) k 8 0) e ∙ filled-all (waits_below places) 8 0
