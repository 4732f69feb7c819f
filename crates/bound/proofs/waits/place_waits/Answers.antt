-- `place_waits` stores the largest W of one place a turn: it marks the rows of the place and asks for the largest of
-- what is left there, where some wait there is free.
use Prim.Native.Nat.{ℕ, ◌+◌, ◌≤◌}
use mathlib.Core.Bool.{Bool, false, ◌&&◌}
use mathlib.Core.List.{List}
use mathlib.Core.Path.{◌≡◌, refl, sym, ◌∙◌, ap, ap₂}
use native.Mathlib.Omega.{arith}
use borrow.Author.Rules.{rules}
use borrow.Author.Tests.{tests}
use Rattle.counting.specs.Sums.{any_to}
use Rattle.counting.specs.Lists.{filled, is_marked, list_to}
use Rattle.counting.proofs.lists.ListLaws.{filled_none, filled-stored, filled-skipped, filled-all, get_or-list_to}
use Rattle.load.specs.declared.Load.{Load}
use Rattle.load.specs.Load.{row_at}
use Rattle.load.specs.View.{view_of, embedded}
use Rattle.rules.specs.Bound.{smallest_costs}
use Rattle.rules.specs.Blame.{none_left, largest_at, place_waits}
use Rattle.bound.specs.inner.Marks.{free_in, frees_at}
use Rattle.bound.proofs.AcceptedLaws.{accepted-few}
use Rattle.counting.proofs.lists.MadeLaws.{made-list_to}
use Rattle.bound.proofs.PlaceLaws.{AtPlace, read, paired-cost, largest_at-read, largest_at-none}
use Rattle.bound.proofs.waits.place_waits.Goals as goal
use Rattle.bound.proofs.waits.place_waits.Goals.{then-any_marked, else-any_marked}

-- marks that are taken from a load are those of the place: a row is paired where it is marked here and at the next
placed : (load : Load) (j : ℕ) (here pairs frees : List Bool) → load.rows ≤ 24
    → pairs ≡ list_to (λ i. is_marked here i && is_marked frees i) 24
    → here ≡ frees_at load j → frees ≡ frees_at load (j + 1) → AtPlace (view_of load) j pairs frees
unfolding view_of embedded
placed load j here pairs frees few p h f =
    record {
      pairs_is = λ k l.
          ap (λ l. is_marked l k) p
          ∙ get_or-list_to (λ i. is_marked here i && is_marked frees i) 24 k false (omega arith)
          ∙ ap₂ ◌&&◌ (read (λ i. free_in (row_at load i) j) load.rows 24 false here h k l)
          (read (λ i. free_in (row_at load i) (j + 1)) load.rows 24 false frees f k l);
      frees-is = f;
    }

-- where no row's wait is free, there is no W
unfree : (load : Load) (j : ℕ) (frees : List Bool) → frees ≡ frees_at load (j + 1)
    → any_to (is_marked frees) load.rows ≡ false → none_left ≡ largest_at smallest_costs (view_of load) j
unfolding view_of embedded
unfree load j frees f none = largest_at-none (view_of load) j frees f none

pub largest_left-requires : goal.largest_left-requires
unfolding view_of
largest_left-requires c =
    let load = c.args.load.now in
    let here = c.frees_at-before.result in
    let frees = c.frees_at-frees.result in
    let few = accepted-few load c.requires in
    let pairs = made-list_to _ (λ i. is_marked here i && is_marked frees i) false 24 _
    (λ i y q l k. search (rules, tests)) _ c.from_fn-pairs.ensures.items in
    let place = placed load c.loop-j.j here _ frees few pairs c.frees_at-before.ensures c.frees_at-frees.ensures in
    record {
      few = few;
      between = c.loop-j-test.true;
      small = paired-cost (view_of load) c.loop-j.j _ frees place c.requires;
    }

-- what is stored is the place's, whichever way the turn went
pub loop-j-preserved : goal.loop-j-preserved
unfolding view_of
loop-j-preserved c =
    let loop = c.loop-j in
    let load = c.args.load.now in
    let L = view_of load in
    let frees = c.frees_at-frees.result in
    let few = accepted-few load c.requires in (
      search rules,
      elim c.if-any_marked.branch [
        | then-any_marked w ↦
            let here = w.frees_at-before.result in
            let pairs = made-list_to _ (λ i. is_marked here i && is_marked frees i) false 24 _
            (λ i y q l k. search (rules, tests)) _ w.from_fn-pairs.ensures.items in
            let place = placed load loop.j here _ frees few pairs w.frees_at-before.ensures c.frees_at-frees.ensures in
            w.places-is
            ∙ filled-stored (largest_at smallest_costs L) loop.j 7 none_left _ loop.places loop.invariant.1
            (w.largest_left.ensures ∙ largest_at-read L loop.j _ frees place load.rows refl) (omega arith)
        | else-any_marked w ↦
            w.places-is
            ∙ loop.invariant.1
            ∙ filled-skipped (largest_at smallest_costs L) loop.j 7 none_left
            (unfree load loop.j frees c.frees_at-frees.ensures (sym c.any_marked.ensures ∙ w.if-any_marked.false))
            (omega arith)
      ],
    )

pub frees_at-frees-requires : goal.frees_at-frees-requires
frees_at-frees-requires c = accepted-few c.args.load.now c.requires

pub any_marked-requires : goal.any_marked-requires
any_marked-requires c = accepted-few c.args.load.now c.requires

pub frees_at-before-requires : goal.frees_at-before-requires
frees_at-before-requires c = accepted-few c.args.load.now c.requires

pub returns : goal.returns
unfolding place_waits
returns c =
    let L = view_of c.args.load.now in
    let e : c.loop-j.j ≡ 7 = omega arith in
    c.loop-j.invariant.1
    ∙ ap (λ j. filled (largest_at smallest_costs L) j 7 none_left) e
    ∙ filled-all (largest_at smallest_costs L) 7 none_left

pub loop-j-init : goal.loop-j-init
loop-j-init c = (search rules, sym (filled_none _ 7 none_left))
