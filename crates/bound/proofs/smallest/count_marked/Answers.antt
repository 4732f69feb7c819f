-- `count_marked` counts one row a turn.
use Rattle.std.proofs.Common.{Bool, ◌≡◌, ◌∙◌, ap, arith, get_or, length, refl, sym, take}
use Rattle.std.specs.Prelude.{false}
use Rattle.std.proofs.lemmas.List.{get_or-take, length-take}
use Rattle.counting.specs.Sums.{bit, count_to}
use Rattle.counting.specs.Lists.{is_marked}
use Rattle.counting.proofs.sums.SumLaws.{sum_to-zero, sum_to-next}
use Rattle.bound.proofs.FlagLaws.{bool_byte-bit, bit_le}
use Rattle.counting.proofs.sums.PastLaws.{sum_to-past}
use Rattle.bound.proofs.smallest.count_marked.Goals as goal
use Rattle.bound.proofs.smallest.count_marked.Goals.{In-loop-marked}

-- the mark of a turn
abbrev turn : In-loop-marked → Bool
turn c = get_or (take c.args.n c.args.marks.now) c.loop-marked.marked-index false

read : (c : In-loop-marked) → turn c ≡ is_marked c.args.marks.now c.loop-marked.marked-index
read c =
    let marks = c.args.marks.now in
    get_or-take c.args.n marks c.loop-marked.marked-index false (omega (arith, length-take c.args.n marks))

pub overflow_add-count : goal.overflow_add-count
overflow_add-count c =
    let t : Bool = turn (goal.at.overflow_add-count c).In-loop-marked in
    omega (arith, bool_byte-bit t, bit_le t, length-take c.args.n c.args.marks.now)

pub loop-marked-init : goal.loop-marked-init
loop-marked-init c = record { so_far = sym (sum_to-zero _); few = omega arith }

pub loop-marked-preserved : goal.loop-marked-preserved
loop-marked-preserved c =
    let here = (goal.at.loop-marked-preserved c).In-loop-marked in
    let t : Bool = turn here in
    let i = c.loop-marked.marked-index in
    record {
      so_far =
          omega (
            arith,
            ap bit (read here),
            bool_byte-bit t,
            sum_to-next (λ k. bit (is_marked c.args.marks.now k)) i,
            c.loop-marked.invariant.so_far,
          );
      few = omega (arith, bool_byte-bit t, bit_le t);
    }

pub returns : goal.returns
returns c =
    let marks = c.args.marks.now in
    let e : c.loop-marked.marked-index ≡ length (take c.args.n marks) = omega arith in (
      c.loop-marked.invariant.so_far
          ∙ ap (count_to (is_marked marks)) e
          ∙ sum_to-past bit false refl marks c.args.n,
      omega (arith, c.loop-marked.invariant.few, length-take c.args.n marks),
    )
