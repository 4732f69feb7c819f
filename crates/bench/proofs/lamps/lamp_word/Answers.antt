-- `lamp_word` lights one row a turn: at i it has the word of the first i rows, and 2 ^ i for the next row's bit.
use Rattle.std.proofs.Common.{arith, ◌≤◌, ◌<◌, ◌^◌, refl, sym, length-take, pow-suc, add-one}
use mathlib.Core.Bool.{false}
use lib.Pow.{pow_mono}
use lib.Seq.{get_or-take}
use Rattle.counting.specs.Lists.{is_marked}
use Rattle.counting.proofs.sums.SumLaws.{sum_to-zero, sum_to-next}
use Rattle.words.proofs.LampLaws.{word_of-lt}
use Rattle.bench.proofs.lamps.lamp_word.Goals as goal
use Rattle.bench.proofs.lamps.lamp_word.Goals.{In-loop-opened, then-opened, else-opened}

-- a row's bit
module _ (c : In-loop-opened) where
  below : c.loop-opened.opened-index < c.args.rows
  below = omega (arith, c.loop-opened-test.true, length-take c.args.rows c.args.board.now.opened)

  bit-most : 2 ^ c.loop-opened.opened-index ≤ 2 ^ 24
  bit-most = pow_mono (let l : c.loop-opened.opened-index ≤ 24 = omega (arith, below, c.requires) in l)

pub loop-opened-init : goal.loop-opened-init
loop-opened-init c = (refl, sym (sum_to-zero _))

pub overflow_add-word : goal.overflow_add-word
overflow_add-word c =
    let b = bit-most (goal.at.overflow_add-word c).In-loop-opened in
    let inv = c.loop-opened.invariant in
    omega (arith, b, inv.0, inv.1, word_of-lt (is_marked c.args.board.now.opened) c.loop-opened.opened-index)

pub overflow_mul-place : goal.overflow_mul-place
overflow_mul-place c =
    let b = bit-most (goal.at.overflow_mul-place c).In-loop-opened in
    omega (arith, b, c.loop-opened.invariant.0)

pub loop-opened-preserved : goal.loop-opened-preserved
loop-opened-preserved c =
    let at = (goal.at.loop-opened-preserved c).In-loop-opened in
    let opened = c.args.board.now.opened in
    let i = c.loop-opened.opened-index in
    let here = get_or-take c.args.rows opened i false (below at) in
    let inv = c.loop-opened.invariant in (
      rw (add-one, pow-suc) (omega (arith, inv.0)),
      rw sum_to-next
          (elim c.if-opened.branch [
            | then-opened w ↦ rw (sym here, w.if-opened.true) (omega (arith, w.word-is, inv.0, inv.1))
            | else-opened w ↦ rw (sym here, w.if-opened.false) (omega (arith, w.word-is, inv.1))
          ]),
    )
