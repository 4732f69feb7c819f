-- `load_records::rows::write_parts` writes record by record: those of the parts so far stand in the output, one behind
-- the other, and the place is the one behind them.
use Rattle.std.proofs.Common.{ℕ, ◌+◌, ◌*◌, ◌≤◌, ◌<◌, ◌≡◌, ◌∙◌, ◌++◌}
use Rattle.std.proofs.Common.{ap, arith, length, length-append, add-one, refl, rules, sym, take}
use Rattle.std.proofs.lemmas.List.{take_all}
use Rattle.std.proofs.lemmas.List.Edits.{sets}
use Rattle.std.proofs.Math.Nat.{mul-le-mul_left, mul-suc}
use Rattle.counting.specs.Lists.{join_in}
use Rattle.counting.proofs.lists.ListLaws.{join_in-next}
use Rattle.words.proofs.OverwriteLaws.{sets_more}
use Rattle.load_records.proofs.rows.write_parts.Goals as goal

-- one more is among all
one_more : (size i n : ℕ) → i < n → size * i + size ≤ size * n
one_more size i n h = omega (arith, mul-suc size i, mul-le-mul_left size h)

pub loop-part-init : goal.loop-part-init
unfolding join_in
loop-part-init g c = record { next = omega arith; long = omega arith; so_far = refl }

pub overflow_add-place : goal.overflow_add-place
overflow_add-place g c =
    let few = one_more g.row.SIZE c.loop-part.part-index (length c.args.parts.now) c.loop-part-test.true in
    let here : c.loop-part.place + g.row.SIZE ≤ 8192 = omega (arith, few, c.requires, c.loop-part.invariant.next) in
    search rules

pub loop-part-preserved : goal.loop-part-preserved
loop-part-preserved g c =
    let i = c.loop-part.part-index in
    let bytes = g.P.Part.bytes in
    let part = c.part-item.result in
    let all = join_in-next bytes c.args.parts.now i part c.loop-part-test.true
    ∙ ap (λ p. join_in bytes (take i c.args.parts.now) ++ bytes p) (sym c.part-item.is) in
    let size : length (bytes part) ≡ g.row.SIZE = ap length (sym c.record.ensures) ∙ search rules in
    let more : g.row.SIZE * (i + 1) ≡ g.row.SIZE * i + g.row.SIZE = rw add-one (mul-suc g.row.SIZE i) in
    record {
      next = omega (arith, more, c.loop-part.invariant.next);
      long =
          ap length all
          ∙ omega (
            arith,
            more,
            size,
            length-append (join_in bytes (take i c.args.parts.now)) (bytes part),
            c.loop-part.invariant.long,
          );
      so_far =
          sets_more _ _ _ c.args.at c.loop-part.place (join_in bytes (take i c.args.parts.now)) (bytes part)
          (omega (arith, c.loop-part.invariant.next, c.loop-part.invariant.long))
          c.loop-part.invariant.so_far
          (c.overwrite.ensures ∙ ap (sets c.loop-part.out c.loop-part.place) c.record.ensures)
          ∙ ap (sets c.args.out.now c.args.at) (sym all);
    }

pub returns : goal.returns
returns g c =
    let parts = c.args.parts.now in
    let e : c.loop-part.part-index ≡ length parts = omega arith in
    c.loop-part.invariant.so_far
    ∙ ap (λ l. sets c.args.out.now c.args.at (join_in g.P.Part.bytes l))
    (ap (λ n. take n parts) e ∙ take_all _ parts (omega arith))
