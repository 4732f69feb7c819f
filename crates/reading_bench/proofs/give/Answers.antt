-- `give` writes an answer over the front, where there is room for it: what stands behind it stays.
use Rattle.std.proofs.Common.{ℕ, List, ◌≡◌, ◌≤◌, ◌∙◌, ap, arith, length, refl, rules, subst, sym, take}
use Rattle.std.proofs.lemmas.List.{take_all}
use Rattle.std.proofs.lemmas.List.Edits.{sets}
use Rattle.std.specs.Prelude.{Ok}
use Rattle.words.proofs.OverwriteLaws.{sets-front}
use Rattle.refusals.specs.Given.{given}
use Rattle.refusals.proofs.GivenLaws.{given-good, given-is, written-given}
use Rattle.reading_bench.specs.Calls.{Numbered}
use Rattle.reading_bench.proofs.give.Goals as goal

-- so many bytes of an answer that has no more are all of it
whole : (out after answer : List ℕ) (n : ℕ) → length answer ≡ n → after ≡ sets out 0 (take n answer)
    → after ≡ sets out 0 answer
whole out after answer n long e = e ∙ ap (sets out 0) (take_all n answer (omega (arith, long)))

pub returns-in-Ok-2 : goal.returns-in-Ok-2
returns-in-Ok-2 g c finding bytes e =
    let answer = c.in-Ok-2.bytes in
    let told : Ok answer ≡ given finding bytes = sym c.in-Ok-2.is ∙ e in
    let long : length answer ≡ g.row.SIZE = search rules in
    let room : length answer ≤ length c.args.out.now = omega (arith, c.if-out.false, long) in
    let front : c.overwrite.new.out ≡ sets c.args.out.now 0 answer = search (c.overwrite.ensures, whole, long, rules) in
    subst (λ bs. Numbered finding bs c.args.out.now 0 c.overwrite.new.out) (given-is finding bytes answer told)
    (record {
      found = Ok tt;
      given =
          written-given finding answer c.args.out.now _ (given-good finding bytes answer told) room
          (front ∙ sets-front c.args.out.now answer room);
      number_is = refl;
    })
