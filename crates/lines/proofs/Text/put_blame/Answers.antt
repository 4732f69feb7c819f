-- `lines::Text::put_blame` puts two words where there is a blame, and else none.
use mathlib.Core.List.{◌∷◌, ◌++◌, append-nil}
use mathlib.Core.Path.{◌≡◌, ap, sym}
use Rattle.counting.specs.Lists.{join_in}
use Rattle.words.specs.Decimal.{decimal}
use Rattle.std.specs.Prelude.{Some}
use Rattle.rules.specs.declared.Blame.{Blame}
use Rattle.lines.specs.inner.Puts.{spaced_all, words_of}
use Rattle.lines.proofs.PutLaws.{puts-none, puts-more, puts_same}
use Rattle.lines.proofs.Text.put_blame.Goals as goal

-- the words that are put
both : (blame : Blame) → (32 ∷ decimal blame.place) ++ 32 ∷ decimal blame.row ≡ spaced_all (words_of (Some blame))
unfolding join_in
both blame = ap (λ l. (32 ∷ decimal blame.place) ++ 32 ∷ l) (sym (append-nil (decimal blame.row)))

pub returns-in-Some : goal.returns-in-Some
returns-in-Some c =
    rw c.in-Some.is (puts_same (both c.in-Some.field-0) (puts-more c.put_number.ensures c.put_number-in-Some.ensures))

pub returns-in_default : goal.returns-in_default
unfolding join_in
returns-in_default c = rw c.in_default.is (puts-none c.args.self.now)
