-- `load_records::writing::size_in` asks the size only of a load that passed its check.
use Rattle.std.proofs.Common.{◌≡◌, ◌∙◌, false, refl, sym}
use Rattle.std.specs.Prelude.{Ok, Err}
use Rattle.std.specs.Result.{is_err}
use Rattle.refusals.specs.Checked.{Checked}
use Rattle.load_records.proofs.WritingLaws.{written-good}
use Rattle.load_records.proofs.writing.size_in.Goals as goal

not-err : (found : Checked) → is_err found ≡ false → found ≡ Ok tt
not-err (Ok tt) e = refl
not-err (Err refusal) e = cc

pub whole_size-requires : goal.whole_size-requires
whole_size-requires c =
    written-good c.args.version c.args.load
    (sym c.check_written.ensures ∙ not-err _ (sym c.is_err.ensures.value ∙ c.if-is_err.false))
