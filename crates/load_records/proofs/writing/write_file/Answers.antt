-- `load_records::writing::write_file` writes the header, behind it the rows, and behind them the end record.
use mathlib.Core.Path.{ap, ◌∙◌}
use lib.Seq.{sets}
use Rattle.load_records.specs.Records.{end_record}
use Rattle.load_records.proofs.WritingLaws.{load-written}
use Rattle.load_records.proofs.writing.write_file.Goals as goal

pub returns : goal.returns
returns c =
    let start = c.args in
    load-written start.version start.load start.out.now _ c.write_rows-at.new.out _
    c.write_rows-at.result
    (c.overwrite.ensures ∙ ap (sets start.out.now 0) c.header_record-header.ensures)
    c.write_rows-at.ensures.out_after
    c.write_rows-at.ensures.value
    (c.overwrite-2.ensures
    ∙ ap (sets c.write_rows-at.new.out c.write_rows-at.result)
    (c.end_record-end.ensures ∙ ap end_record c.steps_in.ensures))
