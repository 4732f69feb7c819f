-- `head_record` gives the mark, and behind it the two bytes of the count.
use mathlib.Core.Path.{◌∙◌}
use Rattle.words.specs.LittleEndian.{little_endian}
use Rattle.schedule_file.proofs.FileLaws.{count-bytes}
use Rattle.schedule_file.proofs.records.head_record.Goals as goal

pub returns : goal.returns
unfolding little_endian
returns c = rw (c.bytes16-count.ensures ∙ count-bytes _)
