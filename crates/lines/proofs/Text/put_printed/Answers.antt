-- `lines::Text::put_printed` puts the lines of the load that was read, or the one line of what was found.
use Rattle.std.proofs.Common.{rules}
use Rattle.load_file.proofs.CallLaws.{ReadLoad-accepted}
use Rattle.lines.proofs.PutLaws.{puts_same}
use Rattle.lines.proofs.PrintedLaws.{read-lines, read-refused}
use Rattle.lines.proofs.Text.put_printed.Goals as goal

pub put_load-requires : goal.put_load-requires
put_load-requires c = ReadLoad-accepted _ _ c.in-Ok.ensures (search rules)

pub returns-in-Ok : goal.returns-in-Ok
returns-in-Ok c = puts_same (read-lines _ _ _ c.in-Ok.ensures) c.put_load.ensures

pub returns-in-Err : goal.returns-in-Err
returns-in-Err c = puts_same (read-refused _ _ _ c.in-Err.ensures) c.put_refused.ensures
