-- `load_records::rows::write_parts` writes record by record: those of the parts so far stand in the output, one behind
-- the other, and the place is the one behind them.
use Rattle.std.proofs.Common.{◌≡◌, ◌+◌, ◌*◌, length, take}
use Rattle.std.proofs.lemmas.List.Edits.{sets}
use Rattle.counting.specs.Lists.{join_in}
use Rattle.load_records.proofs.rows.write_parts.Given as goal

abbrev pub invariant-loop-part : goal.invariant-loop-part
invariant-loop-part g l =
    record {
      next : l.place ≡ l.at + g.row.SIZE * l.part-index;
      long : length (join_in g.P.Part.bytes (take l.part-index l.parts)) ≡ g.row.SIZE * l.part-index;
      so_far : l.out ≡ sets l.initial.out l.at (join_in g.P.Part.bytes (take l.part-index l.parts));
    }
