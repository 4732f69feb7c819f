-- `lines::Text::put_load` runs the load, whose first slots are then its schedule, and puts its lines.
use Rattle.std.proofs.Common.{◌∙◌, arith, sym}
use Rattle.bench.proofs.running.RunsLaws.{Runs-schedule, Runs-count, schedule-most}
use Rattle.lines.proofs.Text.put_load.Goals as goal

pub shared_ref_as_front-slots : goal.shared_ref_as_front-slots
shared_ref_as_front-slots c =
    let load = c.args.load.now in
    omega (arith, Runs-count load _ (sym c.unwrap-ran.ensures ∙ c.run.ensures), schedule-most load c.requires)

pub put_lines-requires : goal.put_lines-requires
put_lines-requires c =
    record {
      accepted = c.requires;
      slots-are = Runs-schedule c.args.load.now _ (sym c.unwrap-ran.ensures ∙ c.run.ensures);
    }
