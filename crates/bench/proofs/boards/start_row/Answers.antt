-- `start_row` looks the row up anew: none of the numbers by which it does counts as less.
use mathlib.Core.Path.{refl, ◌∙◌}
use borrow.Author.Rules.{rules}
use Rattle.plan.proofs.BoardLaws.{Placed}
use Rattle.bench.proofs.shown.PutLaws.{put-renewed}
use Rattle.bench.proofs.running.StartedRun.{started-look}
use Rattle.bench.proofs.boards.start_row.Goals as goal

pub returns : goal.returns
returns c =
    let args = c.args in
    let can = c.requires in
    let look = c.look_of-next.ensures
    ∙ started-look args.row args.board.now args.moment args.i _ _ _ can refl c.end_of-end.ensures
    c.opening_after-opening.ensures in
    let placed : Placed args.board.now =
    record {
      in-finished = search rules;
      in-steps = search rules;
      in-opening = search rules;
      in-cost = search rules;
      in-release = search rules;
      in-opened = search rules;
      in-left = search rules;
      in-due = search rules;
      in-wait = search rules;
      in-stays = search rules;
      in-rest = search rules;
      in-limit = search rules;
    } in
    record {
      slot_is = c.slot_of-slot.ensures;
      end_is = c.end_of-end.ensures;
      renewed = put-renewed _ args.i c.look_of-next.result _ c.put_look.ensures can.place placed _ look;
    }
