-- A board with another look of row i shows that look at i, and at every other row what it showed.
use Prim.Native.Nat.{ℕ, ◌<◌}
use mathlib.Core.Bool.{false}
use mathlib.Core.Logic.{◌≢◌}
use mathlib.Core.Path.{◌≡◌, ◌∙◌}
use native.Mathlib.Omega.{arith}
use lib.ListN.{length, length-set}
use lib.Seq.{get_or-set_same, get_or-set_other}
use Rattle.load.specs.Load.{most_rows}
use Rattle.plan.specs.declared.Look.{Look}
use Rattle.plan.specs.declared.Board.{Board}
use Rattle.plan.specs.Boards.{look_in, with_look}

-- each list of a board has a place for each of 24 rows
pub record Placed (board : Board) : Type 0 where
  pub in-finished : length board.finished ≡ most_rows
  pub in-steps : length board.steps ≡ most_rows
  pub in-opening : length board.opening ≡ most_rows
  pub in-cost : length board.cost ≡ most_rows
  pub in-release : length board.release ≡ most_rows
  pub in-opened : length board.opened ≡ most_rows
  pub in-left : length board.left ≡ most_rows
  pub in-due : length board.due ≡ most_rows
  pub in-wait : length board.wait ≡ most_rows
  pub in-stays : length board.stays ≡ most_rows
  pub in-rest : length board.rest ≡ most_rows
  pub in-limit : length board.limit ≡ most_rows

module _ (board : Board) (i : ℕ) (look : Look) where
  -- a board with another look of row i shows at every other row what it showed
  pub put_other : (k : ℕ) → k ≢ i → look_in (with_look board i look) k ≡ look_in board k
  put_other k ne n =
      record {
        finished = get_or-set_other board.finished i k look.finished 0 ne n;
        steps = get_or-set_other board.steps i k look.steps 0 ne n;
        opening = get_or-set_other board.opening i k look.opening 0 ne n;
        cost = get_or-set_other board.cost i k look.cost 0 ne n;
        release = get_or-set_other board.release i k look.release 0 ne n;
        opened = get_or-set_other board.opened i k look.opened false ne n;
        left = get_or-set_other board.left i k look.left 0 ne n;
        due = get_or-set_other board.due i k look.due 0 ne n;
        wait = get_or-set_other board.wait i k look.wait 0 ne n;
        stays = get_or-set_other board.stays i k look.stays false ne n;
        rest = get_or-set_other board.rest i k look.rest 0 ne n;
        limit = get_or-set_other board.limit i k look.limit 0 ne n;
      }

  -- and at i that look
  pub put_same : Placed board → i < most_rows → look_in (with_look board i look) i ≡ look
  put_same p l n =
      record {
        finished = get_or-set_same board.finished i look.finished 0 (omega (arith, p.in-finished)) n;
        steps = get_or-set_same board.steps i look.steps 0 (omega (arith, p.in-steps)) n;
        opening = get_or-set_same board.opening i look.opening 0 (omega (arith, p.in-opening)) n;
        cost = get_or-set_same board.cost i look.cost 0 (omega (arith, p.in-cost)) n;
        release = get_or-set_same board.release i look.release 0 (omega (arith, p.in-release)) n;
        opened = get_or-set_same board.opened i look.opened false (omega (arith, p.in-opened)) n;
        left = get_or-set_same board.left i look.left 0 (omega (arith, p.in-left)) n;
        due = get_or-set_same board.due i look.due 0 (omega (arith, p.in-due)) n;
        wait = get_or-set_same board.wait i look.wait 0 (omega (arith, p.in-wait)) n;
        stays = get_or-set_same board.stays i look.stays false (omega (arith, p.in-stays)) n;
        rest = get_or-set_same board.rest i look.rest 0 (omega (arith, p.in-rest)) n;
        limit = get_or-set_same board.limit i look.limit 0 (omega (arith, p.in-limit)) n;
      }

  -- and has as many places
  pub put-placed : Placed board → Placed (with_look board i look)
  put-placed p =
      record {
        in-finished = length-set board.finished i look.finished ∙ p.in-finished;
        in-steps = length-set board.steps i look.steps ∙ p.in-steps;
        in-opening = length-set board.opening i look.opening ∙ p.in-opening;
        in-cost = length-set board.cost i look.cost ∙ p.in-cost;
        in-release = length-set board.release i look.release ∙ p.in-release;
        in-opened = length-set board.opened i look.opened ∙ p.in-opened;
        in-left = length-set board.left i look.left ∙ p.in-left;
        in-due = length-set board.due i look.due ∙ p.in-due;
        in-wait = length-set board.wait i look.wait ∙ p.in-wait;
        in-stays = length-set board.stays i look.stays ∙ p.in-stays;
        in-rest = length-set board.rest i look.rest ∙ p.in-rest;
        in-limit = length-set board.limit i look.limit ∙ p.in-limit;
      }
