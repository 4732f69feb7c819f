-- A look that is put in a board renews its row.
use Prim.Native.Nat.{ℕ, ◌<◌}
use mathlib.Core.Path.{◌≡◌, ◌∙◌, sym, subst}
use borrow.Author.Tests.{lt-ltb}
use Rattle.plan.specs.declared.Look.{Look}
use Rattle.plan.specs.declared.Board.{Board}
use Rattle.plan.specs.Boards.{with_look}
use Rattle.plan.specs.Calls.{PutLook}
use Rattle.plan.proofs.BoardLaws.{Placed, put_same, put_other, put-placed}
use Rattle.bench.specs.inner.Boards.{Wide, Renewed}

-- a board that has all places has those of the lists that a start changes
pub placed-wide : (board : Board) → Placed board → Wide board
placed-wide board placed =
    record {
      opened-length = placed.in-opened;
      release_length = placed.in-release;
      left-length = placed.in-left;
      due-length = placed.in-due;
    }

module _ (board : Board) (i : ℕ) (look : Look) (after : Board) (put : PutLook board i look after) (inside : i < 24)
    (placed : Placed board) where
  after-is : after ≡ with_look board i look
  after-is = rw (lt-ltb i 24 inside) at put

  pub put-renewed : (seen : Look) → look ≡ seen → Renewed board i seen after
  put-renewed seen e =
      rw after-is
      (record {
        wide = placed-wide _ (put-placed board i look placed);
        same = put_same board i look placed inside ∙ e;
        others = λ k l ne. put_other board i look k ne;
      })

  pub after-placed : Placed after
  after-placed = subst Placed (sym after-is) (put-placed board i look placed)
