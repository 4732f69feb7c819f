-- All margins, place by place: at a row's place stands the row's margin. So their signs give the verdict.
use Prim.Native.Nat.{ℕ, ◌≤◌, ◌<◌}
use mathlib.Core.Bool.{not, cond}
use mathlib.Core.Path.{◌≡◌, ap, ◌∙◌}
use native.Mathlib.Omega.{arith}
use borrow.Author.Tests.{lt-ltb}
use lib.IntN.{pos}
use Rattle.counting.specs.Sums.{all_to}
use Rattle.counting.proofs.tests.TestLaws.{all_to-ext}
use Rattle.counting.proofs.lists.ListLaws.{get_or-list_to}
use Rattle.load.specs.Load.{most_rows}
use Rattle.load.specs.View.{View}
use Rattle.rules.specs.Margins.{is_negative, margin, margins, margin_at, margin_in, verdict}

module _ (L : View) where
  margin_in-at : (i : ℕ) → i < most_rows → margin_in (margins L) i ≡ margin_at L i
  unfolding margins
  margin_in-at i l = get_or-list_to (margin_at L) most_rows i (pos 0) l

  pub verdict-read : L.rows ≤ most_rows
      → all_to (λ i. not (is_negative (margin_in (margins L) i))) L.rows ≡ verdict L
  unfolding verdict
  verdict-read few =
      all_to-ext (λ i. not (is_negative (margin_in (margins L) i))) (λ i. not (is_negative (margin L i))) L.rows
      (λ i l.
      ap (λ z. not (is_negative z))
      (margin_in-at i (omega arith) ∙ ap (λ t. cond t (margin L i) (pos 0)) (lt-ltb i L.rows l)))
