-- `load_answers` goes by the W's that it is handed: its bound is that of the load cut at eight steps, which leaves
-- every row whole, and its verdict goes by the signs of the margins of the rows that are there.
use Prim.Native.Nat.{ℕ, ◌-◌}
use mathlib.Core.Bool.{Bool, not}
use mathlib.Core.List.{List}
use mathlib.Core.Path.{◌≡◌, ◌∙◌, ap}
use native.Mathlib.Omega.{arith}
use lib.IntN.{ℤ}
use Rattle.counting.specs.Sums.{all_to}
use Rattle.counting.specs.Lists.{list_to, member_at}
use Rattle.counting.proofs.lists.ListLaws.{get_or-list_to}
use Rattle.load.specs.View.{view_of}
use Rattle.rules.specs.declared.Blame.{Blame}
use Rattle.rules.specs.Bound.{bound}
use Rattle.rules.specs.Margins.{is_negative, margin_in, verdict}
use Rattle.rules.specs.Blame.{blame_among}
use Rattle.bound.specs.declared.Answered.{Answered}
use Rattle.bound.specs.inner.CutTerms.{place_in, waits_below, bound_at}
use Rattle.bound.proofs.AcceptedLaws.{accepted-few, bound-uncut}
use Rattle.bound.proofs.MarginsRead.{verdict-read}
use Rattle.bound.proofs.answers.load_answers.Goals as goal
use Rattle.bound.proofs.answers.load_answers.Goals.{After-none_negative}

bound-is : (c : After-none_negative)
    → member_at c.cut_bounds-bounds.result (8 - 1)
    ≡ bound (view_of c.args.load.now)
bound-is c =
    let L = view_of c.args.load.now in
    ap (λ l. member_at l 7) c.cut_bounds-bounds.ensures
    ∙ get_or-list_to (bound_at L) 8 7 0 (omega arith)
    ∙ bound-uncut L c.requires.0

verdict-is : (c : After-none_negative) → c.none_negative.result ≡ verdict (view_of c.args.load.now)
unfolding view_of
verdict-is c =
    let load = c.args.load.now in
    c.none_negative.ensures
    ∙ ap (λ zs. all_to (λ i. not (is_negative (margin_in zs i))) load.rows)
    c.margins_by-margins.ensures
    ∙ verdict-read (view_of load) (accepted-few load c.requires.0)

-- no row is asked that has no place
pub none_negative-requires : goal.none_negative-requires
none_negative-requires c =
    accepted-few c.args.load.now c.requires.0

-- the sums are of the load's own W's
pub cut_bounds-bounds-requires : goal.cut_bounds-bounds-requires
cut_bounds-bounds-requires c =
    let pre = c.requires in
    (pre.0, c.waits_below.ensures ∙ ap (λ places. list_to (waits_below places) 8) pre.1)

pub blames_by-blames-requires : goal.blames_by-blames-requires
blames_by-blames-requires c =
    let pre = c.requires in
    (pre.0, c.cut_blames.ensures ∙ ap (λ places. list_to (blame_among (place_in places)) 8) pre.1)

-- answers of the same parts
same : (b b' : ℕ) (m m' : List ℤ) (v v' : Bool) (w w' : List Blame) → b ≡ b' → m ≡ m' → v ≡ v' → w ≡ w'
    → ◌≡◌ {A = Answered} (record { bound = b; margins = m; verdict = v; blames = w })
    (record { bound = b'; margins = m'; verdict = v'; blames = w' })
same b b' m m' v v' w w' p q r s = rw (p, q, r, s)

pub returns : goal.returns
returns c =
    same _ _ _ _ _ _ _ _ (bound-is c) c.margins_by-margins.ensures (verdict-is c)
    c.blames_by-blames.ensures
