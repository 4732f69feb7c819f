-- `bound::margin_bytes` writes the four bytes of one row a turn, behind those of the rows before it.
use Prim.Native.Nat.{ℕ, ◌+◌, ◌*◌}
use mathlib.Core.List.{List, [], ◌++◌, append-nil}
use mathlib.Core.Path.{◌≡◌, refl, sym, ◌∙◌, ap}
use native.Mathlib.Omega.{arith}
use lib.IntN.{ℤ}
use lib.ListN.{length, drop}
use lib.Seq.{sets}
use mir.Facts.{to_z-of_z}
use Rattle.counting.specs.Lists.{join_to}
use Rattle.counting.proofs.lists.ListLaws.{join_to-next, join_to-length-same}
use Rattle.words.specs.LittleEndian.{little_endian}
use Rattle.words.specs.TwosComplement.{twos_complement}
use Rattle.words.proofs.LittleEndianLaws.{little_endian-length}
use Rattle.words.proofs.OverwriteLaws.{sets_behind, sets-front}
use Rattle.rules.specs.Margins.{margin_in, bytes_of_margins}
use Rattle.bound.proofs.SignLaws.{each_fits}
use Rattle.bound.proofs.bytes.margin_bytes.Goals as goal
use Rattle.bound.proofs.bytes.margin_bytes.Goals.{After-bytes32-four}
use Rattle.bound.proofs.bytes.margin_bytes.Invariants.{blank, four}

four-length : (margins : List ℤ) (i : ℕ) → length (four margins i) ≡ 4
four-length margins i = little_endian-length 4 (twos_complement 32 (margin_in margins i))

blank-length : length blank ≡ 96
unfolding blank
blank-length = refl

blank-past : drop 96 blank ≡ []
unfolding blank
blank-past = refl

pub loop-i-init : goal.loop-i-init
unfolding blank join_to
loop-i-init c = (refl, refl)

-- what is written is the row's four bytes
written : (c : After-bytes32-four) → c.bytes32-four.result ≡ four c.args.margins c.loop-i.i
written c =
    let fits = each_fits c.args.margins c.well_formed.0.0 c.loop-i.i c.well_formed.0.1.1 in
    c.bytes32-four.ensures
    ∙ ap (little_endian 4) (c.complement32.ensures ∙ ap (twos_complement 32) (to_z-of_z fits))

written-length : (c : After-bytes32-four) → length c.bytes32-four.result ≡ 4
written-length c = ap length (written c) ∙ four-length c.args.margins c.loop-i.i

-- the bytes of one row more
more : (zs : List ℤ) (i : ℕ) (bytes : List ℕ) → bytes ≡ sets blank 0 (join_to (four zs) i)
    → sets bytes (4 * i) (four zs i) ≡ sets blank 0 (join_to (four zs) (i + 1))
more zs i bytes e =
    let n : length (join_to (four zs) i) ≡ i * 4 = join_to-length-same (four zs) 4 i (four-length zs) in
    ap (λ l. sets l (4 * i) (four zs i)) e
    ∙ sets_behind blank 0 (4 * i) (join_to (four zs) i) (four zs i) (omega (arith, n))
    ∙ ap (sets blank 0) (sym (join_to-next (four zs) i))

pub loop-i-preserved : goal.loop-i-preserved
loop-i-preserved c =
    let loop = c.loop-i in
    let zs = c.args.margins in (
      c.overwrite.auto.out ∙ loop.invariant.0,
      c.overwrite.ensures
          ∙ ap (sets loop.bytes (4 * loop.i)) (written (goal.at.loop-i-preserved c).After-bytes32-four)
          ∙ more zs loop.i loop.bytes loop.invariant.1,
    )

pub returns : goal.returns
unfolding bytes_of_margins
returns c =
    let zs = c.args.margins in
    let e : c.loop-i.i ≡ 24 = omega arith in
    let n : length (join_to (four zs) 24) ≡ 96 = join_to-length-same (four zs) 4 24 (four-length zs) in
    c.loop-i.invariant.1
    ∙ ap (λ i. sets blank 0 (join_to (four zs) i)) e
    ∙ sets-front blank (join_to (four zs) 24) (omega (arith, n, blank-length))
    ∙ ap (λ k. join_to (four zs) 24 ++ drop k blank) n
    ∙ ap (λ l. join_to (four zs) 24 ++ l) blank-past
    ∙ append-nil (join_to (four zs) 24)

pub slice_bounds-overwrite-end : goal.slice_bounds-overwrite-end
slice_bounds-overwrite-end c = sym c.loop-i.invariant.0

pub slice_bounds-overwrite-end-in-loop-i : goal.slice_bounds-overwrite-end-in-loop-i
slice_bounds-overwrite-end-in-loop-i c =
    sym (written-length (goal.at.slice_bounds-overwrite-end-in-loop-i c).After-bytes32-four)
