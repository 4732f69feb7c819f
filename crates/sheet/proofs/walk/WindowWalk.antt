-- The windows of a row, met one line a turn: those that begin before line j, how they grow by one line, and that a row
-- has places for them.
use Prim.Native.Nat.{ℕ, suc, ◌+◌, ◌-◌, ◌≤◌, ◌<◌}
use mathlib.Core.Bool.{true, false, not}
use mathlib.Core.List.{List, [], ◌∷◌, ◌++◌, map, map-append, append_assoc, append-nil}
use mathlib.Core.Path.{◌≡◌, refl, sym, ap, fun_ext, ◌∙◌}
use native.Mathlib.Numerals.{add-one}
use native.Mathlib.Omega.{arith}
use lib.ListN.{length, set, replicate, length-append, length-map}
use lib.Seq.{set_at}
use Rattle.counting.specs.Sums.{sum_to}
use Rattle.counting.specs.Lists.{join_to}
use Rattle.counting.specs.Searches.{first_to}
use Rattle.counting.proofs.sums.ChangeLaws.{sum_to-more}
use Rattle.counting.proofs.lists.ListLaws.{join_to-zero, join_to-next, join_to-length}
use Rattle.counting.proofs.searches.FirstToLaws.{first_to-first, first_to-unique}
use Rattle.counting.proofs.tests.TestLaws.{true-false}
use Rattle.load.specs.declared.Window.{Window}
use Rattle.load.specs.Load.{most_steps, most_windows, shown, no_window}
use Rattle.sheet_line.specs.declared.Mark.{Mark}
use Rattle.sheet_line.specs.declared.Mark.TheVariants.{Nothing, Dash, Limit}
use Rattle.sheet_line.specs.Line.{is_line, line_in}
use Rattle.sheet.specs.Lines.{line_place, line_from}
use Rattle.sheet.specs.LineFaults.{is_dash, is_limit}
use Rattle.sheet.specs.SheetRows.{dashes_behind, window_by, windows_of, window_places}
use Rattle.sheet.specs.inner.Narrow.{Marked, narrow_window}
use Rattle.sheet.specs.inner.Walk.{LinesStand, dashes_from, kept_windows}
use Rattle.sheet.proofs.trip.PlaceLaws.{line_place-add}
use Rattle.sheet.proofs.marks.WindowLaws.{windows_of-well}

-- the lines passed have dashes, and the next one has none
pub dashes-are : (bs : List ℕ) (from left k : ℕ) → k ≤ left
    → ((i : ℕ) → i < k → is_dash (line_from bs from i).mark ≡ true)
    → (k < left → is_dash (line_from bs from k).mark ≡ false) → k ≡ dashes_from bs from left
dashes-are bs from left k l passed next =
    first_to-unique (λ k. not (is_dash (line_from bs from k).mark)) left k (dashes_from bs from left)
    (record { most = l; before = λ i h. rw (passed i h); has = λ h. rw (next h) })
    (first_to-first (λ k. not (is_dash (line_from bs from k).mark)) left)

pub dashes_from-le : (bs : List ℕ) (from left : ℕ) → dashes_from bs from left ≤ left
dashes_from-le bs from left = (first_to-first (λ k. not (is_dash (line_from bs from k).mark)) left).most

-- the lines behind the first of them
pub lines-behind : (bs : List ℕ) (from count j at : ℕ) → LinesStand bs from count → at ≡ line_place bs from j
    → LinesStand bs at (count - j)
lines-behind bs from count j at stand e =
    record {
      are-lines = λ n l.
          ap (λ place. is_line bs (line_place bs place n)) e
          ∙ ap (is_line bs) (sym (line_place-add bs from j n))
          ∙ stand.are-lines (j + n) (omega arith);
    }

-- a window with so many steps behind its first, where a mark begins one
window_by-none : (mark : Mark) (j behind : ℕ) → is_limit mark ≡ false → window_by mark j behind ≡ []
window_by-none Nothing j behind h = refl
window_by-none Dash j behind h = refl
window_by-none (Limit limit) j behind h = absurd (true-false true refl h)

-- a window stored behind others
window_places-stored : (ws window : List Window) (w : Window) → window ≡ window_places ws → length ws < most_windows
    → set window (length ws) w ≡ window_places (ws ++ w ∷ [])
window_places-stored ws window w e l =
    let n : ℕ = length ws in
    let left : most_windows - n ≡ suc (most_windows - (n + 1)) = omega arith in
    let more : length (ws ++ w ∷ []) ≡ n + 1 = length-append ws (w ∷ []) in
    ap (λ l. set l n w) (e ∙ ap (λ k. ws ++ replicate k no_window) left)
    ∙ set_at ws no_window (replicate (most_windows - (n + 1)) no_window) w n refl
    ∙ sym (append_assoc ws (w ∷ []) (replicate (most_windows - (n + 1)) no_window))
    ∙ ap (λ k. (ws ++ w ∷ []) ++ replicate (most_windows - k) no_window) (sym more)

module _ (bs : List ℕ) (from count : ℕ) where
  abbrev mark : ℕ → Mark
  mark j = (line_from bs from j).mark

  -- the window that begins at line j, if one does
  windows_at : ℕ → List Window
  windows_at j = window_by (mark j) j (dashes_behind mark count j)

  -- the windows that begin before line j
  pub windows_to : ℕ → List Window
  windows_to j = map narrow_window (join_to windows_at j)

  pub windows_to-zero : windows_to 0 ≡ []
  unfolding windows_to
  windows_to-zero = rw join_to-zero

  pub windows_to-all : (j : ℕ) → j ≡ count → windows_to j ≡ kept_windows bs from count
  unfolding windows_to windows_at kept_windows windows_of
  windows_to-all j e = ap windows_to e

  windows_to-next : (j : ℕ) → windows_to (j + 1) ≡ windows_to j ++ map narrow_window (windows_at j)
  unfolding windows_to
  windows_to-next j =
      ap (map narrow_window) (join_to-next windows_at j)
      ∙ map-append narrow_window (join_to windows_at j) (windows_at j)

  pub windows_to-none : (j : ℕ) → is_limit (mark j) ≡ false → windows_to (j + 1) ≡ windows_to j
  unfolding windows_at
  windows_to-none j h =
      windows_to-next j
      ∙ ap (λ ws. windows_to j ++ map narrow_window ws) (window_by-none (mark j) j (dashes_behind mark count j) h)
      ∙ append-nil (windows_to j)

  -- the dashes behind line j are those from the next line on
  dashes-behind : (j : ℕ) → dashes_from bs (line_place bs from (suc j)) (count - suc j) ≡ dashes_behind mark count j
  unfolding dashes_behind
  dashes-behind j =
      ap (λ p. first_to p (count - suc j))
      (fun_ext (λ k. ap (λ at. not (is_dash (line_in bs at).mark)) (sym (line_place-add bs from (suc j) k))))

  -- the window that begins at line j, as it is kept
  abbrev pub window_from : ℕ → ℕ → Window
  window_from j limit =
      narrow_window
      (record {
        first = shown j;
        last = shown j + dashes_from bs (line_place bs from (j + 1)) (count - (j + 1));
        limit = limit;
      })

  windows_to-limit : (j limit : ℕ) → mark j ≡ Limit limit
      → windows_to (j + 1) ≡ windows_to j ++ window_from j limit ∷ []
  unfolding windows_at
  windows_to-limit j limit h =
      windows_to-next j
      ∙ ap (λ m. windows_to j ++ map narrow_window (window_by m j (dashes_behind mark count j))) h
      ∙ rw (← dashes-behind j, add-one)

  -- a row of at most eight lines has places for its windows
  module _ (marked : Marked mark count) (few : count ≤ most_steps) where
    windows_to-length : (j : ℕ) → length (windows_to j) ≡ sum_to (λ i. length (windows_at i)) j
    unfolding windows_to
    windows_to-length j = length-map (join_to windows_at j) narrow_window ∙ join_to-length windows_at j

    windows_to-most : length (windows_to count) ≤ most_windows
    unfolding windows_to windows_at windows_of
    windows_to-most =
        let half = (windows_of-well mark count marked).half in
        omega (arith, length-map (join_to windows_at count) narrow_window)

    pub windows_to-le : (j : ℕ) → j ≤ count → length (windows_to j) ≤ most_windows
    windows_to-le j l =
        omega (
          arith,
          windows_to-length j,
          windows_to-length count,
          windows_to-most,
          sum_to-more (λ i. length (windows_at i)) j count l,
        )

    pub windows_to-lt : (j limit : ℕ) → j < count → mark j ≡ Limit limit → length (windows_to j) < most_windows
    windows_to-lt j limit l h =
        omega (
          arith,
          windows_to-le (j + 1) (omega arith),
          ap length (windows_to-limit j limit h),
          length-append (windows_to j) (window_from j limit ∷ []),
        )

  -- one is stored
  pub stored : (j limit : ℕ) → length (windows_to j) < most_windows → mark j ≡ Limit limit
      → {n : ℕ} {window : List Window}
      {w : Window} → n ≡ length (windows_to j) → window ≡ window_places (windows_to j) → w ≡ window_from j limit
      → (n + 1 ≡ length (windows_to (j + 1))) × (set window n w ≡ window_places (windows_to (j + 1)))
  stored j limit l h {n} {window} {w} count windows window-is = (
    omega (arith, ap length (windows_to-limit j limit h), length-append (windows_to j) (window_from j limit ∷ [])),
    ap (λ n. set window n w) count
        ∙ window_places-stored (windows_to j) window w windows l
        ∙ ap (λ w. window_places (windows_to j ++ w ∷ [])) window-is
        ∙ ap window_places (sym (windows_to-limit j limit h)),
  )
