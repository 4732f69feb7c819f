-- A line is put word by word: its first word, and for each other a space and the word.
use Prim.Native.Nat.{ℕ}
use mathlib.Core.List.{List, [], ◌∷◌, ◌++◌, append_assoc, append-nil}
use mathlib.Core.Path.{◌≡◌, refl, ap, sym, ◌∙◌}
use Rattle.counting.specs.Lists.{join_in}
use Rattle.lines.specs.declared.Text.{Text}
use Rattle.lines.specs.Lines.{spaced}
use Rattle.lines.specs.inner.Puts.{spaced_all, Puts}
use Rattle.lines.proofs.PutLaws.{puts-more, puts_same}

spaced-more : (word : List ℕ) (others : List (List ℕ)) (next : List ℕ)
    → spaced word others ++ 32 ∷ next ≡ spaced word (others ++ next ∷ [])
unfolding spaced
spaced-more word [] next = refl
spaced-more word (other ∷ others) next =
    append_assoc word (32 ∷ spaced other others) (32 ∷ next)
    ∙ ap (λ l. word ++ 32 ∷ l) (spaced-more other others next)

spaced-all : (word : List ℕ) (others more : List (List ℕ))
    → spaced word others ++ spaced_all more ≡ spaced word (others ++ more)
unfolding join_in
spaced-all word others [] = append-nil (spaced word others) ∙ ap (spaced word) (sym (append-nil others))
spaced-all word others (next ∷ more) =
    sym (append_assoc (spaced word others) (32 ∷ next) (spaced_all more))
    ∙ ap (λ l. l ++ spaced_all more) (spaced-more word others next)
    ∙ spaced-all word (others ++ next ∷ []) more
    ∙ ap (spaced word) (append_assoc others (next ∷ []) more)

-- the first word alone
pub first_word : {old text : Text} (word : List ℕ) → Puts old word text → Puts old (spaced word []) text
unfolding spaced
first_word word p = p

-- one word more
pub next_word : {old text new : Text} (word : List ℕ) (others : List (List ℕ)) (next : List ℕ)
    → Puts old (spaced word others) text → Puts text (32 ∷ next) new
    → Puts old (spaced word (others ++ next ∷ [])) new
next_word word others next p q = puts_same (spaced-more word others next) (puts-more p q)

-- some words more
pub next-words : {old text new : Text} (word : List ℕ) (others more : List (List ℕ))
    → Puts old (spaced word others) text → Puts text (spaced_all more) new
    → Puts old (spaced word (others ++ more)) new
next-words word others more p q = puts_same (spaced-all word others more) (puts-more p q)
