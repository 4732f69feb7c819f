-- Laws of a text that is gathered piece by piece: two pieces put one behind the other are put as one, and what has room
-- is what the text holds.
use Prim.Native.Nat.{ℕ, suc, ◌+◌, ◌≤◌, ◌<◌, min}
use mathlib.Core.List.{List, [], ◌∷◌, ◌++◌, append_assoc, append-nil}
use mathlib.Core.Path.{◌≡◌, refl, ap, ap₂, sym, ◌∙◌}
use native.Mathlib.Omega.{arith}
use native.Mathlib.Numerals.{add-one}
use lib.ListN.{length, take, get_or, length-append, replicate, length-replicate}
use lib.Seq.{sets, length-sets, take-suc}
use Rattle.std.proofs.Common.{inl, inr}
use Rattle.std.proofs.lemmas.Bool.{cases_lt}
use Rattle.counting.specs.Lists.{join_to, join_in}
use Rattle.counting.proofs.lists.ListLaws.{join_to-next, join_in-append}
use Rattle.words.specs.declared.Word.{Word}
use Rattle.words.specs.Calls.{word_holding}
use Rattle.words.proofs.DecimalLaws.{word-taken}
use Rattle.words.proofs.OverwriteLaws.{sets-append, sets_behind, sets-past, sets-alone}
use Rattle.lines.specs.declared.Text.{Text}
use Rattle.lines.specs.Calls.{text_places, text_holding}
use Rattle.lines.specs.inner.Puts.{text_with, Puts}

-- nothing is put
pub puts-none : (text : Text) → Puts text [] text
puts-none text = record { behind = λ had e. e ∙ ap text_with (sym (append-nil had)) }

module _ {old text new : Text} {xs ys : List ℕ} where
  pub puts-more : Puts old xs text → Puts text ys new → Puts old (xs ++ ys) new
  puts-more p q =
      record {
        behind =
            λ had e. q.behind (had ++ xs) (p.behind had e) ∙ ap text_with (append_assoc had xs ys);
      }

-- the same bytes, otherwise written
pub puts_same : {old new : Text} {xs ys : List ℕ} → xs ≡ ys → Puts old xs new → Puts old ys new
puts_same e p = rw e at p

-- bytes written where some end, of which as many were written as had a place, are written behind them
sets-behind : (n at : ℕ) (had bs : List ℕ) → at ≡ min (length had) n
    → sets (sets (replicate n 0) 0 had) at bs ≡ sets (replicate n 0) 0 (had ++ bs)
sets-behind n at had bs e =
    elim (cases_lt n (length had)) [
      | inl l ↦
          let held = length-sets (replicate n 0) 0 had ∙ length-replicate n 0 in
          sets-past _ at bs (omega (arith, held))
          ∙ sym (sets-past _ (0 + length had) bs (omega (arith, held)))
          ∙ sets-append (replicate n 0) 0 had bs
      | inr l ↦ sets_behind (replicate n 0) 0 at had bs (omega arith)
    ]

-- so they are put
pub puts-written : (old : Text) (bs : List ℕ) (size : ℕ) (out : List ℕ)
    → out ≡ sets old.bytes old.length bs → size ≡ min (old.length + length bs) text_places
    → Puts old bs (record { length = size; bytes = out })
puts-written old bs size out written counted =
    record {
      behind =
          λ had e.
          let place = ap (λ (t : Text). t.length) e in
          ap₂ (λ l t. record { length = l; bytes = t }) (omega (arith, place, length-append had bs))
          (written
          ∙ ap (λ (t : Text). sets t.bytes old.length bs) e
          ∙ sets-behind text_places old.length had bs place);
    }

-- a text with room for its bytes holds them
text_with-holding : (bs : List ℕ) → length bs ≤ text_places → text_with bs ≡ text_holding bs
text_with-holding bs h =
    let size : min (length bs) text_places ≡ length bs = omega arith in
    ap₂ (λ l t. record { length = l; bytes = t }) size (sets-alone text_places 0 bs h)

-- what is put into a text that has none
pub puts-holding : (bs : List ℕ) (new : Text)
    → Puts (record { length = 0; bytes = replicate text_places 0 }) bs new
    → length bs ≤ text_places → new ≡ text_holding bs
puts-holding bs new p h = p.behind [] refl ∙ text_with-holding bs h

-- of what is made of a list's members, one by one: none is put yet
pub puts-in_none : {B : Type 0} (f : B → List ℕ) (xs : List B) (text : Text) → Puts text (join_in f (take 0 xs)) text
unfolding join_in
puts-in_none f xs text = puts-none text

-- so many are put, and the next one behind them
pub puts-in_next : {B : Type 0} {old text new : Text} (f : B → List ℕ) (xs : List B) (n : ℕ) (z : B) → n < length xs
    → Puts old (join_in f (take n xs)) text → Puts text (f (get_or xs n z)) new
    → Puts old (join_in f (take (n + 1) xs)) new
unfolding join_in
puts-in_next f xs n z l p q =
    puts_same
    (ap (λ bs. join_in f (take n xs) ++ bs) (sym (append-nil (f (get_or xs n z))))
    ∙ sym (join_in-append f (take n xs) (get_or xs n z ∷ []))
    ∙ ap (join_in f) (sym (ap (λ k. take k xs) (add-one n) ∙ take-suc xs n z l)))
    (puts-more p q)

-- the same, of what is made of each place
pub puts-to_none : (f : ℕ → List ℕ) (text : Text) → Puts text (join_to f 0) text
unfolding join_to
puts-to_none f text = puts-none text

pub puts-to_next : {old text new : Text} (f : ℕ → List ℕ) (n : ℕ) → Puts old (join_to f n) text → Puts text (f n) new
    → Puts old (join_to f (n + 1)) new
puts-to_next f n p q = puts_same (sym (join_to-next f n)) (puts-more p q)

-- a space and a word that holds a text of at most so many bytes: a text grows by no more than these
pub put-held : {old new : Text} (word : Word) (bs : List ℕ) (most : ℕ) → word ≡ word_holding bs → length bs ≤ most
    → Puts old (32 ∷ take word.length word.bytes) new
    → Puts old (32 ∷ bs) new × ((had : List ℕ) → old ≡ text_with had → new.length ≤ old.length + suc most)
put-held {old} {new} word bs most e h p =
    let q = puts_same (ap (λ l. 32 ∷ l) (word-taken word bs e)) p in (
      q,
      λ had is.
          let before : old.length ≡ min (length had) text_places = ap (λ (t : Text). t.length) is in
          let after : new.length ≡ min (length (had ++ 32 ∷ bs)) text_places =
          ap (λ (t : Text). t.length) (q.behind had is) in
          omega (arith, before, after, length-append had (32 ∷ bs)),
    )
