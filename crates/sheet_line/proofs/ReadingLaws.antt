-- Reading a line field by field: a byte that is not 0 is a byte of the list, so each place that is reached lies inside
-- it; each field stands behind the one before; and the fields, the mark and CR LF are the line.
use Prim.Native.Nat.{ℕ, ◌+◌}
use mathlib.Core.Bool.{true, false, ◌&&◌, and_assoc, and-false}
use mathlib.Core.List.{List}
use mathlib.Core.Path.{◌≡◌, refl, ap, ap₂, sym, ◌∙◌}
use native.Mathlib.Numerals.{add-one}
use Rattle.std.specs.Prelude.{Some, None}
use Rattle.std.proofs.lemmas.Option.{cond_some}
use Rattle.counting.specs.Lists.{join_to, list_to, member_at}
use Rattle.words.proofs.ReadLaws.{cond_none}
use Rattle.sheet_line.specs.declared.LineRead.{LineRead}
use Rattle.sheet_line.specs.declared.reading.Fields.{Fields}
use Rattle.sheet_line.specs.declared.reading.MarkRead.{MarkRead}
use Rattle.sheet_line.specs.Line.{
  behind_digits,
  field_place,
  field_in,
  numbers,
  mark_place,
  mark_at,
  behind_mark,
  line_end,
  is_line,
  line_in,
  next_line,
}
use Rattle.sheet_line.specs.Calls.{LineAt}
use Rattle.sheet_line.specs.inner.Fields.{fields_to, FieldsAt, MarkReadAt, ends_at}

pub field_place-zero : (bs : List ℕ) (at : ℕ) → field_place bs at 0 ≡ at
unfolding field_place
field_place-zero bs at = refl

pub field_place-next : (bs : List ℕ) (at k : ℕ)
    → field_place bs at (k + 1) ≡ behind_digits bs (field_place bs at k) + 1
unfolding field_place
field_place-next bs at k = rw (add-one k)

-- a line that is made of six numbers and a mark
abbrev pub line_with : List ℕ → MarkRead → LineRead
line_with values marked =
    record {
      line =
          record {
            identifier = member_at values 0;
            box_number = member_at values 1;
            phase = member_at values 2;
            deadline = member_at values 3;
            cost = member_at values 4;
            wait = member_at values 5;
            mark = marked.mark;
          };
      next = marked.next + 2;
    }

module _ (bs : List ℕ) (at : ℕ) where
  -- the fields are read where all of them stand
  pub fields_none : fields_to bs at numbers ≡ false → FieldsAt bs at None
  fields_none e = rw e

  pub fields-some : (values : List ℕ) (next : ℕ) → fields_to bs at numbers ≡ true
      → values ≡ list_to (field_in bs at) numbers → next ≡ mark_place bs at
      → FieldsAt bs at (Some (record { values = values; next = next }))
  fields-some values next e v n = rw e (ap₂ (λ vs m. Some (record { values = vs; next = m })) v n)

  is_line-parts : is_line bs at ≡ (fields_to bs at numbers && ends_at bs (line_end bs at))
  unfolding is_line
  is_line-parts = and_assoc (fields_to bs at numbers) _ _

  none : is_line bs at ≡ false → LineAt bs at None
  none e = rw e

  -- no line without its fields
  pub fields-lack : FieldsAt bs at None → LineAt bs at None
  fields-lack r =
      none (is_line-parts ∙ ap (λ t. t && ends_at bs (line_end bs at)) (cond_none (fields_to bs at numbers) _ (sym r)))

  module _ (fields : Fields) (f : FieldsAt bs at (Some fields)) (marked : MarkRead)
      (m : MarkReadAt bs fields.next marked) where
    abbrev all : Fields
    all = record { values = list_to (field_in bs at) numbers; next = mark_place bs at }

    given : (fields_to bs at numbers ≡ true) × (all ≡ fields)
    given = cond_some (fields_to bs at numbers) all fields (sym f)

    -- the mark is the one behind the fields
    marks : MarkReadAt bs (mark_place bs at) marked
    marks =
        m
        ∙ ap (λ place. record { mark = mark_at bs place; next = behind_mark bs place })
        (sym (ap (λ (f : Fields). f.next) given.1))

    ended : ends_at bs marked.next ≡ ends_at bs (line_end bs at)
    ended = ap (λ (m : MarkRead). ends_at bs m.next) marks

    -- nor without its CR LF
    pub end-lacks : ends_at bs marked.next ≡ false → LineAt bs at None
    end-lacks e =
        none
        (is_line-parts
        ∙ ap (λ t. fields_to bs at numbers && t) (sym ended ∙ e)
        ∙ and-false (fields_to bs at numbers))

    -- fields, mark and CR LF are a line
    pub line_read : ends_at bs marked.next ≡ true → LineAt bs at (Some (line_with fields.values marked))
    unfolding join_to line_in next_line
    line_read e =
        rw (is_line-parts ∙ ap₂ ◌&&◌ given.0 (sym ended ∙ e))
        (ap Some (ap₂ line_with (sym (ap (λ (f : Fields). f.values) given.1)) marks))
