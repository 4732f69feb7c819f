-- The five records of a load file, both ways: the fields that are read where a record stands are the record's, and
-- the record of the fields that are read stands where they are read.
use Prim.Native.Nat.{ℕ, ◌+◌, ◌^◌, ◌≤◌, ◌<◌}
use mathlib.Core.Bool.{Bool, true, false, cond}
use mathlib.Core.List.{List, [], ◌∷◌, ◌++◌, append_assoc}
use mathlib.Core.Path.{◌≡◌, refl, sym}
use native.Mathlib.Omega.{arith}
use lib.ListN.{length, length-append}
use Rattle.counting.proofs.lists.PieceLaws.{Stands, nothing-stands, cons-stands, stands-head, stands-tail}
use Rattle.words.specs.LittleEndian.{little_endian, byte_at, number_at, Bytes}
use Rattle.words.proofs.LittleEndianLaws.{little_endian-length}
use Rattle.load.specs.declared.Step.{Step}
use Rattle.load.specs.declared.Window.{Window}
use Rattle.load.specs.declared.Row.{Row}
use Rattle.load.specs.Load.{only_head}
use Rattle.load_records.specs.Records.{
  header_kind,
  row_kind,
  step_kind,
  window_kind,
  end_kind,
  carries,
  class_and_head,
  header_record,
  row_record,
  step_record,
  window_record,
  end_record,
}
use Rattle.load_records.proofs.LengthLaws.{row_kind-least, row_record-length}
use Rattle.load_file.specs.Places.{
  version_said,
  rows_said,
  steps_said,
  windows_said,
  class_said,
  head_said,
  step_in,
  window_in,
}
use Rattle.load_file.specs.RoundTrip.{HeldStep, HeldWindow, HeldRow}
use Rattle.load_file.proofs.layout.RecordLaws.{
  number_read,
  number-stands,
  number-first,
  number_behind,
  number-before,
  Due,
  record-due,
  record-fields,
  record-stands,
}

-- where the version carries no class and no head, the row has class 0 and head 1
pub record Carried (bs : List ℕ) (row : Row) : Type 0 where
  pub class-zero : carries (version_said bs) ≡ false → row.class ≡ 0
  pub head-one : carries (version_said bs) ≡ false → row.head ≡ only_head

module _ (bs : List ℕ) (at : ℕ) where
  -- a step
  module _ (s : Step) (h : Stands (step_record s) bs at) where
    pub step-due : Due step_kind bs at
    step-due = record-due step_kind bs at _ (simp (length-append, little_endian-length)) h

    pub step-read : HeldStep s → step_in bs at ≡ s
    step-read held =
        let rest : List ℕ = little_endian 2 s.wait in
        let fields = record-fields step_kind bs at (little_endian 2 s.cost ++ rest) h in
        let behind = number_behind 2 rest bs (at + 2) (at + 4) (omega arith) s.cost fields in
        let c = number-first 2 rest bs (at + 2) s.cost held.cost-fits fields in
        let w = number_read 2 bs (at + 4) s.wait held.wait-fits behind in
        λ i. record { cost = c i; wait = w i }

  pub step-stands : Bytes bs → Due step_kind bs at → Stands (step_record (step_in bs at)) bs at
  step-stands b d =
      let l : at + 6 ≤ length bs = d.inside in
      record-stands step_kind bs at _ (omega arith) d
      (number-before 2 _ bs (at + 2) (at + 4) (omega arith) b (omega arith)
      (number-stands 2 bs (at + 4) b (omega arith)))

  -- a window
  module _ (w : Window) (h : Stands (window_record w) bs at) where
    pub window-due : Due window_kind bs at
    window-due = record-due window_kind bs at _ (simp little_endian-length) h

    pub window-read : HeldWindow w → window_in bs at ≡ w
    window-read held =
        let rest : List ℕ = little_endian 2 w.limit in
        let fields = record-fields window_kind bs at (w.first ∷ w.last ∷ rest) h in
        let second = stands-tail w.first (w.last ∷ rest) bs (at + 2) (at + 3) (omega arith) fields in
        let third = stands-tail w.last rest bs (at + 3) (at + 4) (omega arith) second in
        let p = stands-head w.first (w.last ∷ rest) bs (at + 2) 0 fields in
        let q = stands-head w.last rest bs (at + 3) 0 second in
        let r = number_read 2 bs (at + 4) w.limit held.limit-fits third in
        λ i. record { first = p i; last = q i; limit = r i }

  pub window-stands : Bytes bs → Due window_kind bs at → Stands (window_record (window_in bs at)) bs at
  window-stands b d =
      let l : at + 6 ≤ length bs = d.inside in
      record-stands window_kind bs at _ (omega arith) d
      (cons-stands _ _ bs (at + 2) (at + 3) (omega arith) 0 (omega arith) refl
      (cons-stands _ _ bs (at + 3) (at + 4) (omega arith) 0 (omega arith) refl
      (number-stands 2 bs (at + 4) b (omega arith))))

  -- the end record
  module _ (n : ℕ) (h : Stands (end_record n) bs at) where
    pub end-due : Due end_kind bs at
    end-due = record-due end_kind bs at _ (simp little_endian-length) h

    pub end_read : n < 2 ^ 16 → number_at 2 bs (at + 2) ≡ n
    end_read l = number_read 2 bs (at + 2) n l (record-fields end_kind bs at (little_endian 2 n) h)

  pub end-stands : Bytes bs → Due end_kind bs at → Stands (end_record (number_at 2 bs (at + 2))) bs at
  end-stands b d =
      let l : at + 4 ≤ length bs = d.inside in
      record-stands end_kind bs at _ (omega arith) d (number-stands 2 bs (at + 2) b (omega arith))

  -- a row's own record, in the version that the bytes name
  pub record RowRead (row : Row) : Type 0 where
    pub identifier-read : number_at 4 bs (at + 2) ≡ row.identifier.0
    pub box_read : number_at 4 bs (at + 6) ≡ row.box_number.0
    pub phase-read : number_at 4 bs (at + 10) ≡ row.phase
    pub deadline-read : number_at 4 bs (at + 14) ≡ row.deadline
    pub steps-read : steps_said bs at ≡ row.steps
    pub windows-read : windows_said bs at ≡ row.windows
    pub class-read : class_said bs at ≡ row.class
    pub head_read : head_said bs at ≡ row.head

  -- the class and the head that are read, by whether the version carries them
  module _ (row : Row) where
    class-read-there : Carried bs row → Stands (class_and_head (version_said bs) row) bs (at + 20)
        → class_said bs at ≡ row.class
    class-read-there c h = go (carries (version_said bs)) refl
      where
        go : (b : Bool) → carries (version_said bs) ≡ b → cond b (byte_at bs (at + 20)) 0 ≡ row.class
        go true e = stands-head row.class (row.head ∷ []) bs (at + 20) 0 (rw e at h)
        go false e = sym (c.class-zero e)

    head-read-there : Carried bs row → Stands (class_and_head (version_said bs) row) bs (at + 20)
        → head_said bs at ≡ row.head
    head-read-there c h = go (carries (version_said bs)) refl
      where
        go : (b : Bool) → carries (version_said bs) ≡ b → cond b (byte_at bs (at + 21)) only_head ≡ row.head
        go true e =
            stands-head row.head [] bs (at + 21) 0
            (stands-tail row.class (row.head ∷ []) bs (at + 20) (at + 21) (omega arith) (rw e at h))
        go false e = sym (c.head-one e)

    class-and-head-stand : at + (row_kind (version_said bs)).size ≤ length bs → class_said bs at ≡ row.class
        → head_said bs at ≡ row.head → Stands (class_and_head (version_said bs) row) bs (at + 20)
    class-and-head-stand = go (carries (version_said bs))
      where
        go : (b : Bool) → at + cond b 22 20 ≤ length bs → cond b (byte_at bs (at + 20)) 0 ≡ row.class
            → cond b (byte_at bs (at + 21)) only_head ≡ row.head
            → Stands (cond b (row.class ∷ row.head ∷ []) []) bs (at + 20)
        go true l c h =
            cons-stands _ _ bs (at + 20) (at + 21) (omega arith) 0 (omega arith) c
            (cons-stands _ _ bs (at + 21) (at + 22) (omega arith) 0 (omega arith) h (nothing-stands bs (at + 22)))
        go false l c h = nothing-stands bs (at + 20)

  module _ (row : Row) (h : Stands (row_record (version_said bs) row) bs at) where
    pub row-due : Due (row_kind (version_said bs)) bs at
    row-due = record-due (row_kind (version_said bs)) bs at _ (omega (arith, row_record-length (version_said bs) row)) h

    pub row_read : HeldRow row → Carried bs row → RowRead row
    row_read held carried =
        let tail : List ℕ = class_and_head (version_said bs) row in
        let counts : List ℕ = row.steps ∷ row.windows ∷ tail in
        let from-deadline : List ℕ = little_endian 4 row.deadline ++ counts in
        let from-phase : List ℕ = little_endian 4 row.phase ++ from-deadline in
        let box : ℕ = row.box_number.0 in
        let from-box : List ℕ = little_endian 4 box ++ from-phase in
        let identifier : ℕ = row.identifier.0 in
        let h₁ : Stands (little_endian 4 identifier ++ from-box) bs (at + 2) =
        simp append_assoc at (record-fields (row_kind (version_said bs)) bs at _ h) in
        let h₂ = number_behind 4 from-box bs (at + 2) (at + 6) (omega arith) identifier h₁ in
        let h₃ = number_behind 4 from-phase bs (at + 6) (at + 10) (omega arith) box h₂ in
        let h₄ = number_behind 4 from-deadline bs (at + 10) (at + 14) (omega arith) row.phase h₃ in
        let h₅ = number_behind 4 counts bs (at + 14) (at + 18) (omega arith) row.deadline h₄ in
        let h₆ = stands-tail row.steps (row.windows ∷ tail) bs (at + 18) (at + 19) (omega arith) h₅ in
        let h₇ = stands-tail row.windows tail bs (at + 19) (at + 20) (omega arith) h₆ in
        record {
          identifier-read = number-first 4 from-box bs (at + 2) identifier held.identifier-fits h₁;
          box_read = number-first 4 from-phase bs (at + 6) box held.box-fits h₂;
          phase-read = number-first 4 from-deadline bs (at + 10) row.phase held.phase-fits h₃;
          deadline-read = number-first 4 counts bs (at + 14) row.deadline held.deadline-fits h₄;
          steps-read = stands-head row.steps (row.windows ∷ tail) bs (at + 18) 0 h₅;
          windows-read = stands-head row.windows tail bs (at + 19) 0 h₆;
          class-read = class-read-there row carried h₇;
          head_read = head-read-there row carried h₇;
        }

  pub row-stands : Bytes bs → Due (row_kind (version_said bs)) bs at → (row : Row) → RowRead row
      → Stands (row_record (version_said bs) row) bs at
  row-stands b d row r =
      let long : at + (row_kind (version_said bs)).size ≤ length bs = d.inside in
      let l : at + 20 ≤ length bs = omega (arith, long, row_kind-least (version_said bs)) in
      record-stands (row_kind (version_said bs)) bs at _ (omega (arith, row_kind-least (version_said bs))) d
      (simp (append_assoc, ← r.identifier-read, ← r.box_read, ← r.phase-read, ← r.deadline-read)
      (number-before 4 _ bs (at + 2) (at + 6) (omega arith) b (omega arith)
      (number-before 4 _ bs (at + 6) (at + 10) (omega arith) b (omega arith)
      (number-before 4 _ bs (at + 10) (at + 14) (omega arith) b (omega arith)
      (number-before 4 _ bs (at + 14) (at + 18) (omega arith) b (omega arith)
      (cons-stands _ _ bs (at + 18) (at + 19) (omega arith) 0 (omega arith) r.steps-read
      (cons-stands _ _ bs (at + 19) (at + 20) (omega arith) 0 (omega arith) r.windows-read
      (class-and-head-stand row long r.class-read r.head_read))))))))

-- the header
module _ (bs : List ℕ) where
  module _ (v n : ℕ) (h : Stands (header_record v n) bs 0) where
    pub header-due : Due header_kind bs 0
    header-due = record-due header_kind bs 0 _ refl h

    header-fields : Stands (v ∷ n ∷ []) bs 2
    header-fields = record-fields header_kind bs 0 _ h

    pub rows-read : rows_said bs ≡ n
    rows-read = stands-head n [] bs 3 0 (stands-tail v (n ∷ []) bs 2 3 refl header-fields)

  pub header-stands : Due header_kind bs 0 → Stands (header_record (version_said bs) (rows_said bs)) bs 0
  header-stands d =
      let l : 4 ≤ length bs = d.inside in
      record-stands header_kind bs 0 _ (omega arith) d
      (cons-stands (version_said bs) (rows_said bs ∷ []) bs 2 3 refl 0 (omega arith) refl
      (cons-stands (rows_said bs) [] bs 3 4 refl 0 (omega arith) refl (nothing-stands bs 4)))
