-- "Load file", worked: a file of one row, byte by byte, in both versions, and the load that it
-- spells. To be read after Calls.
use Rattle.std.specs.Prelude.{ℕ, List, [], ◌∷◌}
use Rattle.counting.specs.Lists.{join_in}
use Rattle.load.specs.declared.Load.{Load}
use Rattle.load.specs.Notation.{◌w◌, window, classed, row_with, load_of}

-- the records of a file, put together
unfoldable pub joined : List (List ℕ) → List ℕ
joined records = join_in (λ part. part) records

-- version 1, and so many rows
abbrev pub header : ℕ → List ℕ
header rows = 0x4C ∷ 0x44 ∷ 0x01 ∷ rows ∷ []

-- version 2, and so many rows
abbrev pub header2 : ℕ → List ℕ
header2 rows = 0x4C ∷ 0x44 ∷ 0x02 ∷ rows ∷ []

-- identifier 67,305,985, box 134,678,021, phase 86,400, deadline 1,000,000; 2 steps and 1 window
abbrev pub row : List ℕ
row =
    0x52 ∷ 0x57
    ∷ 0x01 ∷ 0x02 ∷ 0x03 ∷ 0x04
    ∷ 0x05 ∷ 0x06 ∷ 0x07 ∷ 0x08
    ∷ 0x80 ∷ 0x51 ∷ 0x01 ∷ 0x00
    ∷ 0x40 ∷ 0x42 ∷ 0x0F ∷ 0x00
    ∷ 0x02 ∷ 0x01
    ∷ []

-- cost 258 and wait 2,826; cost 3 and wait 0
abbrev pub steps : List ℕ
steps =
    0x53 ∷ 0x54 ∷ 0x02 ∷ 0x01 ∷ 0x0A ∷ 0x0B
    ∷ 0x53 ∷ 0x54 ∷ 0x03 ∷ 0x00 ∷ 0x00 ∷ 0x00
    ∷ []

-- steps 1 to 2, limit 3,087, which is the chain: 258 + 2,826 + 3
abbrev pub windows : List ℕ
windows = 0x57 ∷ 0x4E ∷ 0x01 ∷ 0x02 ∷ 0x0F ∷ 0x0C ∷ []

-- so many steps in the whole load
abbrev pub end : ℕ → List ℕ
end n = 0x45 ∷ 0x4E ∷ n ∷ 0x00 ∷ []

-- a file of one row
unfoldable pub file : List (List ℕ)
file = header 1 ∷ row ∷ steps ∷ windows ∷ end 2 ∷ []

-- a class and a head, behind the row's window count
abbrev pub class_head : ℕ → ℕ → List ℕ
class_head class head = class ∷ head ∷ []

-- the same file in version 2, with a class and a head
unfoldable pub file2 : ℕ → ℕ → List (List ℕ)
file2 class head = header2 1 ∷ row ∷ class_head class head ∷ steps ∷ windows ∷ end 2 ∷ []

-- the load that version 2 spells
unfoldable pub spelled2 : ℕ → ℕ → Load
spelled2 class head =
    load_of
    (classed class head
    (row_with 67305985 134678021 86400 1000000
    (258 w 2826 ∷ 3 w 0 ∷ [])
    (window 1 2 3087 ∷ []))
    ∷ [])

-- the load that version 1 spells: class 0 and head 1
abbrev pub spelled : Load
spelled = spelled2 0 1
