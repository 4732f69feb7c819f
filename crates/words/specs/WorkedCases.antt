-- "Little-endian", "bit 0 is row 1", "two's complement" and plain decimal, written and read, worked
-- by hand: on each the nearest wrong rule gives another answer.
use Rattle.std.specs.Prelude.{◌||◌, [], ◌∷◌, map, ◌≡◌, eqb, pos, negsuc}
use Rattle.words.specs.LittleEndian.{little_endian, number_at}
use Rattle.words.specs.LampWord.{word_of}
use Rattle.words.specs.TwosComplement.{twos_complement}
use Rattle.words.specs.Decimal.{text, decimal, signed_decimal}
use Rattle.words.specs.PlainDecimal.{plain_at, plain_value}

-- bytes, bits and decimals
pub record WorkedCases : Type 0 where
  -- the lowest byte first, and as many as the width asks for
  pub spelled : little_endian 4 1000000 ≡ 0x40 ∷ 0x42 ∷ 0x0F ∷ 0x00 ∷ []
  pub spelled-in-two : little_endian 2 258 ≡ 2 ∷ 1 ∷ []
  -- from its place on; a byte past the end is 0
  pub read : number_at 4 (9 ∷ 0x40 ∷ 0x42 ∷ 0x0F ∷ 0x00 ∷ 9 ∷ []) 1 ≡ 1000000
  pub read_past : number_at 2 (9 ∷ 7 ∷ []) 1 ≡ 7
  -- rows 1 and 3 of three: bits 0 and 2
  pub lamps : word_of (λ i. eqb i 0 || eqb i 2) 3 ≡ 5
  -- a negative number is raised by 2 ^ 32
  pub complements :
      map (twos_complement 32) (pos 0 ∷ pos 999999 ∷ negsuc 0 ∷ negsuc 806398 ∷ [])
      ≡ 0 ∷ 999999 ∷ 4294967295 ∷ 4294160897 ∷ []
  -- no leading zero, a zero inside, and all ten digits
  pub decimals :
      map decimal (0 ∷ 9 ∷ 10 ∷ 4294967295 ∷ [])
      ≡ text "0" ∷ text "9" ∷ text "10" ∷ text "4294967295" ∷ []
  -- a minus sign before a negative number alone
  pub signed :
      map signed_decimal (pos 0 ∷ pos 999999 ∷ negsuc 0 ∷ negsuc 806398 ∷ [])
      ≡ text "0" ∷ text "999999" ∷ text "-1" ∷ text "-806399" ∷ []
  -- as it is read, a 0 stands alone or behind another digit
  pub zeros-read :
      map (λ bs. plain_at bs 0) (text "0" ∷ text "00" ∷ text "0101" ∷ text "1010" ∷ [])
      ≡ 1 ∷ 0 ∷ 0 ∷ 4 ∷ []
  -- ten digits are read, and of eleven none
  pub ten-read :
      map (λ bs. plain_at bs 0) (text "9999999999" ∷ text "10000000000" ∷ []) ≡ 10 ∷ 0 ∷ []
  -- the digits end at any other byte, its neighbours '/' and ':' too, and at the list's end
  pub ends_read :
      map (λ bs. plain_at bs 0) (text "12,3" ∷ text "9:" ∷ text "0/" ∷ text "-1" ∷ text "" ∷ [])
      ≡ 2 ∷ 1 ∷ 1 ∷ 0 ∷ 0 ∷ []
  -- from a place in the middle on, to the end and no further
  pub middle-read :
      map (plain_at (text "12,3407")) (0 ∷ 1 ∷ 2 ∷ 3 ∷ 5 ∷ 7 ∷ []) ≡ 2 ∷ 1 ∷ 0 ∷ 4 ∷ 0 ∷ 0 ∷ []
  -- the first digit counts most; where none stands, the number is 0
  pub values-read :
      map (plain_value (text "12,3407,00")) (0 ∷ 1 ∷ 2 ∷ 3 ∷ 8 ∷ [])
      ≡ 12 ∷ 2 ∷ 0 ∷ 3407 ∷ 0 ∷ []
  pub most-read : plain_value (text "9999999999") 0 ≡ 9999999999
