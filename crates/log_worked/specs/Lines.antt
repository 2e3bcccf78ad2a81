-- Lines of the request C-17. Assumes nothing.
use Rattle.std.specs.Prelude.{◌≡◌, List, [], ◌∷◌, ◌++◌, ℕ, length, replicate}
use Rattle.std.proofs.Math.Option.{none, some}
use Rattle.form.specs.Table.{plain}
use Rattle.form.specs.Text.{coded, stray, items}
use Rattle.numbers.specs.Number.{laid_in}
use Rattle.bounds.specs.Cover as Cover
use Rattle.bounds.specs.Cover.{Cover, covers, covering}
use Rattle.log_index.specs.Index.{finding, records}
use Rattle.log_index.specs.Update.{Indexing, refused, building, updating}

-- so many letters
abbrev pub letters : ℕ → List ℕ
letters n = replicate n 0x61

-- the bytes of records
abbrev pub laid : List ℕ → List ℕ
laid rs = laid_in 8 rs

-- an index of these records
abbrev pub gives : List ℕ → Indexing
gives rs = record { number = 0; records = length rs; bytes = laid rs }

abbrev pub item_at : List ℕ → ℕ → Cover
item_at s p = covering 0 (items plain 0 s) p

abbrev pub prime : List ℕ
prime = 0xE2 ∷ 0x80 ∷ 0xB2 ∷ []

pub record Lines : Type 0 where
  -- a record for each 64 codes, begun: none for code 128 where there are 128
  pub letters_128 : building (letters 128) 24 ≡ gives (0 ∷ 64 ∷ [])
  pub letters_129 : building (letters 129) 24 ≡ gives (0 ∷ 64 ∷ 128 ∷ [])
  pub no_codes : building [] 0 ≡ gives []
  pub no_room : building (letters 129) 23 ≡ refused 1
  -- places count bytes: the last of 64 codes is ′
  pub prime_at_63 : building (letters 63 ++ (prime ++ letters 1)) 16 ≡ gives (0 ∷ 66 ∷ [])
  pub low_byte_first : (building (letters 300) 40).bytes ≡ laid (0 ∷ 64 ∷ 128 ∷ 192 ∷ []) ++ (0 ∷ 1 ∷ 0 ∷ 0 ∷ 0 ∷ 0 ∷ 0 ∷ 0 ∷ [])
  -- found from one record; past the last code, far past it, and without a record there is none
  pub last_letter : finding (letters 130) (0 ∷ 64 ∷ 128 ∷ []) 129 ≡ some 129
  pub past_letters : finding (letters 130) (0 ∷ 64 ∷ 128 ∷ []) 130 ≡ none
  pub far_past : finding (letters 130) (0 ∷ 64 ∷ 128 ∷ []) 18446744073709551615 ≡ none
  pub first_of_none : finding [] [] 0 ≡ none
  pub half_record : finding (letters 130) (records (laid (0 ∷ []) ++ (64 ∷ 0 ∷ 0 ∷ 0 ∷ []))) 64 ≡ none
  -- by another index the walk decides: from inside ′, and from the end
  pub inside_prime : finding prime (1 ∷ []) 0 ≡ some 1
  pub at_end : finding prime (3 ∷ []) 0 ≡ none
  pub reached_end : finding prime (1 ∷ []) 2 ≡ none
  -- the item that covers a byte
  pub prime_0 : item_at prime 0 ≡ covers 0 (coded 0x2032 3)
  pub prime_1 : item_at prime 1 ≡ covers 0 (coded 0x2032 3)
  pub prime_2 : item_at prime 2 ≡ covers 0 (coded 0x2032 3)
  pub prime_3 : item_at prime 3 ≡ Cover.none
  pub cut_prime : item_at (0xE2 ∷ 0x80 ∷ []) 1 ≡ covers 1 (stray 0x80 1)
  pub cut_droplet : item_at (0xF0 ∷ 0x9F ∷ 0x92 ∷ 0x41 ∷ []) 2 ≡ covers 2 (stray 0x92 1)
  -- an append that makes three codes one
  pub three_codes : length (items plain 0 (0xF0 ∷ 0x9F ∷ 0x92 ∷ [])) ≡ 3
  pub one_code : length (items plain 0 (0xF0 ∷ 0x9F ∷ 0x92 ∷ 0xA7 ∷ [])) ≡ 1
  pub fewer_codes : updating (0xF0 ∷ 0x9F ∷ 0x92 ∷ 0xA7 ∷ []) 3 (laid (0 ∷ [])) 1 ≡ gives (0 ∷ [])
  -- and records fewer: 62 letters and three bad bytes have two
  pub fewer_records : updating (letters 62 ++ (0xF0 ∷ 0x9F ∷ 0x92 ∷ 0xA7 ∷ [])) 65 (laid (0 ∷ 64 ∷ [])) 2 ≡ gives (0 ∷ [])
  -- 7 + 3 reaches the old length 10, and not 11
  pub one_stands : updating (letters 10) 10 (laid (0 ∷ 7 ∷ [])) 2 ≡ gives (0 ∷ [])
  pub both_stand : updating (letters 11) 11 (laid (0 ∷ 7 ∷ [])) 2 ≡ gives (0 ∷ 7 ∷ [])
  -- 15 before 1
  pub old_length : updating (letters 10) 11 [] 0 ≡ refused 15
  pub old_records : updating (letters 130) 130 (laid (0 ∷ [])) 2 ≡ refused 15
  pub no_room_after : updating (letters 130) 60 (laid (0 ∷ [])) 1 ≡ refused 1
