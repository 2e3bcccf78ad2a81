-- Lines of the request C-14. Assumes nothing.
use Rattle.std.specs.Prelude.{◌≡◌, List, [], ◌∷◌, ℕ}
use Rattle.reason.specs.Reason.{number, reason}

abbrev pub why : List ℕ → ℕ → ℕ
why s place = number (reason s place)

pub record Lines : Type 0 where
  -- good places, and inside a sequence
  pub letter : why (0x41 ∷ []) 0 ≡ 0
  pub e_acute : why (0xC3 ∷ 0xA9 ∷ []) 0 ≡ 0
  pub inside_e_acute : why (0xC3 ∷ 0xA9 ∷ []) 1 ≡ 1
  -- bytes that begin nothing
  pub C0 : why (0xC0 ∷ 0x80 ∷ []) 0 ≡ 2
  pub after_C0 : why (0xC0 ∷ 0x80 ∷ []) 1 ≡ 1
  pub F5 : why (0xF5 ∷ []) 0 ≡ 3
  pub FF : why (0xFF ∷ []) 0 ≡ 3
  -- at the second byte, also where it is the last
  pub E0-80 : why (0xE0 ∷ 0x80 ∷ []) 0 ≡ 4
  pub E0-9F-BF : why (0xE0 ∷ 0x9F ∷ 0xBF ∷ []) 0 ≡ 4
  pub F0-8F : why (0xF0 ∷ 0x8F ∷ []) 0 ≡ 4
  pub ED-A0 : why (0xED ∷ 0xA0 ∷ []) 0 ≡ 5
  pub F4-90 : why (0xF4 ∷ 0x90 ∷ []) 0 ≡ 6
  -- a byte where a continuation was due
  pub E0-letter : why (0xE0 ∷ 0x41 ∷ []) 0 ≡ 7
  pub F0-90-letter : why (0xF0 ∷ 0x90 ∷ 0x41 ∷ []) 0 ≡ 7
  pub C2-zero : why (0xC2 ∷ 0x00 ∷ []) 0 ≡ 7
  pub E1-80-E2 : why (0xE1 ∷ 0x80 ∷ 0xE2 ∷ []) 0 ≡ 7
  -- the end
  pub last_E2 : why (0xE1 ∷ 0x80 ∷ 0xE2 ∷ []) 2 ≡ 8
  pub E0-alone : why (0xE0 ∷ []) 0 ≡ 8
  pub cut_droplet : why (0xF0 ∷ 0x9F ∷ 0x92 ∷ []) 0 ≡ 8
  pub cut_prime : why (0x34 ∷ 0x30 ∷ 0xE2 ∷ 0x80 ∷ []) 2 ≡ 8
  pub none : why [] 0 ≡ 9
  pub at_end : why (0x41 ∷ []) 1 ≡ 9
  pub far_past : why (0x41 ∷ []) 18446744073709551615 ≡ 9
