-- Of six places, the first four of a sequence of at most four bytes. Assumes nothing.
use Rattle.std.proofs.Common.{◌≡◌, ℕ, ◌≤◌, List, [], ◌∷◌, ◌++◌, length, take, get_or, refl, arith}

abbrev place : List ℕ → ℕ → ℕ
place w k = get_or (take 6 (w ++ (0 ∷ 0 ∷ 0 ∷ 0 ∷ 0 ∷ 0 ∷ []))) k 0

pub four_places : (w : List ℕ) → length w ≤ 4 → place w 0 ∷ place w 1 ∷ place w 2 ∷ place w 3 ∷ [] ≡ take 4 (w ++ (0 ∷ 0 ∷ 0 ∷ 0 ∷ []))
four_places [] l = refl
four_places (a ∷ []) l = refl
four_places (a ∷ b ∷ []) l = refl
four_places (a ∷ b ∷ c ∷ []) l = refl
four_places (a ∷ b ∷ c ∷ d ∷ []) l = refl
four_places (a ∷ b ∷ c ∷ d ∷ e ∷ w) l = absurd (omega arith)
