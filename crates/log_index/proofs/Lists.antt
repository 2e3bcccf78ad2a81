-- Elements by number, and every 64th of them. Assumes nothing.
use mathlib.Core.Path.{◌≡◌, refl, sym, ap, ◌∙◌}
use mathlib.Core.Logic.{◌↔◌}
use mathlib.Core.Option.{Option, none, some}
use mathlib.Core.List.{List, [], ◌∷◌}
use Prim.Native.Nat.{ℕ, zero, suc, ◌+◌, ◌-◌, ◌*◌, ◌/◌, ◌≤◌}
use native.Mathlib.Omega.{arith}
use lib.ListN.{length, drop, get_elem?}
use lib.Seq.{drop-nil}
use Rattle.form.specs.Text.{All}
use Rattle.log_index.specs.Index.{every}

pub elem_drop : {A : Type 0} (l : List A) (m j : ℕ) → get_elem? (drop m l) j ≡ get_elem? l (m + j)
elem_drop l zero j = ap (get_elem? l) (let z : j ≡ 0 + j = omega arith in z)
elem_drop [] (suc m) j = refl
elem_drop (p ∷ l) (suc m) j = elem_drop l m j ∙ ap (get_elem? (p ∷ l)) (let z : suc (m + j) ≡ suc m + j = omega arith in z)

-- the first of what is left
pub elem_first : {A : Type 0} (l : List A) (m : ℕ) (x : A) (t : List A) → drop m l ≡ x ∷ t → get_elem? l m ≡ some x
elem_first {A = A} l m x t e = ap (get_elem? l) (let z : m ≡ m + 0 = omega arith in z) ∙ sym (elem_drop l m 0) ∙ ap (λ (k : List A). get_elem? k 0) e

some-none : {A : Type 0} (p : ℕ) → ◌≡◌ {A = Option ℕ} (some p) none → A
some-none p e = let z : ◌≡◌ {A = ℕ} 0 1 = cc in absurd (omega arith)

-- there is none exactly from the length on
pub elem_none : (l : List ℕ) (k : ℕ) → (get_elem? l k ≡ none) ↔ (length l ≤ k)
elem_none [] k = (λ e. omega arith, λ h. refl)
elem_none (p ∷ l) zero = (some-none p, λ h. absurd (omega arith))
elem_none (p ∷ l) (suc k) = let (a, b) = elem_none l k in (λ e. omega (arith, a e), λ h. b (omega arith))

-- ---- every 64th

pub every-at : (l : List ℕ) (k j : ℕ) → get_elem? (every k l) j ≡ get_elem? l (k + j * 64)
every-at [] k j = refl
every-at (p ∷ l) zero zero = refl
every-at (p ∷ l) zero (suc j) = every-at l 63 j ∙ ap (get_elem? (p ∷ l)) (let z : suc (63 + j * 64) ≡ 0 + suc j * 64 = omega arith in z)
every-at (p ∷ l) (suc k) j = every-at l k j ∙ ap (get_elem? (p ∷ l)) (let z : suc (k + j * 64) ≡ suc k + j * 64 = omega arith in z)

pub every_skip : (k : ℕ) (l : List ℕ) → every k l ≡ every 0 (drop k l)
every_skip zero l = refl
every_skip (suc k) [] = refl
every_skip (suc k) (p ∷ l) = every_skip k l

pub every_drop : (l : List ℕ) (k j : ℕ) → drop j (every k l) ≡ every 0 (drop (k + j * 64) l)
every_drop [] k j = drop-nil j ∙ sym (ap (every 0) (drop-nil (k + j * 64)))
every_drop (p ∷ l) zero zero = refl
every_drop (p ∷ l) zero (suc j) = every_drop l 63 j ∙ ap (λ (n : ℕ). every 0 (drop n (p ∷ l))) (let z : suc (63 + j * 64) ≡ 0 + suc j * 64 = omega arith in z)
every_drop (p ∷ l) (suc k) j = every_drop l k j ∙ ap (λ (n : ℕ). every 0 (drop n (p ∷ l))) (let z : suc (k + j * 64) ≡ suc k + j * 64 = omega arith in z)

pub every-length : (k : ℕ) (l : List ℕ) → k ≤ 63 → length (every k l) ≡ (length l + (63 - k)) / 64
every-length k [] h = omega arith
every-length zero (p ∷ l) h = omega (arith, every-length 63 l (omega arith))
every-length (suc k) (p ∷ l) h = omega (arith, every-length k l (omega arith))

pub every-few : (k : ℕ) (l : List ℕ) → length (every k l) ≤ (length l + 63) / 64
every-few k [] = omega arith
every-few zero (p ∷ l) = omega (arith, every-length 63 l (omega arith))
every-few (suc k) (p ∷ l) = omega (arith, every-few k l)

pub every_all : (P : ℕ → Type 0) (k : ℕ) (l : List ℕ) → All P l → All P (every k l)
every_all P k [] h = tt
every_all P zero (p ∷ l) h = (h.0, every_all P 63 l h.1)
every_all P (suc k) (p ∷ l) h = every_all P k l h.1
