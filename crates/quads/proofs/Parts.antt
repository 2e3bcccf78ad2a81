-- The laws of codes that lie in cells: a cell each, or four bytes. Assumes nothing.
use mathlib.Core.Path.{◌≡◌, refl, sym, ap, ◌∙◌}
use mathlib.Core.List.{List, [], ◌∷◌}
use Prim.Native.Nat.{ℕ, zero, suc, ◌+◌, ◌-◌, ◌*◌, ◌<◌}
use native.Mathlib.Omega.{arith}
use lib.ListN.{get_or, take, drop}
use lib.Seq.{get_or-take, get_or-drop}
use Rattle.quads.specs.Bytes.{codes_of}
use Rattle.quads.specs.Parts.{Parts}
use Rattle.quads.proofs.Bytes.{codes-length, codes-drop}

codes-take : (k : ℕ) (s : List ℕ) → codes_of (take (k * 4) s) ≡ take k (codes_of s)
codes-take zero s = refl
codes-take (suc k) s = ap (λ (n : ℕ). codes_of (take n s)) (e k) ∙ go s (λ t. codes-take k t)
  where
    e : (k : ℕ) → suc k * 4 ≡ suc (suc (suc (suc (k * 4))))
    e k = omega arith

    go : (s : List ℕ) → ((t : List ℕ) → codes_of (take (k * 4) t) ≡ take k (codes_of t)) → codes_of (take (suc (suc (suc (suc (k * 4))))) s) ≡ take (suc k) (codes_of s)
    go [] h = refl
    go (a ∷ []) h = refl
    go (a ∷ b ∷ []) h = refl
    go (a ∷ b ∷ c ∷ []) h = refl
    go (a ∷ b ∷ c ∷ d ∷ s) h = ap (λ (l : List ℕ). (a + 256 * (b + 256 * (c + 256 * d))) ∷ l) (h s)

pub numbers : Parts (λ (l : List ℕ). l) (λ (n : ℕ). n)
numbers = record { fits = λ l n h. h; adds = λ n i. refl; part = λ l n i. refl }

pub quads : Parts codes_of (λ (n : ℕ). n * 4)
quads =
    record {
      fits = λ l n h. omega (arith, codes-length l);
      adds = λ n i. omega arith;
      part = λ l n i. codes-take i (drop (n * 4) l) ∙ ap (take i) (codes-drop n l);
    }

-- a code by itself is the number that lies there, or the one that is lent
pub number_single : (l : List ℕ) (place : ℕ) (lent : List ℕ) → lent ≡ take 1 (drop place l) → take 1 (drop place l) ≡ lent
number_single l place lent e = sym e

pub quad_single : (l : List ℕ) (place : ℕ) (lent : List ℕ) → lent ≡ take 1 (drop place (codes_of l)) → lent ≡ lent
quad_single l place lent e = refl

-- a code of a part that is lent, `&cells[width n..width n + width i]`
pub part_code : {A : Type 0} {codes : List A → List ℕ} {width : ℕ → ℕ} (P : Parts codes width) (l : List A) (n i j : ℕ) → j < i
    → get_or (codes (take (width n + width i - width n) (drop (width n) l))) j 0 ≡ get_or (codes l) (n + j) 0
part_code {A} {codes} {width} P l n i j h =
    let e : width n + width i - width n ≡ width i = omega arith in
    rw (e, P.part l n i) (get_or-take i (drop n (codes l)) j 0 h ∙ get_or-drop n (codes l) j 0)
