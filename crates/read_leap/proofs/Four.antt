-- Bytes by fours. Assumes nothing.
use mathlib.Core.Path.{◌≡◌, refl, sym, ap, ◌∙◌}
use mathlib.Core.Bool.{Bool, true, false, ◌&&◌, true≢false}
use mathlib.Core.List.{List, [], ◌∷◌, ◌++◌, map, append-nil, append_assoc}
use Prim.Native.Nat.{ℕ, zero, suc, ◌+◌, ◌-◌, ◌≤◌, ◌<◌}
use native.Mathlib.Numerals.{add-one}
use native.Mathlib.Omega.{arith}
use lib.Dec.{ltb}
use lib.ListN.{length, get_or, take, drop}
use lib.Seq.{drop-cons, drop-length}
use borrow.Rule.Slice.PartMut.{mid_of, put_mid, mid_len, Post-is}
use borrow.Author.Tests.{ltb-true}
use Rattle.readings.specs.Come.{Layout, single}
use Rattle.readings.proofs.Come.{single-ascii, puts-front}

-- four bytes below 80 are their own codes
pub record Four (a b c d : ℕ) : Type 0 where
  pub ascii : (a ∷ b ∷ c ∷ d ∷ []) ≡ map single (a ∷ b ∷ c ∷ d ∷ [])
  pub below : (n j : ℕ) → 0 ≤ n + j → j < 4 → get_or (a ∷ b ∷ c ∷ d ∷ []) j 0 < 0x80

both : (x y : Bool) → (x && y) ≡ true → (x ≡ true) × (y ≡ true)
both true y e = (refl, e)
both false y e = absurd (true≢false (sym e))

pub four_of : (a b c d : ℕ) → (ltb a 0x80 && ltb b 0x80 && ltb c 0x80 && ltb d 0x80) ≡ true → Four a b c d
four_of a b c d e =
    let (f, h) = both (ltb a 0x80 && ltb b 0x80 && ltb c 0x80) (ltb d 0x80) e in
    let (g, k) = both (ltb a 0x80 && ltb b 0x80) (ltb c 0x80) f in
    let (i, j) = both (ltb a 0x80) (ltb b 0x80) g in
    let la = ltb-true a 0x80 i in
    let lb = ltb-true b 0x80 j in
    let lc = ltb-true c 0x80 k in
    let ld = ltb-true d 0x80 h in
    record { ascii = rw (single-ascii a la, single-ascii b lb, single-ascii c lc, single-ascii d ld) refl; below = λ n j g h. below la lb lc ld j h }
  where
    below : a < 0x80 → b < 0x80 → c < 0x80 → d < 0x80 → (j : ℕ) → j < 4 → get_or (a ∷ b ∷ c ∷ d ∷ []) j 0 < 0x80
    below la lb lc ld zero h = la
    below la lb lc ld (suc zero) h = lb
    below la lb lc ld (suc (suc zero)) h = lc
    below la lb lc ld (suc (suc (suc zero))) h = ld
    below la lb lc ld (suc (suc (suc (suc j)))) h = absurd (omega arith)

-- the four bytes at a place
pub four_taken : (s : List ℕ) (n : ℕ) → n + 4 ≤ length s → (get_or s n 0 ∷ get_or s (n + 1) 0 ∷ get_or s (n + 2) 0 ∷ get_or s (n + 3) 0 ∷ []) ≡ take 4 (drop n s)
four_taken s n h =
    let e1 : n + 1 + 1 ≡ n + 2 = omega arith in
    let e2 : n + 2 + 1 ≡ n + 3 = omega arith in
    let d0 = byte n (omega arith) in
    let d1 : drop (n + 1) s ≡ get_or s (n + 1) 0 ∷ drop (n + 2) s = rw (← e1) (byte (n + 1) (omega arith)) in
    let d2 : drop (n + 2) s ≡ get_or s (n + 2) 0 ∷ drop (n + 3) s = rw (← e2) (byte (n + 2) (omega arith)) in
    let d3 = byte (n + 3) (omega arith) in
    rw (d0, d1, d2, d3) refl
  where
    byte : (i : ℕ) → i < length s → drop i s ≡ get_or s i 0 ∷ drop (i + 1) s
    byte i l = rw (add-one i) (drop-cons s i 0 l)

-- codes that are put into a part of a buffer that holds just them, `&mut d[w n..w n + w k]`
pub puts_lent : {A : Type 0} {lay : List ℕ → List A} {w : ℕ → ℕ} (L : Layout lay w) (d q : List A) (n k : ℕ) (xs : List ℕ) → length xs ≡ k → w n + w k ≤ length d
    → w 0 + w (length xs) ≤ length (mid_of (w n) (w n + w k - w n) d)
    → q ≡ take (w 0) (mid_of (w n) (w n + w k - w n) d) ++ lay xs ++ drop (w 0 + w (length xs)) (mid_of (w n) (w n + w k - w n) d)
    → put_mid (w n) (w n + w k - w n) d q ≡ take (w n) d ++ lay xs ++ drop (w n + w k) d
puts_lent {A} {lay} {w} L d q n k xs e h l f =
    let s = mid_of (w n) (w n + w k - w n) d in
    let m : length s ≡ w k = mid_len (w n) (w n + w k) d (omega arith) ∙ (let z : w n + w k - w n ≡ w k = omega arith in z) in
    let y : length (lay xs) ≡ length s = L.lengths xs ∙ ap w e ∙ sym m in
    let g : q ≡ lay xs = (puts-front L s q xs l f).front ∙ rw (y, drop-length s) (append-nil (lay xs)) in
    rw (g, Post-is (w n) (w n + w k) d (omega arith)) (sym (append_assoc (take (w n) d) (lay xs) (drop (w n + w k) d)))
