-- The item that covers a byte is decided by the bytes around it. Assumes nothing.
use mathlib.Core.Path.{◌≡◌, refl, sym, ap, ◌∙◌}
use mathlib.Core.Logic.{⊎_elim}
use mathlib.Core.Bool.{Bool, true, false}
use mathlib.Core.List.{List, [], ◌∷◌}
use Prim.Native.Nat.{ℕ, zero, suc, ◌+◌, ◌-◌, ◌≤◌, ◌<◌}
use native.Mathlib.Omega.{arith}
use lib.Dec.{ltb}
use lib.ListN.{length, take, drop, get_or, length-drop, length-take, take-append-drop}
use lib.Seq.{drop-drop, get_or-take, get_or-drop, take-take, take_all, take-nil, length-take-le}
use borrow.Author.Tests.{ltb-true, ltb-false}
use Rattle.form.specs.Table.{Form, Codes}
use Rattle.form.specs.Scan.{well, scan}
use Rattle.form.specs.Text.{Item, coded, item, items}
use Rattle.form.proofs.Scan.{scan-well}
use Rattle.bounds.specs.Cover.{covers, covering, shift, window}
use Rattle.bounds.proofs.Apart.{Apart}
use Rattle.bounds.proofs.Bounds.{found-stays, item-front}
use Rattle.bounds.proofs.Covers.{Covered, Bare, covered, well-covers, bare-covers}

drop-take : (m n : ℕ) (l : List ℕ) → drop m (take n l) ≡ take (n - m) (drop m l)
drop-take zero n l = ap (λ (k : ℕ). take k l) (let z : n ≡ n - 0 = omega arith in z)
drop-take (suc m) zero l = ap (λ (k : ℕ). take k (drop (suc m) l)) (let z : 0 ≡ 0 - suc m = omega arith in z)
drop-take (suc m) (suc n) [] = sym (take-nil (suc n - suc m))
drop-take (suc m) (suc n) (x ∷ l) = drop-take m n l ∙ ap (λ (k : ℕ). take k (drop m l)) (let z : n - m ≡ suc n - suc m = omega arith in z)

module _ (F : Form) (k : ℕ) (A : Apart F k) where
  -- the item at the front of a list is that of its first k + 1 bytes, or of all where there are fewer
  item-near : (u : List ℕ) (b : ℕ) → 0 < length u → item (scan F (take (suc k) u)) b (drop 1 (take (suc k) u)) ≡ item (scan F u) b (drop 1 u)
  item-near u b h = go (ltb (length u) (suc k)) refl
    where
      go : (t : Bool) → ltb (length u) (suc k) ≡ t → item (scan F (take (suc k) u)) b (drop 1 (take (suc k) u)) ≡ item (scan F u) b (drop 1 u)
      go true e = rw (take_all (suc k) u (omega (arith, ltb-true (length u) (suc k) e))) refl
      go false e =
          let l : length (take (suc k) u) ≡ suc k = length-take-le (suc k) u (ltb-false (length u) (suc k) e) in
          let f : scan F u ≡ scan F (take (suc k) u) =
          ap (scan F) (sym (take-append-drop (suc k) u)) ∙ found-stays F (suc k) A.scans (take (suc k) u) (drop (suc k) u) (omega arith) (omega arith)
          in
          rw f (item-front F (suc k) A.scans b (take (suc k) u) (drop 1 (take (suc k) u)) (drop 1 u) (omega arith) (omega arith))

  module _ (s : List ℕ) (p : ℕ) (h : p < length s) where
    -- where the window begins, and the window
    abbrev a : ℕ
    a = p - k

    abbrev w : List ℕ
    w = window k p s

    -- the window from its byte q on
    from : (q : ℕ) → drop q w ≡ take (p + suc k - a - q) (drop (a + q) s)
    from q = drop-take q (p + suc k - a) (drop a s) ∙ ap (take (p + suc k - a - q)) (drop-drop q a s)

    abbrev Same : Type 0
    Same = covering 0 (items F 0 s) p ≡ shift a (covering 0 (items F 0 w) (p - a))

    -- a sequence that covers the byte is in the window
    within : Covered F A.regular A.leads s p → Same
    within (q, c, n, l, m, e) =
        let (g, f) = scan-well F (drop q s) c n e in
        let j : n ≤ suc k = omega (arith, A.most (take n (drop q s)) c g, length-take-le n (drop q s) f) in
        let z : a + (q - a) ≡ q = omega arith in
        let N = p + suc k - a - (q - a) in
        let u : drop (q - a) w ≡ take N (drop q s) = from (q - a) ∙ ap (λ (x : ℕ). take N (drop x s)) z in
        let v : Codes F (take n (take N (drop q s))) c = rw (take-take n N (drop q s) (omega arith)) g in
        let y : scan F (drop (q - a) w) ≡ well c n = rw u ((A.scans.finds_well (take N (drop q s)) c n).1 (v, omega (arith, length-take N (drop q s)))) in
        well-covers F A.regular A.leads s 0 q p c n (omega arith) l m e
        ∙ ap (λ (x : ℕ). covers x (coded c n)) (sym z)
        ∙ ap (shift a) (sym (well-covers F A.regular A.leads w 0 (q - a) (p - a) c n (omega arith) (omega arith) (omega arith) y))

    -- a sequence in the window that covers the byte is one in s
    bare-there : Bare F A.regular A.leads s p → Bare F A.regular A.leads w (p - a)
    bare-there g q c n l m e =
        let N = p + suc k - a - q in
        let r : scan F (drop (a + q) s) ≡ well c n =
        ap (scan F) (sym (take-append-drop N (drop (a + q) s))) ∙ A.scans.well_stays (take N (drop (a + q) s)) (drop N (drop (a + q) s)) c n (rw (← from q) e)
        in
        g (a + q) c n (omega arith) (omega arith) r

    bare : Bare F A.regular A.leads s p → Same
    bare g =
        let z : a + (p - a) ≡ p = omega arith in
        let f : p + suc k - a - (p - a) ≡ suc k = omega arith in
        let near = take (suc k) (drop p s) in
        let u : drop (p - a) w ≡ near = from (p - a) ∙ rw (f, z) refl in
        let o : drop (suc (p - a)) w ≡ drop 1 near = sym (ap (λ (x : ℕ). drop x w) (let y : p - a + 1 ≡ suc (p - a) = omega arith in y)) ∙ sym (drop-drop 1 (p - a) w) ∙ ap (drop 1) u in
        let y : get_or w (p - a) 0 ≡ get_or s p 0 = get_or-take (p + suc k - a) (drop a s) (p - a) 0 (omega arith) ∙ get_or-drop a s (p - a) 0 ∙ ap (λ (x : ℕ). get_or s x 0) z in
        let d : drop (suc p) s ≡ drop 1 (drop p s) = sym (drop-drop 1 p s ∙ ap (λ (x : ℕ). drop x s) (let i : p + 1 ≡ suc p = omega arith in i)) in
        let l : p - a < length w = omega (arith, length-take (p + suc k - a) (drop a s), length-drop a s) in
        let there : covering 0 (items F 0 w) (p - a) ≡ covers (p - a) (item (scan F near) (get_or s p 0) (drop 1 near)) =
        bare-covers F A.regular A.leads w 0 (p - a) (omega arith) l (bare-there g) ∙ cc (u, o, y)
        in
        bare-covers F A.regular A.leads s 0 p (omega arith) h g
        ∙ ap (λ (i : Item). covers p i) (rw d (sym (item-near (drop p s) (get_or s p 0) (omega (arith, length-drop p s)))))
        ∙ ap (λ (x : ℕ). covers x (item (scan F near) (get_or s p 0) (drop 1 near))) (sym z)
        ∙ ap (shift a) (sym there)

    -- the item that covers byte p, in the full reading of s, is the one that covers it in the reading of the bytes p - k to p + k alone
    pub local : covering 0 (items F 0 s) p ≡ shift (p - k) (covering 0 (items F 0 (window k p s)) (p - (p - k)))
    local = ⊎_elim within bare (covered F A.regular A.leads s p)

  -- so it depends on p and those bytes alone
  pub alike : (s t : List ℕ) (p : ℕ) → p < length s → p < length t → window k p s ≡ window k p t → covering 0 (items F 0 s) p ≡ covering 0 (items F 0 t) p
  alike s t p h g e = local s p h ∙ ap (λ (w : List ℕ). shift (p - k) (covering 0 (items F 0 w) (p - (p - k)))) e ∙ sym (local t p g)
