-- A well-formed sequence that covers a byte is the item that does; where none does, the byte is an item by itself. Assumes nothing.
use mathlib.Core.Path.{◌≡◌, refl, sym, ap, ◌∙◌}
use mathlib.Core.Logic.{◌⊎◌, inl, inr, ⊎_elim}
use mathlib.Core.Bool.{Bool, true, false, cond}
use mathlib.Core.List.{List, [], ◌∷◌, ◌++◌, append-nil}
use Prim.Native.Nat.{ℕ, zero, suc, ◌+◌, ◌≤◌, ◌<◌}
use native.Mathlib.Nat.{add_assoc, add-zero}
use native.Mathlib.Omega.{arith}
use lib.Dec.{ltb}
use lib.ListN.{length, take, drop, get_or, length-drop}
use lib.Seq.{drop-cons, split_at, get_or-take, length-take-le}
use borrow.Author.Tests.{lt-ltb, le-ltb, ltb-true, ltb-false}
use Rattle.form.specs.Table.{Form, Codes}
use Rattle.form.specs.Scan.{Found, well, part, bad, scan}
use Rattle.form.specs.Text.{Item, coded, span, more, item, items}
use Rattle.form.proofs.Tests.{Regular}
use Rattle.form.proofs.Scan.{scan-well}
use Rattle.form.proofs.Laws.{Leads}
use Rattle.form.proofs.Items.{span_more, span-within}
use Rattle.bounds.specs.Cover.{place, none, covers, covering, shift}

-- ---- any items

-- what covers byte p is one of the items, at its place, and p is one of its bytes
pub covering-item : (l : List Item) (q p r : ℕ) (i : Item) → q ≤ p → covering q l p ≡ covers r i
    → (j : ℕ) × (drop j l ≡ i ∷ drop (suc j) l) × (r ≡ q + place j l) × (r ≤ p) × (p < r + span i)
covering-item [] q p r i h e = let z : ◌≡◌ {A = ℕ} 0 1 = cc in absurd (omega arith)
covering-item (a ∷ l) q p r i h e = go (ltb p (q + span a)) refl e (covering-item l (q + span a) p r i)
  where
    Goal : Type 0
    Goal = (j : ℕ) × (drop j (a ∷ l) ≡ i ∷ drop (suc j) (a ∷ l)) × (r ≡ q + place j (a ∷ l)) × (r ≤ p) × (p < r + span i)

    go : (t : Bool) → ltb p (q + span a) ≡ t → cond t (covers q a) (covering (q + span a) l p) ≡ covers r i
        → (q + span a ≤ p → covering (q + span a) l p ≡ covers r i → (j : ℕ) × (drop j l ≡ i ∷ drop (suc j) l) × (r ≡ q + span a + place j l) × (r ≤ p) × (p < r + span i)) → Goal
    go true x y ih =
        let z : r ≡ q = cc in
        let w : i ≡ a = cc in
        (0, ap (λ (k : Item). k ∷ l) (sym w), z ∙ sym (add-zero q), omega arith, rw (z, w) (ltb-true p (q + span a) x))
    go false x y ih = let (j, d, f, g, k) = ih (ltb-false p (q + span a) x) y in (suc j, d, f ∙ add_assoc q (span a) (place j l), g, k)

-- one byte more in front
cover_suc : (l : List Item) (q p : ℕ) → covering (suc q) l (suc p) ≡ shift 1 (covering q l p)
cover_suc [] q p = refl
cover_suc (i ∷ l) q p = go (ltb p (q + span i)) refl (cover_suc l (q + span i) p)
  where
    go : (t : Bool) → ltb p (q + span i) ≡ t → covering (suc (q + span i)) l (suc p) ≡ shift 1 (covering (q + span i) l p)
        → covering (suc q) (i ∷ l) (suc p) ≡ shift 1 (covering q (i ∷ l) p)
    go true e ih =
        let h : suc p < suc q + span i = omega (arith, ltb-true p (q + span i) e) in
        let z : suc q ≡ 1 + q = omega arith in
        rw (lt-ltb (suc p) (suc q + span i) h, e) (ap (λ (k : ℕ). covers k i) z)
    go false e ih =
        let h : suc q + span i ≤ suc p = omega (arith, ltb-false p (q + span i) e) in
        let z : suc q + span i ≡ suc (q + span i) = omega arith in
        rw (le-ltb (suc p) (suc q + span i) h, e) (ap (λ (k : ℕ). covering k l (suc p)) z ∙ ih)

cover_next : (q : ℕ) (i : Item) → covers (1 + q) i ≡ covers (suc q) i
cover_next q i = ap (λ (k : ℕ). covers k i) (let z : 1 + q ≡ suc q = omega arith in z)

-- ---- the items of a form in which no sequence begins inside another

module _ (F : Form) (R : Regular F) (L : Leads F) where
  -- no sequence stands inside another
  inside : (b : ℕ) (s : List ℕ) (d m q c n : ℕ) → scan F (b ∷ s) ≡ well d m → scan F (drop q s) ≡ well c n → 0 < n → suc q < m → ⊥
  inside b s d zero q c n e f o h = omega arith
  inside b s d (suc m) q c zero e f o h = omega arith
  inside b s d (suc m) q c (suc n) e f o h =
      let (g, l) = scan-well F (b ∷ s) d (suc m) e in
      let x : length (take m s) ≡ m = length-take-le m s (omega arith) in
      let y = get_or s q 0 in
      let r : take m s ≡ take q (take m s) ++ y ∷ drop (suc q) (take m s) =
      split_at (take m s) q 0 (omega arith) ∙ ap (λ (z : ℕ). take q (take m s) ++ z ∷ drop (suc q) (take m s)) (get_or-take m s q 0 (omega arith))
      in
      let a : drop q s ≡ y ∷ drop (suc q) s = drop-cons s q 0 (omega arith) in
      let k : Codes F (y ∷ take n (drop (suc q) s)) c = rw a at (scan-well F (drop q s) c (suc n) f).0 in
      let v : Codes F (b ∷ (take q (take m s) ++ y ∷ drop (suc q) (take m s))) d = rw (← r) g in
      L.later b (take q (take m s)) y (drop (suc q) (take m s)) (take n (drop (suc q) s)) ([], (d, rw append-nil v)) ([], (c, rw append-nil k))

  -- behind the first item
  past : (b : ℕ) (s : List ℕ) (p : ℕ) → more (item (scan F (b ∷ s)) b s) ≤ p
      → covering 0 (items F 0 (b ∷ s)) (suc p) ≡ shift 1 (covering (more (item (scan F (b ∷ s)) b s)) (items F (more (item (scan F (b ∷ s)) b s)) s) p)
  past b s p h =
      let i = item (scan F (b ∷ s)) b s in
      let e : 0 + span i ≡ suc (more i) = omega (arith, span_more F b s R.is_open) in
      let g : 0 + span i ≤ suc p = omega arith in
      rw (le-ltb (suc p) (0 + span i) g) (ap (λ (k : ℕ). covering k (items F (more i) s) (suc p)) e ∙ cover_suc (items F (more i) s) (more i) p)

  -- the first item's later bytes end at q where no longer sequence stands in front
  more-most : (b : ℕ) (s : List ℕ) (q : ℕ) → ((d m : ℕ) → scan F (b ∷ s) ≡ well d m → suc q < m → ⊥) → more (item (scan F (b ∷ s)) b s) ≤ q
  more-most b s q h = go (scan F (b ∷ s)) refl
    where
      go : (x : Found) → scan F (b ∷ s) ≡ x → more (item x b s) ≤ q
      go (well d zero) f = omega arith
      go (well d (suc m)) f = by (ltb (suc q) (suc m)) refl
        where
          by : (u : Bool) → ltb (suc q) (suc m) ≡ u → m ≤ q
          by true v = absurd (h d (suc m) f (ltb-true (suc q) (suc m) v))
          by false v = omega (arith, ltb-false (suc q) (suc m) v)
      go part f = omega arith
      go (bad m) f = omega arith

  -- a well-formed sequence that covers the byte is the item that does
  pub well-covers : (s : List ℕ) (k q p c n : ℕ) → k ≤ q → q ≤ p → p < q + n → scan F (drop q s) ≡ well c n → covering k (items F k s) p ≡ covers q (coded c n)
  well-covers [] k q p c n a h g e = let (x, l) = scan-well F (drop q []) c n e in absurd (omega (arith, length-drop {A = ℕ} q []))
  well-covers (b ∷ s) (suc k) zero p c n a h g e = absurd (omega arith)
  well-covers (b ∷ s) (suc k) (suc q) zero c n a h g e = absurd (omega arith)
  well-covers (b ∷ s) (suc k) (suc q) (suc p) c n a h g e =
      cover_suc (items F k s) k p ∙ ap (shift 1) (well-covers s k q p c n (omega arith) (omega arith) (omega arith) e) ∙ cover_next q (coded c n)
  well-covers (b ∷ s) zero zero p c n a h g e = rw e (rw (lt-ltb p (0 + n) g) refl)
  well-covers (b ∷ s) zero (suc q) zero c n a h g e = absurd (omega arith)
  well-covers (b ∷ s) zero (suc q) (suc p) c n a h g e =
      let m = more-most b s q (λ d m f. inside b s d m q c n f e (omega arith)) in
      past b s p (omega (arith, m)) ∙ ap (shift 1) (well-covers s (more (item (scan F (b ∷ s)) b s)) q p c n m (omega arith) (omega arith) e) ∙ cover_next q (coded c n)

  -- no well-formed sequence of s covers byte p
  abbrev pub Bare : List ℕ → ℕ → Type 0
  Bare s p = (q c n : ℕ) → q ≤ p → p < q + n → scan F (drop q s) ≡ well c n → ⊥

  -- then the byte is an item by itself
  pub bare-covers : (s : List ℕ) (k p : ℕ) → k ≤ p → p < length s → Bare s p
      → covering k (items F k s) p ≡ covers p (item (scan F (drop p s)) (get_or s p 0) (drop (suc p) s))
  bare-covers [] k p a h g = absurd (omega arith)
  bare-covers (b ∷ s) (suc k) zero a h g = absurd (omega arith)
  bare-covers (b ∷ s) (suc k) (suc p) a h g =
      cover_suc (items F k s) k p ∙ ap (shift 1) (bare-covers s k p (omega arith) (omega arith) (λ q c n l m. g (suc q) c n (omega arith) (omega arith)))
      ∙ cover_next p (item (scan F (drop p s)) (get_or s p 0) (drop (suc p) s))
  bare-covers (b ∷ s) zero zero a h g = rw (lt-ltb 0 (0 + span (item (scan F (b ∷ s)) b s)) (omega (arith, span_more F b s R.is_open))) refl
  bare-covers (b ∷ s) zero (suc p) a h g =
      let m = more-most b s p (λ d m f x. g 0 d m (omega arith) (omega arith) f) in
      past b s p m ∙ ap (shift 1) (bare-covers s (more (item (scan F (b ∷ s)) b s)) p m (omega arith) (λ q c n l m. g (suc q) c n (omega arith) (omega arith)))
      ∙ cover_next p (item (scan F (drop p s)) (get_or s p 0) (drop (suc p) s))

  -- at or past the end no item covers the byte
  cover-past : (s : List ℕ) (k p : ℕ) → length s ≤ p → covering k (items F k s) p ≡ none
  cover-past [] k p h = refl
  cover-past (b ∷ s) k zero h = absurd (omega arith)
  cover-past (b ∷ s) (suc k) (suc p) h = cover_suc (items F k s) k p ∙ ap (shift 1) (cover-past s k p (omega arith))
  cover-past (b ∷ s) zero (suc p) h =
      past b s p (omega (arith, span_more F b s R.is_open, span-within F b s)) ∙ ap (shift 1) (cover-past s (more (item (scan F (b ∷ s)) b s)) p (omega arith))

  pub past_end : (s : List ℕ) (p : ℕ) → length s ≤ p → covering 0 (items F 0 s) p ≡ none
  past_end s = cover-past s 0

  -- one of the two always holds
  abbrev pub Covered : List ℕ → ℕ → Type 0
  Covered s p = (q : ℕ) × (c : ℕ) × (n : ℕ) × (q ≤ p) × (p < q + n) × (scan F (drop q s) ≡ well c n)

  below : (s : List ℕ) (p m : ℕ) → m ≤ suc p → Covered s p ⊎ ((q c n : ℕ) → q < m → p < q + n → scan F (drop q s) ≡ well c n → ⊥)
  below s p zero h = inr (λ q c n l. absurd (omega arith))
  below s p (suc m) h = ⊎_elim inl (λ u. go u (scan F (drop m s)) refl) (below s p m (omega arith))
    where
      Below : Type 0
      Below = (q c n : ℕ) → q < m → p < q + n → scan F (drop q s) ≡ well c n → ⊥

      Goal : Type 0
      Goal = Covered s p ⊎ ((q c n : ℕ) → q < suc m → p < q + n → scan F (drop q s) ≡ well c n → ⊥)

      no_more : Below → ((c n : ℕ) → p < m + n → scan F (drop m s) ≡ well c n → ⊥) → Goal
      no_more u v = inr (λ q c n l k e. at q c n l k e (ltb q m) refl)
        where
          at : (q c n : ℕ) → q < suc m → p < q + n → scan F (drop q s) ≡ well c n → (w : Bool) → ltb q m ≡ w → ⊥
          at q c n l k e true x = u q c n (ltb-true q m x) k e
          at q c n l k e false x = let z : q ≡ m = omega (arith, ltb-false q m x) in v c n (rw (← z) k) (rw (← z) e)

      go : Below → (x : Found) → scan F (drop m s) ≡ x → Goal
      go u (well d k) e = by (ltb p (m + k)) refl
        where
          by : (w : Bool) → ltb p (m + k) ≡ w → Goal
          by true x = inl (m, d, k, omega arith, ltb-true p (m + k) x, e)
          by false x = no_more u (λ c n l f. let z : n ≡ k = cc in omega (arith, ltb-false p (m + k) x))
      go u part e = no_more u (λ c n l f. let z : ◌≡◌ {A = ℕ} 0 1 = cc in omega arith)
      go u (bad k) e = no_more u (λ c n l f. let z : ◌≡◌ {A = ℕ} 0 1 = cc in omega arith)

  pub covered : (s : List ℕ) (p : ℕ) → Covered s p ⊎ Bare s p
  covered s p = ⊎_elim inl (λ u. inr (λ q c n l. u q c n (omega arith))) (below s p (suc p) (omega arith))

  -- before the end some item covers the byte
  pub some-covers : (s : List ℕ) (p : ℕ) → p < length s → (q : ℕ) × (i : Item) × (covering 0 (items F 0 s) p ≡ covers q i)
  some-covers s p h =
      ⊎_elim (λ (q, c, n, l, m, e). (q, coded c n, well-covers s 0 q p c n (omega arith) l m e))
      (λ g. (p, item (scan F (drop p s)) (get_or s p 0) (drop (suc p) s), bare-covers s 0 p (omega arith) h g))
      (covered s p)
