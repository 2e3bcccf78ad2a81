-- Items at the boundaries between items. Assumes nothing.
use mathlib.Core.Path.{◌≡◌, refl, sym, ap, ◌∙◌, subst}
use mathlib.Core.List.{List, [], ◌∷◌, ◌++◌}
use Prim.Native.Nat.{ℕ, zero, suc, ◌+◌, ◌≤◌, ◌<◌}
use native.Mathlib.Nat.{add_assoc, add-zero}
use native.Mathlib.Omega.{arith}
use lib.Dec.{T}
use lib.ListN.{length, drop, length-drop}
use lib.Seq.{drop-drop, drop-append-le}
use Rattle.form.specs.Table.{Form}
use Rattle.form.specs.Scan.{Found, well, part, bad, scan}
use Rattle.form.specs.Text.{Item, span, more, item, items, places, All}
use Rattle.form.proofs.Tests.{open?}
use Rattle.form.proofs.Laws.{Scans}
use Rattle.form.proofs.Items.{items_skip, span_more, span-within}
use Rattle.bounds.specs.Cover.{place}

module _ (F : Form) (o : T (open? F)) where
  -- the items from number j on are the items of the bytes from its place on
  pub items-from : (j : ℕ) (s : List ℕ) → drop j (items F 0 s) ≡ items F 0 (drop (place j (items F 0 s)) s)
  items-from zero s = refl
  items-from (suc j) [] = refl
  items-from (suc j) (b ∷ s) =
      let i = item (scan F (b ∷ s)) b s in
      let p = place j (items F (more i) s) in
      let e : drop (span i + p) (b ∷ s) ≡ drop p (drop (more i) s) =
      ap (λ (k : ℕ). drop (k + p) (b ∷ s)) (span_more F b s o) ∙ ap (λ (k : ℕ). drop k (b ∷ s)) (let z : suc (more i) + p ≡ suc (more i + p) = omega arith in z) ∙ sym (drop-drop p (more i) s)
      in
      ap (drop j) (items_skip F (more i) s) ∙ items-from j (drop (more i) s) ∙ ap (λ (l : List Item). items F 0 (drop (place j l) (drop (more i) s))) (sym (items_skip F (more i) s))
      ∙ ap (items F 0) (sym e)

  -- every place is within the bytes
  pub place-within : (j : ℕ) (s : List ℕ) → place j (items F 0 s) ≤ length s
  place-within zero s = omega arith
  place-within (suc j) [] = omega arith
  place-within (suc j) (b ∷ s) =
      let i = item (scan F (b ∷ s)) b s in
      let h = place-within j (drop (more i) s) in
      rw (items_skip F (more i) s) (omega (arith, h, length-drop (more i) s, span_more F b s o, span-within F b s))

  -- and an item's place is before the end: s stands from p on, and k bytes of it belong to an item before
  pub places-inside : (s : List ℕ) (k p : ℕ) → All (λ q. q < p + length s) (places (p + k) (items F k s))
  places-inside [] k p = tt
  places-inside (b ∷ s) (suc k) p =
      let e : p + suc k ≡ suc p + k = omega arith in
      let l : p + suc (length s) ≡ suc p + length s = omega arith in
      rw (e, l) (places-inside s k (suc p))
  places-inside (b ∷ s) zero p =
      let i = item (scan F (b ∷ s)) b s in
      let e : p + 0 + span i ≡ suc p + more i = omega (arith, span_more F b s o) in
      let l : p + suc (length s) ≡ suc p + length s = omega arith in
      (omega arith, simp e (subst (λ (n : ℕ). All (λ q. q < n) (places (suc p + more i) (items F (more i) s))) (sym l) (places-inside s (more i) (suc p))))

pub places-from : (j p : ℕ) (l : List Item) → drop j (places p l) ≡ places (p + place j l) (drop j l)
places-from zero p l = ap (λ (k : ℕ). places k l) (sym (add-zero p))
places-from (suc j) p [] = refl
places-from (suc j) p (i ∷ l) = places-from j (p + span i) l ∙ ap (λ (k : ℕ). places k (drop j l)) (add_assoc p (span i) (place j l))

pub places-length : (p : ℕ) (l : List Item) → length (places p l) ≡ length l
places-length p [] = refl
places-length p (i ∷ l) = ap suc (places-length (p + span i) l)

-- no more items than bytes
pub items-few : (F : Form) (k : ℕ) (s : List ℕ) → length (items F k s) ≤ length s
items-few F k [] = omega arith
items-few F (suc k) (b ∷ s) = omega (arith, items-few F k s)
items-few F zero (b ∷ s) = omega (arith, items-few F (more (item (scan F (b ∷ s)) b s)) s)

-- ---- as many bytes as the longest sequence has decide an item

module _ (F : Form) (n : ℕ) (S : Scans F n) where
  never-part : {A : Type 0} (s : List ℕ) → n ≤ length s → 0 < length s → scan F s ≡ part → A
  never-part s h g e = absurd (omega (arith, (S.shorter s ((S.finds_part s g).0 e)).1))

  pub found-stays : (s t : List ℕ) → n ≤ length s → 0 < length s → scan F (s ++ t) ≡ scan F s
  found-stays s t h g = go (scan F s) refl
    where
      go : (x : Found) → scan F s ≡ x → scan F (s ++ t) ≡ scan F s
      go (well c m) e = S.well_stays s t c m e ∙ sym e
      go part e = never-part s h g e
      go (bad m) e = S.bad_stays s t m e ∙ sym e

  -- what follows a decided front is not looked at
  pub item-front : (b : ℕ) (s u v : List ℕ) → n ≤ length s → 0 < length s → item (scan F s) b u ≡ item (scan F s) b v
  item-front b s u v h g = go (scan F s) refl
    where
      go : (x : Found) → scan F s ≡ x → item x b u ≡ item x b v
      go (well c m) e = refl
      go part e = never-part s h g e
      go (bad m) e = refl

  pub item-stays : (b : ℕ) (s t : List ℕ) → n ≤ length (b ∷ s) → item (scan F (b ∷ (s ++ t))) b (s ++ t) ≡ item (scan F (b ∷ s)) b s
  item-stays b s t h = rw (found-stays (b ∷ s) t h (omega arith)) (item-front b (b ∷ s) (s ++ t) s h (omega arith))

  -- so a place with as many bytes behind it stays the place of its number when bytes are appended
  pub place-stays : T (open? F) → 0 < n → (j : ℕ) (s t : List ℕ) → place j (items F 0 s) + n ≤ length s → place j (items F 0 (s ++ t)) ≡ place j (items F 0 s)
  place-stays o z zero s t h = refl
  place-stays o z (suc j) [] t h = absurd (omega arith)
  place-stays o z (suc j) (b ∷ s) t h =
      let i = item (scan F (b ∷ s)) b s in
      let u = drop (more i) s in
      let a : items F (more i) s ≡ items F 0 u = items_skip F (more i) s in
      let g : span i + place j (items F 0 u) + n ≤ length (b ∷ s) = rw (← a) h in
      let w : place j (items F 0 u) + n ≤ length u = omega (arith, span_more F b s o, span-within F b s, length-drop (more i) s, g) in
      let f : place j (items F 0 (u ++ t)) ≡ place j (items F 0 u) = place-stays o z j u t w in
      let d : items F (more i) (s ++ t) ≡ items F 0 (u ++ t) =
      items_skip F (more i) (s ++ t) ∙ ap (items F 0) (drop-append-le (more i) s t (omega (arith, span_more F b s o, span-within F b s)))
      in
      rw (item-stays b s t (omega (arith, g, span_more F b s o)), d, a, f) refl
