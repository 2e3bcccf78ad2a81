-- Laws of a list of signs: the first that opens the bytes. Assumes nothing.
use mathlib.Core.Path.{◌≡◌, refl, sym, ap, ◌∙◌}
use mathlib.Core.Logic.{◌⊎◌, inl, inr}
use mathlib.Core.Bool.{Bool, true, false, ◌&&◌, cond}
use mathlib.Core.List.{List, [], ◌∷◌, ◌++◌, append_assoc}
use Prim.Native.Nat.{ℕ, ◌+◌}
use lib.Dec.{T}
use lib.ListN.{length, take, drop, take-append-drop}
use Rattle.form.specs.Table.{Range, row, Form, index, Codes}
use Rattle.form.specs.Scan.{Fit, whole, short, stops, fit}
use Rattle.form.proofs.Tests.{clear}
use Rattle.form.proofs.Rows.{both, fit-whole, whole-fit}
use Rattle.form.proofs.Scan.{clear_absurd}
use Rattle.reason.specs.Reason.{Opens, Sign, sign, whole?, opens?, first_sign}
use Rattle.reason.specs.declared.Reason.{Reason}
use Rattle.reason.specs.declared.Reason.TheVariants.{CutShort}

-- ---- the test

pub true_opens : (rs : List Range) (s : List ℕ) → opens? rs s ≡ true → Opens rs s
true_opens rs s e = (take (length rs) s, drop (length rs) s, sym (take-append-drop (length rs) s), fit-whole rs s (go (fit rs s) e))
  where
    go : (f : Fit) → whole? f ≡ true → f ≡ whole
    go whole e = refl
    go short e = cc
    go (stops n) e = cc

pub opens_true : (rs : List Range) (s : List ℕ) → Opens rs s → opens? rs s ≡ true
opens_true rs s (w, z, e, h) = ap whole? (ap (fit rs) e ∙ whole-fit rs w z h)

-- ---- the list

-- a sign of r opens s
abbrev pub Among : List Sign → Reason → List ℕ → Type 0
Among [] r s = ⊥
Among (sign q rs ∷ l) r s = ((q ≡ r) × Opens rs s) ⊎ Among l r s

-- none does
abbrev pub None : List Sign → List ℕ → Type 0
None l s = (r : Reason) → Among l r s → ⊥

pub among_more : (l : List Sign) (r : Reason) (s t : List ℕ) → Among l r s → Among l r (s ++ t)
among_more [] r s t h = absurd h
among_more (sign q rs ∷ l) r s t (inl (e, (w, z, f, h))) = inl (e, (w, z ++ t, ap (λ (x : List ℕ). x ++ t) f ∙ append_assoc w z t, h))
among_more (sign q rs ∷ l) r s t (inr h) = inr (among_more l r s t h)

pub none_first : (l : List Sign) (s : List ℕ) → None l s → first_sign l s ≡ CutShort
none_first [] s n = refl
none_first (sign q rs ∷ l) s n = go (opens? rs s) refl (none_first l s (λ r h. n r (inr h)))
  where
    go : (t : Bool) → opens? rs s ≡ t → first_sign l s ≡ CutShort → cond t q (first_sign l s) ≡ CutShort
    go true e h = absurd (n q (inl (refl, true_opens rs s e)))
    go false e h = h

pub first_among : (l : List Sign) (s : List ℕ) → Among l (first_sign l s) s ⊎ None l s
first_among [] s = inr (λ r h. h)
first_among (sign q rs ∷ l) s = go (opens? rs s) refl (first_among l s)
  where
    shut : opens? rs s ≡ false → None l s → None (sign q rs ∷ l) s
    shut e n r (inl (i, h)) = cc (opens_true rs s h)
    shut e n r (inr h) = n r h

    go : (t : Bool) → opens? rs s ≡ t → Among l (first_sign l s) s ⊎ None l s → Among (sign q rs ∷ l) (cond t q (first_sign l s)) s ⊎ None (sign q rs ∷ l) s
    go true e h = inl (inl (refl, true_opens rs s e))
    go false e (inl h) = inl (inr h)
    go false e (inr n) = inr (shut e n)

-- ---- no two signs open the same bytes

abbrev rows_of : List Sign → Form
rows_of [] = []
rows_of (sign r rs ∷ l) = row 0 rs ∷ rows_of l

abbrev pub apart_signs : List Sign → Bool
apart_signs [] = true
apart_signs (sign r rs ∷ l) = clear (rows_of l) rs && apart_signs l

among_codes : (l : List Sign) (r : Reason) (s : List ℕ) → Among l r s → (w z : List ℕ) × (s ≡ w ++ z) × ((c : ℕ) × Codes (rows_of l) w c)
among_codes [] r s h = absurd h
among_codes (sign q rs ∷ l) r s (inl (e, (w, z, f, h))) = (w, z, f, (0 + index rs w, inl (h, refl)))
among_codes (sign q rs ∷ l) r s (inr h) = let (w, z, f, (c, k)) = among_codes l r s h in (w, z, f, (c, inr k))

pub among_first : (l : List Sign) (r : Reason) (s : List ℕ) → T (apart_signs l) → Among l r s → first_sign l s ≡ r
among_first [] r s t h = absurd h
among_first (sign q rs ∷ l) r s t (inl (e, h)) = rw (opens_true rs s h) e
among_first (sign q rs ∷ l) r s t (inr h) = go (opens? rs s) refl (among_first l r s (both (clear (rows_of l) rs) (apart_signs l) t).1 h)
  where
    go : (x : Bool) → opens? rs s ≡ x → first_sign l s ≡ r → cond x q (first_sign l s) ≡ r
    go true e i =
        let (w, z, f, k) = true_opens rs s e in
        let (v, y, g, (c, j)) = among_codes l r s h in
        absurd (clear_absurd (rows_of l) rs w v z y c (both (clear (rows_of l) rs) (apart_signs l) t).0 k j (sym f ∙ g))
    go false e i = i
