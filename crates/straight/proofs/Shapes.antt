-- What a straight line goes by: the shapes of Table 3-6, and the pairs of CESU-8. Assumes nothing.
use mathlib.Core.Path.{◌≡◌, refl, sym, ap, ◌∙◌, subst}
use mathlib.Core.Logic.{◌↔◌, ◌⊎◌, inl, inr}
use mathlib.Core.Bool.{Bool, true, false}
use mathlib.Core.List.{List, [], ◌∷◌, ◌++◌}
use Rattle.std.specs.Prelude.{Option, Some, None}
use Prim.Native.Nat.{ℕ, ◌+◌, ◌-◌, ◌*◌, ◌≤◌, ◌<◌}
use native.Mathlib.Omega.{arith}
use lib.Dec.{ltb}
use lib.ListN.{length, get_or, take, drop, take-append-drop, length-take}
use borrow.Author.Tests.{ltb-true, ltb-false}
use Rattle.form.specs.Table.{◌to◌, tail, In, Codes, Scalar, plain, surro, cesu}
use Rattle.form.specs.Scan.{Found, well, part, bad, scan}
use Rattle.form.proofs.Scan.{scan-well, well-scan}
use Rattle.form.proofs.Pattern.{each_row, Shape, shape, shape_pattern}
use Rattle.form.proofs.Utf8.{plain-pattern, surro-pattern}
use Rattle.form.proofs.Sequences.{scalar-outside}
use Rattle.form.proofs.Cesu.{cesu-short, cesu_patterned}
use Rattle.forms.specs.declared.Form.{Form}
use Rattle.forms.specs.declared.Form.TheVariants.{Plain, Surro, Cesu}
use Rattle.forms.specs.Forms.{rows_of}
use Rattle.forms.proofs.Forms.{form_regular}
use Rattle.straight.specs.declared.Straight.{Straight}
use Rattle.straight.specs.Straight.{straight_of}

-- ---- the sequences of at most four bytes

-- the codes that a form has in at most four bytes
abbrev pub Has : Form → ℕ → Type 0
Has Plain c = Scalar c
Has Surro c = c ≤ 0x10FFFF
Has Cesu c = Scalar c × (c ≤ 0xFFFF)

pub shape_short : (w : List ℕ) (c : ℕ) → Shape w c → length w ≤ 4
shape_short [] c h = absurd h
shape_short (x ∷ []) c h = omega arith
shape_short (x ∷ y ∷ []) c h = omega arith
shape_short (x ∷ y ∷ z ∷ []) c h = omega arith
shape_short (x ∷ y ∷ z ∷ v ∷ []) c h = omega arith
shape_short (x ∷ y ∷ z ∷ v ∷ u ∷ w) c h = absurd h

-- in CESU-8 only the pairs are longer
cesu_shape : (w : List ℕ) (c : ℕ) → Codes cesu w c → length w ≤ 4 → Shape w c × (c ≤ 0xFFFF)
unfolding cesu
cesu_shape =
    each_row cesu (λ w c. length w ≤ 4 → Shape w c × (c ≤ 0xFFFF))
    (omega arith, (omega arith, (omega arith, (omega arith, (omega arith, (omega arith, (omega arith, tt)))))))

-- a form's sequences of at most four bytes are the shapes of the codes that it has
pub codes_shape : (f : Form) (w : List ℕ) (c : ℕ) → (Codes (rows_of f) w c × (length w ≤ 4)) ↔ (Shape w c × Has f c)
unfolding plain surro
codes_shape Plain w c = (
  λ (h, l). (shape 0x9F (omega arith) w c h, ((plain-pattern w c).0 h).0),
  λ (h, g). ((plain-pattern w c).1 (g, shape_pattern w c h), shape_short w c h),
)
codes_shape Surro w c = (
  λ (h, l). (shape 0xBF (omega arith) w c h, ((surro-pattern w c).0 h).0),
  λ (h, g). ((surro-pattern w c).1 (g, shape_pattern w c h), shape_short w c h),
)
codes_shape Cesu w c = (
  λ (h, l). let (p, q) = cesu_shape w c h l in (p, (((cesu_patterned w c).0 h).0, q)),
  λ (h, g). ((cesu_patterned w c).1 (g.0, shape_pattern w c h ∙ sym (cesu-short c (omega arith))), shape_short w c h),
)

pub scan_shape : (f : Form) (w t : List ℕ) (c : ℕ) → Shape w c → Has f c → scan (rows_of f) (w ++ t) ≡ well c (length w)
scan_shape f w t c h g = well-scan (rows_of f) w t c (form_regular f).is_distinct ((codes_shape f w c).1 (h, g)).0

-- ---- the sequences of more than four bytes: the pairs of CESU-8

-- the form that has them
abbrev pub Pairs : Form → Type 0
Pairs Plain = ⊥
Pairs Surro = ⊥
Pairs Cesu = Unit {0}

-- the six bytes of a pair stand at the front of s
abbrev pub Pair : List ℕ → Type 0
Pair s =
    (get_or s 0 0 ≡ 0xED) × In (0xA0 to 0xAF) (get_or s 1 0) × In tail (get_or s 2 0)
    × (get_or s 3 0 ≡ 0xED) × In (0xB0 to 0xBF) (get_or s 4 0) × In tail (get_or s 5 0)

-- their code
abbrev pub pair_code : List ℕ → ℕ
pair_code s = 0x10000 + ((get_or s 1 0 - 0xA0) * 0x40 + (get_or s 2 0 - 0x80)) * 0x400 + (get_or s 4 0 - 0xB0) * 0x40 + (get_or s 5 0 - 0x80)

cesu-long : (w : List ℕ) (c : ℕ) → Codes cesu w c → 4 < length w → (length w ≡ 6) × Pair w × (c ≡ pair_code w)
unfolding cesu
cesu-long =
    each_row cesu (λ w c. 4 < length w → (length w ≡ 6) × Pair w × (c ≡ pair_code w))
    (omega arith, (omega arith, (omega arith, (omega arith, (omega arith, (omega arith, (omega arith, tt)))))))

cesu-pair : (w : List ℕ) (c : ℕ) → length w ≡ 6 → Pair w → c ≡ pair_code w → Codes cesu w c
unfolding cesu
cesu-pair (x ∷ y ∷ z ∷ v ∷ u ∷ o ∷ []) c l (p, q, r, i, j, k) e =
    inr (inr (inr (inr (inr (inr (inl ((omega arith, (q, (r, (omega arith, (j, (k, tt)))))), rw (p, i) (omega arith))))))))
cesu-pair (x ∷ y ∷ z ∷ v ∷ u ∷ o ∷ n ∷ w) c l h e = absurd (omega arith)
cesu-pair (x ∷ y ∷ z ∷ v ∷ u ∷ []) c l h e = absurd (omega arith)
cesu-pair (x ∷ y ∷ z ∷ v ∷ []) c l h e = absurd (omega arith)
cesu-pair (x ∷ y ∷ z ∷ []) c l h e = absurd (omega arith)
cesu-pair (x ∷ y ∷ []) c l h e = absurd (omega arith)
cesu-pair (x ∷ []) c l h e = absurd (omega arith)
cesu-pair [] c l h e = absurd (omega arith)

-- a form's sequences of more than four bytes are the pairs, if it has them
pub codes-pair : (f : Form) (w : List ℕ) (c : ℕ) → (Codes (rows_of f) w c × (4 < length w)) ↔ (Pairs f × (length w ≡ 6) × Pair w × (c ≡ pair_code w))
unfolding plain surro
codes-pair Plain w c = (λ (h, l). absurd (omega (arith, shape_short w c (shape 0x9F (omega arith) w c h))), λ h. absurd h.0)
codes-pair Surro w c = (λ (h, l). absurd (omega (arith, shape_short w c (shape 0xBF (omega arith) w c h))), λ h. absurd h.0)
codes-pair Cesu w c = (λ (h, l). let (n, p, e) = cesu-long w c h l in (tt, n, p, e), λ (g, n, p, e). (cesu-pair w c n p e, omega arith))

-- ---- what is told where a sequence stands, and where none does

abbrev pub Tells : Form → List ℕ → Straight → Type 0
Tells f s r = ◌≡◌ {A = Option Straight} (Some r) (straight_of (scan (rows_of f) s))

abbrev pub Lost : Form → List ℕ → Type 0
Lost f s = ◌≡◌ {A = Option Straight} None (straight_of (scan (rows_of f) s))

-- nothing where no beginning is a sequence
lost : (f : Form) (s : List ℕ) → ((w t : List ℕ) (c : ℕ) → w ++ t ≡ s → Shape w c → Has f c → ⊥)
    → ((w t : List ℕ) → w ++ t ≡ s → length w ≡ 6 → Pair w → Pairs f → ⊥) → Lost f s
lost f s unshaped unpaired = go (scan (rows_of f) s) refl
  where
    go : (x : Found) → scan (rows_of f) s ≡ x → Lost f s
    go (well c m) e = by_length (ltb 4 m) refl
      where
        by_length : (t : Bool) → ltb 4 m ≡ t → Lost f s
        by_length true p =
            let (k, l) = scan-well (rows_of f) s c m e in
            let (g, n, q, i) = (codes-pair f (take m s) c).0 (k, omega (arith, ltb-true 4 m p, length-take m s)) in
            absurd (unpaired (take m s) (drop m s) (take-append-drop m s) n q g)
        by_length false p =
            let (k, l) = scan-well (rows_of f) s c m e in
            let (h, g) = (codes_shape f (take m s) c).0 (k, omega (arith, ltb-false 4 m p, length-take m s)) in
            absurd (unshaped (take m s) (drop m s) c (take-append-drop m s) h g)
    go part e = sym (ap straight_of e)
    go (bad n) e = sym (ap straight_of e)

-- the bytes at the front of s
abbrev pub front1 : List ℕ → List ℕ
front1 s = get_or s 0 0 ∷ []

abbrev pub front2 : List ℕ → List ℕ
front2 s = get_or s 0 0 ∷ get_or s 1 0 ∷ []

abbrev pub front3 : List ℕ → List ℕ
front3 s = get_or s 0 0 ∷ get_or s 1 0 ∷ get_or s 2 0 ∷ []

abbrev pub front4 : List ℕ → List ℕ
front4 s = get_or s 0 0 ∷ get_or s 1 0 ∷ get_or s 2 0 ∷ get_or s 3 0 ∷ []

-- those are there, and are no sequence
abbrev Not : Form → (List ℕ → List ℕ) → List ℕ → Type 0
Not f front s = (c : ℕ) → length (front s) ≤ length s → Shape (front s) c → Has f c → ⊥

-- the first six are no pair
abbrev Unpaired : Form → List ℕ → Type 0
Unpaired f s = 6 ≤ length s → Pair s → Pairs f → ⊥

lost_all : (f : Form) (s : List ℕ) → Not f front1 s → Not f front2 s → Not f front3 s → Not f front4 s → Unpaired f s → Lost f s
lost_all f s n1 n2 n3 n4 n6 =
    lost f s
    (λ w t c e. let i = sym e in go w t c (subst (Not f front1) i n1) (subst (Not f front2) i n2) (subst (Not f front3) i n3) (subst (Not f front4) i n4))
    (λ w t e. six w t (subst (Unpaired f) (sym e) n6))
  where
    go : (w t : List ℕ) (c : ℕ) → Not f front1 (w ++ t) → Not f front2 (w ++ t) → Not f front3 (w ++ t) → Not f front4 (w ++ t) → Shape w c → Has f c → ⊥
    go [] t c m1 m2 m3 m4 h g = h
    go (x ∷ []) t c m1 m2 m3 m4 h g = m1 c (omega arith) h g
    go (x ∷ y ∷ []) t c m1 m2 m3 m4 h g = m2 c (omega arith) h g
    go (x ∷ y ∷ z ∷ []) t c m1 m2 m3 m4 h g = m3 c (omega arith) h g
    go (x ∷ y ∷ z ∷ v ∷ []) t c m1 m2 m3 m4 h g = m4 c (omega arith) h g
    go (x ∷ y ∷ z ∷ v ∷ u ∷ w) t c m1 m2 m3 m4 h g = h

    six : (w t : List ℕ) → Unpaired f (w ++ t) → length w ≡ 6 → Pair w → Pairs f → ⊥
    six (x ∷ y ∷ z ∷ v ∷ u ∷ o ∷ w) t m n p g = m (omega arith) p g
    six (x ∷ y ∷ z ∷ v ∷ u ∷ []) t m n p g = omega arith
    six (x ∷ y ∷ z ∷ v ∷ []) t m n p g = omega arith
    six (x ∷ y ∷ z ∷ []) t m n p g = omega arith
    six (x ∷ y ∷ []) t m n p g = omega arith
    six (x ∷ []) t m n p g = omega arith
    six [] t m n p g = omega arith

-- by the range of the first byte there is one length to ask about; from E0 to EF pairs too
pub lost_none : (f : Form) (s : List ℕ) → length s ≡ 0 → Lost f s
lost_none f s e = lost_all f s (λ c l h g. omega arith) (λ c l h g. omega arith) (λ c l h g. omega arith) (λ c l h g. omega arith) (λ l h g. omega arith)

pub lost_one : (f : Form) (s : List ℕ) → In (0x80 to 0xC1) (get_or s 0 0) → Lost f s
lost_one f s p = lost_all f s (λ c l h g. omega arith) (λ c l h g. omega arith) (λ c l h g. omega arith) (λ c l h g. omega arith) (λ l h g. omega arith)

pub lost_two : (f : Form) (s : List ℕ) → In (0xC2 to 0xDF) (get_or s 0 0) → Not f front2 s → Lost f s
lost_two f s p k = lost_all f s (λ c l h g. omega arith) k (λ c l h g. omega arith) (λ c l h g. omega arith) (λ l h g. omega arith)

pub lost_three : (f : Form) (s : List ℕ) → In (0xE0 to 0xEF) (get_or s 0 0) → Not f front3 s → Unpaired f s → Lost f s
lost_three f s p k n = lost_all f s (λ c l h g. omega arith) (λ c l h g. omega arith) k (λ c l h g. omega arith) n

pub lost_four : (f : Form) (s : List ℕ) → In (0xF0 to 0xFF) (get_or s 0 0) → Not f front4 s → Lost f s
lost_four f s p k = lost_all f s (λ c l h g. omega arith) (λ c l h g. omega arith) (λ c l h g. omega arith) k (λ l h g. omega arith)

-- a shape's code and length
told : (f : Form) (w t : List ℕ) (c : ℕ) → Shape w c → Has f c → Tells f (w ++ t) (record { len = length w; code = c })
told f w t c h g = sym (ap straight_of (scan_shape f w t c h g))

pub found-one : (f : Form) (s : List ℕ) (c : ℕ) → 1 ≤ length s → Shape (front1 s) c → Has f c → Tells f s (record { len = 1; code = c })
found-one f (x ∷ t) c l h g = told f (x ∷ []) t c h g
found-one f [] c l h g = absurd (omega arith)

pub found-two : (f : Form) (s : List ℕ) (c : ℕ) → 2 ≤ length s → Shape (front2 s) c → Has f c → Tells f s (record { len = 2; code = c })
found-two f (x ∷ y ∷ t) c l h g = told f (x ∷ y ∷ []) t c h g
found-two f (x ∷ []) c l h g = absurd (omega arith)
found-two f [] c l h g = absurd (omega arith)

pub found-three : (f : Form) (s : List ℕ) (c : ℕ) → 3 ≤ length s → Shape (front3 s) c → Has f c → Tells f s (record { len = 3; code = c })
found-three f (x ∷ y ∷ z ∷ t) c l h g = told f (x ∷ y ∷ z ∷ []) t c h g
found-three f (x ∷ y ∷ []) c l h g = absurd (omega arith)
found-three f (x ∷ []) c l h g = absurd (omega arith)
found-three f [] c l h g = absurd (omega arith)

pub found_four : (f : Form) (s : List ℕ) (c : ℕ) → 4 ≤ length s → Shape (front4 s) c → Has f c → Tells f s (record { len = 4; code = c })
found_four f (x ∷ y ∷ z ∷ v ∷ t) c l h g = told f (x ∷ y ∷ z ∷ v ∷ []) t c h g
found_four f (x ∷ y ∷ z ∷ []) c l h g = absurd (omega arith)
found_four f (x ∷ y ∷ []) c l h g = absurd (omega arith)
found_four f (x ∷ []) c l h g = absurd (omega arith)
found_four f [] c l h g = absurd (omega arith)

-- a pair's
pub found-pair : (s : List ℕ) (c : ℕ) → 6 ≤ length s → Pair s → c ≡ pair_code s → Tells Cesu s (record { len = 6; code = c })
found-pair (x ∷ y ∷ z ∷ v ∷ u ∷ o ∷ t) c l p e =
    let w = x ∷ y ∷ z ∷ v ∷ u ∷ o ∷ [] in
    sym (ap straight_of (well-scan (rows_of Cesu) w t c (form_regular Cesu).is_distinct ((codes-pair Cesu w c).1 (tt, refl, p, e)).0))
found-pair (x ∷ y ∷ z ∷ v ∷ u ∷ []) c l p e = absurd (omega arith)
found-pair (x ∷ y ∷ z ∷ v ∷ []) c l p e = absurd (omega arith)
found-pair (x ∷ y ∷ z ∷ []) c l p e = absurd (omega arith)
found-pair (x ∷ y ∷ []) c l p e = absurd (omega arith)
found-pair (x ∷ []) c l p e = absurd (omega arith)
found-pair [] c l p e = absurd (omega arith)

-- ---- which codes a form has

-- up to FFFF every form has the scalar values
pub has_low : (f : Form) (c : ℕ) → c < 0xD800 → Has f c
has_low Plain c h = inl (omega arith)
has_low Surro c h = omega arith
has_low Cesu c h = (inl (omega arith), omega arith)

pub has_high : (f : Form) (c : ℕ) → 0xDFFF < c → c ≤ 0xFFFF → Has f c
has_high Plain c h g = inr (inl (omega arith))
has_high Surro c h g = omega arith
has_high Cesu c h g = (inr (inl (omega arith)), omega arith)

pub surro_all : (f : Form) (c : ℕ) → f ≡ Surro → c ≤ 0x10FFFF → Has f c
surro_all f c e h = subst (λ (x : Form). Has x c) (sym e) h

-- beyond FFFF, UTF-8 has all, with SURRO or without
pub has_long : (f : Form) (c : ℕ) → (f ≡ Plain) ⊎ (f ≡ Surro) → 0xFFFF < c → c ≤ 0x10FFFF → Has f c
has_long f c (inl e) h g = subst (λ (x : Form). Has x c) (sym e) (inr (inl (omega arith)))
has_long f c (inr e) h g = surro_all f c e g

pub plain-surrogate : (f : Form) (c : ℕ) → f ≡ Plain → In (0xD800 to 0xDFFF) c → Has f c → ⊥
plain-surrogate f c e h g = omega (arith, scalar-outside c (subst (λ (x : Form). Has x c) e g) h.0)

pub plain_unpaired : (f : Form) → f ≡ Plain → Pairs f → ⊥
plain_unpaired f e g = subst Pairs e g

cesu-surrogate : (c : ℕ) → In (0xD800 to 0xDFFF) c → Has Cesu c → ⊥
cesu-surrogate c h g = omega (arith, scalar-outside c g.0 h.0)

pub cesu-beyond : (f : Form) (c : ℕ) → f ≡ Cesu → 0xFFFF < c → Has f c → ⊥
cesu-beyond f c e h g = let i = subst (λ (x : Form). Has x c) e g in omega (arith, i.1)

-- so where three bytes have a surrogate's code CESU-8 has a pair or nothing
pub lost_pair : (s : List ℕ) (high : ℕ) → In (0xD800 to 0xDFFF) high → In (0xE0 to 0xEF) (get_or s 0 0)
    → high ≡ (get_or s 0 0 - 0xE0) * 0x1000 + (get_or s 1 0 - 0x80) * 0x40 + (get_or s 2 0 - 0x80) → (6 ≤ length s → Pair s → ⊥) → Lost Cesu s
lost_pair s high p q e n = lost_three Cesu s q (λ c l h g. cesu-surrogate c (omega arith) g) (λ l h g. n l h)

-- a byte by itself
pub ascii_tells : (f : Form) (s : List ℕ) → 0 < length s → get_or s 0 0 < 0x80 → Tells f s (record { len = 1; code = get_or s 0 0 })
ascii_tells f s h l = found-one f s (get_or s 0 0) h (omega arith) (has_low f (get_or s 0 0) (omega arith))

pub stray_tells : (f : Form) (s : List ℕ) → 0x80 ≤ get_or s 0 0 → get_or s 0 0 < 0xC2 → Lost f s
stray_tells f s h l = lost_one f s (omega arith)
