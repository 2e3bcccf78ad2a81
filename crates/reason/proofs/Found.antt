-- What `scan` finds where a reason holds. Assumes nothing.
use mathlib.Core.Path.{◌≡◌, refl, sym, ap, ◌∙◌, subst}
use mathlib.Core.Logic.{inl, inr}
use mathlib.Core.List.{List, [], ◌∷◌, ◌++◌, append_assoc, append-nil}
use Prim.Native.Nat.{ℕ, suc, ◌+◌, ◌-◌, ◌≤◌, ◌<◌}
use native.Mathlib.Omega.{arith}
use native.Mathlib.Decide.{dec_le}
use lib.Dec.{T}
use lib.ListN.{length, take, get_or, length-append}
use lib.Seq.{take-append-le, take-append_seam, take-append-add, get_or-append_seam}
use Rattle.form.specs.Table.{Range, ◌to◌, plain, tail, In, Fits, WellFormed, Begins, Partial}
use Rattle.form.specs.Subpart.{StartsNone}
use Rattle.form.specs.Scan.{part, bad, scan}
use Rattle.form.specs.Text.{All}
use Rattle.form.proofs.Tests.{clear}
use Rattle.form.proofs.Rows.{fits-length}
use Rattle.form.proofs.Scan.{clear_absurd}
use Rattle.form.proofs.EncodingForms.{later_in}
use Rattle.form.proofs.Utf8.{plain-scans}
use Rattle.reason.specs.Reason.{Opens, Holds}
use Rattle.reason.specs.declared.Reason.{Reason}
use Rattle.reason.specs.declared.Reason.TheVariants.{Good, Lone, Never, Beyond, TooLong, Surrogate, TooHigh, CutShort, Unfinished, AtEnd}

-- ---- a sign whose bytes but the last begin a sequence

opens_bad : (rs : List Range) (w z : List ℕ) (k : ℕ) → T (clear plain rs) → length rs ≡ suc k → Fits rs w → Begins plain (take k w) → scan plain (w ++ z) ≡ bad k
opens_bad rs w z k t l f b =
    (plain-scans.finds_bad (w ++ z) k).1
    (none, record { inside = omega (arith, n, length-append w z); begun = subst (Begins plain) (sym (take-append-le k w z (omega (arith, n)))) b; longest = longest })
  where
    n : length w ≡ suc k
    n = fits-length rs w f ∙ l

    none : StartsNone plain (w ++ z)
    none v y e (c, h) = clear_absurd plain rs w v z y c t f h e

    longest : (m : ℕ) → k < m → Begins plain (take m (w ++ z)) → ⊥
    longest m g (u, (c, h)) =
        let i : m ≡ length w + (m - suc k) = omega (arith, n) in
        let e : take m (w ++ z) ≡ w ++ take (m - suc k) z = ap (λ (x : ℕ). take x (w ++ z)) i ∙ take-append-add w z (m - suc k) in
        clear_absurd plain rs w (take m (w ++ z) ++ u) (take (m - suc k) z ++ u) [] c t f h
        (sym (append_assoc w (take (m - suc k) z) u) ∙ ap (λ (x : List ℕ). x ++ u) (sym e) ∙ sym (append-nil (take m (w ++ z) ++ u)))

-- one range that no sequence begins with
first_bad : (r : Range) (s : List ℕ) → T (clear plain (r ∷ [])) → Opens (r ∷ []) s → scan plain s ≡ bad 0
unfolding plain
first_bad r s t (w, z, e, f) = ap (scan plain) e ∙ opens_bad (r ∷ []) w z 0 t refl f (0x41 ∷ [], (0x41, inl (((omega arith, omega arith), tt), refl)))

-- a first byte that begins a sequence, and a range that none goes on with
pair-bad : (a : ℕ) (r : Range) (s : List ℕ) → T (clear plain (a to a ∷ r ∷ [])) → scan plain (a ∷ []) ≡ part → Opens (a to a ∷ r ∷ []) s → scan plain s ≡ bad 1
pair-bad a r s t p ([], z, e, f) = absurd f
pair-bad a r s t p (x ∷ w, z, e, f) =
    let i : a ≡ x = omega (arith, f.0) in
    let (l, (u, g, h)) = (plain-scans.finds_part (a ∷ []) (omega arith)).0 p in
    ap (scan plain) e ∙ opens_bad (a to a ∷ r ∷ []) (x ∷ w) z 1 t refl f (subst (λ (y : ℕ). Begins plain (y ∷ [])) i (u, h))

-- ---- a partial sequence, and a byte that is no continuation

all_at : (P : ℕ → Type 0) (w u : List ℕ) (b : ℕ) → All P (w ++ b ∷ u) → P b
all_at P [] u b h = h.0
all_at P (x ∷ w) u b h = all_at P w u b h.1

-- a byte after some bytes of what begins a sequence
begun-tail : (a : ℕ) (w u : List ℕ) (b : ℕ) → Begins plain (a ∷ w ++ b ∷ u) → In tail b
unfolding plain
begun-tail a w u b (t, (c, h)) = all_at (In tail) w (u ++ t) b (rw (append_assoc w (b ∷ u) t) at (later_in tail plain a (w ++ b ∷ u ++ t) c tt h))

pub cut-bad : (a : ℕ) (w : List ℕ) (b : ℕ) (z : List ℕ) → Partial plain (a ∷ w) → (In tail b → ⊥) → scan plain (a ∷ w ++ b ∷ z) ≡ bad (suc (length w))
cut-bad a w b z p n =
    (plain-scans.finds_bad s k).1
    (none, record { inside = omega (arith, length-append (a ∷ w) (b ∷ z)); begun = subst (Begins plain) (sym (take-append_seam (a ∷ w) (b ∷ z))) (p.1.0, p.1.2); longest = over })
  where
    s : List ℕ
    s = a ∷ w ++ b ∷ z

    k : ℕ
    k = suc (length w)

    over : (j : ℕ) → k < j → Begins plain (take j s) → ⊥
    over j l h =
        let i : j ≡ length (a ∷ w) + suc (j - k - 1) = omega arith in
        let f : take j s ≡ a ∷ w ++ b ∷ take (j - k - 1) z = ap (λ (x : ℕ). take x s) i ∙ take-append-add (a ∷ w) (b ∷ z) (suc (j - k - 1)) in
        n (begun-tail a w (take (j - k - 1) z) b (subst (Begins plain) f h))

    none : StartsNone plain s
    none v y e (c, h) = go (dec_le (length v) k)
      where
        front : take (length v) s ≡ v
        front = ap (take (length v)) e ∙ take-append_seam v y

        go : Dec (length v ≤ k) → ⊥
        go (no l) = over (length v) (omega arith) ([], subst (WellFormed plain) (sym front ∙ sym (append-nil (take (length v) s))) (c, h))
        go (yes l) =
            let f : take (length v) (a ∷ w) ≡ v = sym (take-append-le (length v) (a ∷ w) (b ∷ z) l) ∙ front in
            let g = (plain-scans.finds_well (a ∷ w) c (length v)).1 (rw f h, l) in
            let x : ◌≡◌ {A = ℕ} 0 1 = cc (g, (plain-scans.finds_part (a ∷ w) (omega arith)).1 p) in
            omega arith

-- ---- each reason

abbrev pub Finds : Reason → List ℕ → Type 0
Finds Good s = Unit {0}
Finds Lone s = scan plain s ≡ bad 0
Finds Never s = scan plain s ≡ bad 0
Finds Beyond s = scan plain s ≡ bad 0
Finds TooLong s = scan plain s ≡ bad 1
Finds Surrogate s = scan plain s ≡ bad 1
Finds TooHigh s = scan plain s ≡ bad 1
Finds CutShort s = (n : ℕ) × (1 ≤ n) × (scan plain s ≡ bad n) × (In tail (get_or s n 0) → ⊥)
Finds Unfinished s = Partial plain s
Finds AtEnd s = Unit {0}

pub finds : (r : Reason) (s : List ℕ) → Holds r s → Finds r s
unfolding plain
finds Good s h = tt
finds Lone s h = first_bad (0x80 to 0xBF) s tt h
finds Never s h = first_bad (0xC0 to 0xC1) s tt h
finds Beyond s h = first_bad (0xF5 to 0xFF) s tt h
finds TooLong s (inl h) = pair-bad 0xE0 (0x80 to 0x9F) s tt refl h
finds TooLong s (inr h) = pair-bad 0xF0 (0x80 to 0x8F) s tt refl h
finds Surrogate s h = pair-bad 0xED (0xA0 to 0xBF) s tt refl h
finds TooHigh s h = pair-bad 0xF4 (0x90 to 0xBF) s tt refl h
finds CutShort s ([], b, z, e, p, n) = absurd (omega (arith, p.0))
finds CutShort s (a ∷ w, b, z, e, p, n) =
    subst (Finds CutShort) (sym e)
    (suc (length w), omega arith, cut-bad a w b z p n, λ t. n (subst (In tail) (get_or-append_seam (a ∷ w) b z 0) t))
finds Unfinished s h = h
finds AtEnd s h = tt
