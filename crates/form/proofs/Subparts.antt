-- What an item keeps of a bad byte is the length of the maximal subpart, and there is one. Assumes nothing.
use mathlib.Core.Path.{◌≡◌, refl, sym, ap, ◌∙◌, subst}
use mathlib.Core.List.{List, [], ◌∷◌, ◌++◌, append-nil}
use Prim.Native.Nat.{ℕ, zero, suc, ◌≤◌, ◌<◌, max}
use native.Mathlib.Omega.{arith}
use native.Mathlib.Decide.{dec_le}
use lib.ListN.{length, take, drop, take-append-drop, length-append}
use lib.Seq.{take_all, take-append_seam, length-take-le}
use Rattle.form.specs.Table.{Form, Codes, WellFormed, Begins, Partial}
use Rattle.form.specs.Subpart.{StartsNone, Subpart}
use Rattle.form.specs.Scan.{Found, well, part, bad, scan}
use Rattle.form.specs.Text.{stray, item}
use Rattle.form.proofs.Laws.{Scans}
use Rattle.form.proofs.Bad.{bad-within}

pub subpart-only : (F : Form) (s : List ℕ) (n m : ℕ) → Subpart F s n → Subpart F s m → n ≡ m
subpart-only F s n m p q = go (dec_le n m) (dec_le m n)
  where
    go : Dec (n ≤ m) → Dec (m ≤ n) → n ≡ m
    go (yes h) (yes g) = omega arith
    go (yes h) (no g) = absurd (p.longest m (omega arith) q.within (q.begins (omega (arith, p.some))))
    go (no h) g = absurd (q.longest n (omega arith) p.within (p.begins (omega (arith, q.some))))

-- within the bytes, whatever the rows
pub stray-within : (F : Form) (b : ℕ) (s : List ℕ) (n : ℕ) → item (scan F (b ∷ s)) b s ≡ stray b n → n ≤ suc (length s)
stray-within F b s n = go (scan F (b ∷ s)) refl
  where
    go : (x : Found) → scan F (b ∷ s) ≡ x → item x b s ≡ stray b n → n ≤ suc (length s)
    go (well c m) e h = let z : ◌≡◌ {A = ℕ} 0 1 = cc in absurd (omega arith)
    go (bad m) e h = let i : n ≡ max 1 m = cc in omega (arith, bad-within F (b ∷ s) m e)
    go part e h = let i : n ≡ suc (length s) = cc in omega arith

module _ {F : Form} {k : ℕ} (S : Scans F k) where
  pub bad-subpart : (s : List ℕ) (n : ℕ) → scan F s ≡ bad n → Subpart F s (max 1 n)
  bad-subpart s zero e =
      let (z, l) = (S.finds_bad s 0).0 e in
      record { some = omega arith; within = omega (arith, l.inside); begins = λ h. absurd (omega arith); longest = λ m h g b. l.longest m (omega arith) b }
  bad-subpart s (suc n) e =
      let (z, l) = (S.finds_bad s (suc n)).0 e in
      let i : max 1 (suc n) ≡ suc n = omega arith in
      rw i (record { some = omega arith; within = omega (arith, l.inside); begins = λ h. l.begun; longest = λ m h g b. l.longest m h b })

  pub stray-subpart : (b : ℕ) (s : List ℕ) (n : ℕ) → item (scan F (b ∷ s)) b s ≡ stray b n → Subpart F (b ∷ s) n
  stray-subpart b s n = go (scan F (b ∷ s)) refl
    where
      go : (x : Found) → scan F (b ∷ s) ≡ x → item x b s ≡ stray b n → Subpart F (b ∷ s) n
      go (well c m) e h = let z : ◌≡◌ {A = ℕ} 0 1 = cc in absurd (omega arith)
      go (bad m) e h = let i : n ≡ max 1 m = cc in rw i (bad-subpart (b ∷ s) m e)
      go part e h =
          let i : n ≡ suc (length s) = cc in
          let (l, (t, p, w)) = (S.finds_part (b ∷ s) (omega arith)).0 e in
          let d : take (suc (length s)) (b ∷ s) ≡ b ∷ s = take_all (suc (length s)) (b ∷ s) (omega arith) in
          rw i (record { some = omega arith; within = omega arith; begins = λ h. subst (Begins F) (sym d) (t, w); longest = λ m h g q. omega arith })

  pub stray-none : (b : ℕ) (s : List ℕ) (n : ℕ) → item (scan F (b ∷ s)) b s ≡ stray b n → StartsNone F (b ∷ s)
  stray-none b s n h w t e (c, v) =
      let q : take (length w) (b ∷ s) ≡ w = ap (take (length w)) e ∙ take-append_seam w t in
      let f = (S.finds_well (b ∷ s) c (length w)).1 (subst (λ (l : List ℕ). Codes F l c) (sym q) v, omega (arith, ap length e, length-append w t)) in
      let z : ◌≡◌ {A = ℕ} 0 1 = cc (rw f at h) in
      omega arith

  -- ---- how long it is

  -- shorter than the longest sequence
  pub subpart-short : 1 < k → (s : List ℕ) (n : ℕ) → StartsNone F s → Subpart F s n → n < k
  subpart-short l s n z p = go (dec_le n 1)
    where
      proper : Begins F (take n s) → 1 < n → Partial F (take n s)
      proper ([], w) h = absurd (z (take n s) (drop n s) (sym (take-append-drop n s)) (subst (WellFormed F) (append-nil (take n s)) w))
      proper (x ∷ t, w) h = (omega (arith, length-take-le n s p.within), (x ∷ t, omega arith, w))

      go : Dec (n ≤ 1) → n < k
      go (yes h) = omega arith
      go (no h) = omega (arith, (S.shorter (take n s) (proper (p.begins (omega arith)) (omega arith))).1, length-take-le n s p.within)

  pub bad-short : 1 < k → (s : List ℕ) (n : ℕ) → scan F s ≡ bad n → max 1 n < k
  bad-short l s n e = subpart-short l s (max 1 n) ((S.finds_bad s n).0 e).0 (bad-subpart s n e)

-- the whole of a partial sequence
pub subpart-partial : (F : Form) (s : List ℕ) (n : ℕ) → Partial F s → Subpart F s n → n ≡ length s
subpart-partial F s n (l, (t, p, w)) q = go (dec_le (length s) n)
  where
    go : Dec (length s ≤ n) → n ≡ length s
    go (yes h) = omega (arith, q.within)
    go (no h) = absurd (q.longest (length s) (omega arith) (omega arith) (t, subst (λ (x : List ℕ). WellFormed F (x ++ t)) (sym (take_all (length s) s (omega arith))) w))

-- at least the bytes held, which begin a sequence
pub held-within : (F : Form) (h i : List ℕ) (n : ℕ) → Begins F h → Subpart F (h ++ i) n → length h ≤ n
held-within F h i n b p = go (dec_le (length h) n)
  where
    go : Dec (length h ≤ n) → length h ≤ n
    go (yes l) = l
    go (no l) = absurd (p.longest (length h) (omega arith) (omega (arith, length-append h i)) (subst (Begins F) (sym (take-append_seam h i)) b))
