-- What a window of the bytes held and the first of the input shows is what all of them show. Assumes nothing.
use mathlib.Core.Path.{◌≡◌, refl, sym, ap, ap₂, ◌∙◌, subst}
use mathlib.Core.Bool.{cond}
use mathlib.Core.Logic.{◌⊎◌, inl, inr, ⊎_elim}
use mathlib.Core.List.{List, [], ◌∷◌, ◌++◌, append_assoc}
use Prim.Native.Nat.{ℕ, zero, suc, ◌+◌, ◌-◌, ◌≤◌, ◌<◌, max}
use native.Mathlib.Omega.{arith}
use native.Mathlib.Decide.{dec_le}
use borrow.Author.Tests.{eq-eqb, ne_eqb}
use lib.Dec.{eqb}
use lib.ListN.{length, take, drop, replicate, length-append, take-append-drop}
use lib.Seq.{paste, take-paste, length_paste_head, length-take-le, take_all, drop-drop, take-append-le}
use Rattle.form.specs.Table.{Form}
use Rattle.form.specs.Scan.{Found, well, part, bad, scan}
use Rattle.form.proofs.Laws.{Scans}
use Rattle.form.proofs.Subparts.{bad-short}
use Rattle.forms.specs.declared.Form.{Form as Form'}
use Rattle.forms.specs.Forms.{rows_of}
use Rattle.forms.proofs.Forms.{form_scans}
use Rattle.front.specs.declared.Front.{Front}
use Rattle.front.specs.declared.Front.TheVariants as Variants
use Rattle.front.specs.Front.{told, told_of}
use Rattle.front.proofs.Told.{Finds, told-finds}
use Rattle.state.specs.Meaning.{starting, padded, record_of}
use Rattle.units.specs.Width.{Width}
use Rattle.state.specs.declared.Record.{Record}
use Rattle.advance.specs.declared.Answer.TheVariants.{Incomplete, Bad, Null}
use Rattle.advance.specs.declared.Advanced.{Advanced}
use Rattle.advance.specs.declared.Reading.{Reading}
use Rattle.advance.specs.declared.Reading.TheVariants.{Done, Code}
use Rattle.advance.specs.Step.{incomplete, tell, tell_bad, to, hold, convert, reads, step}
use Rattle.advance.specs.Advance.{Says, Advances, used, Holding, taken}

-- ---- the state while bytes are held

pub hold-some : (h : List ℕ) → 0 < length h → record_of (hold h) ≡ record { kind = 1; count = length h; bytes = padded h }
unfolding record_of
hold-some [] e = absurd (omega arith)
hold-some (b ∷ h) e = refl

zeros : (m n : ℕ) → m ≡ n → replicate {A = ℕ} m 0 ≡ replicate n 0
zeros m n e = rw e refl

drop_zeros : (m n : ℕ) → drop m (replicate {A = ℕ} n 0) ≡ replicate (n - m) 0
drop_zeros zero n = zeros n (n - 0) (omega arith)
drop_zeros (suc m) zero = zeros 0 (0 - suc m) (omega arith)
drop_zeros (suc m) (suc n) = drop_zeros m n ∙ zeros (n - m) (suc n - suc m) (omega arith)

module _ {F : Form} {n : ℕ} (S : Scans F n) where
  -- a sequence ends after the bytes held
  pub ends-after : (h i : List ℕ) (c m : ℕ) → scan F h ≡ part → scan F (h ++ i) ≡ well c m → length h < m
  ends-after h i c m p e = go (dec_le m (length h))
    where
      go : Dec (m ≤ length h) → length h < m
      go (no n) = omega arith
      go (yes n) =
          let w = ((S.finds_well (h ++ i) c m).0 e).0 in
          let z : ◌≡◌ {A = ℕ} 0 1 = cc (p, (S.finds_well h c m).1 (rw (take-append-le m h i n) at w, n)) in
          absurd (omega arith)

module _ {F : Form} (S : Scans F 6) where
  -- six bytes decide
  full : (s : List ℕ) → 6 ≤ length s → scan F s ≡ part → ⊥
  full s h e = omega (arith, S.shorter s ((S.finds_part s (omega arith)).0 e))

  stays : (s t : List ℕ) → (scan F s ≡ part → ⊥) → scan F (s ++ t) ≡ scan F s
  stays s t h = go (scan F s) refl
    where
      go : (x : Found) → scan F s ≡ x → scan F (s ++ t) ≡ scan F s
      go (well c m) e = S.well_stays s t c m e ∙ sym e
      go part e = absurd (h e)
      go (bad m) e = S.bad_stays s t m e ∙ sym e

  module _ {s : Record} (l : length s.bytes ≡ 14) (H : Holding F s) (i : List ℕ) where
    abbrev n : ℕ
    n = s.count

    abbrev m : ℕ
    m = taken s.count i

    abbrev d : List ℕ
    d = s.bytes

    all-or-full : (m ≡ length i) ⊎ ((n + m ≡ 6) × (m ≤ length i))
    all-or-full = go (dec_le (length i) (6 - n))
      where
        go : Dec (length i ≤ 6 - n) → (m ≡ length i) ⊎ ((n + m ≡ 6) × (m ≤ length i))
        go (yes h) = inl (omega arith)
        go (no h) = inr (omega (arith, H.few), omega arith)

    window : take (n + m) (paste d n i m) ≡ take n d ++ take m i
    window = take-paste d n i m (omega (arith, H.few)) (omega arith)

    window-length : length (take n d ++ take m i) ≡ n + m
    window-length = length_paste_head d n i m (omega (arith, H.few)) (omega arith)

    held-length : length (take n d) ≡ n
    held-length = length-take-le n d (omega (arith, H.few))

    pub seen : scan F (take (n + m) (paste d n i m)) ≡ scan F (used s ++ i)
    seen = ap (scan F) window ∙ ⊎_elim whole cut all-or-full
      where
        whole : m ≡ length i → scan F (take n d ++ take m i) ≡ scan F (used s ++ i)
        whole e = ap (λ (l : List ℕ). scan F (take n d ++ l)) (take_all m i (omega arith))

        cut : (n + m ≡ 6) × (m ≤ length i) → scan F (take n d ++ take m i) ≡ scan F (used s ++ i)
        cut e =
            sym (stays (take n d ++ take m i) (drop m i) (full (take n d ++ take m i) (omega (arith, window-length))))
            ∙ ap (scan F) (append_assoc (take n d) (take m i) (drop m i) ∙ ap (λ (l : List ℕ). take n d ++ l) (take-append-drop m i))

    -- a window that shows a partial sequence holds all of the input
    all_in : scan F (used s ++ i) ≡ part → m ≡ length i
    all_in e = ⊎_elim (λ h. h) (λ h. absurd (full (take n d ++ take m i) (omega (arith, window-length)) (sym (ap (scan F) window) ∙ seen ∙ e))) all-or-full

    all-length : scan F (used s ++ i) ≡ part → length (used s ++ i) ≡ n + m
    all-length e = omega (arith, all_in e, held-length, length-append (take n d) i)

    all-padded : scan F (used s ++ i) ≡ part → paste d n i m ≡ padded (used s ++ i)
    unfolding padded
    all-padded e =
        let z : drop (n + m) d ≡ replicate (14 - (n + m)) 0 =
        sym (drop-drop m n d) ∙ ap (drop m) H.clear ∙ drop_zeros m (14 - n) ∙ zeros (14 - n - m) (14 - (n + m)) (omega arith) in
        ap₂ (λ (x y : List ℕ). take n d ++ x ++ y) (take_all m i (omega (arith, all_in e))) (z ∙ zeros (14 - (n + m)) (14 - length (used s ++ i)) (omega (arith, all-length e)))

    -- its bytes are then the next state's
    pub held-state : scan F (used s ++ i) ≡ part → (n + m ≡ 0 → ⊥) → record_of (hold (used s ++ i)) ≡ record { kind = 1; count = n + m; bytes = paste d n i m }
    held-state e h = hold-some (used s ++ i) (omega (arith, all-length e, h)) ∙ rw (all-length e, all-padded e) refl

    -- ---- what the window shows, as every width reads it

    by : (W : Width) (x : Found) → scan F (used s ++ i) ≡ x → step F W s i ≡ reads W (used s) i x
    by W x e = H.reads_on W i ∙ ap (reads W (used s) i) e

    pub reads-some : scan F (used s ++ i) ≡ part → (n + m ≡ 0 → ⊥) → Says F s i (Done Incomplete) (record { kind = 1; count = n + m; bytes = paste d n i m })
    reads-some e h W = by W part e ∙ ap (λ (t : Record). record { answer = tell incomplete 2 0 (length i) 0; next = t }) (held-state e h)

    pub reads-bad : (k : ℕ) → scan F (used s ++ i) ≡ bad k → Says F s i (Done (Bad n (max 1 k))) (record_of starting)
    reads-bad k e W = by W (bad k) e ∙ ap (λ (h : ℕ). to (tell_bad h (max 1 k)) starting) held-length

    pub reads-null : (c k : ℕ) → scan F (used s ++ i) ≡ well c k → c ≡ 0 → Says F s i (Done Null) (record_of starting)
    reads-null c k e z W = by W (well c k) e ∙ rw (eq-eqb c 0 z) refl

    pub reads-code : (c k : ℕ) → scan F (used s ++ i) ≡ well c k → (c ≡ 0 → ⊥) → Says F s i (Code c (k - n)) (record_of starting)
    reads-code c k e z = (λ W. by W (well c k) e ∙ rw (ne_eqb c 0 z) (ap (λ (h : ℕ). convert W c (k - h)) held-length), refl)

    pub code-after : (c k : ℕ) → scan F (used s ++ i) ≡ well c k → n < k
    code-after c k e = rw held-length at (ends-after S (used s) i c k H.partial e)

-- ---- the same of the record w that holds the window, for the form that is read

module _ (f : Form') (s w : Record) (i : List ℕ) (l : length s.bytes ≡ 14) (H : Holding (rows_of f) s)
    (g : w ≡ record { kind = 1; count = s.count + taken s.count i; bytes = paste s.bytes s.count i (taken s.count i) }) where
  together : Found
  together = scan (rows_of f) (used s ++ i)

  count-is : w.count ≡ s.count + taken s.count i
  count-is = ap (λ (v : Record). v.count) g

  pub finds : (x r : Front) (k : ℕ) → x ≡ r → k ≡ w.count → told x ≡ told_of (scan (rows_of f) (take k w.bytes)) (length (take k w.bytes)) → Finds r (scan (rows_of f) (used s ++ i))
  finds x r k e q h =
      let v : scan (rows_of f) (take k w.bytes) ≡ scan (rows_of f) (used s ++ i) = rw (q, g) (seen (form_scans f) l H i) in
      subst (Finds r) v (subst (λ (y : Front). Finds y (scan (rows_of f) (take k w.bytes))) e (told-finds x (scan (rows_of f) (take k w.bytes)) _ h))

  -- of the next state t and the reading r
  is_read : (r : Reading) (t : Record) (a : Advanced) → a ≡ record { reading = r; next = t } → Says (rows_of f) s i r t → Advances (rows_of f) s i a
  is_read r t a e h = subst (Advances (rows_of f) s i) (sym e) h

  pub is_some : (a : Advanced) → scan (rows_of f) (used s ++ i) ≡ part → (w.count ≡ 0 → ⊥) → a ≡ record { reading = Done Incomplete; next = w } → Advances (rows_of f) s i a
  is_some a e z h = is_read (Done Incomplete) _ a (h ∙ ap (λ (v : Record). record { reading = Done Incomplete; next = v }) g) (reads-some (form_scans f) l H i e (λ q. z (count-is ∙ q)))

  pub bad-few : (n : ℕ) → Finds (Variants.Bad n) (scan (rows_of f) (used s ++ i)) → n < 6
  bad-few n (k, e, q) = rw q (bad-short (form_scans f) (omega arith) (used s ++ i) k e)

  pub is_bad : (n : ℕ) (a : Advanced) (t : Record) → Finds (Variants.Bad n) (scan (rows_of f) (used s ++ i)) → a ≡ record { reading = Done (Bad s.count n); next = t } → t ≡ record_of starting → Advances (rows_of f) s i a
  is_bad n a t (k, e, q) h z = is_read (Done (Bad s.count n)) (record_of starting) a (h ∙ ap (λ (v : Record). record { reading = Done (Bad s.count n); next = v }) z) (rw q (reads-bad (form_scans f) l H i k e))

  pub is_well : (c k n : ℕ) (r : Reading) (t : Record) → scan (rows_of f) (used s ++ i) ≡ well c k → n ≡ k - s.count → r ≡ cond (eqb c 0) (Done Null) (Code c n) → t ≡ record_of starting → Advances (rows_of f) s i (record { reading = r; next = t })
  is_well c k n r t e m h z = go (dec_le c 0)
    where
      go : Dec (c ≤ 0) → Advances (rows_of f) s i (record { reading = r; next = t })
      go (yes q) = let o : c ≡ 0 = omega arith in rw (h, eq-eqb c 0 o, z) (reads-null (form_scans f) l H i c k e o)
      go (no q) = let o : c ≡ 0 → ⊥ = λ p. omega arith in rw (h, ne_eqb c 0 o, z, m) (reads-code (form_scans f) l H i c k e o)
