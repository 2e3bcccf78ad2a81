-- Exactly one reason holds, and it is the one that is given. Assumes nothing.
use mathlib.Core.Path.{◌≡◌, refl, sym, ap, ◌∙◌, subst}
use mathlib.Core.Logic.{inl, inr, ⊎_elim}
use mathlib.Core.List.{List, [], ◌∷◌, ◌++◌, head-eq_of_cons-eq, tail-eq_of_cons-eq}
use Prim.Native.Nat.{ℕ, zero, suc, ◌≤◌}
use native.Mathlib.Omega.{arith}
use lib.ListN.{length, take, drop, take-append-drop}
use Rattle.form.specs.Table.{◌to◌, plain, tail, In, Partial}
use Rattle.form.specs.Scan.{Found, well, part, bad, scan}
use Rattle.form.specs.Text.{Bytes}
use Rattle.form.proofs.Scan.{well-scan}
use Rattle.form.proofs.Utf8.{plain-regular, plain-scans}
use Rattle.reason.specs.Reason.{Opens, Holds, signs, first_sign, judged, by_found, reason}
use Rattle.reason.specs.declared.Reason.{Reason}
use Rattle.reason.specs.declared.Reason.TheVariants.{Good, Lone, Never, Beyond, TooLong, Surrogate, TooHigh, CutShort, Unfinished, AtEnd}
use Rattle.reason.specs.Request.{Exactly}
use Rattle.reason.proofs.Signs.{Among, None, none_first, first_among, among_first}
use Rattle.reason.proofs.Found.{cut-bad, finds}
use Rattle.reason.proofs.Signless.{unsigned}

-- ---- a reason that holds is the one that is given

abbrev pub Given : Reason → List ℕ → Type 0
Given r s = r ≡ by_found (scan plain s) s

-- where a sign opens the bytes it is the first that does, and no sequence starts
signed : (r : Reason) (s : List ℕ) (k : ℕ) → scan plain s ≡ bad k → Among signs r s → Given r s
unfolding judged
signed r s k e h = rw e (sym (among_first signs r s tt h))

-- after a partial sequence and a byte that is no continuation none does
module _ (a : ℕ) (w : List ℕ) (b : ℕ) (z : List ℕ) (p : Partial plain (a ∷ w)) (n : In tail b → ⊥) where
  abbrev s : List ℕ
  s = a ∷ w ++ b ∷ z

  first-shut : scan plain s ≡ bad 0 → ⊥
  first-shut e = cc (cut-bad a w b z p n)

  pair-shut : (x lo hi : ℕ) → 0x80 ≤ lo → hi ≤ 0xBF → Opens (x to x ∷ lo to hi ∷ []) s → scan plain s ≡ bad 1 → ⊥
  pair-shut x lo hi l g h e = go w refl h
    where
      alone : length w ≡ 0
      alone = let z : 1 ≡ suc (length w) = cc (e, cut-bad a w b z p n) in omega arith

      go : (u : List ℕ) → w ≡ u → Opens (x to x ∷ lo to hi ∷ []) (a ∷ u ++ b ∷ z) → ⊥
      go (y ∷ u) q h = omega (arith, alone, ap length q)
      go [] q ([], z, f, k) = k
      go [] q (c ∷ [], z, f, k) = k.1
      go [] q (c ∷ d ∷ v, z, f, k) = n (omega (arith, head-eq_of_cons-eq (tail-eq_of_cons-eq f), k.1.0), omega (arith, head-eq_of_cons-eq (tail-eq_of_cons-eq f), k.1.0))

  cut-none : None signs s
  cut-none r (inl (e, h)) = first-shut (finds Lone s h)
  cut-none r (inr (inl (e, h))) = first-shut (finds Never s h)
  cut-none r (inr (inr (inl (e, h)))) = first-shut (finds Beyond s h)
  cut-none r (inr (inr (inr (inl (e, h))))) = pair-shut 0xE0 0x80 0x9F (omega arith) (omega arith) h (finds TooLong s (inl h))
  cut-none r (inr (inr (inr (inr (inl (e, h)))))) = pair-shut 0xF0 0x80 0x8F (omega arith) (omega arith) h (finds TooLong s (inr h))
  cut-none r (inr (inr (inr (inr (inr (inl (e, h))))))) = pair-shut 0xED 0xA0 0xBF (omega arith) (omega arith) h (finds Surrogate s h)
  cut-none r (inr (inr (inr (inr (inr (inr (inl (e, h)))))))) = pair-shut 0xF4 0x90 0xBF (omega arith) (omega arith) h (finds TooHigh s h)
  cut-none r (inr (inr (inr (inr (inr (inr (inr h))))))) = h

  is_cut : Given CutShort s
  unfolding judged
  is_cut = rw (cut-bad a w b z p n) (sym (none_first signs s cut-none))

pub at_none : Given AtEnd []
unfolding plain
at_none = refl

given : (r : Reason) (s : List ℕ) → Holds r s → Given r s
given Good s (w, z, e, (c, h)) = rw (ap (scan plain) e ∙ well-scan plain w z c plain-regular.is_distinct h) refl
given Lone s h = signed Lone s 0 (finds Lone s h) (inl (refl, h))
given Never s h = signed Never s 0 (finds Never s h) (inr (inl (refl, h)))
given Beyond s h = signed Beyond s 0 (finds Beyond s h) (inr (inr (inl (refl, h))))
given TooLong s (inl h) = signed TooLong s 1 (finds TooLong s (inl h)) (inr (inr (inr (inl (refl, h)))))
given TooLong s (inr h) = signed TooLong s 1 (finds TooLong s (inr h)) (inr (inr (inr (inr (inl (refl, h))))))
given Surrogate s h = signed Surrogate s 1 (finds Surrogate s h) (inr (inr (inr (inr (inr (inl (refl, h)))))))
given TooHigh s h = signed TooHigh s 1 (finds TooHigh s h) (inr (inr (inr (inr (inr (inr (inl (refl, h))))))))
given CutShort s ([], b, z, e, p, n) = absurd (omega (arith, p.0))
given CutShort s (a ∷ w, b, z, e, p, n) = subst (Given CutShort) (sym e) (is_cut a w b z p n)
given Unfinished [] p = absurd (omega (arith, p.0))
given Unfinished (b ∷ s) p = rw ((plain-scans.finds_part (b ∷ s) (omega arith)).1 p) refl
given AtEnd s e = subst (Given AtEnd) (sym e) at_none

-- ---- and the one that is given holds

among_holds : (r : Reason) (s : List ℕ) → Among signs r s → Holds r s
among_holds r s (inl (e, h)) = subst (λ (q : Reason). Holds q s) e h
among_holds r s (inr (inl (e, h))) = subst (λ (q : Reason). Holds q s) e h
among_holds r s (inr (inr (inl (e, h)))) = subst (λ (q : Reason). Holds q s) e h
among_holds r s (inr (inr (inr (inl (e, h))))) = subst (λ (q : Reason). Holds q s) e (inl h)
among_holds r s (inr (inr (inr (inr (inl (e, h)))))) = subst (λ (q : Reason). Holds q s) e (inr h)
among_holds r s (inr (inr (inr (inr (inr (inl (e, h))))))) = subst (λ (q : Reason). Holds q s) e h
among_holds r s (inr (inr (inr (inr (inr (inr (inl (e, h)))))))) = subst (λ (q : Reason). Holds q s) e h
among_holds r s (inr (inr (inr (inr (inr (inr (inr h))))))) = absurd h

holds : (s : List ℕ) → Bytes s → Holds (by_found (scan plain s) s) s
unfolding judged
holds s b = go (scan plain s) refl
  where
    partial : (t : List ℕ) → scan plain t ≡ part → Holds (by_found part t) t
    partial [] e = refl
    partial (x ∷ t) e = (plain-scans.finds_part (x ∷ t) (omega arith)).0 e

    go : (x : Found) → scan plain s ≡ x → Holds (by_found x s) s
    go (well c n) e = (take n s, drop n s, sym (take-append-drop n s), (c, ((plain-scans.finds_well s c n).0 e).0))
    go part e = partial s e
    go (bad n) e =
        ⊎_elim (λ h. among_holds (first_sign signs s) s h) (λ o. subst (λ (r : Reason). Holds r s) (sym (none_first signs s o)) (unsigned s n b e o))
        (first_among signs s)

bytes_drop : (k : ℕ) (s : List ℕ) → Bytes s → Bytes (drop k s)
bytes_drop zero s b = b
bytes_drop (suc k) [] b = b
bytes_drop (suc k) (x ∷ s) b = bytes_drop k s b.1

pub exactly : (s : List ℕ) (place : ℕ) → Bytes s → Exactly s place
unfolding reason
exactly s place b = record { holds = holds (drop place s) (bytes_drop place s b); only = λ r h. given r (drop place s) h }
