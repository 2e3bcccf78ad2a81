-- What the first bytes tell of the reason that is given where no sequence starts. Assumes nothing.
use mathlib.Core.Path.{◌≡◌, refl, sym}
use mathlib.Core.Logic.{◌⊎◌, inl, inr}
use mathlib.Core.List.{List, [], ◌∷◌}
use Prim.Native.Nat.{ℕ, ◌≤◌, ◌<◌}
use native.Mathlib.Omega.{arith}
use native.Mathlib.Decide.{dec_le}
use lib.ListN.{length, get_or}
use Rattle.form.specs.Table.{◌to◌}
use Rattle.reason.specs.Reason.{Opens, signs, first_sign, judged}
use Rattle.reason.specs.declared.Reason.{Reason}
use Rattle.reason.specs.declared.Reason.TheVariants.{Lone, Never, Beyond, TooLong, Surrogate, TooHigh, CutShort}
use Rattle.reason.proofs.Signs.{Among, None, none_first, first_among}

-- the first byte is in the range
abbrev pub FirstIn : List ℕ → ℕ → ℕ → Type 0
FirstIn s lo hi = (0 < length s) × (lo ≤ get_or s 0 0) × (get_or s 0 0 ≤ hi)

-- the first byte is this one, and the second is in the range
abbrev pub PairIn : List ℕ → ℕ → ℕ → ℕ → Type 0
PairIn s a lo hi = (1 < length s) × (get_or s 0 0 ≡ a) × (lo ≤ get_or s 1 0) × (get_or s 1 0 ≤ hi)

abbrev pub FirstOut : List ℕ → ℕ → ℕ → Type 0
FirstOut s lo hi = (length s ≤ 0) ⊎ (get_or s 0 0 < lo) ⊎ (hi < get_or s 0 0)

abbrev pub PairOut : List ℕ → ℕ → ℕ → ℕ → Type 0
PairOut s a lo hi = (length s ≤ 1) ⊎ (get_or s 0 0 < a) ⊎ (a < get_or s 0 0) ⊎ (get_or s 1 0 < lo) ⊎ (hi < get_or s 1 0)

opens_first : (lo hi : ℕ) (s : List ℕ) → Opens (lo to hi ∷ []) s → FirstIn s lo hi
opens_first lo hi s ([], z, e, h) = absurd h
opens_first lo hi s (a ∷ w, z, e, h) = rw e (omega arith, h.0.0, h.0.1)

opens_pair : (a lo hi : ℕ) (s : List ℕ) → Opens (a to a ∷ lo to hi ∷ []) s → PairIn s a lo hi
opens_pair a lo hi s ([], z, e, h) = absurd h
opens_pair a lo hi s (b ∷ [], z, e, h) = absurd h.1
opens_pair a lo hi s (b ∷ c ∷ w, z, e, h) = rw e (omega arith, omega (arith, h.0), h.1.0.0, h.1.0.1)

shut_first : (lo hi : ℕ) (s : List ℕ) → (Opens (lo to hi ∷ []) s → ⊥) → FirstOut s lo hi
shut_first lo hi [] n = inl (omega arith)
shut_first lo hi (a ∷ s) n = go (dec_le lo a) (dec_le a hi)
  where
    go : Dec (lo ≤ a) → Dec (a ≤ hi) → FirstOut (a ∷ s) lo hi
    go (no k) d = inr (inl (omega arith))
    go (yes l) (no k) = inr (inr (omega arith))
    go (yes l) (yes k) = absurd (n (a ∷ [], s, refl, ((l, k), tt)))

shut_pair : (a lo hi : ℕ) (s : List ℕ) → (Opens (a to a ∷ lo to hi ∷ []) s → ⊥) → PairOut s a lo hi
shut_pair a lo hi [] n = inl (omega arith)
shut_pair a lo hi (b ∷ []) n = inl (omega arith)
shut_pair a lo hi (b ∷ c ∷ s) n = go (dec_le a b) (dec_le b a) (dec_le lo c) (dec_le c hi)
  where
    go : Dec (a ≤ b) → Dec (b ≤ a) → Dec (lo ≤ c) → Dec (c ≤ hi) → PairOut (b ∷ c ∷ s) a lo hi
    go (no k) d e f = inr (inl (omega arith))
    go (yes i) (no k) e f = inr (inr (inl (omega arith)))
    go (yes i) (yes j) (no k) f = inr (inr (inr (inl (omega arith))))
    go (yes i) (yes j) (yes l) (no k) = inr (inr (inr (inr (omega arith))))
    go (yes i) (yes j) (yes l) (yes m) = absurd (n (b ∷ c ∷ [], s, refl, ((i, j), ((l, m), tt))))

abbrev Tells : Reason → List ℕ → Type 0
Tells r s =
    ((r ≡ Lone) × FirstIn s 0x80 0xBF)
    ⊎ ((r ≡ Never) × FirstIn s 0xC0 0xC1)
    ⊎ ((r ≡ Beyond) × FirstIn s 0xF5 0xFF)
    ⊎ ((r ≡ TooLong) × PairIn s 0xE0 0x80 0x9F)
    ⊎ ((r ≡ TooLong) × PairIn s 0xF0 0x80 0x8F)
    ⊎ ((r ≡ Surrogate) × PairIn s 0xED 0xA0 0xBF)
    ⊎ ((r ≡ TooHigh) × PairIn s 0xF4 0x90 0xBF)
    ⊎ ((r ≡ CutShort) × FirstOut s 0x80 0xBF × FirstOut s 0xC0 0xC1 × FirstOut s 0xF5 0xFF × PairOut s 0xE0 0x80 0x9F × PairOut s 0xF0 0x80 0x8F × PairOut s 0xED 0xA0 0xBF × PairOut s 0xF4 0x90 0xBF)

pub judged_tells : (s : List ℕ) → Tells (judged s) s
unfolding judged
judged_tells s = go (first_among signs s)
  where
    go : Among signs (first_sign signs s) s ⊎ None signs s → Tells (first_sign signs s) s
    go (inl (inl (e, h))) = inl (sym e, opens_first 0x80 0xBF s h)
    go (inl (inr (inl (e, h)))) = inr (inl (sym e, opens_first 0xC0 0xC1 s h))
    go (inl (inr (inr (inl (e, h))))) = inr (inr (inl (sym e, opens_first 0xF5 0xFF s h)))
    go (inl (inr (inr (inr (inl (e, h)))))) = inr (inr (inr (inl (sym e, opens_pair 0xE0 0x80 0x9F s h))))
    go (inl (inr (inr (inr (inr (inl (e, h))))))) = inr (inr (inr (inr (inl (sym e, opens_pair 0xF0 0x80 0x8F s h)))))
    go (inl (inr (inr (inr (inr (inr (inl (e, h)))))))) = inr (inr (inr (inr (inr (inl (sym e, opens_pair 0xED 0xA0 0xBF s h))))))
    go (inl (inr (inr (inr (inr (inr (inr (inl (e, h))))))))) = inr (inr (inr (inr (inr (inr (inl (sym e, opens_pair 0xF4 0x90 0xBF s h)))))))
    go (inl (inr (inr (inr (inr (inr (inr (inr h)))))))) = absurd h
    go (inr n) =
        inr (inr (inr (inr (inr (inr (inr (
          none_first signs s n,
          shut_first 0x80 0xBF s (λ h. n Lone (inl (refl, h))),
          shut_first 0xC0 0xC1 s (λ h. n Never (inr (inl (refl, h)))),
          shut_first 0xF5 0xFF s (λ h. n Beyond (inr (inr (inl (refl, h))))),
          shut_pair 0xE0 0x80 0x9F s (λ h. n TooLong (inr (inr (inr (inl (refl, h)))))),
          shut_pair 0xF0 0x80 0x8F s (λ h. n TooLong (inr (inr (inr (inr (inl (refl, h))))))),
          shut_pair 0xED 0xA0 0xBF s (λ h. n Surrogate (inr (inr (inr (inr (inr (inl (refl, h)))))))),
          shut_pair 0xF4 0x90 0xBF s (λ h. n TooHigh (inr (inr (inr (inr (inr (inr (inl (refl, h))))))))),
        )))))))
