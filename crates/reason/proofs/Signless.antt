-- Without a sign, and where no sequence starts, the byte that does not go on is no continuation. Assumes nothing.
use mathlib.Core.Path.{◌≡◌, refl, sym, ap, ◌∙◌, subst}
use mathlib.Core.Logic.{inl, inr, ⊎_elim}
use mathlib.Core.Bool.{Bool, true, false, ◌&&◌, ◌||◌, not}
use mathlib.Core.List.{List, [], ◌∷◌, ◌++◌, append_assoc, append-nil}
use Prim.Native.Nat.{ℕ, zero, suc, ◌<◌}
use native.Mathlib.Omega.{arith}
use lib.Dec.{T, eqb, eqb→eq}
use lib.ListN.{take, drop, get_or, take-append-drop}
use lib.Seq.{split_at, take-suc, length-take-le}
use Rattle.form.specs.Table.{Range, ◌to◌, row, Form, plain, tail, In, Fits, Codes, WellFormed, Begins, Partial}
use Rattle.form.specs.Subpart.{StartsNone}
use Rattle.form.specs.Scan.{Found, well, part, bad, scan, after}
use Rattle.form.specs.Text.{Bytes}
use Rattle.form.proofs.Tests.{some?}
use Rattle.form.proofs.Rows.{both, either}
use Rattle.form.proofs.After.{grow, resume}
use Rattle.form.proofs.Between.{between, between-at}
use Rattle.form.proofs.Bad.{Longest}
use Rattle.form.proofs.Utf8.{plain-scans}
use Rattle.reason.specs.Reason.{number, Holds, signs, first_sign}
use Rattle.reason.specs.declared.Reason.{Reason}
use Rattle.reason.specs.declared.Reason.TheVariants.{CutShort}
use Rattle.reason.proofs.Signs.{None, among_more, none_first}

abbrev signless : Reason → Bool
signless r = eqb (number r) 7

-- of the first bytes alone the same is given
no_sign : (s t : List ℕ) → None signs (s ++ t) → first_sign signs s ≡ CutShort
no_sign s t n = none_first signs s (λ r h. n r (among_more signs r s t h))

-- a byte begins a sequence or is a sign
abbrev first_ok : ℕ → Bool
first_ok a = some? (after a plain) || not (signless (first_sign signs (a ∷ [])))

first_all : T (between 0 256 first_ok)
unfolding plain
first_all = tt

first_signed : (a : ℕ) (s : List ℕ) → a < 256 → scan plain (a ∷ s) ≡ bad 0 → None signs (a ∷ s) → ⊥
first_signed a s h e n =
    ⊎_elim begins (λ t. rw (no_sign (a ∷ []) s n) at t) (either (some? (after a plain)) _ (between-at 0 256 first_ok first_all a (omega arith) h))
  where
    resumes : (F : Form) → T (some? F) → resume F s ≡ bad 0 → ⊥
    resumes [] t q = t
    resumes (r ∷ F) t q = go (scan (r ∷ F) s) q
      where
        go : (x : Found) → grow x ≡ bad 0 → ⊥
        go (well c n) q = cc
        go part q = cc
        go (bad n) q = cc

    begins : T (some? (after a plain)) → ⊥
    begins t = resumes (after a plain) t (sym (plain-scans.by_byte a s) ∙ e)

-- a continuation that does not go on after one byte is a sign
abbrev stuck : Found → Bool
stuck (bad (suc zero)) = true
stuck (bad zero) = false
stuck (bad (suc (suc n))) = false
stuck part = false
stuck (well c n) = false

abbrev second_ok : ℕ → ℕ → Bool
second_ok a b = not (stuck (scan plain (a ∷ b ∷ []))) || not (signless (first_sign signs (a ∷ b ∷ [])))

second_all : T (between 0 256 (λ a. between 0x80 64 (second_ok a)))
unfolding plain
second_all = tt

-- where nothing longer than one byte begins a sequence, the same is found in two bytes
two_bytes : (a b : ℕ) (s : List ℕ) → scan plain (a ∷ b ∷ s) ≡ bad 1 → scan plain (a ∷ b ∷ []) ≡ bad 1
two_bytes a b s e = go (scan plain (a ∷ b ∷ [])) refl
  where
    go : (x : Found) → scan plain (a ∷ b ∷ []) ≡ x → x ≡ bad 1
    go (well c m) f = cc (plain-scans.well_stays (a ∷ b ∷ []) s c m f)
    go (bad m) f = sym (plain-scans.bad_stays (a ∷ b ∷ []) s m f) ∙ e
    go part f =
        let (l, (t, g, w)) = (plain-scans.finds_part (a ∷ b ∷ []) (omega arith)).0 f in
        absurd (((plain-scans.finds_bad (a ∷ b ∷ s) 1).0 e).1.longest 2 (omega arith) (t, w))

second_signed : (a b : ℕ) (s : List ℕ) → a < 256 → scan plain (a ∷ b ∷ s) ≡ bad 1 → None signs (a ∷ b ∷ s) → In tail b → ⊥
second_signed a b s h e n t =
    rw (two_bytes a b s e, no_sign (a ∷ b ∷ []) s n)
    at (between-at 0x80 64 (second_ok a) (between-at 0 256 (λ x. between 0x80 64 (second_ok x)) second_all a (omega arith) h) b (omega arith) (omega arith))

-- ---- after two bytes of a sequence every later one may be any of 80..BF

abbrev tails : List Range → Bool
tails [] = true
tails (lo to hi ∷ rs) = (eqb lo 0x80 && eqb hi 0xBF) && tails rs

abbrev thirds : Form → Bool
thirds [] = true
thirds (row k (r ∷ q ∷ rs) ∷ F) = tails rs && thirds F
thirds (row k (r ∷ []) ∷ F) = thirds F
thirds (row k [] ∷ F) = thirds F

swap_tail : (rs : List Range) (w u : List ℕ) (d c : ℕ) → T (tails rs) → In tail c → Fits rs (w ++ d ∷ u) → Fits rs (w ++ c ∷ u)
swap_tail [] [] u d c t h f = absurd f
swap_tail [] (x ∷ w) u d c t h f = absurd f
swap_tail (lo to hi ∷ rs) [] u d c t h f =
    let (p, q) = both (eqb lo 0x80 && eqb hi 0xBF) (tails rs) t in
    let (x, y) = both (eqb lo 0x80) (eqb hi 0xBF) p in
    ((omega (arith, eqb→eq lo 0x80 x), omega (arith, eqb→eq hi 0xBF y)), f.1)
swap_tail (lo to hi ∷ rs) (x ∷ w) u d c t h f = (f.0, swap_tail rs w u d c (both (eqb lo 0x80 && eqb hi 0xBF) (tails rs) t).1 h f.1)

swap : (F : Form) (x y : ℕ) (w u : List ℕ) (d c e : ℕ) → T (thirds F) → In tail c → Codes F (x ∷ y ∷ w ++ d ∷ u) e → WellFormed F (x ∷ y ∷ w ++ c ∷ u)
swap [] x y w u d c e t h g = absurd g
swap (row k [] ∷ F) x y w u d c e t h (inl g) = absurd g.0
swap (row k [] ∷ F) x y w u d c e t h (inr g) = let (i, j) = swap F x y w u d c e t h g in (i, inr j)
swap (row k (r ∷ []) ∷ F) x y w u d c e t h (inl g) = absurd g.0.1
swap (row k (r ∷ []) ∷ F) x y w u d c e t h (inr g) = let (i, j) = swap F x y w u d c e t h g in (i, inr j)
swap (row k (r ∷ q ∷ rs) ∷ F) x y w u d c e t h (inl g) = (_, inl ((g.0.0, (g.0.1.0, swap_tail rs w u d c (both (tails rs) (thirds F) t).0 h g.0.1.1)), refl))
swap (row k (r ∷ q ∷ rs) ∷ F) x y w u d c e t h (inr g) = let (i, j) = swap F x y w u d c e (both (tails rs) (thirds F) t).1 h g in (i, inr j)

-- what begins a sequence, where none starts, is partial
begun-partial : (s : List ℕ) (n : ℕ) → 0 < n → scan plain s ≡ bad n → Partial plain (take n s)
begun-partial s n l e = go h.1.begun
  where
    h : StartsNone plain s × Longest (Begins plain) s n
    h = (plain-scans.finds_bad s n).0 e

    go : Begins plain (take n s) → Partial plain (take n s)
    go ([], w) = absurd (h.0 (take n s) (drop n s) (sym (take-append-drop n s)) (rw (append-nil (take n s)) at w))
    go (x ∷ t, w) = (omega (arith, length-take-le n s (omega (arith, h.1.inside))), (x ∷ t, omega arith, w))

third_out : (x y : ℕ) (s : List ℕ) (n : ℕ) → scan plain (x ∷ y ∷ s) ≡ bad (suc (suc n)) → In tail (get_or s n 0) → ⊥
unfolding plain
third_out x y s n e t = go (begun-partial (x ∷ y ∷ s) (suc (suc n)) (omega arith) e)
  where
    h : Longest (Begins plain) (x ∷ y ∷ s) (suc (suc n))
    h = ((plain-scans.finds_bad (x ∷ y ∷ s) (suc (suc n))).0 e).1

    c : ℕ
    c = get_or s n 0

    more : take (suc n) s ≡ take n s ++ c ∷ []
    more = take-suc s n 0 (omega (arith, h.inside))

    go : Partial plain (x ∷ y ∷ take n s) → ⊥
    go (l, ([], g, w)) = omega arith
    go (l, (d ∷ u, g, (k, w))) =
        let f : WellFormed plain (x ∷ y ∷ take n s ++ c ∷ u) = swap plain x y (take n s) u d c k tt t w in
        let i : take n s ++ c ∷ u ≡ take (suc n) s ++ u = sym (ap (λ (v : List ℕ). v ++ u) more ∙ append_assoc (take n s) (c ∷ []) u) in
        h.longest (suc (suc (suc n))) (omega arith) (u, subst (λ (v : List ℕ). WellFormed plain (x ∷ y ∷ v)) i f)

is_cut_short : (s : List ℕ) (n : ℕ) → 0 < n → scan plain s ≡ bad n → (In tail (get_or s n 0) → ⊥) → Holds CutShort s
is_cut_short s n l e g =
    let i = ((plain-scans.finds_bad s n).0 e).1.inside in
    (take n s, get_or s n 0, drop (suc n) s, split_at s n 0 i, begun-partial s n l e, g)

pub unsigned : (s : List ℕ) (n : ℕ) → Bytes s → scan plain s ≡ bad n → None signs s → Holds CutShort s
unsigned [] n b e o = absurd (omega (arith, ((plain-scans.finds_bad [] n).0 e).1.inside))
unsigned (a ∷ s) zero b e o = absurd (first_signed a s b.0 e o)
unsigned (a ∷ []) (suc n) b e o = absurd (omega (arith, ((plain-scans.finds_bad (a ∷ []) (suc n)).0 e).1.inside))
unsigned (a ∷ c ∷ s) (suc zero) b e o = is_cut_short (a ∷ c ∷ s) 1 (omega arith) e (second_signed a c s b.0 e o)
unsigned (a ∷ c ∷ s) (suc (suc n)) b e o = is_cut_short (a ∷ c ∷ s) (suc (suc n)) (omega arith) e (third_out a c s n e)
