-- The records that stand, as a chain counts them. Assumes nothing.
use mathlib.Core.Path.{◌≡◌, refl, sym, ap, ◌∙◌}
use mathlib.Core.Bool.{Bool, true, false}
use mathlib.Core.List.{List, [], ◌∷◌, ◌++◌}
use Prim.Native.Nat.{ℕ, zero, suc, ◌+◌, ◌-◌, ◌*◌, ◌/◌, ◌≤◌}
use native.Mathlib.Omega.{arith}
use lib.Dec.{ltb}
use lib.ListN.{length, take, drop, length-append, length-take}
use lib.Seq.{take_all, take_at, drop_at, drop-drop}
use denote.Ref.{Bor}
use borrow.Author.Rules.{part_to_end}
use borrow.Author.Tests.{lt-ltb, le-ltb, ltb-true, ltb-false}
use Rattle.std.specs.List.{prefix_len}
use Rattle.std.specs.Slice.Iter.{chunks_exact_rest, chunks_exact_size, chunks_exact_steps}
use Rattle.std.specs.declared.slice.ChunksExact.{ChunksExact}
use Rattle.std.proofs.lemmas.Iterator.{YieldsList}
use Rattle.std.proofs.lemmas.Iterator.Splits.{YieldsList-from_shown_while}
use Rattle.numbers.specs.Number.{value, values_in}
use Rattle.numbers.proofs.Laws.{values_length}
use Rattle.log_index.specs.Update.{standing}
use Rattle.log_index.proofs.Standing.{stand-first}
use Rattle.log_update.specs.Resumption.{last_of}

-- whole chunks of 8 bytes, as numbers
values_next : (x r : List ℕ) → length x ≡ 8 → values_in 8 (length (x ++ r) / 8) (x ++ r) ≡ value (take 8 x) ∷ values_in 8 (length r / 8) r
values_next x r e =
    let n : length (x ++ r) / 8 ≡ suc (length r / 8) = omega (arith, length-append x r) in
    let t : take 8 (x ++ r) ≡ take 8 x = take_at x r 8 e ∙ sym (take_all 8 x (omega arith)) in
    rw (n, t, drop_at x r 8 e) refl

pub YieldsList-from_numbers : {s : ChunksExact ℕ} (w : List ℕ) → chunks_exact_rest s ≡ w → chunks_exact_size s ≡ 8
    → YieldsList chunks_exact_steps (λ (x : Bor (List ℕ)). value (take 8 x.now)) s (values_in 8 (length w / 8) w)
YieldsList-from_numbers {s} w e z =
    rw (← e) (YieldsList-from_shown_while chunks_exact_steps (λ (x : Bor (List ℕ)). value (take 8 x.now)) (λ u. values_in 8 (length (chunks_exact_rest u) / 8) (chunks_exact_rest u)) (λ u. chunks_exact_size u ≡ 8)
    (λ u t p q. omega (arith, values_length 8 (length (chunks_exact_rest u) / 8) (chunks_exact_rest u), q.1.0, p))
    (λ u x t p q. (q.0 ∙ p, ap (λ (v : List ℕ). values_in 8 (length v / 8) v) q.1.0 ∙ values_next x.now (chunks_exact_rest t) (q.1.1 ∙ p)))
    s z)

-- p + 3 < n, as it is tested
reaches : (p n : ℕ) → ltb p (n - 3) ≡ ltb (p + 3) n
reaches p n = go (ltb (p + 3) n) refl
  where
    go : (t : Bool) → ltb (p + 3) n ≡ t → ltb p (n - 3) ≡ t
    go true e = lt-ltb p (n - 3) (omega (arith, ltb-true (p + 3) n e))
    go false e = le-ltb p (n - 3) (omega (arith, ltb-false (p + 3) n e))

pub standing_are : (n : ℕ) (l : List ℕ) → take (prefix_len (λ p. ltb p (n - 3)) l) l ≡ standing n l
standing_are n [] = refl
standing_are n (p ∷ l) = go (ltb (p + 3) n) refl (standing_are n l)
  where
    go : (t : Bool) → ltb (p + 3) n ≡ t → take (prefix_len (λ p. ltb p (n - 3)) l) l ≡ standing n l → take (prefix_len (λ p. ltb p (n - 3)) (p ∷ l)) (p ∷ l) ≡ standing n (p ∷ l)
    go true e h =
        let k : 1 + prefix_len (λ p. ltb p (n - 3)) l ≡ suc (prefix_len (λ p. ltb p (n - 3)) l) = omega arith in
        rw (reaches p n, e, k) (ap (λ (r : List ℕ). p ∷ r) h)
    go false e h = rw (reaches p n, e) refl

pub standing-few : (n : ℕ) (l : List ℕ) → length (standing n l) ≤ length l
standing-few n l = let (j, s) = stand-first n l in omega (arith, ap length s.are, length-take j l)

-- the last of the first numbers
pub last-is : (w : List ℕ) (d n : ℕ) → value (take 8 (take (length w - n * 8) (drop (n * 8) w))) ≡ last_of d (values_in 8 (suc n) w)
last-is w d n = ap (λ (x : List ℕ). value (take 8 x)) (part_to_end w (n * 8)) ∙ go w d n
  where
    go : (w : List ℕ) (d n : ℕ) → value (take 8 (drop (n * 8) w)) ≡ last_of d (values_in 8 (suc n) w)
    go w d zero = refl
    go w d (suc n) =
        let k : n * 8 + 8 ≡ suc n * 8 = omega arith in
        ap (λ (j : ℕ). value (take 8 (drop j w))) (sym k) ∙ sym (ap (λ (x : List ℕ). value (take 8 x)) (drop-drop (n * 8) 8 w ∙ ap (λ (j : ℕ). drop j w) (let y : 8 + n * 8 ≡ n * 8 + 8 = omega arith in y))) ∙ go (drop 8 w) (value (take 8 w)) n
