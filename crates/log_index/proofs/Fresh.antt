-- A true index that is updated after an append is the fresh one. Assumes nothing.
use mathlib.Core.Path.{◌≡◌, refl, sym, ap, ◌∙◌}
use mathlib.Core.Bool.{Bool, true, false}
use mathlib.Core.List.{List, [], ◌∷◌, ◌++◌}
use Prim.Native.Nat.{ℕ, zero, suc, ◌+◌, ◌*◌, ◌<◌}
use native.Mathlib.Omega.{arith}
use lib.Dec.{ltb}
use lib.ListN.{length, take, drop, length-drop, length-append}
use lib.Seq.{drop-append-le, take_all}
use borrow.Author.Tests.{ltb-true, ltb-false}
use Rattle.form.specs.Table.{plain}
use Rattle.form.specs.Text.{items}
use Rattle.form.proofs.Utf8.{plain-regular, plain-scans}
use Rattle.bounds.specs.Cover.{place}
use Rattle.bounds.proofs.Bounds.{items-from, items-few, place-stays}
use Rattle.log_index.specs.Index.{log_index, onward}
use Rattle.log_index.specs.Update.{standing, resumed, updated}
use Rattle.log_index.proofs.Starts.{jump, onward-some, onward-none, index-from, ceil}
use Rattle.log_index.proofs.Standing.{stands, falls}

-- 64 items that end more than three bytes before the end of s are the same in a longer log
jump-stays : (s t : List ℕ) (p : ℕ) → p + jump s p + 3 < length s → jump (s ++ t) p ≡ jump s p
jump-stays s t p h =
    ap (λ (u : List ℕ). place 64 (items plain 0 u)) (drop-append-le p s t (omega arith)) ∙ place-stays plain 4 plain-scans plain-regular.is_open (omega arith) 64 (drop p s) t (omega (arith, length-drop p s))

-- from a place that stands on
stand-from : (j : ℕ) (s t : List ℕ) (p : ℕ) → p + 3 < length s → resumed (s ++ t) (standing (length s) (take (suc j) (onward s p))) ≡ onward (s ++ t) p
stand-from zero s t p h = rw (onward-some s p (omega arith), stands (length s) p [] h) refl
stand-from (suc j) s t p h = go (ltb (p + jump s p + 3) (length s)) refl (stand-from j s t (p + jump s p))
  where
    q : ℕ
    q = p + jump s p

    first : take (suc (suc j)) (onward s p) ≡ p ∷ take (suc j) (onward s q)
    first = rw (onward-some s p (omega arith)) refl

    Goal : Type 0
    Goal = resumed (s ++ t) (standing (length s) (take (suc (suc j)) (onward s p))) ≡ onward (s ++ t) p

    last : standing (length s) (take (suc j) (onward s q)) ≡ [] → Goal
    last e = rw (first, stands (length s) p (take (suc j) (onward s q)) h, e) refl

    go : (b : Bool) → ltb (q + 3) (length s) ≡ b → (q + 3 < length s → resumed (s ++ t) (standing (length s) (take (suc j) (onward s q))) ≡ onward (s ++ t) q) → Goal
    go true e ih =
        let l = ltb-true (q + 3) (length s) e in
        let r = take j (onward s (q + jump s q)) in
        let f : take (suc j) (onward s q) ≡ q ∷ r = rw (onward-some s q (omega arith)) refl in
        let g : standing (length s) (take (suc j) (onward s q)) ≡ q ∷ standing (length s) r = rw (f, stands (length s) q r l) refl in
        let d : onward (s ++ t) p ≡ p ∷ onward (s ++ t) q =
        onward-some (s ++ t) p (omega (arith, length-append s t)) ∙ ap (λ (k : ℕ). p ∷ onward (s ++ t) (p + k)) (jump-stays s t p l)
        in
        let x : resumed (s ++ t) (q ∷ standing (length s) r) ≡ onward (s ++ t) q = ap (resumed (s ++ t)) (sym g) ∙ ih l in
        rw (first, stands (length s) p (take (suc j) (onward s q)) h, g, d) (ap (λ (y : List ℕ). p ∷ y) x)
    go false e ih = last (by (ltb q (length s)) refl)
      where
        by : (b : Bool) → ltb q (length s) ≡ b → standing (length s) (take (suc j) (onward s q)) ≡ []
        by true x = rw (onward-some s q (ltb-true q (length s) x)) (falls (length s) q (take j (onward s (q + jump s q))) (ltb-false (q + 3) (length s) e))
        by false x = rw (onward-none s q (ltb-false q (length s) x)) refl

-- s is the old log, t what was appended, j the old records, perhaps fewer than s has
pub updated-fresh : (s t : List ℕ) (j : ℕ) → updated (s ++ t) (length s) (take j (log_index s)) ≡ log_index (s ++ t)
unfolding updated log_index
updated-fresh s t zero = refl
updated-fresh s t (suc j) = go (ltb 3 (length s)) refl
  where
    go : (b : Bool) → ltb 3 (length s) ≡ b → resumed (s ++ t) (standing (length s) (take (suc j) (onward s 0))) ≡ onward (s ++ t) 0
    go true e = stand-from j s t 0 (ltb-true 3 (length s) e)
    go false e = by (ltb 0 (length s)) refl
      where
        by : (b : Bool) → ltb 0 (length s) ≡ b → resumed (s ++ t) (standing (length s) (take (suc j) (onward s 0))) ≡ onward (s ++ t) 0
        by true x = rw (onward-some s 0 (ltb-true 0 (length s) x), falls (length s) 0 (take j (onward s (0 + jump s 0))) (ltb-false 3 (length s) e)) refl
        by false x = rw (onward-none s 0 (ltb-false 0 (length s) x)) refl

-- the records from number i on are enough, if the first of them stands
pub updated-tail : (s t : List ℕ) (i : ℕ) → place (i * 64) (items plain 0 s) + 3 < length s
    → updated (s ++ t) (length s) (drop i (log_index s)) ≡ drop i (log_index (s ++ t))
unfolding updated
updated-tail s t i h =
    let p = place (i * 64) (items plain 0 s) in
    let n = length (onward s p) in
    let a : drop i (log_index s) ≡ take (suc n) (onward s p) = index-from s i ∙ sym (take_all (suc n) (onward s p) (omega arith)) in
    let b : place (i * 64) (items plain 0 (s ++ t)) ≡ p = place-stays plain 4 plain-scans plain-regular.is_open (omega arith) (i * 64) s t (omega arith) in
    ap (λ (rs : List ℕ). resumed (s ++ t) (standing (length s) rs)) a ∙ stand-from n s t p h ∙ sym (index-from (s ++ t) i ∙ ap (onward (s ++ t)) b)

-- as does any but the last
pub but_last_stands : (s : List ℕ) (i : ℕ) → suc i < length (log_index s) → place (i * 64) (items plain 0 s) + 3 < length s
but_last_stands s i h =
    let p = place (i * 64) (items plain 0 s) in
    let e = ap length (items-from plain plain-regular.is_open (i * 64) s) in
    omega (arith, e, ceil s, length-drop (i * 64) (items plain 0 s), items-few plain 0 (drop p s), length-drop p s)
