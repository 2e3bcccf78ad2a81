-- What stands and what is laid behind it are the updated index. Assumes nothing.
use mathlib.Core.Path.{◌≡◌, refl, sym, ap, ◌∙◌}
use mathlib.Core.Bool.{true, false}
use mathlib.Core.List.{List, [], ◌∷◌, ◌++◌}
use Prim.Native.Nat.{ℕ, ◌+◌, ◌-◌, ◌*◌, ◌/◌, ◌≤◌, ◌<◌}
use native.Mathlib.Omega.{arith}
use lib.Dec.{leb}
use lib.ListN.{length, take, drop, length-append, length-drop, take-append-drop}
use lib.Seq.{take_all, length-take-le}
use borrow.Rule.Slice.PartMut.{mid_of, put_mid}
use borrow.Author.Tests.{le-ltb, le-leb, lt-leb, leb-true, leb-false}
use Rattle.form.specs.Text.{All}
use Rattle.numbers.specs.Number.{laid_in, values_in, over, Octets}
use Rattle.numbers.proofs.Laws.{laid-length, laid-append, values_length, values_take, laid_values}
use Rattle.numbers.specs.Filled.{Filled}
use Rattle.numbers.proofs.Filled.{filled-part, filled_more}
use Rattle.log_index.specs.Index.{starts, every, onward}
use Rattle.log_index.specs.Update.{standing, resumed, updated, Indexing, refused, fitting, updating}
use Rattle.log_index.proofs.Starts.{starts-some}
use Rattle.log_index.proofs.Standing.{stand-first}
use Rattle.log_update.specs.Resumption.{last_of, skip_of}

-- a place that has a record, and the records behind it
onward-next : (s : List ℕ) (p : ℕ) → p < length s → onward s p ≡ p ∷ every 64 (starts s p)
onward-next s p h = ap (every 0) (starts-some s p h) ∙ sym (ap (λ (l : List ℕ). p ∷ every 64 l) (starts-some s p h))

resumed_behind : (s rs : List ℕ) (n : ℕ) → All (λ p. p + 3 < n) rs → n ≤ length s → resumed s rs ≡ rs ++ every (skip_of (length rs)) (starts s (last_of 0 rs))
resumed_behind s [] n h l = refl
resumed_behind s (p ∷ []) n h l = onward-next s p (omega (arith, h.0))
resumed_behind s (p ∷ q ∷ rs) n h l = ap (λ (x : List ℕ). p ∷ x) (resumed_behind s (q ∷ rs) n h.1 l)

-- ---- the answers

module _ (log w : List ℕ) (n old : ℕ) (h : n ≤ length log) (g : old * 8 ≤ length w) where
  abbrev The : Indexing
  The = updating log n w old

  abbrev S : List ℕ
  S = standing n (values_in 8 old w)

  module _ (count : ℕ) (e : count ≡ length S) where
    -- what stands is the front of what was there
    front : (S ≡ values_in 8 count w) × (count ≤ old)
    front =
        let (j, s) = stand-first n (values_in 8 old w) in
        let a : j ≤ old = omega (arith, s.few, values_length 8 old w) in
        let f : S ≡ values_in 8 j w = s.are ∙ values_take 8 j old w a in
        let c : j ≡ count = sym (e ∙ ap length f ∙ values_length 8 j w) in
        (rw c at f, omega arith)

    module _ (place : ℕ) (p : place ≡ last_of 0 (values_in 8 count w)) (skip : ℕ) (f : skip ≡ skip_of count) where
      -- the records that are laid
      abbrev E : List ℕ
      E = every skip (starts log place)

      all_are : updated log n (values_in 8 old w) ≡ S ++ E
      unfolding updated
      all_are =
          let (j, s) = stand-first n (values_in 8 old w) in
          resumed_behind log S n (rw s.are s.before) h
          ∙ ap (λ (k : ℕ). S ++ every k (starts log (last_of 0 S))) (sym (f ∙ ap skip_of e))
          ∙ ap (λ (q : ℕ). S ++ every skip (starts log q)) (ap (last_of 0) front.0 ∙ sym p)

      all-length : length (updated log n (values_in 8 old w)) ≡ count + length E
      all-length = ap length all_are ∙ length-append S E ∙ ap (λ (k : ℕ). k + length E) (sym e)

      pub updated-full : leb (length E) (length w / 8 - count) ≡ false → The ≡ refused 1
      unfolding updating fitting
      updated-full m =
          rw (le-ltb (length log) n h, le-ltb (length w) (old * 8) g, lt-leb (length (updated log n (values_in 8 old w)) * 8) (length w) (omega (arith, all-length, leb-false (length E) (length w / 8 - count) m)))
          refl

      -- the records that stand are in their bytes already
      stands : Octets w → Filled w w (laid_in 8 S)
      stands b =
          let t : laid_in 8 S ≡ take (count * 8) w = ap (laid_in 8) front.0 ∙ laid_values 8 count w b (omega (arith, front.1)) in
          let l : length (take (count * 8) w) ≡ count * 8 = length-take-le (count * 8) w (omega (arith, front.1)) in
          record { fits = rw t (omega (arith, front.1)); front = rw (t, l) (sym (take-append-drop (count * 8) w)) }

      pub updated-all : Octets w → leb (length E) (length w / 8 - count) ≡ true → (k : ℕ) (ys : List ℕ)
          → (let m = mid_of (count * 8) (length w - count * 8) w in (k ≡ length (take (length m / 8) E)) × (ys ≡ over (laid_in 8 (take (length m / 8) E)) m))
          → (The.number ≡ 0) × (The.records ≡ count + k) × (put_mid (count * 8) (length w - count * 8) w ys ≡ over The.bytes w)
      unfolding updating fitting
      updated-all b few k ys (l, y) =
          let U = updated log n (values_in 8 old w) in
          let m = leb-true (length E) (length w / 8 - count) few in
          let v : length (laid_in 8 S) ≡ count * 8 = laid-length 8 S ∙ ap (λ (i : ℕ). i * 8) (sym e) in
          let d : mid_of (count * 8) (length w - count * 8) w ≡ drop (count * 8) w = filled-part w w (laid_in 8 S) (stands b) (count * 8) v in
          let t : take (length (mid_of (count * 8) (length w - count * 8) w) / 8) E ≡ E =
          take_all (length (mid_of (count * 8) (length w - count * 8) w) / 8) E (omega (arith, m, ap length d, length-drop (count * 8) w, front.1))
          in
          let u : ys ≡ over (laid_in 8 E) (mid_of (count * 8) (length w - count * 8) w) = y ∙ ap (λ (x : List ℕ). over (laid_in 8 x) (mid_of (count * 8) (length w - count * 8) w)) t in
          let o = filled_more w w (laid_in 8 S) (stands b) (count * 8) v (laid_in 8 E) ys (omega (arith, laid-length 8 E, m)) u in
          let a : laid_in 8 S ++ laid_in 8 E ≡ laid_in 8 U = sym (laid-append 8 S E) ∙ ap (laid_in 8) (sym all_are) in
          rw (le-ltb (length log) n h, le-ltb (length w) (old * 8) g, le-leb (length U * 8) (length w) (omega (arith, all-length, m, front.1)))
          (refl, all-length ∙ ap (λ (i : ℕ). count + i) (sym (l ∙ ap length t)), o.front ∙ ap (λ (x : List ℕ). over x w) a)
