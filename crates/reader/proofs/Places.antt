-- What the reader's two loops keep, and what each way out of them means. Assumes nothing.
use mathlib.Core.Path.{◌≡◌, refl, sym, ap, ◌∙◌}
use mathlib.Core.Bool.{true, false, cond}
use lib.Dec.{eqb}
use mathlib.Core.List.{List, [], ◌∷◌, ◌++◌, append-nil}
use Prim.Native.Nat.{ℕ, suc, ◌+◌, ◌-◌, ◌≤◌, ◌<◌, max}
use native.Mathlib.Nat.{add-zero, sub-zero}
use native.Mathlib.Numerals.{add-one}
use native.Mathlib.Omega.{arith}
use lib.ListN.{length, get_or, take, drop, set, length-set, length-drop, take-append-drop}
use lib.Seq.{get_or-drop, drop-cons, drop-drop, drop-length, take-suc-set, drop-set-lt, length-take-le}
use borrow.Author.Tests.{eq-eqb, ne_eqb}
use Rattle.flags.specs.declared.Flags.{Flags}
use Rattle.form.specs.Table as Table
use Rattle.form.specs.Scan.{Found, well, part, bad, scan, after}
use Rattle.form.specs.Pattern.{bits}
use Rattle.form.specs.Text.{stray, escape, item}
use Rattle.forms.specs.declared.Form.{Form}
use Rattle.forms.specs.Forms.{rows_of}
use Rattle.classify.specs.Stage.{left, stage_of}
use Rattle.classify.proofs.Walk.{Walked, walk_first, walk-next, walk-part, walk-whole, walk-bad}
use Rattle.reader.specs.declared.Decoded.{Decoded}
use Rattle.readings.specs.Reading.{stop, convert, waits, turn_of, turn, Reading, stopped, follow, reading}
use Rattle.reader.specs.Decoded.{decoded_of}
use Rattle.readings.proofs.Readings.{turn-found, turn-within, reading-stop, reading_full, reading-convert, follow-follow, follow-none}

-- the reader's promise, for a reading R that it answers with the number q, `at` bytes consumed, n codes produced and a subpart of k bytes
abbrev pub Answered : Reading → List ℕ → List ℕ → ℕ → ℕ → ℕ → ℕ → Type 0
Answered R out₀ out at n q k =
    (◌≡◌ {A = Decoded} (record { number = q; consumed = at; produced = n; subpart = k }) (decoded_of R)) × (out ≡ R.codes ++ drop n out₀)

-- ---- the outer loop: `at` bytes are consumed, and n codes stand in front of the buffer

pub record Reached (F : Table.Form) (m : Flags) (s out₀ out : List ℕ) (at n : ℕ) : Type 0 where
  pub place : at ≤ length s
  pub room : n ≤ length out₀
  pub same : length out ≡ length out₀
  pub rest : drop n out ≡ drop n out₀
  pub whole : reading F m (length out₀) s ≡ follow (take n out) at (reading F m (length out₀ - n) (drop at s))

pub reached-start : (F : Table.Form) (m : Flags) (s out : List ℕ) → Reached F m s out out 0 0
reached-start F m s out =
    record {
      place = omega arith;
      room = omega arith;
      same = refl;
      rest = refl;
      whole = rw (sub-zero (length out)) (sym (follow-none (reading F m (length out) s)));
    }

module _ {F : Table.Form} {m : Flags} {s out₀ out : List ℕ} {at n : ℕ} (r : Reached F m s out₀ out at n) where
  -- what is converted here lies within the bytes
  pub reached-within : (c k : ℕ) → turn F m (drop at s) ≡ convert c k → at + k ≤ length s
  reached-within c k e = omega (arith, r.place, turn-within F m (drop at s) c k e, length-drop at s)

  pub reached-next : (c k : ℕ) → turn F m (drop at s) ≡ convert c k → n < length out₀ → Reached F m s out₀ (set out n c) (at + k) (n + 1)
  reached-next c k e h =
      record {
        place = reached-within c k e;
        room = omega arith;
        same = length-set out n c ∙ r.same;
        rest = drop-set-lt (n + 1) out n c (omega arith) ∙ sym (drop-drop 1 n out) ∙ ap (drop 1) r.rest ∙ drop-drop 1 n out₀;
        whole = r.whole ∙ rw (fewer, reading-convert F m _ _ c k e, follow-follow, codes, drop-drop k at s) refl;
      }
    where
      codes : take (n + 1) (set out n c) ≡ take n out ++ c ∷ []
      codes = rw (add-one n) (take-suc-set out n c (omega (arith, r.same)))

      fewer : length out₀ - n ≡ suc (length out₀ - (n + 1))
      fewer = omega arith

  -- where the reading ends at this place, the answer and the buffer are the definition's
  ended : (q k : ℕ) → reading F m (length out₀ - n) (drop at s) ≡ stopped q k → Answered (reading F m (length out₀) s) out₀ out at n q k
  unfolding decoded_of follow stopped
  ended q k e =
      let d : reading F m (length out₀) s ≡ follow (take n out) at (stopped q k) = r.whole ∙ ap (follow (take n out) at) e in
      rw (d, append-nil, length-take-le n out (omega (arith, r.same)), add-zero, ← r.rest, take-append-drop n out) (refl, refl)

  pub ends-stop : (q k : ℕ) → turn F m (drop at s) ≡ stop q k → Answered (reading F m (length out₀) s) out₀ out at n q k
  ends-stop q k e = ended q k (reading-stop F m (length out₀ - n) (drop at s) q k e)

  pub ends-full : (c k : ℕ) → turn F m (drop at s) ≡ convert c k → n ≡ length out₀ → Answered (reading F m (length out₀) s) out₀ out at n 1 0
  ends-full c k e h = let z : length out₀ - n ≡ 0 = omega arith in ended 1 0 (rw z (reading_full F m (drop at s) c k e))

  pub ends-used-up : at ≡ length s → Answered (reading F m (length out₀) s) out₀ out at n 0 0
  ends-used-up h = ends-stop 0 0 (rw (h, drop-length s) refl)

-- ---- the inner loop: the bytes from `at` up to `end` have led to the stage

pub record Walking (f : Form) (s : List ℕ) (at end stage : ℕ) : Type 0 where
  pub begins : at < end
  pub within : end ≤ length s
  pub walked : Walked f (drop at s) (end - at) stage

pub walk_begun : (f : Form) (s : List ℕ) (at stage : ℕ) → at < length s → get_or s at 0 < 256 → stage ≡ stage_of (after (get_or s at 0) (rows_of f))
    → Walking f s at (at + 1) stage
walk_begun f s at stage h b e =
    let one : at + 1 - at ≡ 1 = omega arith in
    let g : get_or (drop at s) 0 0 ≡ get_or s at 0 = get_or-drop at s 0 0 ∙ rw (add-zero at) refl in
    record {
      begins = omega arith;
      within = omega arith;
      walked = rw one (walk_first f (drop at s) stage (omega (arith, length-drop at s)) (rw g b) (rw g e));
    }

-- no well-formed sequence starts here, the reader does not wait for more, and the maximal subpart has n bytes
pub record NoneAt (f : Form) (m : Flags) (s : List ℕ) (at n : ℕ) : Type 0 where
  pub turns : turn (rows_of f) m (drop at s) ≡ turn_of m (stray (get_or s at 0) n)

module _ {f : Form} {s : List ℕ} {at end stage : ℕ} (w : Walking f s at end stage) (m : Flags) where
  some : at < length s
  some = omega (arith, w.begins, w.within)

  -- the byte and the rest that stand at this place
  here : drop at s ≡ get_or s at 0 ∷ drop (suc at) s
  here = drop-cons s at 0 some

  pub walk_on : (next : ℕ) → 1 < stage → end < length s → next ≡ stage_of (after (get_or s end 0) (left stage)) → Walking f s at (end + 1) next
  walk_on next h l e =
      let n : end + 1 - at ≡ end - at + 1 = omega (arith, w.begins) in
      let i : at + (end - at) ≡ end = omega (arith, w.begins) in
      let g : get_or (drop at s) (end - at) 0 ≡ get_or s end 0 = get_or-drop at s (end - at) 0 ∙ rw i refl in
      record {
        begins = omega (arith, w.begins);
        within = omega arith;
        walked =
            rw n
            (walk-next f (drop at s) (end - at) stage w.walked next h (omega (arith, length-drop at s, w.begins)) (rw g e));
      }

  by_found : (x : Found) → scan (rows_of f) (drop at s) ≡ x
      → turn (rows_of f) m (drop at s) ≡ cond (waits m x) (stop 2 0) (turn_of m (item x (get_or s at 0) (drop (suc at) s)))
  by_found x e = ap (turn (rows_of f) m) here ∙ turn-found (rows_of f) m (get_or s at 0) (drop (suc at) s) x (ap (scan (rows_of f)) (sym here) ∙ e)

  pub turn_whole : stage ≡ 1 → turn (rows_of f) m (drop at s) ≡ convert (bits (take (end - at) (drop at s))) (end - at)
  turn_whole h = by_found (well (bits (take (end - at) (drop at s))) (end - at)) (walk-whole f (drop at s) (end - at) stage w.walked h)

  found_part : 1 < stage → end ≡ length s → scan (rows_of f) (drop at s) ≡ part
  found_part h l = walk-part f (drop at s) (end - at) stage w.walked h (omega (arith, length-drop at s))

  pub turn_waits : 1 < stage → end ≡ length s → m.last ≡ false → turn (rows_of f) m (drop at s) ≡ stop 2 0
  turn_waits h l t = by_found part (found_part h l) ∙ rw t refl

  pub none_partial : 1 < stage → end ≡ length s → m.last ≡ true → NoneAt f m s at (cond (eqb stage 0) (max 1 (end - at - 1)) (end - at))
  none_partial h l t =
      let z : eqb stage 0 ≡ false = ne_eqb stage 0 (λ e. omega arith) in
      let k : suc (length (drop (suc at) s)) ≡ end - at = omega (arith, length-drop (suc at) s, some) in
      rw (z, ← k) (record { turns = by_found part (found_part h l) ∙ rw t refl })

  pub none_bad : stage ≡ 0 → NoneAt f m s at (cond (eqb stage 0) (max 1 (end - at - 1)) (end - at))
  none_bad h = rw (eq-eqb stage 0 h) (record { turns = by_found (bad (end - at - 1)) (walk-bad f (drop at s) (end - at) stage w.walked h) })

pub none-strict : {f : Form} {m : Flags} {s : List ℕ} {at n : ℕ} → NoneAt f m s at n → m.strict ≡ true → turn (rows_of f) m (drop at s) ≡ stop 3 n
none-strict h t = h.turns ∙ rw t refl

pub none_lax : {f : Form} {m : Flags} {s : List ℕ} {at n : ℕ} → NoneAt f m s at n → m.strict ≡ false
    → turn (rows_of f) m (drop at s) ≡ convert (cond m.show 0xFFFD (escape (get_or s at 0))) (cond m.show n 1)
none_lax h t = h.turns ∙ rw t refl
