-- C-14, sentence by sentence. Assumes nothing.
use mathlib.Core.Path.{◌≡◌, refl, sym, ap, ◌∙◌}
use mathlib.Core.Logic.{◌↔◌}
use mathlib.Core.List.{List, []}
use Prim.Native.Nat.{ℕ, suc, ◌≤◌, ◌<◌, max}
use native.Mathlib.Omega.{arith}
use native.Mathlib.Decide.{dec_le}
use lib.ListN.{length, drop, length-drop, drop_of_length-le}
use Rattle.form.specs.Table.{plain, Partial}
use Rattle.form.specs.Subpart.{StartsNone, Subpart}
use Rattle.form.specs.Scan.{bad, scan}
use Rattle.form.specs.Text.{Bytes}
use Rattle.form.proofs.Scan.{well-scan}
use Rattle.form.proofs.Subparts.{subpart-only, bad-subpart, subpart-short, subpart-partial}
use Rattle.form.proofs.Utf8.{plain-regular, plain-scans}
use Rattle.reason.specs.Reason.{number, Holds, reason}
use Rattle.reason.specs.declared.Reason.{Reason}
use Rattle.reason.specs.declared.Reason.TheVariants.{Good, Lone, Never, Beyond, TooLong, Surrogate, TooHigh, CutShort, Unfinished, AtEnd}
use Rattle.reason.specs.Request.{LeavesNone, Judged, Request}
use Rattle.reason.proofs.Found.{Finds, finds}
use Rattle.reason.proofs.Exactly.{exactly}

bad_leaves_none : (s : List ℕ) (k : ℕ) → scan plain s ≡ bad k → LeavesNone s k
bad_leaves_none s k e =
    let l = ((plain-scans.finds_bad s k).0 e).1 in
    record { inside = l.inside; begins = l.begun; ends = l.longest (suc k) (omega arith) }

judged-by : (r : Reason) (s : List ℕ) → Finds r s → Judged r s
judged-by Good s h = tt
judged-by Lone s h = bad_leaves_none s 0 h
judged-by Never s h = bad_leaves_none s 0 h
judged-by Beyond s h = bad_leaves_none s 0 h
judged-by TooLong s h = bad_leaves_none s 1 h
judged-by Surrogate s h = bad_leaves_none s 1 h
judged-by TooHigh s h = bad_leaves_none s 1 h
judged-by CutShort s (n, l, e, t) = (n, l, bad_leaves_none s n e, t)
judged-by Unfinished s (l, (t, g, w)) = (t, w)
judged-by AtEnd s h = tt

-- ---- by kind, as all but the place of judging needs

data Kind (r : Reason) (s : List ℕ) : Type 0 where
  is_good : number r ≡ 0 → Holds Good s → Kind r s
  is_sign : (k : ℕ) → 1 ≤ number r → number r ≤ 6 → k ≤ 1 → scan plain s ≡ bad k → Kind r s
  is_cut_short : (k : ℕ) → number r ≡ 7 → scan plain s ≡ bad k → Kind r s
  is_unfinished : number r ≡ 8 → Partial plain s → Kind r s
  is_at_end : number r ≡ 9 → s ≡ [] → Kind r s

kind : (r : Reason) (s : List ℕ) → Holds r s → Kind r s
kind Good s h = is_good refl h
kind Lone s h = is_sign 0 (omega arith) (omega arith) (omega arith) (finds Lone s h)
kind Never s h = is_sign 0 (omega arith) (omega arith) (omega arith) (finds Never s h)
kind Beyond s h = is_sign 0 (omega arith) (omega arith) (omega arith) (finds Beyond s h)
kind TooLong s h = is_sign 1 (omega arith) (omega arith) (omega arith) (finds TooLong s h)
kind Surrogate s h = is_sign 1 (omega arith) (omega arith) (omega arith) (finds Surrogate s h)
kind TooHigh s h = is_sign 1 (omega arith) (omega arith) (omega arith) (finds TooHigh s h)
kind CutShort s h = let (n, l, e, t) = finds CutShort s h in is_cut_short n refl e
kind Unfinished s h = is_unfinished refl h
kind AtEnd s h = is_at_end refl h

-- at a place, of the reason that is given
given-kind : (s : List ℕ) (place : ℕ) → Bytes s → Kind (reason s place) (drop place s)
given-kind s place b = kind (reason s place) (drop place s) (exactly s place b).holds

-- ---- the length of the maximal subpart

one : (r : Reason) (s : List ℕ) (n : ℕ) → Kind r s → 1 ≤ number r → number r ≤ 6 → Subpart plain s n → n ≡ 1
one r s n (is_sign k a b m e) l g p = omega (arith, subpart-only plain s n (max 1 k) p (bad-subpart plain-scans s k e))
one r s n (is_good e h) l g p = absurd (omega arith)
one r s n (is_cut_short k i e) l g p = absurd (omega arith)
one r s n (is_unfinished i h) l g p = absurd (omega arith)
one r s n (is_at_end i e) l g p = absurd (omega arith)

few : (r : Reason) (s : List ℕ) (n : ℕ) → Kind r s → 7 ≤ number r → number r ≤ 8 → Subpart plain s n → (1 ≤ n) × (n ≤ 3)
few r s n (is_cut_short k i e) l g p = (p.some, omega (arith, subpart-short plain-scans (omega arith) s n ((plain-scans.finds_bad s k).0 e).0 p))
few r s n (is_unfinished i h) l g p = (p.some, omega (arith, subpart-partial plain s n h p, (plain-scans.shorter s h).1))
few r s n (is_sign k a b m e) l g p = absurd (omega arith)
few r s n (is_good i h) l g p = absurd (omega arith)
few r s n (is_at_end i e) l g p = absurd (omega arith)

-- ---- the end

ended : (r : Reason) (s : List ℕ) → Kind r s → number r ≡ 9 → s ≡ []
ended r s (is_at_end i e) g = e
ended r s (is_good i h) g = absurd (omega arith)
ended r s (is_sign k a b m e) g = absurd (omega arith)
ended r s (is_cut_short k i e) g = absurd (omega arith)
ended r s (is_unfinished i h) g = absurd (omega arith)

past_end : (s : List ℕ) (place : ℕ) → Bytes s → (number (reason s place) ≡ 9) ↔ (length s ≤ place)
past_end s place b = (
  λ e. omega (arith, length-drop place s, ap length (ended (reason s place) (drop place s) (given-kind s place b) e)),
  λ h. ap number (sym ((exactly s place b).only AtEnd (drop_of_length-le s h))),
)

-- ---- bad places

none-starts : (r : Reason) (s : List ℕ) → Kind r s → 1 ≤ number r → number r ≤ 8 → StartsNone plain s
none-starts r s (is_sign k a b m e) l g = ((plain-scans.finds_bad s k).0 e).0
none-starts r s (is_cut_short k i e) l g = ((plain-scans.finds_bad s k).0 e).0
none-starts r s (is_unfinished i h) l g =
    λ w t e v.
    let p = (plain-scans.finds_part s h.0).1 h in
    cc (ap (scan plain) e ∙ well-scan plain w t v.0 plain-regular.is_distinct v.1)
none-starts r s (is_good i h) l g = absurd (omega arith)
none-starts r s (is_at_end i e) l g = absurd (omega arith)

bad-number : (r : Reason) (s : List ℕ) → Kind r s → 0 < length s → StartsNone plain s → (1 ≤ number r) × (number r ≤ 8)
bad-number r s (is_good i (w, z, e, h)) l n = absurd (n w z e h)
bad-number r s (is_sign k a b m e) l n = (a, omega arith)
bad-number r s (is_cut_short k i e) l n = (omega arith, omega arith)
bad-number r s (is_unfinished i h) l n = (omega arith, omega arith)
bad-number r s (is_at_end i e) l n = absurd (omega (arith, ap length e))

inside : (s : List ℕ) (place : ℕ) → Bytes s → number (reason s place) ≤ 8 → place < length s
inside s place b g = go (dec_le (length s) place)
  where
    go : Dec (length s ≤ place) → place < length s
    go (yes l) = absurd (omega (arith, (past_end s place b).1 l))
    go (no l) = omega arith

bad_place : (s : List ℕ) (place : ℕ) → Bytes s
    → ((1 ≤ number (reason s place)) × (number (reason s place) ≤ 8)) ↔ ((place < length s) × StartsNone plain (drop place s))
bad_place s place b =
    let h = given-kind s place b in (
      λ k. (inside s place b k.1, none-starts (reason s place) (drop place s) h k.0 k.1),
      λ k. bad-number (reason s place) (drop place s) h (omega (arith, length-drop place s)) k.1,
    )

pub request : Request
request =
    record {
      bad_place = bad_place;
      judged_there = λ r s h. judged-by r s (finds r s h);
      past_end = past_end;
      exactly = exactly;
      one_byte = λ s place n l g b p. one (reason s place) (drop place s) n (given-kind s place b) l g p;
      few_bytes = λ s place n l g b p. few (reason s place) (drop place s) n (given-kind s place b) l g p;
    }
