-- The pieces of a leap are parts of a reading. Assumes nothing.
use mathlib.Core.Path.{◌≡◌, refl, ap, ◌∙◌}
use mathlib.Core.Logic.{inl, inr}
use Rattle.std.specs.Prelude.{Some, None}
use mathlib.Core.Bool.{false}
use mathlib.Core.List.{List, [], ◌∷◌}
use Prim.Native.Nat.{ℕ, zero, suc, ◌+◌, ◌-◌, ◌≤◌, ◌<◌}
use native.Mathlib.Decide.{dec_lt}
use native.Mathlib.Omega.{arith}
use lib.ListN.{length, get_or, drop}
use lib.Seq.{drop-cons}
use Rattle.flags.specs.declared.Flags.{Flags}
use Rattle.form.specs.Table.{plain, surro, cesu}
use Rattle.form.specs.Scan.{well, scan}
use Rattle.forms.specs.declared.Form.{Form}
use Rattle.forms.specs.declared.Form.TheVariants.{Plain, Surro, Cesu}
use Rattle.forms.specs.Forms.{rows_of}
use Rattle.straight.specs.Straight.{straight_of}
use Rattle.forms.proofs.Forms.{form_ascii, form_regular}
use Rattle.straight.specs.declared.Straight.{Straight}
use Rattle.straight.proofs.Laws.{stray-scan, sure_bad, straight_well}
use Rattle.form.proofs.Scan.{scan-well, codes-nil}
use Rattle.readings.specs.Reading.{convert, turn}
use Rattle.readings.specs.Come.{Layout, Come, single, Singles}
use Rattle.readings.proofs.Come.{converts-one, single-ascii, single-escape, come_start, singles-room, singles-come, turn-well, turn-bad}
use Rattle.read_leap.specs.Leap.{Sequenced, Strays}

-- a sequence is not found in no bytes
nothing : (f : Form) (c k : ℕ) → scan (rows_of f) [] ≡ well c k → ⊥
unfolding plain surro cesu
nothing Plain c k e = let z : ◌≡◌ {A = ℕ} 0 1 = cc in omega arith
nothing Surro c k e = let z : ◌≡◌ {A = ℕ} 0 1 = cc in omega arith
nothing Cesu c k e = let z : ◌≡◌ {A = ℕ} 0 1 = cc in omega arith

-- a sequence that was found has some bytes
sequence-some : (f : Form) (s : List ℕ) (q : Straight) → Some q ≡ straight_of (scan (rows_of f) s) → (k : ℕ) → q.len ≡ k → 0 < k
sequence-some f s q h zero e = absurd (codes-nil (rows_of f) q.code (form_regular f).is_open (scan-well (rows_of f) s q.code zero (straight_well f s q h ∙ ap (well q.code) e)).0)
sequence-some f s q h (suc k) e = omega arith

pub sequence_found : (f : Form) (s : List ℕ) (q : Straight) → Some q ≡ straight_of (scan (rows_of f) s) → (0 < q.len) × (scan (rows_of f) s ≡ well q.code q.len)
sequence_found f s q h = (sequence-some f s q h q.len refl, straight_well f s q h)

module _ (f : Form) (m : Flags) where
  turn-ascii : (b : ℕ) (t : List ℕ) → b < 0x80 → turn (rows_of f) m (b ∷ t) ≡ convert (single b) 1
  turn-ascii b t h = rw (single-ascii b h) (turn-well (rows_of f) m b t b 1 (form_ascii f b t h))

  turn-sequence : (s : List ℕ) (c k : ℕ) → scan (rows_of f) s ≡ well c k → turn (rows_of f) m s ≡ convert c k
  turn-sequence [] c k e = absurd (nothing f c k e)
  turn-sequence (b ∷ t) c k e = turn-well (rows_of f) m b t c k e

  module _ (p : m.strict ≡ false) (q : m.show ≡ false) where
    turn-single : (b : ℕ) (t : List ℕ) → b < 0xC2 → turn (rows_of f) m (b ∷ t) ≡ convert (single b) 1
    turn-single b t h = go (dec_lt b 0x80)
      where
        go : Dec (b < 0x80) → turn (rows_of f) m (b ∷ t) ≡ convert (single b) 1
        go (yes l) = turn-ascii b t l
        go (no l) = let (n, e) = stray-scan f b t (omega arith) h in rw (single-escape b (omega arith)) (turn-bad (rows_of f) m b t n p q e)

    turn-first : (b : ℕ) (t : List ℕ) → (b ≡ 0xED → ⊥) → 4 ≤ length (b ∷ t) → None ≡ straight_of (scan (rows_of f) (b ∷ t)) → turn (rows_of f) m (b ∷ t) ≡ convert (single b) 1
    turn-first b t g l z = go (dec_lt b 0x80)
      where
        go : Dec (b < 0x80) → turn (rows_of f) m (b ∷ t) ≡ convert (single b) 1
        go (yes h) = turn-ascii b t h
        go (no h) = let (n, e) = sure_bad f b t g l z in rw (single-escape b (omega arith)) (turn-bad (rows_of f) m b t n p q e)

  module _ {A : Type 0} {lay : List ℕ → List A} {w : ℕ → ℕ} (L : Layout lay w) (s : List ℕ) (d₀ d : List A) (r : ℕ) where
    pub ascii-come : Singles lay 0x80 0 s d₀ d r → Come lay (rows_of f) m s d₀ d r r
    ascii-come S = singles-come L S turn-ascii (λ j g h. absurd (omega arith))

    pub sequenced-come : Sequenced lay (w 1) (rows_of f) s d₀ d (Some r) → Come lay (rows_of f) m s d₀ d r 1
    sequenced-come (h, (c, e, F)) =
        record { codes = c ∷ []; count = refl; converts = converts-one (rows_of f) m s c r (turn-sequence s c r e); filled = F }

    pub strays-come : m.strict ≡ false → m.show ≡ false → (w 1 ≤ length d₀ → None ≡ straight_of (scan (rows_of f) s)) → Strays lay s d₀ d r → Come lay (rows_of f) m s d₀ d r r
    strays-come p q z (inl (e, o)) = rw (e, o) (come_start L (rows_of f) m s d₀)
    strays-come p q z (inr (h, g, S)) = singles-come L S (turn-single p q) first
      where
        room : 0 < r → w r ≤ length d₀ → w 1 ≤ length d₀
        room l k = let e : r ≡ 1 + (r - 1) = omega arith in omega (arith, ap w e, L.adds 1 (r - 1))

        first : (j : ℕ) → j < 1 → j < r → turn (rows_of f) m (drop j s) ≡ convert (single (get_or s j 0)) 1
        first j l k =
            let e : j ≡ 0 = omega arith in
            let c = drop-cons s 0 0 (omega arith) in
            rw (e, c) (turn-first p q (get_or s 0 0) (drop 1 s) g (rw c at h) (rw c at (z (room (omega arith) (singles-room L S)))))
