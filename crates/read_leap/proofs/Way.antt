-- A place on a leap's way, and the steps from it: a part of the buffer is lent with the bytes that are left. Assumes nothing.
use mathlib.Core.Path.{◌≡◌, refl, sym, ap, ◌∙◌}
use mathlib.Core.Bool.{Bool, true, false, ◌||◌, true≢false}
use Rattle.std.specs.Prelude.{Some, None}
use mathlib.Core.List.{List}
use Prim.Native.Nat.{ℕ, ◌+◌, ◌-◌, ◌≤◌}
use native.Mathlib.Omega.{arith}
use lib.ListN.{length, take, drop, length-drop}
use borrow.Author.Rules.{part_to_end}
use borrow.Rule.Slice.PartMut.{mid_of, put_mid}
use Rattle.flags.specs.declared.Flags.{Flags}
use Rattle.forms.specs.declared.Form.{Form}
use Rattle.forms.specs.Forms.{rows_of}
use Rattle.readings.specs.Come.{Layout, Come, Onward, Singles}
use Rattle.readings.proofs.Come.{come-room, onward-start, onward-part, onward-none}
use Rattle.read_leap.specs.Leap.{Sequenced, Strays}
use Rattle.read_leap.proofs.Pieces.{ascii-come, sequenced-come, strays-come}

-- the codes end within the buffer, and whatever was reached is reached still, by any flags that ask for the same care
pub record Way {A : Type 0} (lay : List ℕ → List A) (w : ℕ → ℕ) (f : Form) (care : Bool) (s : List ℕ) (d₀ d : List A) (at₀ n₀ at n : ℕ) : Type 0 where
  pub room : w n ≤ length d
  pub same : length d ≡ length d₀
  pub onward : (m : Flags) → care ≡ (m.strict || m.show) → Onward lay (rows_of f) m s d₀ d at₀ n₀ at n

or_false : (a b : Bool) → (a || b) ≡ false → (a ≡ false) × (b ≡ false)
or_false true b e = absurd (true≢false e)
or_false false b e = (refl, e)

-- the bytes that are left, the part of a buffer from the cell k on, and the buffer with that part as it came back
abbrev pub left : List ℕ → ℕ → List ℕ
left s at = take (length s - at) (drop at s)

abbrev pub part : {A : Type 0} → List A → ℕ → List A
part d k = mid_of k (length d - k) d

abbrev pub back : {A : Type 0} → List A → ℕ → List A → List A
back d k q = put_mid k (length d - k) d q

part_length : {A : Type 0} (d : List A) (k : ℕ) → length (part d k) ≡ length d - k
part_length d k = ap length (part_to_end d k) ∙ length-drop k d

module _ {A : Type 0} {lay : List ℕ → List A} {w : ℕ → ℕ} (L : Layout lay w) where
  pub way-start : (f : Form) (care : Bool) (s : List ℕ) (d : List A) (at n : ℕ) → w n ≤ length d → Way lay w f care s d d at n at n
  way-start f care s d at n h = record { room = h; same = refl; onward = λ m e. onward-start L (rows_of f) m s d at n }

  module _ {f : Form} {care : Bool} {s : List ℕ} {d₀ : List A} {at₀ n₀ at n : ℕ} (m : Flags) (e : care ≡ (m.strict || m.show)) (h : at ≤ length s) where
    module _ {d : List A} (y : Way lay w f care s d₀ d at₀ n₀ at n) (q : List A) where
      way-part : (j i : ℕ) → ((x : Flags) → care ≡ (x.strict || x.show) → Come lay (rows_of f) x (left s at) (part d (w n)) q j i)
          → Way lay w f care s d₀ (back d (w n) q) at₀ n₀ (at + j) (n + i) × (at + j ≤ length s)
      way-part j i k =
          let c = k m e in
          let u = (onward-part L (y.onward m e) q j i c).same in (
            record {
              room = omega (arith, u, y.room, y.same, come-room L c, part_length d (w n), L.adds n i);
              same = u;
              onward = λ x z. onward-part L (y.onward x z) q j i (k x z);
            },
            omega (arith, c.converts.within, ap length (part_to_end s at), length-drop at s),
          )

      module _ (r : ℕ) where
        pub way-ascii : Singles lay 0x80 0 (left s at) (part d (w n)) q r → Way lay w f care s d₀ (back d (w n) q) at₀ n₀ (at + r) (n + r) × (at + r ≤ length s)
        way-ascii S = way-part r r (λ x z. ascii-come f x L (left s at) (part d (w n)) q r S)

        pub way-sequence : Sequenced lay (w 1) (rows_of f) (left s at) (part d (w n)) q (Some r)
            → Way lay w f care s d₀ (back d (w n) q) at₀ n₀ (at + r) (n + 1) × (at + r ≤ length s)
        way-sequence S = way-part r 1 (λ x z. sequenced-come f x L (left s at) (part d (w n)) q r S)

      -- no sequence was found, and the part came back as it was
      pub way-passed : Sequenced lay (w 1) (rows_of f) (left s at) (part d (w n)) q None → Way lay w f care s d₀ (back d (w n) q) at₀ n₀ at n
      way-passed S =
          let u = (onward-none L (y.onward m e) q S.0).same in
          record { room = omega (arith, u, y.room, y.same); same = u; onward = λ x k. onward-none L (y.onward x k) q S.0 }

    -- and the part, lent again, has bad bytes
    pub way-strays : {d : List A} (y : Way lay w f care s d₀ d at₀ n₀ at n) (q : List A) → Sequenced lay (w 1) (rows_of f) (left s at) (part d (w n)) q None → care ≡ false
        → (p : List A) (k : ℕ) → Strays lay (left s at) (part (back d (w n) q) (w n)) p k
        → Way lay w f care s d₀ (back (back d (w n) q) (w n) p) at₀ n₀ (at + k) (n + k) × (at + k ≤ length s)
    way-strays {d} y q S c p k Z =
        let v = way-passed y q S in
        way-part v p k k
        (λ x i.
        let (a, b) = or_false x.strict x.show (sym i ∙ c) in
        strays-come f x L (left s at) (part (back d (w n) q) (w n)) p k a b (λ l. S.1 (omega (arith, y.same, v.same, part_length d (w n), part_length (back d (w n) q) (w n)))) Z)
