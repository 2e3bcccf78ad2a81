-- A line goes through the C entries and back. Assumes nothing.
use mathlib.Core.Path.{◌≡◌, refl, ap, ◌∙◌}
use mathlib.Core.List.{List, [], ◌∷◌}
use Prim.Native.Nat.{ℕ, ◌*◌, ◌/◌, ◌≤◌, ◌<◌}
use native.Mathlib.Omega.{arith}
use lib.ListN.{length}
use Rattle.form.specs.Table.{Form}
use Rattle.form.specs.Text.{read, All, Bytes, Accepted}
use Rattle.codings.specs.declared.Coding.{Coding}
use Rattle.codings.specs.Codings.{writer_form}
use Rattle.readings.proofs.Theorems.{within, reads_all}
use Rattle.writings.specs.Writing.{encoding_in}
use Rattle.writings.proofs.Theorems.{encoding-write}
use Rattle.quads.specs.Bytes.{laid, codes_of}
use Rattle.entries.specs.Entry.{given, decode_entry_in, encode_entry_in}
use Rattle.numbers.proofs.Laws.{laid-length}
use Rattle.quads.proofs.Bytes.{laid-again}
use Rattle.entries.proofs.Answers.{decode-given, encode-given}
use Rattle.roundtrip.specs.Entries.{Buffer, Gives, Through}
use Rattle.roundtrip.proofs.Holds.{lists, read-accepted}

-- every accepted code has four bytes
narrow : (l : List ℕ) → Accepted l → All (λ c. c < 4294967296) l
narrow [] h = tt
narrow (c ∷ l) h = (omega (arith, h.0), narrow l h.1)

module _ (K : Coding) where
  abbrev F : Form
  F = writer_form K

  few : (s : List ℕ) → length (read F s) ≤ length s
  few s = rw (reads_all K (length s) s (omega arith)) at (within K 1 (length s) s).1

  read-in : (s d r : List ℕ) → Buffer (length s * 4) d → length r ≡ 9 → Gives (decode_entry_in K s d 1 r) (length (read F s)) (laid (read F s)) d (length s)
  unfolding given
  read-in s d r h e =
      rw (← decode-given K s d r 1 e (omega (arith, h.0, h.1)) h.1) (rw (reads_all K (length d / 4) s (omega (arith, h.0))) (refl, refl, refl))

  written_out : (s e q : List ℕ) → Bytes s → length s * 4 ≤ 1048576 → Buffer (length s) e → length q ≡ 9
      → Gives (encode_entry_in K (laid (read F s)) e 0 q) (length s) s e (length (read F s))
  unfolding given
  written_out s e q b m h k =
      let l = read F s in
      let a = read-accepted K s b in
      let x = (lists K).exact s b in
      let n = laid-length 4 l in
      let w : encoding_in K 0 (length e) (codes_of (laid l)) ≡ record { number = 0; consumed = length l; written = s } =
      rw (laid-again l (narrow l a)) (encoding-write K l (length e) a (omega (arith, ap length x, h.0)) ∙ rw x refl) in
      rw (← encode-given K (laid l) e q 0 k (omega (arith, few s)) h.1 (omega arith)) (rw w (refl, refl, refl))

  pub through : Through K
  through = record { back = λ s d e r q b h k x y. (length (read F s), laid (read F s), laid-length 4 (read F s), read-in s d r h x, written_out s e q b (omega (arith, h.0, h.1)) k y) }
