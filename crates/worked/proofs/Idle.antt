-- The idle programs of "What a promise must not let through": each differs from the definition at an input named here, or fails demand 3. Assumes nothing.
use mathlib.Core.Path.{◌≡◌, refl, sym, ap, ◌∙◌}
use mathlib.Core.List.{List, [], ◌∷◌, ◌++◌}
use Prim.Native.Nat.{ℕ, ◌≤◌}
use native.Mathlib.Omega.{arith}
use lib.ListN.{length, drop, get_or}
use Rattle.flags.specs.Number.{flags_of, reader_refuses, writer_refuses}
use Rattle.codings.specs.declared.Coding.TheVariants.{Utf8}
use Rattle.codings.specs.Codings.{reader_refuses_in, writer_refuses_in}
use Rattle.form.specs.Table.{plain}
use Rattle.form.specs.Text.{Bytes}
use Rattle.readings.specs.Reading.{stopped, follow, decoding_in, decoding}
use Rattle.writings.specs.Writing as Writing
use Rattle.writings.specs.Writing.{refuses, bytes, after, encoding_in}
use Rattle.roundtrip.specs.Demand.{Writes, needs}
use Rattle.utf16.specs.Utf16.{utf16}
use Rattle.state.specs.Meaning.{padded, record_of, meaning, sense, sense_of}
use Rattle.advance.specs.Step.{incomplete, unit, step}
use Rattle.restart.specs.Runs.{Bits, eight, sixteen, thirty_two, reading}
use Rattle.restart.specs.Packets.{start}

abbrev first : List ℕ → ℕ
first l = get_or l 0 0

-- a reader that gives one number always, so one that refuses everything: no bytes with LAST are 0, and with STRICT and SHOW 4
pub one_number : (q : ℕ) → ((flags room : ℕ) (s : List ℕ) → (decoding flags room s).number ≡ q) → ⊥
unfolding decoding_in reader_refuses_in reader_refuses stopped
one_number q h = let e : ◌≡◌ {A = ℕ} 0 4 = h 1 0 [] ∙ sym (h 12 0 []) in omega arith

-- a reader that gives the same codes always: 34 and 30 give 34 and 30
pub same_codes : (l : List ℕ) → ((flags room : ℕ) (s : List ℕ) → (decoding flags room s).codes ≡ l) → ⊥
unfolding plain decoding_in reader_refuses_in flags_of reader_refuses stopped follow
same_codes l h =
    let e : ◌≡◌ {A = ℕ} 0x34 0x30 = ap first (h 1 1 (0x34 ∷ []) ∙ sym (h 1 1 (0x30 ∷ []))) in omega arith

-- by demand 3: no list is written as every byte string, as the list must be that is read from them all
pub same_list : (l : List ℕ) (w : ℕ) → ((s : List ℕ) → Bytes s → Writes Utf8 w l s) → ⊥
same_list l w h =
    let e : ◌≡◌ {A = ℕ} 0x34 0x30 = ap first (sym (h (0x34 ∷ []) (omega arith, tt)).2 ∙ (h (0x30 ∷ []) (omega arith, tt)).2) in omega arith

-- a reader that writes nothing: a buffer of one 0 holds 34 after the byte 34
pub writes_nothing : ((flags : ℕ) (s d : List ℕ) → d ≡ (decoding flags (length d) s).codes ++ drop (length (decoding flags (length d) s).codes) d) → ⊥
unfolding plain decoding_in reader_refuses_in flags_of reader_refuses stopped follow
writes_nothing h = let e : ◌≡◌ {A = ℕ} 0x0 0x34 = ap first (h 1 (0x34 ∷ []) (0x0 ∷ [])) in omega arith

-- a consumed count made up from flags, room and length: without LAST, 34 30 is consumed, and E2 80 is not
pub made_up_count : (count : ℕ → ℕ → ℕ → ℕ) → ((flags room : ℕ) (s : List ℕ) → (decoding flags room s).consumed ≡ count flags room (length s)) → ⊥
unfolding plain decoding_in reader_refuses_in flags_of reader_refuses stopped follow
made_up_count count h = let e : ◌≡◌ {A = ℕ} 2 0 = h 0 2 (0x34 ∷ 0x30 ∷ []) ∙ sym (h 0 2 (0xE2 ∷ 0x80 ∷ [])) in omega arith

-- a byte copier: 80 is read as its escape
pub copier : ((s : List ℕ) → Bytes s → (decoding 1 (length s) s).codes ≡ s) → ⊥
unfolding plain decoding_in reader_refuses_in flags_of reader_refuses stopped follow
copier h = let e : ◌≡◌ {A = ℕ} 0xDC80 0x80 = ap first (h (0x80 ∷ []) (omega arith, tt)) in omega arith

-- by demand 3: the list that it gives for the byte 80 is the clean list of the code 80, which is written C2 80
pub copied : ((s : List ℕ) (w : ℕ) → Bytes s → needs Utf8 s ≤ w → Writes Utf8 w s s) → ⊥
unfolding plain writer_refuses flags_of Writing.stopped refuses bytes after encoding_in writer_refuses_in
copied h = let e : ◌≡◌ {A = ℕ} 0xC2 0x80 = ap first (h (0x80 ∷ []) 2 (omega arith, tt) (omega arith)).2 in omega arith

-- a step that converts its first sequence and then only repeats incomplete: after 34 comes 30
pub repeats_incomplete : (b : Bits) → ((i j : List ℕ) → (reading plain b start i).answer.name ≡ unit → (reading plain b (reading plain b start i).next j).answer.name ≡ incomplete) → ⊥
unfolding plain utf16 padded record_of meaning sense sense_of step
repeats_incomplete eight h = let e : unit ≡ incomplete = h (0x34 ∷ []) (0x30 ∷ []) refl in let z : ◌≡◌ {A = ℕ} 0 1 = cc in omega arith
repeats_incomplete sixteen h = let e : unit ≡ incomplete = h (0x34 ∷ []) (0x30 ∷ []) refl in let z : ◌≡◌ {A = ℕ} 0 1 = cc in omega arith
repeats_incomplete thirty_two h = let e : unit ≡ incomplete = h (0x34 ∷ []) (0x30 ∷ []) refl in let z : ◌≡◌ {A = ℕ} 0 1 = cc in omega arith
