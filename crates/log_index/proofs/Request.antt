-- C-17's sentences hold. Assumes nothing.
use mathlib.Core.Path.{◌≡◌, refl, sym, ap, ◌∙◌}
use mathlib.Core.Logic.{◌↔◌}
use mathlib.Core.Bool.{Bool, true, false}
use mathlib.Core.Option.{Option, none, some}
use mathlib.Core.List.{List, map}
use Prim.Native.Nat.{ℕ, suc, ◌+◌, ◌*◌, ◌/◌, ◌%◌, ◌≤◌}
use native.Mathlib.Omega.{arith}
use lib.Dec.{ltb}
use lib.ListN.{length, drop, get_elem?, length-map}
use borrow.Author.Tests.{ltb-true, ltb-false}
use Rattle.form.specs.Table.{plain}
use Rattle.form.specs.Text.{Item, span, code, items, places}
use Rattle.form.proofs.Utf8.{plain-regular, plain-leads}
use Rattle.codings.specs.declared.Coding.TheVariants.{Utf8}
use Rattle.readings.specs.Reading.{Reading}
use Rattle.readings.proofs.Theorems.{reads_all}
use Rattle.bounds.specs.Cover as Cover
use Rattle.bounds.specs.Cover.{covers, covering}
use Rattle.bounds.proofs.Apart.{plain-apart}
use Rattle.bounds.proofs.Bounds.{places-from}
use Rattle.bounds.proofs.Covers.{covering-item, past_end, some-covers}
use Rattle.bounds.proofs.Window.{alike}
use Rattle.log_index.specs.Index.{starts, log_index, reached, finding}
use Rattle.log_index.specs.Request.{codes, CoversIn, Request}
use Rattle.log_index.proofs.Lists.{elem_first, elem_none, every-at}
use Rattle.log_index.proofs.Starts.{starts_none, starts-count, ceil}
use Rattle.log_index.proofs.Finding.{map-drop, start-reads}
use Rattle.log_index.proofs.Standing.{stand-first}
use Rattle.log_index.proofs.Bytes.{built-all, built-none, found-built, updating-outside, grown}

recorded : (s : List ℕ) (j : ℕ) → get_elem? (log_index s) j ≡ get_elem? (starts s 0) (j * 64)
unfolding log_index
recorded s j = every-at (starts s 0) 0 j ∙ ap (get_elem? (starts s 0)) (let z : 0 + j * 64 ≡ j * 64 = omega arith in z)

-- the reader's codes are those of the items
codes-are : (s : List ℕ) → codes s ≡ map code (items plain 0 s)
codes-are s = ap (λ (R : Reading). R.codes) (reads_all Utf8 (length s) s (omega arith))

codes-count : (s : List ℕ) → length (codes s) ≡ length (items plain 0 s)
codes-count s = ap length (codes-are s) ∙ length-map (items plain 0 s) code

how_many : (s : List ℕ) → length (log_index s) ≡ (length (codes s) + 63) / 64
how_many s = ceil s ∙ ap (λ (n : ℕ). (n + 63) / 64) (sym (codes-count s))

reads_on : (s : List ℕ) (k p : ℕ) → get_elem? (starts s 0) k ≡ some p → codes (drop p s) ≡ drop k (codes s)
reads_on s k p e = codes-are (drop p s) ∙ start-reads s k p e ∙ ap (drop k) (sym (codes-are s))

past_codes : (s : List ℕ) (k : ℕ) → (get_elem? (starts s 0) k ≡ none) ↔ (length (codes s) ≤ k)
past_codes s k =
    let (a, b) = elem_none (starts s 0) k in
    (λ e. omega (arith, a e, starts-count s, codes-count s), λ h. b (omega (arith, starts-count s, codes-count s)))

past_bytes : (s : List ℕ) (p : ℕ) → (covering 0 (items plain 0 s) p ≡ Cover.none) ↔ (length s ≤ p)
past_bytes s p = (λ e. go e (ltb p (length s)) refl, past_end plain plain-regular plain-leads s p)
  where
    go : covering 0 (items plain 0 s) p ≡ Cover.none → (b : Bool) → ltb p (length s) ≡ b → length s ≤ p
    go e true f =
        let (q, i, g) = some-covers plain plain-regular plain-leads s p (ltb-true p (length s) f) in
        let x : Cover.none ≡ covers q i = sym e ∙ g in
        let z : ◌≡◌ {A = ℕ} 0 1 = cc in
        absurd (omega arith)
    go e false f = ltb-false p (length s) f

walked : (s rs : List ℕ) (k p : ℕ) → get_elem? rs (k / 64) ≡ some p → finding s rs k ≡ get_elem? (starts s p) (k % 64)
unfolding finding
walked s rs k p e = ap (λ (a : Option ℕ). reached s a (k % 64)) e

missing : (s rs : List ℕ) (k : ℕ) → length rs ≤ k / 64 → finding s rs k ≡ none
unfolding finding
missing s rs k h = ap (λ (a : Option ℕ). reached s a (k % 64)) ((elem_none rs (k / 64)).1 h)

covered : (s : List ℕ) (p q : ℕ) (i : Item) → covering 0 (items plain 0 s) p ≡ covers q i → CoversIn s p q i
covered s p q i e =
    let l = items plain 0 s in
    let (j, d, f, g, h) = covering-item l 0 p q i (omega arith) e in
    record {
      number = j;
      is_item = elem_first l j i (drop (suc j) l) d;
      is_place = elem_first (starts s 0) j q (places (q + span i) (drop (suc j) l)) (places-from j 0 l ∙ rw (d, ← f) refl);
      is_code = elem_first (codes s) j (code i) (map code (drop (suc j) l)) (ap (drop j) (codes-are s) ∙ sym (map-drop j l) ∙ ap (map code) d);
      begins = g;
      ends = h;
    }

pub request : Request
request =
    record {
      recorded = recorded;
      how_many = how_many;
      built = built-all;
      found = found-built;
      reads_on = reads_on;
      past_codes = past_codes;
      past_bytes = past_bytes;
      walked = walked;
      missing = missing;
      outside = λ s p n h. ap (λ (l : List ℕ). get_elem? l n) (starts_none s p h);
      no_room = built-none;
      alone = alike plain 3 plain-apart;
      covered = covered;
      stand = stand-first;
      refused_first = updating-outside;
      fresh = grown;
    }
