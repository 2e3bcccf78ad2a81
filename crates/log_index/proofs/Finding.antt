-- What is found by a true index is what a full reading says. Assumes nothing.
use mathlib.Core.Path.{◌≡◌, refl, sym, ap, ◌∙◌}
use mathlib.Core.Option.{Option, none, some}
use mathlib.Core.List.{List, [], ◌∷◌, map}
use Prim.Native.Nat.{ℕ, zero, suc, ◌+◌, ◌*◌, ◌/◌, ◌%◌}
use native.Mathlib.Omega.{arith}
use lib.ListN.{drop, get_elem?}
use Rattle.form.specs.Table.{plain}
use Rattle.form.specs.Text.{Item, span, code, items, places, read}
use Rattle.form.proofs.Utf8.{plain-regular}
use Rattle.bounds.specs.Cover.{place}
use Rattle.bounds.proofs.Bounds.{items-from}
use Rattle.log_index.specs.Index.{starts, log_index, reached, finding}
use Rattle.log_index.proofs.Lists.{elem_drop, elem_none, every-at}
use Rattle.log_index.proofs.Starts.{starts_from}

-- the place of number m is that of its items
start-place : (l : List Item) (q m p : ℕ) → get_elem? (places q l) m ≡ some p → q + place m l ≡ p
start-place [] q m p e = let z : ◌≡◌ {A = ℕ} 0 1 = cc in absurd (omega arith)
start-place (i ∷ l) q zero p e = let z : q ≡ p = cc in omega arith
start-place (i ∷ l) q (suc m) p e = sym (let z : q + span i + place m l ≡ q + (span i + place m l) = omega arith in z) ∙ start-place l (q + span i) m p e

-- some items on from the place of code m
jumped : (s : List ℕ) (m n : ℕ) (a : Option ℕ) → get_elem? (starts s 0) m ≡ a → reached s a n ≡ get_elem? (starts s 0) (m + n)
jumped s m n none e = sym ((elem_none (starts s 0) (m + n)).1 (omega (arith, (elem_none (starts s 0) m).0 e)))
jumped s m n (some p) e =
    let q : 0 + place m (items plain 0 s) ≡ p = start-place (items plain 0 s) 0 m p e in
    ap (λ (l : List ℕ). get_elem? l n) (sym (starts_from s 0 m ∙ ap (starts s) q)) ∙ elem_drop (starts s 0) m n

pub found_true : (s : List ℕ) (k : ℕ) → finding s (log_index s) k ≡ get_elem? (starts s 0) k
unfolding finding log_index
found_true s k =
    let whole : 0 + k / 64 * 64 + k % 64 ≡ k = omega arith in
    ap (λ (a : Option ℕ). reached s a (k % 64)) (every-at (starts s 0) 0 (k / 64)) ∙ jumped s (0 + k / 64 * 64) (k % 64) (get_elem? (starts s 0) (0 + k / 64 * 64)) refl ∙ ap (get_elem? (starts s 0)) whole

pub map-drop : (j : ℕ) (l : List Item) → map code (drop j l) ≡ drop j (map code l)
map-drop zero l = refl
map-drop (suc j) [] = refl
map-drop (suc j) (i ∷ l) = map-drop j l

-- reading from the place of code k on gives the codes from number k on
pub start-reads : (s : List ℕ) (k p : ℕ) → get_elem? (starts s 0) k ≡ some p → read plain (drop p s) ≡ drop k (read plain s)
start-reads s k p e =
    let q : place k (items plain 0 s) ≡ p = omega (arith, start-place (items plain 0 s) 0 k p e) in
    sym (sym (map-drop k (items plain 0 s)) ∙ ap (map code) (items-from plain plain-regular.is_open k s ∙ ap (λ (r : ℕ). items plain 0 (drop r s)) q))
