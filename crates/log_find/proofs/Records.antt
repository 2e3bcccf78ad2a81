-- The record of a code, and the walk from it. Assumes nothing.
use mathlib.Core.Path.{◌≡◌, refl, sym, ap, ◌∙◌}
use mathlib.Core.Option as maybe
use mathlib.Core.Bool.{Bool, true, false}
use mathlib.Core.List.{List}
use Prim.Native.Nat.{ℕ, ◌+◌, ◌*◌, ◌/◌, ◌%◌, ◌≤◌, ◌<◌}
use native.Mathlib.Omega.{arith}
use lib.Dec.{ltb}
use lib.ListN.{length, take, drop, get_elem?}
use borrow.Author.Tests.{ltb-true, ltb-false}
use Rattle.std.specs.Prelude.{None}
use Rattle.std.specs.Bool.{then_some}
use Rattle.form.specs.Table.{plain}
use Rattle.form.specs.Text.{items}
use Rattle.bounds.specs.Cover.{place}
use Rattle.numbers.specs.Number.{value}
use Rattle.numbers.proofs.Laws.{values_at, values_none}
use Rattle.log_index.specs.Index.{starts, reached, finding, records}
use Rattle.log_index.proofs.Lists.{elem_drop}
use Rattle.log_index.proofs.Starts.{starts_none, starts-some, starts_from}
use Rattle.log_find.specs.Answer.{place_of}

-- where n items end starts the next, if there is one
elem_at : (s : List ℕ) (p n : ℕ) → let q = p + place n (items plain 0 (drop p s)) in then_some (ltb q (length s)) q ≡ place_of (get_elem? (starts s p) n)
elem_at s p n = go (ltb q (length s)) refl
  where
    q : ℕ
    q = p + place n (items plain 0 (drop p s))

    here : get_elem? (starts s p) n ≡ get_elem? (starts s q) 0
    here = ap (get_elem? (starts s p)) (let z : n ≡ n + 0 = omega arith in z) ∙ sym (elem_drop (starts s p) n 0) ∙ ap (λ (l : List ℕ). get_elem? l 0) (starts_from s p n)

    go : (t : Bool) → ltb q (length s) ≡ t → then_some t q ≡ place_of (get_elem? (starts s p) n)
    go true e = sym (ap place_of (here ∙ ap (λ (l : List ℕ). get_elem? l 0) (starts-some s q (ltb-true q (length s) e))))
    go false e = sym (ap place_of (here ∙ ap (λ (l : List ℕ). get_elem? l 0) (starts_none s q (ltb-false q (length s) e))))

module _ (s w : List ℕ) (k : ℕ) where
  pub found-missing : length w / 8 ≤ k / 64 → None ≡ place_of (finding s (records w) k)
  unfolding finding
  found-missing h = sym (ap (λ (a : maybe.Option ℕ). place_of (reached s a (k % 64))) (values_none 8 (length w / 8) w (k / 64) h))

  pub found_from : (p : ℕ) → k / 64 < length w / 8 → p ≡ value (take 8 (drop (k / 64 * 8) w)) → (q : ℕ) → q ≡ p + place (k % 64) (items plain 0 (drop p s)) → then_some (ltb q (length s)) q ≡ place_of (finding s (records w) k)
  unfolding finding
  found_from p h e q f =
      ap (λ (x : ℕ). then_some (ltb x (length s)) x) f ∙ elem_at s p (k % 64)
      ∙ ap (λ (a : maybe.Option ℕ). place_of (reached s a (k % 64))) (ap maybe.some e ∙ sym (values_at 8 (length w / 8) w (k / 64) h))
