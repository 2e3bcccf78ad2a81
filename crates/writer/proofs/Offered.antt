-- What the writer gives for one code, by value. Assumes nothing.
use mathlib.Core.Path.{◌≡◌, refl, ap, ◌∙◌}
use mathlib.Core.Bool.{Bool, true, false}
use mathlib.Core.List.{List, [], ◌∷◌, ◌++◌}
use Prim.Native.Nat.{ℕ, ◌≤◌}
use native.Mathlib.Omega.{arith}
use lib.ListN.{length, take, length-append, length-take}
use lib.Seq.{take-take, take-append_seam}
use Rattle.flags.specs.declared.Flags.{Flags}
use Rattle.form.specs.Table.{Form}
use Rattle.form.proofs.Writers.{Writer}
use Rattle.sequence.specs.declared.Coded.{Coded}
use Rattle.sequence.specs.Leaf.{coded_of}
use Rattle.writings.specs.Writing.{refuses, bytes}
use Rattle.writings.proofs.Given.{given, given-bytes, given-refused, bytes-written}

-- a code that is not refused, and its bytes by value
pub record Offered (F : Form) (m : Flags) (c : ℕ) (r : Coded) : Type 0 where
  pub accepted : refuses m c ≡ false
  pub most : r.count ≤ 6
  pub enough : r.count ≤ length r.bytes
  pub count : length (bytes F m c) ≡ r.count
  pub front : take r.count r.bytes ≡ bytes F m c

coded : (w : List ℕ) → length w ≤ 6 → (length w ≤ length (coded_of w).bytes) × (take (length w) (coded_of w).bytes ≡ w)
unfolding coded_of
coded w h =
    let z : List ℕ = 0 ∷ 0 ∷ 0 ∷ 0 ∷ 0 ∷ 0 ∷ [] in
    (omega (arith, length-take 6 (w ++ z), length-append w z), take-take (length w) 6 (w ++ z) h ∙ take-append_seam w z)

module _ (F : Form) (W : Writer F 6) (m : Flags) (c : ℕ) (r : Coded) (e : r ≡ coded_of (given F m c)) where
  pub none-refused : r.count ≡ 0 → refuses m c ≡ true
  unfolding coded_of
  none-refused z = go (refuses m c) refl
    where
      go : (t : Bool) → refuses m c ≡ t → t ≡ true
      go true h = refl
      go false h =
          let k : r.count ≡ length (bytes F m c) = ap (λ (x : Coded). x.count) (e ∙ ap coded_of (given-bytes F m c h)) in
          absurd (omega (arith, (bytes-written F W m c h).0))

  pub some-offered : (r.count ≡ 0 → ⊥) → Offered F m c r
  unfolding coded_of
  some-offered n = go (refuses m c) refl
    where
      go : (t : Bool) → refuses m c ≡ t → Offered F m c r
      go true h = absurd (n (ap (λ (x : Coded). x.count) (e ∙ ap coded_of (given-refused F m c h))))
      go false h =
          let w = bytes F m c in
          let o = bytes-written F W m c h in
          let (p, q) = coded w o.1 in
          rw (e ∙ ap coded_of (given-bytes F m c h)) (record { accepted = h; most = o.1; enough = p; count = refl; front = q })
