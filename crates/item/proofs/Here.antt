-- One item on: what every walk over the items of a slice cites. Assumes nothing.
use mathlib.Core.Path.{◌≡◌, refl, sym, ap, ◌∙◌}
use mathlib.Core.List.{List, [], ◌∷◌}
use Prim.Native.Nat.{ℕ, ◌+◌, ◌-◌, ◌≤◌, ◌<◌}
use native.Mathlib.Omega.{arith}
use lib.ListN.{length, take, drop, length-drop, length-take}
use Rattle.std.specs.Prelude.{Option, Some, None}
use Rattle.std.proofs.lemmas.Option.{same_Some, none-some}
use lib.Seq.{drop-drop}
use borrow.Author.Rules.{part_to_end}
use Rattle.form.specs.Table.{plain}
use Rattle.form.specs.Scan.{scan}
use Rattle.form.specs.Text.{Item, coded, stray, span, code, more, item, items, places}
use Rattle.form.proofs.Items.{items_skip, span_more, span-within}
use Rattle.form.proofs.Utf8.{plain-regular}
use Rattle.item.specs.declared.Leaf.{Leaf}
use Rattle.item.specs.Leaf.{leaf, leaf_of, leaf_span}

-- the item at a place, as it was told, and those behind it
pub record Here (s : List ℕ) (at : ℕ) (r : Leaf) : Type 0 where
  pub the : Item
  pub leaf_is : r ≡ leaf the
  pub span_is : r.span ≡ span the
  pub code_is : r.code ≡ code the
  pub some : 0 < r.span
  pub within : at + r.span ≤ length s
  pub items_are : items plain 0 (drop at s) ≡ the ∷ items plain 0 (drop (at + r.span) s)

leaf-span : (i : Item) → (leaf i).span ≡ span i
leaf-span (coded c n) = refl
leaf-span (stray b n) = refl

leaf-code : (i : Item) → (leaf i).code ≡ code i
leaf-code (coded c n) = refl
leaf-code (stray b n) = refl

pub here : (s : List ℕ) (at : ℕ) (r : Leaf) → at < length s → Some r ≡ leaf_of (drop at s) → Here s at r
unfolding leaf_of
here s at r h e = go (drop at s) refl
  where
    go : (u : List ℕ) → drop at s ≡ u → Here s at r
    go [] f = absurd (omega (arith, length-drop at s, ap length f))
    go (b ∷ u) f =
        let i = item (scan plain (b ∷ u)) b u in
        let g : r ≡ leaf i = same_Some r (leaf i) (e ∙ ap leaf_of f) in
        let p : r.span ≡ span i = ap (λ (x : Leaf). x.span) g ∙ leaf-span i in
        let m = span_more plain b u plain-regular.is_open in
        let d : drop (more i) u ≡ drop (at + r.span) s =
        ap (λ (k : ℕ). drop k (b ∷ u)) (sym m ∙ sym p) ∙ ap (drop r.span) (sym f) ∙ drop-drop r.span at s
        in
        record {
          the = i;
          leaf_is = g;
          span_is = p;
          code_is = ap (λ (x : Leaf). x.code) g ∙ leaf-code i;
          some = omega arith;
          within = omega (arith, span-within plain b u, length-drop at s, ap length f);
          items_are = ap (items plain 0) f ∙ ap (λ (l : List Item). i ∷ l) (items_skip plain (more i) u ∙ ap (items plain 0) d);
        }

-- as a caller has it of `&s[at..]`
pub here-part : (s : List ℕ) (at : ℕ) (r : Leaf) → at < length s → Some r ≡ leaf_of (take (length s - at) (drop at s)) → Here s at r
here-part s at r h e = here s at r h (e ∙ ap leaf_of (part_to_end s at))

-- ---- the span alone

-- the item at a place takes n bytes, and where those behind it start
pub record Step (s : List ℕ) (at n : ℕ) : Type 0 where
  pub some : 0 < n
  pub within : at + n ≤ length s
  pub places_are : (p : ℕ) → places p (items plain 0 (drop at s)) ≡ p ∷ places (p + n) (items plain 0 (drop (at + n) s))

-- of some bytes there is one
pub leaf-some : (s : List ℕ) → 0 < length s → leaf_of s ≡ None → ⊥
unfolding leaf_of
leaf-some [] h e = omega arith
leaf-some (b ∷ s) h e = none-some _ (sym e)

-- as a caller has it of `&s[at..]`
pub here_span : (s : List ℕ) (at n : ℕ) → at < length s → n ≡ leaf_span (leaf_of (take (length s - at) (drop at s))) → (r : Leaf) × (Here s at r × (n ≡ r.span))
here_span s at n h e = go (leaf_of (take (length s - at) (drop at s))) refl
  where
    go : (o : Option Leaf) → leaf_of (take (length s - at) (drop at s)) ≡ o → (r : Leaf) × (Here s at r × (n ≡ r.span))
    go None f = absurd (leaf-some (take (length s - at) (drop at s)) (omega (arith, length-drop at s, length-take (length s - at) (drop at s))) f)
    go (Some r) f = (r, (here-part s at r h (sym f), e ∙ ap leaf_span f))

pub step_part : (s : List ℕ) (at n : ℕ) → at < length s → n ≡ leaf_span (leaf_of (take (length s - at) (drop at s))) → Step s at n
step_part s at n h e =
    let (r, (H, z)) = here_span s at n h e in
    rw z (record {
      some = H.some;
      within = H.within;
      places_are = λ p. ap (places p) H.items_are ∙ ap (λ (k : ℕ). p ∷ places (p + k) (items plain 0 (drop (at + r.span) s))) (sym H.span_is);
    })
