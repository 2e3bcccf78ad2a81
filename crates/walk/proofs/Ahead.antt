-- One item on. Assumes nothing.
use mathlib.Core.Path.{◌≡◌, refl, sym, ap, subst, ◌∙◌}
use mathlib.Core.List.{List, [], ◌∷◌, map}
use Prim.Native.Nat.{ℕ, zero, suc, ◌+◌, ◌-◌, ◌≤◌, ◌<◌}
use lib.ListN.{length, take, drop, drop_of_length-le}
use native.Mathlib.Omega.{arith}
use Rattle.std.specs.Prelude.{fold}
use Rattle.form.specs.Table.{plain}
use Rattle.form.specs.Text.{Item, span, items, places}
use Rattle.bounds.specs.Cover.{place}
use Rattle.item.specs.Leaf.{leaf_of, leaf_span}
use Rattle.item.proofs.Here.{here_span, step_part}
use Rattle.std.specs.Iterator.{YieldsFirst}
use Rattle.std.proofs.lemmas.Iterator.{YieldsList}
use Rattle.std.proofs.lemmas.Iterator.Consumers.{YieldsList-from_shown}
use Rattle.walk.specs.Walk.{ahead, extents, extents_from}
use Rattle.walk.specs.declared.Extent.{Extent}
use Rattle.walk.specs.declared.Walk.{Walk}

-- the item at a place takes n bytes, and those behind it are the others
pub record Next (s : List ℕ) (at n : ℕ) : Type 0 where
  pub within : at + n ≤ length s
  pub extents_are : extents_from s at ≡ record { start = at; end = at + n } ∷ extents_from s (at + n)

-- as a caller has it of `&s[at..]`
pub next_part : (s : List ℕ) (at n : ℕ) → at < length s → n ≡ leaf_span (leaf_of (take (length s - at) (drop at s))) → Next s at n
unfolding extents_from
next_part s at n h e =
    let (r, (H, z)) = here_span s at n h e in
    let tail : ℕ → List Extent = λ k. record { start = at; end = at + k } ∷ extents (at + k) (items plain 0 (drop (at + r.span) s)) in
    record { within = (step_part s at n h e).within; extents_are = rw z (ap (extents at) H.items_are ∙ ap tail (sym H.span_is)) }

pub extents-none : (s : List ℕ) (at : ℕ) → length s ≤ at → extents_from s at ≡ []
unfolding extents_from
extents-none s at h = ap (λ (u : List ℕ). extents at (items plain 0 u)) (drop_of_length-le s {i = at} h)

-- ---- walks, as chains read them

pub starts_are : (s : List ℕ) (p : ℕ) → map (λ (e : Extent). e.start) (extents_from s p) ≡ places p (items plain 0 (drop p s))
unfolding extents_from
starts_are s p = go p (items plain 0 (drop p s))
  where
    go : (q : ℕ) (l : List Item) → map (λ (e : Extent). e.start) (extents q l) ≡ places q l
    go q [] = refl
    go q (i ∷ l) = ap (λ (k : List ℕ). q ∷ k) (go (q + span i) l)

-- by where each item starts
pub YieldsList-from_walk : {w : Walk} (s : List ℕ) (p : ℕ) → ahead w ≡ extents_from s p → YieldsList (YieldsFirst ahead) (λ e. e.start) w (places p (items plain 0 (drop p s)))
YieldsList-from_walk {w} s p e =
    subst (YieldsList (YieldsFirst ahead) (λ e. e.start) w) (ap (map (λ (e : Extent). e.start)) e ∙ starts_are s p)
    (YieldsList-from_shown (YieldsFirst ahead) (λ e. e.start) (λ u. map (λ (e : Extent). e.start) (ahead u)) (λ u t q. ap length (ap (map (λ (e : Extent). e.start)) q.0))
    (λ u x t q. ap (map (λ (e : Extent). e.start)) q) w)

-- behind n items starts the next
pub ends_at : (s : List ℕ) (p n : ℕ) → fold (λ (q : ℕ) (e : Extent). e.end) p (take n (extents_from s p)) ≡ p + place n (items plain 0 (drop p s))
unfolding extents_from
ends_at s p n = go (items plain 0 (drop p s)) p n
  where
    go : (l : List Item) (q n : ℕ) → fold (λ (r : ℕ) (e : Extent). e.end) q (take n (extents q l)) ≡ q + place n l
    go l q zero = omega arith
    go [] q (suc n) = omega arith
    go (i ∷ l) q (suc n) = go l (q + span i) n ∙ omega arith
