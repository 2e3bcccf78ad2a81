-- What stands at the front of a slice, as an item. Assumes nothing.
use mathlib.Core.Path.{◌≡◌, refl, ap}
use mathlib.Core.List.{List, [], ◌∷◌}
use Prim.Native.Nat.{ℕ, suc, ◌<◌}
use native.Mathlib.Omega.{arith}
use lib.ListN.{length, get_or}
use Rattle.form.specs.Table.{plain}
use Rattle.form.specs.Scan.{Found, well, part, bad, scan}
use Rattle.form.specs.Text.{Item, stray, item}
use Rattle.straight.specs.declared.Straight.{Straight}
use Rattle.straight.specs.Straight.{straight_of}
use Rattle.straight.proofs.Laws.{well-told}
use Rattle.std.specs.Prelude.{Some, None}
use Rattle.std.proofs.lemmas.Option.{none-some}
use Rattle.forms.specs.declared.Form.TheVariants.{Plain}
use Rattle.forms.proofs.Forms.{form_ascii}
use Rattle.front.specs.Front.{Told, told, told_of}
use Rattle.front.specs.declared.Front.{Front}
use Rattle.front.specs.declared.Front.TheVariants.{Well, Partial, Bad}
use Rattle.item.specs.declared.Leaf.{Leaf}
use Rattle.item.specs.Leaf.{leaf, leaf_of, leaf_span, item_of}

-- one number is not another
other : {A : Type 0} (f : Front) (x : Found) (n : ℕ) → told f ≡ told_of x n → ((told f).number ≡ (told_of x n).number → ⊥) → A
other f x n e h = absurd (h (ap (λ (k : Told). k.number) e))

by_found : (f : Front) (b : ℕ) (t : List ℕ) (x : Found) → told f ≡ told_of x (suc (length t)) → item_of f b ≡ item x b t
by_found (Well c n) b t (well d m) e =
    let p : c ≡ d = ap (λ (k : Told). k.code) e in
    let q : n ≡ m = ap (λ (k : Told). k.len) e in
    rw (p, q) refl
by_found (Partial n) b t part e = ap (λ (m : ℕ). stray b m) (ap (λ (k : Told). k.len) e)
by_found (Bad n) b t (bad m) e = ap (λ (i : ℕ). stray b i) (ap (λ (k : Told). k.len) e)
by_found (Well c n) b t part e = other (Well c n) part (suc (length t)) e (λ z. omega arith)
by_found (Well c n) b t (bad m) e = other (Well c n) (bad m) (suc (length t)) e (λ z. omega arith)
by_found (Partial n) b t (well d m) e = other (Partial n) (well d m) (suc (length t)) e (λ z. omega arith)
by_found (Partial n) b t (bad m) e = other (Partial n) (bad m) (suc (length t)) e (λ z. omega arith)
by_found (Bad n) b t (well d m) e = other (Bad n) (well d m) (suc (length t)) e (λ z. omega arith)
by_found (Bad n) b t part e = other (Bad n) part (suc (length t)) e (λ z. omega arith)

pub by_front : (f : Front) (s : List ℕ) → 0 < length s → told f ≡ told_of (scan plain s) (length s) → Some (leaf (item_of f (get_or s 0 0))) ≡ leaf_of s
unfolding leaf_of
by_front f [] h e = absurd (omega arith)
by_front f (b ∷ t) h e = ap (λ (i : Item). Some (leaf i)) (by_found f b t (scan plain (b ∷ t)) e)

-- of no bytes
pub leaf_none : (s : List ℕ) → length s ≡ 0 → None ≡ leaf_of s
unfolding leaf_of
leaf_none [] e = refl
leaf_none (b ∷ s) e = absurd (omega arith)

-- ---- in a straight line

pub leaf_straight : (s : List ℕ) (q : Straight) → 0 < length s → Some q ≡ straight_of (scan plain s) → Some (record { code = q.code; span = q.len; subpart = None }) ≡ leaf_of s
unfolding leaf_of
leaf_straight [] q h e = absurd (omega arith)
leaf_straight (b ∷ s) q h e =
    let w = well-told (scan plain (b ∷ s)) q e in
    rw w refl

-- ---- the span alone

pub span_none : (s : List ℕ) → length s ≡ 0 → 0 ≡ leaf_span (leaf_of s)
unfolding leaf_of
span_none [] e = refl
span_none (b ∷ s) e = absurd (omega arith)

-- a byte below 80 is an item by itself
pub span-ascii : (s : List ℕ) → 0 < length s → get_or s 0 0 < 0x80 → 1 ≡ leaf_span (leaf_of s)
unfolding leaf_of
span-ascii [] h l = absurd (omega arith)
span-ascii (b ∷ s) h l = rw (form_ascii Plain b s l) refl

-- else it has the bytes of a sequence
pub span_straight : (s : List ℕ) (q : Straight) → 0 < length s → Some q ≡ straight_of (scan plain s) → q.len ≡ leaf_span (leaf_of s)
span_straight s q h e = ap leaf_span (leaf_straight s q h e)

-- or one
pub span_lost : (s : List ℕ) → 0 < length s → None ≡ straight_of (scan plain s) → 1 ≡ leaf_span (leaf_of s)
unfolding leaf_of
span_lost [] h e = absurd (omega arith)
span_lost (b ∷ s) h e = go (scan plain (b ∷ s)) e
  where
    go : (x : Found) → None ≡ straight_of x → 1 ≡ (leaf (item x b s)).span
    go (well c n) p = absurd (none-some _ p)
    go part p = refl
    go (bad n) p = refl

pub ruleset spans = (span_none, span-ascii, span_straight, span_lost)
