-- Chains that come to every 64th item. Assumes nothing.
use mathlib.Core.Path.{◌≡◌, refl, sym, ap, ◌∙◌}
use mathlib.Core.Bool.{cond}
use mathlib.Core.List.{List, [], ◌∷◌, ◌++◌, map, append-nil}
use Prim.Native.Nat.{ℕ, zero, suc, ◌+◌, ◌≤◌}
use native.Mathlib.Omega.{arith}
use lib.ListN.{length, drop, length-map}
use lib.Seq.{drop-append_seam}
use Rattle.std.specs.Prelude.{Option, None, Some, IsTrue}
use Rattle.std.specs.declared.iter.StepBy.{StepBy}
use Rattle.std.specs.Iterator.{AlwaysYields, YieldsFirst}
use Rattle.std.specs.Iterator.Adapters.{step_by_source, step_by_gap, step_by_first_take, step_by_steps}
use Rattle.std.proofs.iter.Yields.{gives_left}
use Rattle.std.proofs.lemmas.Grind.{common_steps}
use Rattle.std.proofs.lemmas.Iterator.{YieldsList}
use Rattle.std.proofs.lemmas.Iterator.Consumers.{YieldsList-at}
use Rattle.log_index.specs.Index.{starts, every}
use Rattle.form.specs.Table.{plain}
use Rattle.form.specs.Text.{items}
use Rattle.bounds.specs.Cover.{place}
use Rattle.walk.specs.Walk.{ahead, extents_from}
use Rattle.walk.specs.declared.Extent.{Extent}
use Rattle.walk.specs.declared.Walk.{Walk}
use Rattle.walk.proofs.Ahead.{starts_are, YieldsList-from_walk}
use Rattle.log_index.proofs.Lists.{every_skip}
use Rattle.log_index.proofs.Starts.{starts-few, starts_from}

every-past : (n : ℕ) (l : List ℕ) → length l ≤ n → every n l ≡ []
every-past n [] h = refl
every-past zero (p ∷ l) h = absurd (omega arith)
every-past (suc n) (p ∷ l) h = every-past n l (omega arith)

-- the next is after n others
every-next : (n : ℕ) (l m : List ℕ) → length l ≡ n → every n (l ++ m) ≡ every 0 m
every-next n l m e = every_skip n (l ++ m) ∙ ap (λ (k : ℕ). every 0 (drop k (l ++ m))) (sym e) ∙ ap (every 0) (drop-append_seam l m)

module _ {S A : Type 0} (steps : S → Option A → S → Type 0) (v : A → ℕ) where
  ended : (more : List ℕ) (t u : S) → AlwaysYields steps v t more → steps t None u → more ≡ []
  ended [] t u e p = refl
  ended (y ∷ ys) t u e p = absurd (e.0 u p)

  went : (more : List ℕ) (t u : S) (x : A) → AlwaysYields steps v t more → steps t (Some x) u → (ys : List ℕ) × (more ≡ v x ∷ ys) × AlwaysYields steps v u ys
  went [] t u x e p = absurd (e x u p)
  went (y ∷ ys) t u x e p = (ys, ap (λ (w : ℕ). w ∷ ys) (sym (e.1 x u p).0), (e.1 x u p).1)

  -- ys is every 64th of what the source has left
  record Thinned (s : StepBy S) (ys : List ℕ) : Type 0 where
    pub all : List ℕ
    pub source : AlwaysYields steps v (step_by_source s) all
    pub gap : step_by_gap s ≡ 63
    pub are : ys ≡ every (cond (step_by_first_take s) 0 (step_by_gap s)) all

  thinned-none : (s t : StepBy S) (ys : List ℕ) → Thinned s ys → step_by_steps steps s None t → ys ≡ []
  thinned-none s t ys j (g, f, w) =
      let (n, xs, e, y, m) = w in
      let (more, a, b) = gives_left steps v xs j.all _ _ j.source y.1 in
      let z : j.all ≡ map v xs = a ∙ ap (λ (k : List ℕ). map v xs ++ k) (ended more _ _ b y.2) ∙ append-nil (map v xs) in
      j.are ∙ every-past (cond (step_by_first_take s) 0 (step_by_gap s)) j.all (omega (arith, ap length z, length-map xs v, m, e))

  thinned-some : (s t : StepBy S) (x : A) (ys : List ℕ) → Thinned s ys → step_by_steps steps s (Some x) t → (zs : List ℕ) × (ys ≡ v x ∷ zs) × Thinned t zs
  thinned-some s t x ys j (g, f, w) =
      let (n, xs, e, y, m) = w in
      let (more, a, b) = gives_left steps v xs j.all _ _ j.source y.1 in
      let (zs, h, d) = went more _ _ x b y.2 in
      let k = cond (step_by_first_take s) 0 (step_by_gap s) in
      let l : length (map v xs) ≡ k = omega (arith, length-map xs v, m, e) in
      let i : step_by_gap t ≡ 63 = g ∙ j.gap in
      (every 63 zs, j.are ∙ ap (every k) a ∙ every-next k (map v xs) more l ∙ ap (every 0) h, record { all = zs; source = d; gap = i; are = rw (f, i) refl })

  thinned : (ys : List ℕ) (s : StepBy S) → Thinned s ys → AlwaysYields (step_by_steps steps) v s ys
  thinned [] s j = λ x t p. let (zs, e, k) = thinned-some s t x [] j p in absurd (omega (arith, ap length e))
  thinned (y ∷ ys) s j = (
    λ t p. absurd (omega (arith, ap length (thinned-none s t (y ∷ ys) j p))),
    λ x t p.
        let (zs, e, k) = thinned-some s t x (y ∷ ys) j p in
        let (a, b) : (v x ≡ y) × (ys ≡ zs) = (cc, cc) in
        (a, thinned ys t (rw b k)),
  )

-- ---- from a place of a log on

-- no more codes than bytes
pub walk-few : (s : List ℕ) (p : ℕ) → length (extents_from s p) ≤ length s
walk-few s p = omega (arith, ap length (starts_are s p), length-map (extents_from s p) (λ (e : Extent). e.start), starts-few s p)

YieldsList-from_every : {S A : Type 0} {steps : S → Option A → S → Type 0} {v : A → ℕ} {ys : List ℕ} {s : StepBy S}
    → YieldsList steps v (step_by_source s) ys → step_by_gap s ≡ 63 → (k : ℕ) → k ≡ cond (step_by_first_take s) 0 63 → YieldsList (step_by_steps steps) v s (every k ys)
YieldsList-from_every {steps = steps} {v = v} {ys = ys} {s = s} r g k e =
    record { runs = thinned steps v (every k ys) s (record { all = ys; source = r.runs; gap = g; are = rw (g, e) refl }) }

-- `walk_from(log, q).step_by(64)` from the place behind k items on, by where each item starts
pub YieldsList-from_records : {w : Walk} {b : StepBy Walk} (s : List ℕ) (p k q : ℕ) → q ≡ p + place k (items plain 0 (drop p s)) → ahead w ≡ extents_from s q → step_by_source b ≡ w
    → step_by_gap b + 1 ≡ 64 → IsTrue (step_by_first_take b) → YieldsList (step_by_steps (YieldsFirst ahead)) (λ e. e.start) b (every k (starts s p))
YieldsList-from_records {w} {b} s p k q e f g d t =
    let first : ◌≡◌ {A = ℕ} 0 (cond (step_by_first_take b) 0 63) = grind (arith, common_steps) in
    let gap : step_by_gap b ≡ 63 = omega arith in
    let r : every k (starts s p) ≡ every 0 (starts s q) = every_skip k (starts s p) ∙ ap (every 0) (starts_from s p k) ∙ ap (λ (x : ℕ). every 0 (starts s x)) (sym e) in
    rw r (YieldsList-from_every {s = b} (YieldsList-at g (YieldsList-from_walk s q f)) gap 0 first)
