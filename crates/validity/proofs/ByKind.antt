-- The kind of a record, by its number, its layout and the test of that kind. Assumes nothing.
use Rattle.std.proofs.Common.{◌≡◌, ℕ, ◌≤◌, ◌<◌, Bool, true, false, ◌&&◌, List, Option, Some, None, Result, Ok, Err, length, take, drop, ltb, eqb, refl, sym, ap, ◌∙◌}
use Rattle.std.specs.Prelude.{cond}
use Rattle.std.specs.Bool.{then_some}
use Rattle.std.specs.List.{IsSplitAt}
use Rattle.std.specs.Result.{result_ok}
use Rattle.form.specs.Table.{◌to◌, Form, tail}
use Rattle.form.specs.Scan.{in?, scan}
use Rattle.state.specs.declared.Kind.{Kind}
use Rattle.state.specs.declared.Kind.TheVariants.{Starting, Partial, Trail, Low, High}
use Rattle.state.specs.declared.UnknownKind.{UnknownKind}
use Rattle.state.specs.Kinds.{number_of, Numbered}
use Rattle.state.specs.Meaning.{Meaning, Sense, starting, held, trail, low, high, valid, valid_if, part?, each, unit, meaning, sense}
use Rattle.state.proofs.Sense.{is_starting, is_held, is-trail, is_low, is-high, is_none, sense-beyond, sense-clear, sense-unclear}
use Rattle.validity.specs.Validity.{kind_of}

-- ---- the number

pub numbered : (n : ℕ) (r : Result Kind UnknownKind) (k : Kind) → Numbered n r → result_ok r ≡ Some k → number_of k ≡ n
numbered n (Ok j) k h e = let q : j ≡ k = cc in ap number_of (sym q) ∙ h
numbered n (Err x) k h e = cc

pub unnumbered : (n : ℕ) (r : Result Kind UnknownKind) → Numbered n r → result_ok r ≡ None → 4 < n
unnumbered n (Ok j) h e = cc
unnumbered n (Err x) h e = h.1

-- ---- by a test of its own

kind_by : (t : Bool) (m : Meaning) → kind_of (valid_if t m) ≡ cond t (kind_of (valid m)) None
kind_by true m = refl
kind_by false m = refl

-- a result that is the kind of m where the test t holds
pub by_test : (s : Sense) (r : Option Kind) (t u : Bool) (m : Meaning) → r ≡ cond t (kind_of (valid m)) None → t ≡ u → s ≡ valid_if u m → r ≡ kind_of s
by_test s r t u m e f g = e ∙ ap (λ (v : Bool). cond v (kind_of (valid m)) None) f ∙ sym (ap kind_of g ∙ kind_by u m)

-- ---- the test of a kind

kind_if : (t : Bool) (m : Meaning) (k : Kind) → kind_of (valid m) ≡ Some k → then_some t k ≡ cond t (kind_of (valid m)) None
kind_if true m k e = sym e
kind_if false m k e = refl

module _ (F : Form) (k : Kind) (d : List ℕ) (t : Bool) where
  pub starting_by : k ≡ Starting → t ≡ eqb (length d) 0 → then_some t k ≡ kind_of (meaning F (number_of k) d)
  starting_by e q = rw e (by_test (meaning F 0 d) (then_some t Starting) t _ starting (kind_if t starting Starting refl) q (is_starting F 0 d refl))

  pub partial_by : k ≡ Partial → t ≡ (ltb 0 (length d) && part? (scan F d)) → then_some t k ≡ kind_of (meaning F (number_of k) d)
  partial_by e q = rw e (by_test (meaning F 1 d) (then_some t Partial) t _ (held d) (kind_if t (held d) Partial refl) q (is_held F 1 d refl))

  pub trail_by : k ≡ Trail → t ≡ (in? (1 to 3) (length d) && each tail d) → then_some t k ≡ kind_of (meaning F (number_of k) d)
  trail_by e q = rw e (by_test (meaning F 2 d) (then_some t Trail) t _ (trail d) (kind_if t (trail d) Trail refl) q (is-trail F 2 d refl))

  pub low_by : k ≡ Low → t ≡ (eqb (length d) 2 && in? (0xDC00 to 0xDFFF) (unit d)) → then_some t k ≡ kind_of (meaning F (number_of k) d)
  low_by e q = rw e (by_test (meaning F 3 d) (then_some t Low) t _ (low (unit d)) (kind_if t (low (unit d)) Low refl) q (is_low F 3 d refl))

  pub high_by : k ≡ High → t ≡ (eqb (length d) 2 && in? (0xD800 to 0xDBFF) (unit d)) → then_some t k ≡ kind_of (meaning F (number_of k) d)
  high_by e q = rw e (by_test (meaning F 4 d) (then_some t High) t _ (high (unit d)) (kind_if t (high (unit d)) High refl) q (is-high F 4 d refl))

-- ---- the layout

module _ (F : Form) (n : ℕ) (places : List ℕ) where
  pub beyond : (k : ℕ) → length places < n → None ≡ kind_of (sense F k n places)
  beyond k h = rw (sense-beyond F k n places h) refl

  pub unknown : (k : ℕ) → n ≤ length places → 4 < k → None ≡ kind_of (sense F k n places)
  unknown k l h = go (each (0 to 0) (drop n places)) refl
    where
      go : (t : Bool) → each (0 to 0) (drop n places) ≡ t → None ≡ kind_of (sense F k n places)
      go true e = rw (sense-clear F k n places l e, is_none F k (take n places) h) refl
      go false e = rw (sense-unclear F k n places l e) refl

  -- the places split at the count m, as it is
  module _ (kind : Kind) (k m : ℕ) (used unused : List ℕ) (e : number_of kind ≡ k) (f : m ≡ n) (p : IsSplitAt places m used unused) where
    clear_places : (t : Bool) → t ≡ each (0 to 0) unused → each (0 to 0) (drop n places) ≡ t
    clear_places t c = rw (p.2, f) at (sym c)

    within : n ≤ length places
    within = rw f at p.0

    pub clear : (t : Bool) → true ≡ each (0 to 0) unused → then_some t kind ≡ kind_of (meaning F (number_of kind) used) → then_some t kind ≡ kind_of (sense F k n places)
    clear t c q = rw (← e, sense-clear F (number_of kind) n places within (clear_places true c)) (rw (p.1, f) at q)

    pub unclear : false ≡ each (0 to 0) unused → None ≡ kind_of (sense F k n places)
    unclear c = rw (sense-unclear F k n places within (clear_places false c)) refl
