-- The tables agree with the ranges: at each form and at each stage, one test over all bytes. Assumes nothing.
use mathlib.Core.Path.{◌≡◌, refl, sym, ap, ◌∙◌}
use mathlib.Core.Bool.{Bool, true, false}
use mathlib.Core.List.{[]}
use Prim.Native.Nat.{ℕ, ◌≤◌, ◌<◌}
use native.Mathlib.Omega.{arith}
use lib.Dec.{T, eqb, ltb, eqb→eq}
use lib.ListN.{get_or-eq_default}
use borrow.Author.Tests.{ltb-true, ltb-false}
use Rattle.form.specs.Table as Table
use Rattle.form.specs.Table.{plain, surro, cesu}
use Rattle.form.specs.Scan.{after}
use Rattle.form.proofs.Between.{between, between-at}
use Rattle.forms.specs.declared.Form.{Form}
use Rattle.forms.specs.Forms.{rows_of}
use Rattle.forms.proofs.Forms.{every_form}
use Rattle.classes.specs.Class.{ranges, class_of, digit_of}
use Rattle.classes.proofs.Rows as Rows
use Rattle.lead.specs.Lead.{lead_of}
use Rattle.classify.specs.Stage.{stages, left, stage_of, nexts_of}
use Rattle.classify.proofs.Stages.{stage_by, lead_stage}

-- by its class a byte leads to the stage that it leaves
abbrev pub ByClass : Table.Form → ℕ → Type 0
ByClass F b = digit_of (nexts_of F) (class_of b) ≡ stage_of (after b F)

-- a row of the tables, by a test that is computed at its form or its stage
pub row_computed : (F G : Table.Form) (n : ℕ) → G ≡ F → T (eqb n (nexts_of F)) → n ≡ nexts_of G
row_computed F G n e t = Rows.row_computed nexts_of F G n e t

agrees : Table.Form → ℕ → Bool
agrees F b = eqb (digit_of (nexts_of F) (class_of b)) (stage_of (after b F))

pub first_by_class : (f : Form) (b : ℕ) → b < 256 → ByClass (rows_of f) b
unfolding plain surro cesu ranges class_of digit_of stages stage_of nexts_of agrees
first_by_class f b h = eqb→eq _ _ (every_form agrees 0 256 tt tt tt f b (omega arith) h)

-- and to the stage that the match with ranges, `lead_of`, has for a first byte
pub lead_by_class : (f : Form) (b : ℕ) → b < 256 → digit_of (nexts_of (rows_of f)) (class_of b) ≡ stage_by f (lead_of (after b (rows_of f)))
lead_by_class f b h = first_by_class f b h ∙ sym (lead_stage f b h)

stage_agrees : ℕ → Bool
stage_agrees n = between 0 256 (agrees (left n))

stage_by_class : (n b : ℕ) → n < 13 → b < 256 → ByClass (left n) b
unfolding ranges class_of digit_of stages left stage_of nexts_of agrees stage_agrees
stage_by_class n b h g = eqb→eq _ _ (between-at 0 256 (agrees (left n)) (between-at 0 13 stage_agrees tt n (omega arith) h) b (omega arith) g)

-- what is no stage leaves what BAD leaves
left-beyond : (n : ℕ) → 13 ≤ n → left n ≡ left 0
unfolding stages left
left-beyond n h = get_or-eq_default stages [] h

pub next_by_class : (n b : ℕ) → b < 256 → ByClass (left n) b
next_by_class n b h = go (ltb n 13) refl
  where
    go : (t : Bool) → ltb n 13 ≡ t → ByClass (left n) b
    go true e = stage_by_class n b (ltb-true n 13 e) h
    go false e = rw (left-beyond n (ltb-false n 13 e)) (stage_by_class 0 b (omega arith) h)

-- ---- the rows of the tables

-- by the row n, and the class k of the byte
pub by_row : (F : Table.Form) (b n k r : ℕ) → ByClass F b → r ≡ digit_of n k → n ≡ nexts_of F → k ≡ class_of b → r ≡ stage_of (after b F)
by_row F b n k r h e p q = e ∙ ap (λ (m : ℕ). digit_of m k) p ∙ ap (digit_of (nexts_of F)) q ∙ h

-- what is no stage has the row of BAD
pub row-beyond : (n : ℕ) → 13 ≤ n → 0 ≡ nexts_of (left n)
unfolding ranges stages left stage_of nexts_of
row-beyond n h = rw (left-beyond n h) refl
