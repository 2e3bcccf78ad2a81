-- What the entries for an index answer and leave: after another number than 0 every lent number and byte is as it was. Assumes nothing.
use Rattle.std.specs.Prelude.{cond, List, ℕ, eqb}
use Rattle.std.proofs.Math.Option.{Option, none, some}
use Rattle.form.specs.Text.{span, code}
use Rattle.bounds.specs.Cover as Cover
use Rattle.numbers.specs.Number.{over}
use Rattle.log_index.specs.Update.{Indexing}

-- ---- finding: the answer, and the place

pub record Placed : Type 0 where
  pub answer : ℕ
  pub place : ℕ

abbrev pub placed : ℕ → ℕ → Placed
placed q p = record { answer = q; place = p }

abbrev pub found : Option ℕ → ℕ → Placed
found none held = placed 15 held
found (some p) held = placed 0 p

-- ---- covering: the answer, and where the item starts, its length and its code

pub record Told : Type 0 where
  pub answer : ℕ
  pub start : ℕ
  pub len : ℕ
  pub code : ℕ

abbrev pub told : ℕ → ℕ → ℕ → ℕ → Told
told q start len c = record { answer = q; start = start; len = len; code = c }

abbrev pub covered : Cover.Cover → ℕ → ℕ → ℕ → Told
covered Cover.none start len c = told 15 start len c
covered (Cover.covers q i) start len c = told 0 q (span i) (code i)

-- ---- building and updating: the answer, the buffer, and how many records it has

pub record Indexed : Type 0 where
  pub answer : ℕ
  pub index : List ℕ
  pub records : ℕ

abbrev pub indexed : ℕ → List ℕ → ℕ → Indexed
indexed q w n = record { answer = q; index = w; records = n }

abbrev pub filled : Indexing → List ℕ → ℕ → Indexed
filled I w held = indexed I.number (over I.bytes w) (cond (eqb I.number 0) I.records held)
