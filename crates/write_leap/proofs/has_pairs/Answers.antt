use Rattle.std.proofs.Common.{◌≡◌, ℕ, ◌≤◌, ◌<◌, refl, arith}
use mathlib.Core.Logic.{inl, inr}
use Rattle.form.specs.Pattern.{pattern}
use Rattle.form.specs.Text.{sequence}
use Rattle.form.proofs.Cesu.{cesu-scalar}
use Rattle.form.proofs.Sequences.{plain-scalar, surro_all}
use Rattle.forms.specs.declared.Form.{Form}
use Rattle.forms.specs.declared.Form.TheVariants.{Plain, Surro, Cesu}
use Rattle.forms.specs.Forms.{rows_of}
use Rattle.write_leap.proofs.has_pairs.Goals as goal

pub returns-in-Cesu : goal.returns-in-Cesu
returns-in-Cesu c x h k = rw c.in-Cesu.is (cesu-scalar x (inr (inl (omega arith))))

in_others : (f : Form) → (f ≡ Cesu → ⊥) → (x : ℕ) → 0xFFFF < x → x ≤ 0x10FFFF → sequence (rows_of f) x ≡ pattern x
in_others Plain n x h k = plain-scalar x (inr (inl (omega arith)))
in_others Surro n x h k = surro_all x k
in_others Cesu n x h k = absurd (n refl)

pub returns-in_default : goal.returns-in_default
returns-in_default c = in_others c.args.form c.in_default.not-Cesu
