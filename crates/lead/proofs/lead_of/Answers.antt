-- Each arm of the match is a test that the checker computes at every byte of the arm. Assumes nothing.
use mathlib.Core.Logic.{◌⊎◌, inl, inr}
use Rattle.std.proofs.Common.{◌≡◌, arith, sym, ap, ◌∙◌, ℕ, ◌+◌, ◌≤◌, ◌<◌, Option}
use Rattle.std.proofs.Math.Dec.{T}
use Rattle.form.specs.Table as Table
use Rattle.form.specs.Table.{plain, surro, cesu, long_rows}
use Rattle.form.specs.Scan.{after}
use Rattle.form.proofs.Between.{between, between-at}
use Rattle.forms.specs.declared.Form.{Form}
use Rattle.forms.specs.declared.Form.TheVariants.{Plain, Surro}
use Rattle.lead.specs.declared.Lead.{Lead}
use Rattle.forms.specs.Forms.{rows_of}
use Rattle.lead.specs.Lead.{lead_of}
use Rattle.lead.proofs.Arms.{arm, arms, same_lead, same_lead_path}
use Rattle.lead.proofs.lead_of.Goals as goal

-- F0 and above lead by the long rows alone
long-leads : (F : Table.Form) → T (between 0xF0 16 (λ b. same_lead (lead_of (after b long_rows)) (lead_of (after b F)))) → (b : ℕ) → 0xF0 ≤ b → b < 0xF0 + 16
    → lead_of (after b long_rows) ≡ lead_of (after b F)
long-leads F t b h g = same_lead_path _ _ (between-at 0xF0 16 (λ x. same_lead (lead_of (after x long_rows)) (lead_of (after x F))) t b h g)

abbrev of_form : ℕ → Form → Option Lead
of_form b f = lead_of (after b (rows_of f))

pub returns-in-224 : goal.returns-in-224
unfolding plain surro cesu
returns-in-224 c = let a = c.args in c.leads.ensures ∙ arms 0xE0 1 _ tt tt tt a.form a.b (omega arith) (omega arith)

pub returns-in-Plain : goal.returns-in-Plain
unfolding plain
returns-in-Plain c =
    let a = c.args in
    c.leads-in-Plain.ensures ∙ arm plain 0xED 1 _ tt a.b (omega arith) (omega arith) ∙ ap (of_form a.b) (sym c.in-Plain.is)

pub returns-in-Surro : goal.returns-in-Surro
unfolding surro
returns-in-Surro c =
    let a = c.args in
    c.leads-in-Surro.ensures ∙ arm surro 0xED 1 _ tt a.b (omega arith) (omega arith) ∙ ap (of_form a.b) (sym c.in-Surro.is)

pub returns-in-Cesu : goal.returns-in-Cesu
unfolding cesu
returns-in-Cesu c =
    let a = c.args in
    c.leads-in-Cesu.ensures ∙ arm cesu 0xED 1 _ tt a.b (omega arith) (omega arith) ∙ ap (of_form a.b) (sym c.in-Cesu.is)

pub returns-in-0-to-127 : goal.returns-in-0-to-127
unfolding plain surro cesu
returns-in-0-to-127 c = let a = c.args in c.leads-in-0-to-127.ensures ∙ arms 0x0 128 _ tt tt tt a.form a.b (omega arith) (omega arith)

pub returns-in-128-to-193 : goal.returns-in-128-to-193
unfolding plain surro cesu
returns-in-128-to-193 c = let a = c.args in arms 0x80 66 _ tt tt tt a.form a.b (omega arith) (omega arith)

pub returns-in-194-to-223 : goal.returns-in-194-to-223
unfolding plain surro cesu
returns-in-194-to-223 c = let a = c.args in c.leads-in-194-to-223.ensures ∙ arms 0xC2 30 _ tt tt tt a.form a.b (omega arith) (omega arith)

pub returns-in-225-to-236 : goal.returns-in-225-to-236
unfolding plain surro cesu
returns-in-225-to-236 c = let a = c.args in c.leads-in-225-to-236.ensures ∙ arms 0xE1 12 _ tt tt tt a.form a.b (omega arith) (omega arith)

pub returns-in-238-to-239 : goal.returns-in-238-to-239
unfolding plain surro cesu
returns-in-238-to-239 c = let a = c.args in c.leads-in-238-to-239.ensures ∙ arms 0xEE 2 _ tt tt tt a.form a.b (omega arith) (omega arith)

-- so they do in UTF-8, with SURRO or without
long-leads_in : (f : Form) (b : ℕ) → (f ≡ Plain) ⊎ (f ≡ Surro) → 0xF0 ≤ b → b < 0xF0 + 16 → lead_of (after b long_rows) ≡ of_form b f
unfolding plain surro
long-leads_in f b (inl e) h g = long-leads plain tt b h g ∙ ap (of_form b) (sym e)
long-leads_in f b (inr e) h g = long-leads surro tt b h g ∙ ap (of_form b) (sym e)

pub returns-in-Plain-form : goal.returns-in-Plain-form
returns-in-Plain-form c = c.lead_long.ensures ∙ long-leads_in c.args.form c.args.b c.in-Plain-form.is (omega arith) (omega arith)

pub returns-in-Cesu-form : goal.returns-in-Cesu-form
unfolding cesu
returns-in-Cesu-form c =
    let a = c.args in
    arm cesu 0xF0 16 _ tt a.b (omega arith) (omega arith) ∙ ap (of_form a.b) (sym c.in-Cesu-form.is)
