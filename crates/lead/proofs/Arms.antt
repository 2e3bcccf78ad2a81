-- What the first byte says: one computed test for each arm of the match. Assumes nothing.
use mathlib.Core.Path.{◌≡◌, refl}
use mathlib.Core.Bool.{Bool, true, false, ◌&&◌}
use Prim.Native.Nat.{ℕ, ◌+◌, ◌≤◌, ◌<◌}
use Rattle.std.specs.Prelude.{Option, Some, None}
use lib.Dec.{T, eqb, eqb→eq}
use Rattle.form.specs.Table as Table
use Rattle.form.specs.Table.{plain, surro, cesu}
use Rattle.form.specs.Scan.{after}
use Rattle.form.proofs.Rows.{both}
use Rattle.form.proofs.Between.{between, between-at}
use Rattle.forms.specs.declared.Form.{Form}
use Rattle.lead.specs.declared.Lead.{Lead}
use Rattle.forms.specs.Forms.{rows_of}
use Rattle.lead.specs.Lead.{lead_of}
use Rattle.forms.proofs.Forms.{every_form}

abbrev pub same_lead : Option Lead → Option Lead → Bool
same_lead (Some a) (Some b) = eqb a.len b.len && (eqb a.lo b.lo && eqb a.hi b.hi)
same_lead None None = true
same_lead (Some a) None = false
same_lead None (Some b) = false

pub same_lead_path : (a b : Option Lead) → T (same_lead a b) → a ≡ b
same_lead_path (Some a) (Some b) t =
    let (l, u) = both (eqb a.len b.len) (eqb a.lo b.lo && eqb a.hi b.hi) t in
    let (p, q) = both (eqb a.lo b.lo) (eqb a.hi b.hi) u in
    let x = eqb→eq a.len b.len l in
    let y = eqb→eq a.lo b.lo p in
    let z = eqb→eq a.hi b.hi q in
    λ i. Some (record { len = x i; lo = y i; hi = z i })
same_lead_path None None t = refl
same_lead_path (Some a) None t = absurd t
same_lead_path None (Some b) t = absurd t

-- the byte leads as l says
abbrev pub leads_as : Option Lead → Table.Form → ℕ → Bool
leads_as l F b = same_lead l (lead_of (after b F))

leads_as_path : (l : Option Lead) (F : Table.Form) (b : ℕ) → T (leads_as l F b) → l ≡ lead_of (after b F)
leads_as_path l F b t = same_lead_path l (lead_of (after b F)) t

-- by the rows F each of the n bytes from lo on leads so; and by those of every form
pub arm : (F : Table.Form) (lo n : ℕ) (l : Option Lead) → T (between lo n (leads_as l F)) → (b : ℕ) → lo ≤ b → b < lo + n → l ≡ lead_of (after b F)
arm F lo n l t b h g = leads_as_path l F b (between-at lo n (leads_as l F) t b h g)

pub arms : (lo n : ℕ) (l : Option Lead) → T (between lo n (leads_as l plain)) → T (between lo n (leads_as l surro)) → T (between lo n (leads_as l cesu)) → (f : Form) (b : ℕ) → lo ≤ b → b < lo + n
    → l ≡ lead_of (after b (rows_of f))
arms lo n l t u v f b h g = leads_as_path l (rows_of f) b (every_form (leads_as l) lo n t u v f b h g)
