-- Forms in which no sequence begins inside another. Assumes nothing.
use mathlib.Core.List.{List}
use Prim.Native.Nat.{ℕ, suc, ◌≤◌}
use lib.ListN.{length}
use Rattle.form.specs.Table.{Form, plain, surro, Codes}
use Rattle.form.proofs.Tests.{Regular}
use Rattle.form.proofs.Part.{codes-length}
use Rattle.form.proofs.Laws.{Scans, Leads}
use Rattle.form.proofs.Utf8.{plain-regular, plain-scans, plain-leads, surro-regular, surro-scans, surro-leads}

-- a sequence has at most k bytes after its first
pub record Apart (F : Form) (k : ℕ) : Type 0 where
  pub regular : Regular F
  pub scans : Scans F (suc k)
  pub leads : Leads F
  pub most : (w : List ℕ) (c : ℕ) → Codes F w c → length w ≤ suc k

pub plain-apart : Apart plain 3
unfolding plain
plain-apart = record { regular = plain-regular; scans = plain-scans; leads = plain-leads; most = λ w c. codes-length 4 plain w c tt }

pub surro-apart : Apart surro 3
unfolding surro
surro-apart = record { regular = surro-regular; scans = surro-scans; leads = surro-leads; most = λ w c. codes-length 4 surro w c tt }
