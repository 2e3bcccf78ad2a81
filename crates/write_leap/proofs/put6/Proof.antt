-- Six stores are one write of the pair. Assumes nothing.
use mathlib.Core.Path.{◌≡◌, refl}
use mathlib.Core.List.{[], ◌∷◌}
use Prim.Native.Nat.{suc, ◌+◌, ◌-◌, ◌/◌, ◌%◌}
use native.Mathlib.Omega.{arith}
use borrow.Author.Rules.{rules}
use lib.ListN.{length-set}
use lib.Seq.{sets-eq}
use Rattle.form.proofs.Cesu.{cesu-long}
use Rattle.write_leap.proofs.put6.Statement.{statement}
use Rattle.write_leap.proofs.put6.Tie as tie

returns : tie.Need-returns
returns c =
    let s = c.before.before.before in
    let n = s.args.n in
    let x = s.args.c in
    let u = (x - 0x10000) / 0x400 in
    let l = (x - 0x10000) % 0x400 in
    let e1 : n + 1 ≡ suc n = omega arith in
    let e2 : n + 2 ≡ suc (suc n) = omega arith in
    let e3 : n + 3 ≡ suc (suc (suc n)) = omega arith in
    let e4 : n + 4 ≡ suc (suc (suc (suc n))) = omega arith in
    let e5 : n + 5 ≡ suc (suc (suc (suc (suc n)))) = omega arith in
    rw (e1, e2, e3, e4, e5, c.mark.ensures, c.mark-2.ensures, cesu-long x u l refl refl s.requires.0 s.requires.1)
    (sets-eq (0xED ∷ (0xA0 + u / 0x40) ∷ (0x80 + u % 0x40) ∷ 0xED ∷ (0xB0 + l / 0x40) ∷ (0x80 + l % 0x40) ∷ []) s.args.dst.now n s.requires.2)

pub put6_spec : {M : Type 1} → statement M
put6_spec =
    tie.close
    (tie.spec
    (λ c. omega (arith, c.requires.0))
    (λ c. omega (arith, c.requires.0))
    (λ c. omega (arith, c.requires.2))
    (λ c. omega (arith, c.requires))
    (λ c. omega (arith, c.requires))
    (λ c. omega (arith, c.requires.2))
    (λ c. simp length-set (omega (arith, c.requires.2)))
    (λ c κs. search rules)
    (λ c. omega (arith, c.requires.2))
    (λ c. simp length-set (omega (arith, c.requires.2)))
    (λ c. omega (arith, c.requires.2))
    (λ c. simp length-set (omega (arith, c.requires.2)))
    (λ c. omega (arith, c.requires))
    (λ c. omega (arith, c.requires))
    (λ c. omega (arith, c.requires.2))
    (λ c. simp length-set (omega (arith, c.requires.2)))
    (λ c κs. search rules)
    (λ c. omega (arith, c.requires.2))
    (λ c. simp length-set (omega (arith, c.requires.2)))
    (λ c. simp length-set refl)
    returns)
