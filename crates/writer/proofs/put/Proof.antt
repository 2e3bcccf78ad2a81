-- Each store pastes one byte more. Assumes nothing.
use mathlib.Core.Path.{◌≡◌, refl}
use mathlib.Core.List.{List}
use Prim.Native.Nat.{ℕ, zero, suc, ◌+◌, ◌≤◌}
use native.Mathlib.Nat.{add-zero}
use native.Mathlib.Omega.{arith}
use lib.ListN.{length, get_or, set, length-set}
use lib.Seq.{paste, paste-zero, paste-suc}
use borrow.Author.Rules.{rules}
use Rattle.writer.proofs.put.Statement.{statement}
use Rattle.writer.proofs.put.Tie as tie

-- the bytes at 0 to j, stored one by one
abbrev stored : List ℕ → ℕ → List ℕ → ℕ → List ℕ
stored d n b zero = set d n (get_or b 0 0)
stored d n b (suc j) = set (stored d n b j) (n + suc j) (get_or b (suc j) 0)

pasted : (d : List ℕ) (n : ℕ) (b : List ℕ) (j : ℕ) → n + suc j ≤ length d → suc j ≤ length b → stored d n b j ≡ paste d n b (suc j)
pasted d n b zero h g = rw (← paste-zero d n b, add-zero n) at (paste-suc d n b 0 0 (omega arith) g)
pasted d n b (suc j) h g = rw (pasted d n b j (omega arith) (omega arith)) (paste-suc d n b (suc j) 0 (omega arith) g)

-- where the byte at j is the last
all_stored : (c : tie.Start) (j : ℕ) → c.args.w.count ≡ suc j
    → stored c.args.dst.now c.args.n c.args.w.bytes j ≡ paste c.args.dst.now c.args.n c.args.w.bytes c.args.w.count
all_stored c j e =
    let a = c.args in
    let six : length a.w.bytes ≡ 6 = search rules in
    rw e (pasted a.dst.now a.n a.w.bytes j (omega arith) (omega arith))

pub put_spec : {M : Type 1} → statement M
put_spec =
    tie.close
    (tie.spec
    (λ c. search rules)
    (λ c. search rules)
    (λ c. simp length-set refl)
    (λ c. all_stored c.before.before 0 c.if-w-eq1.true)
    (λ c. search rules)
    (λ c. search rules)
    (λ c. simp length-set (omega arith))
    (λ c. simp length-set refl)
    (λ c. all_stored c.before.before.before.before 1 c.if-w-eq2.true)
    (λ c. search rules)
    (λ c. search rules)
    (λ c. simp length-set (omega arith))
    (λ c. simp length-set refl)
    (λ c. all_stored c.before.before.before.before.before.before 2 c.if-w-eq3.true)
    (λ c. search rules)
    (λ c. search rules)
    (λ c. simp length-set (omega arith))
    (λ c. simp length-set refl)
    (λ c. all_stored c.before.before.before.before.before.before.before.before 3 c.if-w-eq4.true)
    (λ c. search rules)
    (λ c. search rules)
    (λ c. simp length-set (omega arith))
    (λ c. simp length-set refl)
    (λ c. all_stored c.before.before.before.before.before.before.before.before.before.before 4 c.if-w-eq5.true)
    (λ c. search rules)
    (λ c. search rules)
    (λ c. simp length-set (omega arith))
    (λ c. simp length-set refl)
    (λ c. all_stored c.before.before.before.before.before.before.before.before.before.before.before 5 (omega arith)))
