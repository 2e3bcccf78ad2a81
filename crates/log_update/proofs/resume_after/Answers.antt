use Rattle.std.proofs.Common.{◌≡◌, ℕ, suc, ap, sym, ◌∙◌, arith}
use Rattle.numbers.specs.Number.{values_in}
use Rattle.log_update.specs.Resumption.{last_of}
use Rattle.log_update.proofs.Standing.{last-is}
use Rattle.log_update.proofs.resume_after.Goals as goal

pub returns-in-Some-clause-place : goal.returns-in-Some-clause-place
returns-in-Some-clause-place c =
    let n : c.args.count ≡ suc c.in-Some.last = omega (arith, c.in-Some.ensures) in
    c.number_of.ensures ∙ last-is c.args.index.now 0 c.in-Some.last ∙ ap (λ (k : ℕ). last_of 0 (values_in 8 k c.args.index.now)) (sym n)
