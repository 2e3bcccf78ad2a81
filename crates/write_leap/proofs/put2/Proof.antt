-- Two stores are one write of the code's bytes. Assumes nothing.
use native.Mathlib.Omega.{arith}
use borrow.Author.Rules.{rules}
use lib.ListN.{length-set}
use Rattle.writings.proofs.Leaps.{put_two}
use Rattle.write_leap.proofs.put2.Statement.{statement}
use Rattle.write_leap.proofs.put2.Tie as tie

returns : tie.Need-returns
returns c = let s = c.before.before in put_two s.args.dst.now s.args.n s.args.c _ s.requires.0 s.requires.1 s.requires.2 c.mark.ensures

pub put2_spec : {M : Type 1} → statement M
put2_spec =
    tie.close
    (tie.spec
    (λ c. search rules)
    (λ c. search rules)
    (λ c. search rules)
    (λ c κs. search rules)
    (λ c. search rules)
    (λ c. simp length-set (omega arith))
    (λ c. search rules)
    returns)
