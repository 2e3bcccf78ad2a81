-- A shift is a quotient. Assumes nothing.
use mathlib.Core.Path.{refl}
use Prim.Native.Nat.{◌<◌}
use native.Mathlib.Omega.{arith}
use borrow.Author.Rules.{rules}
use borrow.Author.Tests.{lt-ltb, le-ltb}
use Rattle.classes.specs.Class.{digit_of}
use Rattle.classes.proofs.digit.Statement.{statement}
use Rattle.classes.proofs.digit.Tie as tie

returns : tie.Need-returns-then-place-gt15
unfolding digit_of
returns c = search (lt-ltb, le-ltb)

returns-2 : tie.Need-returns
unfolding digit_of
returns-2 c = let p = c.args.place in let h : p < 16 = omega arith in rw (lt-ltb p 16 h) refl

pub digit_spec : {M : Type 1} → statement M
digit_spec = tie.close (tie.spec returns (λ c. search rules) (λ c. search rules) returns-2)
