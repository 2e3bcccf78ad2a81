-- Assumes nothing.
use Rattle.std.proofs.Common.{arith}
use Rattle.straight.proofs.Shapes.{lost_pair, found-pair}
use Rattle.straight.proofs.pair.Goals as goal

pub returns-then-high-gt56319 : goal.returns-then-high-gt56319
returns-then-high-gt56319 c = let a = c.args in lost_pair a.s.now a.high (omega arith) (omega arith) (omega arith) (λ l h. grind arith)

pub returns-then-s : goal.returns-then-s
returns-then-s c = let a = c.args in lost_pair a.s.now a.high (omega arith) (omega arith) (omega arith) (λ l h. grind arith)

pub returns-then-e-lt176 : goal.returns-then-e-lt176
returns-then-e-lt176 c = let a = c.args in lost_pair a.s.now a.high (omega arith) (omega arith) (omega arith) (λ l h. grind arith)

pub returns-then-not-is_tail : goal.returns-then-not-is_tail
returns-then-not-is_tail c = let a = c.args in lost_pair a.s.now a.high (omega arith) (omega arith) (omega arith) (λ l h. grind arith)

pub returns : goal.returns
returns c = let a = c.args in found-pair a.s.now _ (grind arith) (grind arith) (grind arith)
