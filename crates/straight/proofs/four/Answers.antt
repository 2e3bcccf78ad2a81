-- Assumes nothing.
use Rattle.std.proofs.Common.{arith}
use Rattle.straight.proofs.Shapes.{lost_four, found_four, has_long, cesu-beyond}
use Rattle.straight.proofs.four.Goals as goal

pub returns-then-s-lt4 : goal.returns-then-s-lt4
returns-then-s-lt4 c = lost_four c.args.form c.args.s.now (omega arith) (λ x l h g. omega arith)

pub returns-then-not-is_tail : goal.returns-then-not-is_tail
returns-then-not-is_tail c = lost_four c.args.form c.args.s.now (omega arith) (λ x l h g. grind arith)

pub returns-then-not-is_tail-2 : goal.returns-then-not-is_tail-2
returns-then-not-is_tail-2 c = lost_four c.args.form c.args.s.now (omega arith) (λ x l h g. grind arith)

pub returns-then-not-is_tail-3 : goal.returns-then-not-is_tail-3
returns-then-not-is_tail-3 c = lost_four c.args.form c.args.s.now (omega arith) (λ x l h g. grind arith)

pub returns-then-code-lt65536 : goal.returns-then-code-lt65536
returns-then-code-lt65536 c = lost_four c.args.form c.args.s.now (omega arith) (λ x l h g. grind arith)

pub returns-in-Plain : goal.returns-in-Plain
returns-in-Plain c = found_four c.args.form c.args.s.now _ (omega arith) (grind arith) (has_long c.args.form _ c.in-Plain.is (omega arith) (omega arith))

pub returns-in-Cesu : goal.returns-in-Cesu
returns-in-Cesu c = lost_four c.args.form c.args.s.now (omega arith) (λ x l h g. cesu-beyond c.args.form x c.in-Cesu.is (grind arith) g)
