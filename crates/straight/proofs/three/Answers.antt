-- Assumes nothing.
use Rattle.std.proofs.Common.{arith}
use Rattle.straight.proofs.Shapes.{lost_three, found-three, has_low, has_high, surro_all, plain-surrogate, plain_unpaired}
use Rattle.straight.proofs.three.Goals as goal

pub returns-then-s-lt3 : goal.returns-then-s-lt3
returns-then-s-lt3 c = lost_three c.args.form c.args.s.now (omega arith) (λ x l h g. omega arith) (λ l h g. omega arith)

pub returns-then-not-is_tail : goal.returns-then-not-is_tail
returns-then-not-is_tail c = lost_three c.args.form c.args.s.now (omega arith) (λ x l h g. grind arith) (λ l h g. grind arith)

pub returns-then-not-is_tail-2 : goal.returns-then-not-is_tail-2
returns-then-not-is_tail-2 c = lost_three c.args.form c.args.s.now (omega arith) (λ x l h g. grind arith) (λ l h g. grind arith)

pub returns-in-0-to-2047 : goal.returns-in-0-to-2047
returns-in-0-to-2047 c = lost_three c.args.form c.args.s.now (omega arith) (λ x l h g. grind arith) (λ l h g. grind arith)

pub returns-in-Plain : goal.returns-in-Plain
returns-in-Plain c =
    lost_three c.args.form c.args.s.now (omega arith) (λ x l h g. plain-surrogate c.args.form x c.in-Plain.is (grind arith) g) (λ l h g. plain_unpaired c.args.form c.in-Plain.is g)

pub returns-in-Surro : goal.returns-in-Surro
returns-in-Surro c = found-three c.args.form c.args.s.now _ (omega arith) (grind arith) (surro_all c.args.form _ c.in-Surro.is (omega arith))

pub returns-in_default : goal.returns-in_default
returns-in_default c = found-three c.args.form c.args.s.now _ (omega arith) (grind arith) (has_low c.args.form _ (omega arith))

pub returns-in_default-2 : goal.returns-in_default-2
returns-in_default-2 c = found-three c.args.form c.args.s.now _ (omega arith) (grind arith) (has_high c.args.form _ (omega arith) (grind arith))
