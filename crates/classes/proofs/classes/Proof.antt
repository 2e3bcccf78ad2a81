-- Each row is computed at its high digit. Assumes nothing.
use native.Mathlib.Omega.{arith}
use Rattle.classes.specs.Class.{ranges, class_of, classes_of}
use Rattle.classes.proofs.Rows.{row_computed, none_below}
use Rattle.classes.proofs.classes.Statement.{statement}
use Rattle.classes.proofs.classes.Tie as tie

returns : tie.Need-returns-in-0
unfolding ranges class_of classes_of
returns c = row_computed classes_of 0x0 _ _ c.in-0.is tt

returns-2 : tie.Need-returns-in-1
unfolding ranges class_of classes_of
returns-2 c = row_computed classes_of 0x1 _ _ c.in-1.is tt

returns-3 : tie.Need-returns-in-2
unfolding ranges class_of classes_of
returns-3 c = row_computed classes_of 0x2 _ _ c.in-2.is tt

returns-4 : tie.Need-returns-in-3
unfolding ranges class_of classes_of
returns-4 c = row_computed classes_of 0x3 _ _ c.in-3.is tt

returns-5 : tie.Need-returns-in-4
unfolding ranges class_of classes_of
returns-5 c = row_computed classes_of 0x4 _ _ c.in-4.is tt

returns-6 : tie.Need-returns-in-5
unfolding ranges class_of classes_of
returns-6 c = row_computed classes_of 0x5 _ _ c.in-5.is tt

returns-7 : tie.Need-returns-in-6
unfolding ranges class_of classes_of
returns-7 c = row_computed classes_of 0x6 _ _ c.in-6.is tt

returns-8 : tie.Need-returns-in-7
unfolding ranges class_of classes_of
returns-8 c = row_computed classes_of 0x7 _ _ c.in-7.is tt

returns-9 : tie.Need-returns-in-8
unfolding ranges class_of classes_of
returns-9 c = row_computed classes_of 0x8 _ _ c.in-8.is tt

returns-10 : tie.Need-returns-in-9
unfolding ranges class_of classes_of
returns-10 c = row_computed classes_of 0x9 _ _ c.in-9.is tt

returns-11 : tie.Need-returns-in-10
unfolding ranges class_of classes_of
returns-11 c = row_computed classes_of 0xA _ _ c.in-10.is tt

returns-12 : tie.Need-returns-in-11
unfolding ranges class_of classes_of
returns-12 c = row_computed classes_of 0xB _ _ c.in-11.is tt

returns-13 : tie.Need-returns-in-12
unfolding ranges class_of classes_of
returns-13 c = row_computed classes_of 0xC _ _ c.in-12.is tt

returns-14 : tie.Need-returns-in-13
unfolding ranges class_of classes_of
returns-14 c = row_computed classes_of 0xD _ _ c.in-13.is tt

returns-15 : tie.Need-returns-in-14
unfolding ranges class_of classes_of
returns-15 c = row_computed classes_of 0xE _ _ c.in-14.is tt

returns-16 : tie.Need-returns-in_default
unfolding ranges class_of classes_of
returns-16 c = row_computed classes_of 0xF c.args.high _ (omega (arith, c.requires, none_below 15 _ c.in_default.in_default-own.rest)) tt

pub classes_spec : {M : Type 1} → statement M
classes_spec =
    tie.close
    (tie.spec
    returns
    returns-2
    returns-3
    returns-4
    returns-5
    returns-6
    returns-7
    returns-8
    returns-9
    returns-10
    returns-11
    returns-12
    returns-13
    returns-14
    returns-15
    returns-16)
