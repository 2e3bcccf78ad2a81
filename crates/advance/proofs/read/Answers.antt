-- What the leaf finds in the window. Assumes nothing.
use Rattle.std.proofs.Common.{◌≡◌, ℕ, ◌-◌, ◌∙◌, length, arith, rules, ap, sym}
use Rattle.forms.proofs.Forms.{form_scans}
use Rattle.advance.proofs.Windows.{finds, is_some, bad-few, is_bad, is_well, code-after}
use Rattle.advance.proofs.read.Goals as goal

pub overflow_cast-len : goal.overflow_cast-len
overflow_cast-len c =
    let l : length c.args.s.bytes ≡ 14 = search rules in
    let f = finds _ _ _ _ l c.requires c.gather-window.ensures _ _ _ c.in-Bad.is c.from.ensures c.front_of.ensures in
    omega (arith, bad-few _ _ _ _ l c.requires c.gather-window.ensures _ f)

pub overflow_sub-m : goal.overflow_sub-m
overflow_sub-m c =
    let l : length c.args.s.bytes ≡ 14 = search rules in
    let f = finds _ _ _ _ l c.requires c.gather-window.ensures _ _ _ c.in-Well.is c.from.ensures c.front_of.ensures in
    omega (arith, code-after (form_scans c.args.form) l c.requires c.args.input.now _ _ f)

pub returns-else-window-eq0 : goal.returns-else-window-eq0
returns-else-window-eq0 c =
    let l : length c.args.s.bytes ≡ 14 = search rules in
    let f = finds _ _ _ _ l c.requires c.gather-window.ensures _ _ _ c.in-Partial.is c.from.ensures c.front_of.ensures in
    is_some _ _ _ _ l c.requires c.gather-window.ensures _ f c.if-window-eq0.false c.done-in-Partial.ensures

pub returns-in-Bad : goal.returns-in-Bad
returns-in-Bad c =
    let l : length c.args.s.bytes ≡ 14 = search rules in
    let f = finds _ _ _ _ l c.requires c.gather-window.ensures _ _ _ c.in-Bad.is c.from.ensures c.front_of.ensures in
    is_bad _ _ _ _ l c.requires c.gather-window.ensures _ _ _ f c.done-in-Bad.ensures c.start-in-Bad.ensures

pub returns-in-Well : goal.returns-in-Well
returns-in-Well c =
    let l : length c.args.s.bytes ≡ 14 = search rules in
    let f = finds _ _ _ _ l c.requires c.gather-window.ensures _ _ _ c.in-Well.is c.from.ensures c.front_of.ensures in
    is_well _ _ _ _ l c.requires c.gather-window.ensures _ _ _ _ _ f (ap (λ (x : ℕ). c.in-Well.m - x) c.from-in-Well.ensures) c.whole.ensures c.start-in-Well.ensures
