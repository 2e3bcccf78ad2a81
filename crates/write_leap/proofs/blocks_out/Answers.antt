use Rattle.std.proofs.Common.{◌≡◌, ℕ, ◌+◌, ◌-◌, ◌<◌, take, drop, get_or, ap, refl, ◌∙◌, arith}
use Rattle.quads.proofs.Parts.{part_code}
use Rattle.writings.proofs.Leaping.{run-next}
use Rattle.write_leap.proofs.blocks_out.Goals as goal

pub overflow_add-four : goal.overflow_add-four
overflow_add-four g c =
    let P = g.met.C.Source.parts in
    let n = c.loop-n.n in
    omega (arith, c.cells-first.ensures, c.cells.ensures, P.fits c.args.codes.now (n + 4) (omega arith), P.adds n 4)

pub slice_bounds-four-end : goal.slice_bounds-four-end
slice_bounds-four-end g c =
    let P = g.met.C.Source.parts in
    let n = c.loop-n.n in
    omega (arith, c.cells-first.ensures, c.cells.ensures, P.fits c.args.codes.now (n + 4) (omega arith), P.adds n 4)

pub loop-n-preserved : goal.loop-n-preserved
loop-n-preserved g c =
    let P = g.met.C.Source.parts in
    let width = g.C.Source.width in
    let codes = g.C.Source.codes in
    let s = c.args.codes.now in
    let n = c.loop-n.n in
    let fits = P.fits s (n + 4) (omega arith) in
    let first : c.cells-first.result ≡ width n = omega (arith, c.cells-first.ensures, fits, P.adds n 4) in
    let size : c.cells.result ≡ width 4 = omega (arith, c.cells.ensures, fits, P.adds n 4) in
    let at : (j : ℕ) → j < 4 → get_or (codes (take (c.cells-first.result + c.cells.result - c.cells-first.result) (drop c.cells-first.result s))) j 0 ≡ get_or (codes s) (n + j) 0 =
    λ j h. rw (first, size) (part_code P s n 4 j h)
    in
    let zero : n + 0 ≡ n = omega arith in
    let ascii = c.some_high.ensures c.if-some_high.false in
    let one = run-next c.loop-n.invariant _ _ (n + 1) refl (omega arith) (c.get-a.ensures ∙ at 0 (omega arith) ∙ ap (λ (i : ℕ). get_or (codes s) i 0) zero) ascii.0 c.low.ensures in
    let two = run-next one _ _ (n + 2) (omega arith) (omega arith) (c.get-b.ensures ∙ at 1 (omega arith)) ascii.1.0 c.low-in-loop-n.ensures in
    let three = run-next two _ _ (n + 3) (omega arith) (omega arith) (c.get-c.ensures ∙ at 2 (omega arith)) ascii.1.1.0 c.low-in-loop-n-2.ensures in
    run-next three _ _ (n + 4) (omega arith) (omega arith) (c.get-d.ensures ∙ at 3 (omega arith)) ascii.1.1.1 c.low-in-loop-n-3.ensures
