use Rattle.std.proofs.Common.{◌+◌, length, ◌∷◌, [], List, ℕ, take, ◌++◌, drop, get_or, ◌≤◌, ◌∙◌, ap, sym, refl, arith}
use Rattle.readings.proofs.Come.{single-ascii, singles-none, singles-put, singles-more}
use Rattle.read_leap.proofs.Four.{four_of, four_taken}
use Rattle.read_leap.proofs.fours.Goals as goal

pub blocks-2-init : goal.blocks-2-init
blocks-2-init g c =
    let L = g.met.C.Cell.laws in
    let H = g.met.C.Cell.rooms in
    let d = c.args.codes.now in
    let h : g.C.Cell.cells 0 + g.C.Cell.cells 1 ≤ length d = omega (arith, L.adds 0 1, H.fits 1 (length d) (omega arith)) in
    record {
      put = singles-put L (singles-none L 0x80 0 c.args.s.now d) _ _ _ (omega arith) refl (c.from.ensures ∙ sym (single-ascii _ (omega arith))) (λ _. omega arith) h (c.put.ensures.inside h);
      within = omega arith;
    }

pub blocks-2-preserved : goal.blocks-2-preserved
blocks-2-preserved g c =
    let L = g.met.C.Cell.laws in
    let H = g.met.C.Cell.rooms in
    let s = c.args.s.now in
    let r = c.blocks-2.invariant in
    let n = c.blocks-2.n in
    let h : n + 4 ≤ length s = omega arith in
    let f = four_of _ _ _ _ (sym c.all_ascii.ensures ∙ c.if-not-all_ascii.false) in
    record {
      put =
          singles-more L r.put (get_or s n 0 ∷ get_or s (n + 1) 0 ∷ get_or s (n + 2) 0 ∷ get_or s (n + 3) 0 ∷ []) _ h (four_taken s n h) (f.below n)
          (omega (arith, L.adds n 4, H.fits (n + 4) (length c.args.codes.now) (omega arith)))
          (c.put_four.ensures ∙ ap (λ (v : List ℕ). take (g.C.Cell.cells n) c.blocks-2.codes ++ g.C.Cell.lay v ++ drop (g.C.Cell.cells n + g.C.Cell.cells 4) c.blocks-2.codes) f.ascii);
      within = omega arith;
    }
