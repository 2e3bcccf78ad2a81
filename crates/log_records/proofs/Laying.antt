-- One more record at the front of a buffer. Assumes nothing.
use mathlib.Core.Path.{◌≡◌, sym, ap, ◌∙◌}
use mathlib.Core.List.{List, [], ◌∷◌, ◌++◌, append-nil}
use Prim.Native.Nat.{ℕ, ◌+◌, ◌-◌, ◌*◌, ◌/◌, ◌<◌}
use native.Mathlib.Omega.{arith}
use lib.ListN.{length}
use borrow.Rule.Slice.PartMut.{mid_of, put_mid, mid_len}
use Rattle.numbers.specs.Number.{low_first, laid_in}
use Rattle.numbers.proofs.Laws.{low-length, laid-length, laid-append}
use Rattle.numbers.specs.Filled.{Filled}
use Rattle.numbers.proofs.Filled.{filled-same, filled_next}

pub laid_next : (out₀ out d : List ℕ) → Filled out₀ out (laid_in 8 d) → (n : ℕ) → n ≡ length d → n < length out / 8
    → (p : ℕ) (ys : List ℕ) → ys ≡ low_first (length (mid_of (n * 8) (n * 8 + 8 - n * 8) out)) p
    → Filled out₀ (put_mid (n * 8) (n * 8 + 8 - n * 8) out ys) (laid_in 8 (d ++ (p ∷ [])))
laid_next out₀ out d F n e g p ys f =
    let w : length (laid_in 8 d) ≡ n * 8 = laid-length 8 d ∙ ap (λ (j : ℕ). j * 8) (sym e) in
    let m : length (mid_of (n * 8) (n * 8 + 8 - n * 8) out) ≡ 8 = mid_len (n * 8) (n * 8 + 8) out (omega arith) ∙ (let z : n * 8 + 8 - n * 8 ≡ 8 = omega arith in z) in
    let y : ys ≡ low_first 8 p = f ∙ ap (λ (j : ℕ). low_first j p) m in
    let l : laid_in 8 d ++ ys ≡ laid_in 8 (d ++ (p ∷ [])) = ap (λ (x : List ℕ). laid_in 8 d ++ x) (y ∙ sym (append-nil (low_first 8 p))) ∙ sym (laid-append 8 d (p ∷ [])) in
    rw l at (filled_next out₀ out (laid_in 8 d) F (n * 8) w 8 (omega (arith, filled-same out₀ out (laid_in 8 d) F)) ys (ap length y ∙ low-length 8 p))
