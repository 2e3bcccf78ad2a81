-- The walk of `number_of`, from the last byte to the first. Assumes nothing.
use Rattle.std.proofs.Common.{◌≡◌, refl, sym, ap, ◌∙◌, List, [], ◌∷◌, ℕ, suc, ◌+◌, ◌-◌, ◌*◌, ◌≤◌, ◌<◌, length, take, min, arith, length-append, length-take}
use Rattle.std.proofs.lemmas.List.{take_min}
use Rattle.std.specs.List.{push}
use Rattle.numbers.specs.Number.{value}
use Rattle.numbers.proofs.Laws.{count, count_le}

-- the number of bytes below those of n
abbrev pub below : List ℕ → ℕ → ℕ
below [] n = n
below (b ∷ w) n = b + 256 * below w n

below-zero : (w : List ℕ) → below w 0 ≡ value w
below-zero [] = refl
below-zero (b ∷ w) = ap (λ (m : ℕ). b + 256 * m) (below-zero w)

below-push : (w : List ℕ) (b n : ℕ) → below (push w b) n ≡ below w (n * 256 + b)
below-push [] b n = omega arith
below-push (a ∷ w) b n = ap (λ (m : ℕ). a + 256 * m) (below-push w b n)

-- n is the number of what w has after the rest
pub record Got (w rest : List ℕ) (n : ℕ) : Type 0 where
  pub is : below rest n ≡ value w
  pub within : length rest ≤ 8
  pub small : n < count (8 - length rest)

pub got_start : (s rest : List ℕ) → rest ≡ take (min 8 (length s)) s → Got (take 8 s) rest 0
got_start s rest e =
    let h : length rest ≤ 8 = omega (arith, ap length e, length-take (min 8 (length s)) s) in
    record {
      is = below-zero rest ∙ ap value (e ∙ take_min 8 s);
      within = h;
      small = omega (arith, count_le 0 (8 - length rest) (omega arith));
    }

left-length : (rest left : List ℕ) (b : ℕ) → rest ≡ push left b → length rest ≡ suc (length left)
left-length rest left b e = omega (arith, ap length e, length-append left (b ∷ []))

pub got_room : (w rest left : List ℕ) (n b : ℕ) → Got w rest n → rest ≡ push left b → n < 72057594037927936
got_room w rest left n b G e = omega (arith, G.small, left-length rest left b e, count_le (8 - length rest) 7 (omega (arith, left-length rest left b e)))

pub got_turn : (w rest left : List ℕ) (n b : ℕ) → Got w rest n → rest ≡ push left b → b < 256 → Got w left (n * 256 + b)
got_turn w rest left n b G e h =
    let l = left-length rest left b e in
    let c : 8 - length left ≡ suc (8 - length rest) = omega (arith, G.within) in
    record {
      is = sym (below-push left b n) ∙ ap (λ (x : List ℕ). below x n) (sym e) ∙ G.is;
      within = omega (arith, G.within);
      small = rw c (omega (arith, G.small));
    }

pub got_end : (w rest : List ℕ) (n : ℕ) → Got w rest n → length rest ≡ 0 → n ≡ value w
got_end w [] n G h = G.is
got_end w (b ∷ rest) n G h = absurd (omega arith)
