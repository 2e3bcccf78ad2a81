-- Numbers and their bytes are each other's, up to the size of the bytes. Assumes nothing.
use mathlib.Core.Path.{◌≡◌, refl, sym, ap, ◌∙◌}
use mathlib.Core.Option.{some, none}
use mathlib.Core.List.{List, [], ◌∷◌, ◌++◌, append_assoc}
use Prim.Native.Nat.{ℕ, zero, suc, ◌+◌, ◌-◌, ◌*◌, ◌/◌, ◌%◌, ◌≤◌, ◌<◌}
use native.Mathlib.Nat.{zero-mul, suc-mul}
use native.Mathlib.Omega.{arith}
use lib.ListN.{length, take, drop, get_elem?, length-append, length-drop}
use lib.Seq.{take_at, drop_at, take-add, drop-drop, length-take-le, get_or-drop}
use Rattle.numbers.specs.Number.{low_first, value, laid_in, values_in, over, Below, Octets}

-- how many numbers k bytes can stand for
abbrev pub count : ℕ → ℕ
count zero = 1
count (suc k) = 256 * count k

count_up : (d k : ℕ) → count k ≤ count (d + k)
count_up zero k = let z : 0 + k ≡ k = omega arith in rw z (omega arith)
count_up (suc d) k = let z : suc d + k ≡ suc (d + k) = omega arith in rw z (omega (arith, count_up d k))

pub count_le : (k m : ℕ) → k ≤ m → count k ≤ count m
count_le k m h = let z : m - k + k ≡ m = omega arith in rw z at (count_up (m - k) k)

-- ---- numbers below m

below-tail : (m x : ℕ) (l : List ℕ) → Below m (x ∷ l) → Below m l
below-tail m x l h i = h (suc i)

below-take : (m k : ℕ) (l : List ℕ) → 0 < m → Below m l → Below m (take k l)
below-take m zero l o h i = o
below-take m (suc k) [] o h i = o
below-take m (suc k) (x ∷ l) o h zero = h 0
below-take m (suc k) (x ∷ l) o h (suc i) = below-take m k l o (below-tail m x l h) i

below-drop : (m k : ℕ) (l : List ℕ) → Below m l → Below m (drop k l)
below-drop m k l h i = rw (get_or-drop k l i 0) (h (k + i))

-- ---- low_first and value

pub low-length : (k n : ℕ) → length (low_first k n) ≡ k
low-length zero n = refl
low-length (suc k) n = ap suc (low-length k (n / 256))

pub low_octets : (k n : ℕ) → Octets (low_first k n)
low_octets zero n i = omega arith
low_octets (suc k) n zero = omega arith
low_octets (suc k) n (suc i) = low_octets k (n / 256) i

pub value-small : (w : List ℕ) → Octets w → value w < count (length w)
value-small [] h = omega arith
value-small (b ∷ w) h = omega (arith, h 0, value-small w (below-tail 256 b w h))

-- what was put is read
pub value_low : (k n : ℕ) → n < count k → value (low_first k n) ≡ n
value_low zero n h = omega arith
value_low (suc k) n h = rw (value_low k (n / 256) (omega arith)) (omega arith)

-- what was read is put
pub low_value : (w : List ℕ) → Octets w → low_first (length w) (value w) ≡ w
low_value [] h = refl
low_value (b ∷ w) h =
    let m : (b + 256 * value w) % 256 ≡ b = omega (arith, h 0) in
    let d : (b + 256 * value w) / 256 ≡ value w = omega (arith, h 0) in
    rw (m, d) (ap (λ (x : List ℕ). b ∷ x) (low_value w (below-tail 256 b w h)))

pub low_value_in : (k : ℕ) (w : List ℕ) → length w ≡ k → Octets w → low_first k (value w) ≡ w
low_value_in k w e h = ap (λ (j : ℕ). low_first j (value w)) (sym e) ∙ low_value w h

-- ---- numbers of k bytes each

pub laid-length : (k : ℕ) (l : List ℕ) → length (laid_in k l) ≡ length l * k
laid-length k [] = omega (arith, zero-mul k)
laid-length k (x ∷ l) = omega (arith, length-append (low_first k x) (laid_in k l), low-length k x, laid-length k l, suc-mul (length l) k)

pub laid-append : (k : ℕ) (l m : List ℕ) → laid_in k (l ++ m) ≡ laid_in k l ++ laid_in k m
laid-append k [] m = refl
laid-append k (x ∷ l) m = ap (λ (w : List ℕ). low_first k x ++ w) (laid-append k l m) ∙ sym (append_assoc (low_first k x) (laid_in k l) (laid_in k m))

pub values_length : (k n : ℕ) (w : List ℕ) → length (values_in k n w) ≡ n
values_length k zero w = refl
values_length k (suc n) w = ap suc (values_length k n (drop k w))

pub values_take : (k j n : ℕ) (w : List ℕ) → j ≤ n → take j (values_in k n w) ≡ values_in k j w
values_take k zero n w h = refl
values_take k (suc j) zero w h = absurd (omega arith)
values_take k (suc j) (suc n) w h = ap (λ (l : List ℕ). value (take k w) ∷ l) (values_take k j n (drop k w) (omega arith))

-- the value of number j
pub values_at : (k n : ℕ) (w : List ℕ) (j : ℕ) → j < n → get_elem? (values_in k n w) j ≡ some (value (take k (drop (j * k) w)))
values_at k zero w j h = absurd (omega arith)
values_at k (suc n) w zero h = rw (zero-mul k) refl
values_at k (suc n) w (suc j) h =
    values_at k n (drop k w) j (omega arith)
    ∙ ap (λ (x : List ℕ). some (value (take k x))) (drop-drop (j * k) k w ∙ ap (λ (i : ℕ). drop i w) (let z : k + j * k ≡ suc j * k = omega (arith, suc-mul j k) in z))

pub values_none : (k n : ℕ) (w : List ℕ) (j : ℕ) → n ≤ j → get_elem? (values_in k n w) j ≡ none
values_none k zero w j h = refl
values_none k (suc n) w zero h = absurd (omega arith)
values_none k (suc n) w (suc j) h = values_none k n (drop k w) j (omega arith)

-- what was laid is read
pub values_laid : (k : ℕ) (l t : List ℕ) → Below (count k) l → values_in k (length l) (laid_in k l ++ t) ≡ l
values_laid k [] t h = refl
values_laid k (x ∷ l) t h =
    let e : low_first k x ++ laid_in k l ++ t ≡ low_first k x ++ (laid_in k l ++ t) = append_assoc (low_first k x) (laid_in k l) t in
    let v : value (take k (low_first k x ++ (laid_in k l ++ t))) ≡ x = ap value (take_at (low_first k x) (laid_in k l ++ t) k (low-length k x)) ∙ value_low k x (h 0) in
    let d : drop k (low_first k x ++ (laid_in k l ++ t)) ≡ laid_in k l ++ t = drop_at (low_first k x) (laid_in k l ++ t) k (low-length k x) in
    ap (values_in k (suc (length l))) e ∙ rw (v, d) (ap (λ (y : List ℕ). x ∷ y) (values_laid k l t (below-tail (count k) x l h)))

-- and what was read is laid
pub laid_values : (k n : ℕ) (w : List ℕ) → Octets w → n * k ≤ length w → laid_in k (values_in k n w) ≡ take (n * k) w
laid_values k zero w o h = rw (zero-mul k) refl
laid_values k (suc n) w o h =
    let z : k + n * k ≡ suc n * k = omega (arith, suc-mul n k) in
    let a : k ≤ length w = omega (arith, suc-mul n k) in
    let b : n * k ≤ length (drop k w) = omega (arith, suc-mul n k, length-drop k w) in
    ap (λ (x : List ℕ). x ++ laid_in k (values_in k n (drop k w))) (low_value_in k (take k w) (length-take-le k w a) (below-take 256 k w (omega arith) o))
    ∙ ap (λ (x : List ℕ). take k w ++ x) (laid_values k n (drop k w) (below-drop 256 k w o) b)
    ∙ sym (take-add k (n * k) w) ∙ ap (λ (i : ℕ). take i w) z

-- ---- a buffer with bytes at its front

pub over-length : {A : Type 0} (w d : List A) → length w ≤ length d → length (over w d) ≡ length d
over-length w d h = omega (arith, length-append w (drop (length w) d), length-drop (length w) d)
