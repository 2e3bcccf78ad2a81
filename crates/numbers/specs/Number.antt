-- Numbers as bytes, low byte first ("The C side"). Assumes nothing.
use Rattle.std.specs.Prelude.{List, [], ◌∷◌, ◌++◌, ℕ, zero, suc, ◌+◌, ◌*◌, ◌/◌, ◌%◌, ◌<◌, length, take, drop, get_or}

-- a number in so many bytes
abbrev pub low_first : ℕ → ℕ → List ℕ
low_first zero x = []
low_first (suc k) x = x % 256 ∷ low_first k (x / 256)

-- the number that bytes stand for
abbrev pub value : List ℕ → ℕ
value [] = 0
value (b ∷ w) = b + 256 * value w

-- numbers, k bytes each
abbrev pub laid_in : ℕ → List ℕ → List ℕ
laid_in k [] = []
laid_in k (x ∷ l) = low_first k x ++ laid_in k l

-- the first n numbers of bytes that have k for each
abbrev pub values_in : ℕ → ℕ → List ℕ → List ℕ
values_in k zero w = []
values_in k (suc n) w = value (take k w) ∷ values_in k n (drop k w)

-- a buffer with these bytes at its front
abbrev pub over : {A : Type 0} → List A → List A → List A
over w d = w ++ drop (length w) d

-- at each place stands a number below m
abbrev pub Below : ℕ → List ℕ → Type 0
Below m l = (i : ℕ) → get_or l i 0 < m

-- at each place stands a byte
abbrev pub Octets : List ℕ → Type 0
Octets w = Below 256 w
