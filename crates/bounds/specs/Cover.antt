-- Where items start, and which of them covers a byte. The item that covers a byte needs no belief: `covering-item` pins it. Assumes nothing.
use Rattle.std.specs.Prelude.{cond, List, [], ◌∷◌, ℕ, zero, suc, ◌+◌, ◌-◌, ltb, take, drop}
use Rattle.form.specs.Text.{Item, span}

-- how many bytes the first j items have together: where item j starts
abbrev pub place : ℕ → List Item → ℕ
place zero l = 0
place (suc j) [] = 0
place (suc j) (i ∷ l) = span i + place j l

-- an item and where it starts, or none
pub data Cover : Type 0 where
  none : Cover
  covers : ℕ → Item → Cover

-- of the items that stand end to end from q on, the one that covers byte p
abbrev pub covering : ℕ → List Item → ℕ → Cover
covering q [] p = none
covering q (i ∷ l) p = cond (ltb p (q + span i)) (covers q i) (covering (q + span i) l p)

-- the same item, q bytes further on
abbrev pub shift : ℕ → Cover → Cover
shift q none = none
shift q (covers r i) = covers (q + r) i

-- the bytes p - k to p + k of s, as far as they are there
abbrev pub window : ℕ → ℕ → List ℕ → List ℕ
window k p s = take (p + suc k - (p - k)) (drop (p - k) s)
