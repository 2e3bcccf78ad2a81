-- The numbers of the five kinds of valid state, as `number` of Meaning has them. Assumes nothing.
use Rattle.std.specs.Prelude.{◌≡◌, ℕ, ◌<◌, Result, MatchResult}
use Rattle.state.specs.declared.Kind.{Kind}
use Rattle.state.specs.declared.Kind.TheVariants.{Starting, Partial, Trail, Low, High}
use Rattle.state.specs.declared.UnknownKind.{UnknownKind}

abbrev pub number_of : Kind → ℕ
number_of Starting = 0
number_of Partial = 1
number_of Trail = 2
number_of Low = 3
number_of High = 4

-- the kind that has the number, or none
abbrev pub Numbered : ℕ → Result Kind UnknownKind → Type 0
Numbered n r = MatchResult r (λ kind. number_of kind ≡ n) (λ e. (e.0 ≡ n) × (4 < n))
