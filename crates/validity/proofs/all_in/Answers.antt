-- What `all` answers is the definition's own recursion. Assumes nothing.
use Rattle.std.proofs.Common.{◌≡◌, ◌&&◌, List, ℕ, refl, ◌∙◌, rules, tests}
use Rattle.std.specs.List.{list_all}
use Rattle.std.proofs.lemmas.Iterator.{YieldsList-from_slice}
use Rattle.std.proofs.lemmas.Iterator.Search.{all_from_yields_List}
use Rattle.std.proofs.lemmas.List.Recursion.{same_from_clauses}
use Rattle.form.specs.Table.{Range, ◌to◌}
use Rattle.form.specs.Scan.{in?}
use Rattle.state.specs.Meaning.{each}
use Rattle.validity.proofs.all_in.Goals as goal

each_all : (r : Range) (d : List ℕ) → list_all (in? r) d ≡ each r d
each_all r = same_from_clauses (list_all (in? r)) (each r) (λ x b. in? r x && b) refl (λ _ _. refl) (λ _ _. refl)

pub returns : goal.returns
returns c =
    all_from_yields_List (in? (c.args.lo to c.args.hi)) _ _ _ c.all.ensures.ran (YieldsList-from_slice c.args.d.now cc) (λ x b q k. search (rules, tests))
    ∙ each_all (c.args.lo to c.args.hi) c.args.d.now
