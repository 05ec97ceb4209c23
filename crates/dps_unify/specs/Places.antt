-- Walks over terms from the last node to the first, in which a bound variable is followed to what it is bound to.
use Rattle.std.specs.Prelude.{◌≡◌, ◌≤◌, ◌∷◌, ◌++◌, List, [], map}
use Rattle.dps_terms.specs.Tree.{Tree, node_count}
use Rattle.dps_terms.specs.Seen.{seen}
use Rattle.dps_terms.specs.Walk.{subterms_from}
use Rattle.dps_unify.specs.declared.place.Place.{Place}

-- the greatest subterms that were gone through
abbrev pub gone_through : Place → List Tree
gone_through p = subterms_from (seen p.term) p.left

-- The places are those of the terms that are walked over, the innermost first: each but the first stands at a variable, and
-- the term before it is what that variable is bound to. The stack holds what F makes of the subterms that were gone through.
-- To go on leaves the whole.
abbrev pub Finishes : (Tree → Tree) → List Place → List Tree → Tree → Type 0
Finishes F [] stack whole = stack ≡ whole ∷ []
Finishes F (p ∷ ps) stack whole =
    (p.left ≤ node_count (seen p.term))
    × (rest : List Tree) × (stack ≡ map F (gone_through p) ++ rest) × Finishes F ps (F (seen p.term) ∷ rest) whole

-- behind the others stands the place behind the last node of the term
pub record IsPutBehind (old : List Place) (t : Tree) (new : List Place) : Type 0 where
  pub place : Place
  pub new_is : new ≡ old ++ place ∷ []
  pub term : seen place.term ≡ t
  pub none : gone_through place ≡ []
  pub inside : place.left ≤ node_count t
