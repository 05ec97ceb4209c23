-- Terms looked through for a variable, from the last node to the first, where each bound variable is followed once.
use Rattle.std.specs.Prelude.{◌≡◌, ◌≤◌, ℕ, List, [], ◌∷◌, Option, Some, None, ⊤, All, nat_eq}
use Rattle.indexmap.specs.IndexSet.{insert_key}
use Rattle.dps_terms.specs.Tree.{var, Tree, node_count, StandsIn}
use Rattle.dps_terms.specs.Replace.{substitute}
use Rattle.dps_terms.specs.Seen.{seen}
use Rattle.dps_terms.specs.Walk.{subterms_from}
use Rattle.dps_unify.specs.Chain.{solved}
use Rattle.dps_unify.specs.declared.reaching.Visit.{Visit}

-- the greatest subterms that were looked at
abbrev pub looked_at : Visit → List Tree
looked_at v = subterms_from (seen v.term) v.left

-- the variable was noted, where there is one
abbrev pub IsPassed : List ℕ → Option ℕ → List ℕ → Type 0
IsPassed old None new = new ≡ old
IsPassed old (Some n) new = new ≡ insert_key nat_eq old n

module _ (b : List (ℕ × Tree)) (x : ℕ) where
  -- the variable x does not stand in what the tree becomes
  abbrev pub Avoids : Tree → Type 0
  Avoids t = ¬ StandsIn (var x) (substitute (solved b) t)

  abbrev pub AllAvoid : List Tree → Type 0
  AllAvoid [] = ⊤
  AllAvoid (t ∷ ts) = Avoids t × AllAvoid ts

  -- the variable that the term is bound to, where there is one, becomes what the term does
  abbrev pub IsBoundTo : Option ℕ → Tree → Type 0
  IsBoundTo None t = ⊤
  IsBoundTo (Some n) t = solved b n ≡ substitute (solved b) t

  module _ (whole : Tree) where
    -- Of the terms, the innermost first, each but the first stands at a variable that is bound to the term before it. What
    -- was looked at avoids x. To look at what is left tells whether the whole does.
    abbrev pub Concludes : List Visit → Type 0
    Concludes [] = Avoids whole
    Concludes (v ∷ vs) = AllAvoid (looked_at v) × (Avoids (seen v.term) → Concludes vs)

    -- what stands in what such a term becomes stands in what the whole becomes
    abbrev pub AreInside : List Visit → Type 0
    AreInside [] = ⊤
    AreInside (v ∷ vs) =
        (v.left ≤ node_count (seen v.term))
        × IsBoundTo v.variable (seen v.term)
        × (StandsIn (var x) (substitute (solved b) (seen v.term)) → StandsIn (var x) (substitute (solved b) whole))
        × AreInside vs

    pub record IsVisiting (vs : List Visit) (keys : List ℕ) : Type 0 where
      pub concludes : Concludes vs
      pub inside : AreInside vs
      pub passed : All (λ n. ¬ StandsIn (var x) (solved b n)) keys
