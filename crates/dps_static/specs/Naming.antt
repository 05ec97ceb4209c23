-- New names of the attacker in the place of rigid names.
use Rattle.std.specs.Prelude.{◌≡◌, ◌≤◌, ◌⊎◌, ℕ, suc, List, [], ◌∷◌, nat_eq, cond, Contains, ⊤}
use Rattle.dps_terms.specs.declared.PublicName.TheVariants.{At}
use Rattle.dps_terms.specs.declared.borrowed.TermView.TheVariants.{Public, Rigid}
use Rattle.dps_terms.specs.Views.{view_of}
use Rattle.dps_terms.specs.Tree.{public, rigid, Tree, leaf, StandsIn}
use Rattle.dps_static.specs.Generic.{filled}
use Rattle.dps_static.specs.declared.naming.NewName.{NewName}
use Rattle.dps_static.specs.declared.naming.Numbers.{Numbers}

-- the attacker's name with the number that a rigid name has
abbrev pub newly : (ℕ → ℕ) → ℕ → Tree
newly names k = leaf (public (At (names k)))

-- the tree with the attacker's names for the rigid ones
abbrev pub renamed : (ℕ → ℕ) → Tree → Tree
renamed names t = filled (newly names) t

-- The names can be told from all that stands in the two trees, and from each other.
pub record AreNew (names : ℕ → ℕ) (one other : Tree) : Type 0 where
  pub back : ℕ → Tree
  pub rigid_names : (k : ℕ) → StandsIn (rigid k) one ⊎ StandsIn (rigid k) other → back (names k) ≡ leaf (rigid k)
  pub attacker_names : (k : ℕ) → StandsIn (public (At k)) one ⊎ StandsIn (public (At k)) other → back k ≡ leaf (public (At k))

-- the number that goes with a rigid name, by the first that has it
abbrev pub number_of : List NewName → ℕ → ℕ
number_of [] k = 0
number_of (name ∷ names) k = cond (nat_eq name.rigid k) name.number (number_of names k)

-- the numbers rise, from this one on
abbrev pub AreRising : ℕ → List NewName → Type 0
AreRising from [] = ⊤
AreRising from (name ∷ names) = (from ≤ name.number) × AreRising (suc name.number) names

-- one of them is for the rigid name
pub record IsNamed (names : List NewName) (k : ℕ) : Type 0 where
  pub name : NewName
  pub listed : Contains names name
  pub same : name.rigid ≡ k

-- each rigid name has one, and no number is taken
pub record AreNamed (wanted taken : List ℕ) (names : List NewName) : Type 0 where
  pub rise : AreRising 0 names
  pub named : (k : ℕ) → Contains wanted k → IsNamed names k
  pub free : (name : NewName) → Contains names name → ¬ Contains taken name.number

-- the numbers were kept, and those of the tree's names are there
pub record Adds (old new : Numbers) (t : Tree) : Type 0 where
  pub rigid_kept : (k : ℕ) → Contains old.rigid.items k → Contains new.rigid.items k
  pub own_kept : (k : ℕ) → Contains old.own.items k → Contains new.own.items k
  pub rigid_there : (k : ℕ) → StandsIn (rigid k) t → Contains new.rigid.items k
  pub own_there : (k : ℕ) → StandsIn (public (At k)) t → Contains new.own.items k

-- the number of the name that is the tree was added
pub record AddsRoot (old new : Numbers) (t : Tree) : Type 0 where
  pub rigid_kept : (k : ℕ) → Contains old.rigid.items k → Contains new.rigid.items k
  pub own_kept : (k : ℕ) → Contains old.own.items k → Contains new.own.items k
  pub rigid_there : (k : ℕ) → Rigid k ≡ view_of t → Contains new.rigid.items k
  pub own_there : (k : ℕ) → Public (At k) ≡ view_of t → Contains new.own.items k
