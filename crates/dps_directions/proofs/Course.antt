-- What is followed through a search, and what goes with a branch.
use Rattle.std.proofs.Common.{◌≡◌, ℕ, List, [], ◌∷◌, ◌⊎◌, inl, inr, Some, sym, ◌∙◌, ap, subst, Contains}
use Rattle.dps_terms.specs.Tree.{var, Tree, leaf, StandsIn, IsSubterm}
use Rattle.dps_terms.specs.Replace.{substitute, put_entries, variables_to}
use Rattle.dps_terms.specs.Kinds.{AnySymbol}
use Rattle.dps_terms.proofs.Replacing.{keeps_subterms}
use Rattle.dps_terms.proofs.Building.{leaf_meets}
use Rattle.dps_unify.specs.Order.{level_of}
use Rattle.dps_unify.proofs.Trees.{substitute_in_turn, substitute_agrees}
use Rattle.dps_know.proofs.Listing.{in_cons, in_head, in_tail, in_none}
use Rattle.dps_solver.specs.Levels.{IsGroundUpTo, AnyRigidName}
use Rattle.dps_solver.specs.Scene.{Scene, Ask}
use Rattle.dps_solver.specs.declared.scene.Target.{Target}
use Rattle.dps_solver.specs.Solutions.{IsSolution, valued, IsValuation, IsNormalUnder}
use Rattle.dps_solver.specs.Search.{Branch}
use Rattle.dps_directions.proofs.Invariant.{IsOpen, IsFree, IsBuiltLeaf, IsKept}
use Rattle.dps_directions.proofs.Following.{stands_or_not}

-- A solution, its valuation, and the variables and names whose trees are followed to their last ones: those of the
-- scene, with the solution's trees, and names of targets. Parts of these trees are told by their values.
pub record Course (names : ℕ → Type 0) (scene : Scene) (ask : Ask) : Type 0 where
  pub s : ℕ → Tree
  pub g : List Tree
  pub followed : List ℕ
  pub last : ℕ → Tree
  pub solution : IsSolution names scene.system s
  pub valuation : IsValuation scene s g
  pub among : (x l : ℕ) → level_of scene.system.levels x ≡ Some l → Contains followed x
  pub ends : (x l : ℕ) → level_of scene.system.levels x ≡ Some l → last x ≡ s x
  pub only :
      (x : ℕ) → Contains followed x
      → ((l : ℕ) × (level_of scene.system.levels x ≡ Some l)) ⊎ ((z : Target) × Contains ask.targets z × (z.name ≡ x))
  pub told :
      (x y : ℕ) (t u : Tree) → Contains followed x → Contains followed y → IsSubterm t (last x) → IsSubterm u (last y)
      → put_entries g t ≡ put_entries g u → t ≡ u
  pub normal : (x : ℕ) → Contains followed x → IsNormalUnder s scene.system (last x)

-- the variable stands in a tree that is followed
abbrev pub IsInTrees : List ℕ → Branch → ℕ → Type 0
IsInTrees followed b y = (x : ℕ) × Contains followed x × StandsIn (var y) (b.trees x)

in_trees : (xs : List ℕ) (trees : ℕ → Tree) (y : ℕ)
    → ((x : ℕ) × Contains xs x × StandsIn (var y) (trees x)) ⊎ ¬ ((x : ℕ) × Contains xs x × StandsIn (var y) (trees x))
in_trees [] trees y = inr (λ h. in_none h.0 h.1)
in_trees (x ∷ xs) trees y = elim (stands_or_not y (trees x)) [
  | inl k ↦ inl (x, in_head x xs, k)
  | inr k ↦ elim (in_trees xs trees y) [
    | inl h ↦ inl (h.0, in_tail h.0 x xs h.1, h.2)
    | inr never ↦ inr (λ h. elim (in_cons h.0 x xs h.1) [
      | inl e ↦ k (subst (λ n. StandsIn (var y) (trees n)) e h.2)
      | inr c ↦ never (h.0, c, h.2)
    ])
  ]
]

pub in_trees_or_not : (followed : List ℕ) (b : Branch) (y : ℕ) → IsInTrees followed b y ⊎ ¬ IsInTrees followed b y
in_trees_or_not followed b y = in_trees followed b.trees y

-- Values eta of all variables and trees psi of the open ones go with the branch.
pub record GoesWith (names : ℕ → Type 0) (scene : Scene) (ask : Ask) (course : Course names scene ask) (b : Branch) (eta psi : ℕ → Tree) : Type 0 where
  pub trees : (x : ℕ) → Contains course.followed x → substitute psi (b.trees x) ≡ course.last x
  pub levels : (y l : ℕ) → IsOpen b y l → IsGroundUpTo AnyRigidName scene.system.m scene.system.know l (psi y)
  pub free : (y l : ℕ) → IsFree b y l → put_entries course.g (psi y) ≡ eta y
  pub sought : (z : Target) → Contains b.targets z → put_entries course.g (psi z.name) ≡ substitute eta z.term
  pub values : (x : ℕ) → substitute eta (b.theta x) ≡ eta x
  pub agrees : (x l : ℕ) → level_of scene.system.levels x ≡ Some l → eta x ≡ valued course.g course.s x

-- some values and trees go with the branch
abbrev pub GoesAlong : (names : ℕ → Type 0) (scene : Scene) (ask : Ask) → Course names scene ask → Branch → Type 0
GoesAlong names scene ask course b = (eta psi : ℕ → Tree) × GoesWith names scene ask course b eta psi

module _ (names : ℕ → Type 0) (scene : Scene) (ask : Ask) (course : Course names scene ask) (b : Branch) (kept : IsKept scene ask b) where
  -- what stands in the trees is open
  pub open_in : (y : ℕ) → IsInTrees course.followed b y → (k : ℕ) × IsOpen b y k
  open_in y h = elim (course.only h.0 h.1) [
    | inl e ↦ let o = leaf_meets (IsBuiltLeaf scene b e.0) AnySymbol (kept.bindings h.0 e.0 e.1).leaves h.2 in (o.0, o.1)
    | inr e ↦
        let c = subst (λ n. StandsIn (var y) (b.trees n)) (sym e.2) h.2 in
        let o = leaf_meets (IsBuiltLeaf scene b e.0.level) AnySymbol (kept.answers e.0 e.1).leaves c in (o.0, o.1)
  ]

  -- an open variable that stands in none has the level m
  pub outside : (y l : ℕ) → IsOpen b y l → ¬ IsInTrees course.followed b y → l ≡ scene.system.m
  outside y l o never = kept.others y l o (λ i. never (i.0, course.among i.0 i.1 i.2, i.3))

  module _ (eta psi : ℕ → Tree) (goes : GoesWith names scene ask course b eta psi) where
    pub part : (y : ℕ) (h : IsInTrees course.followed b y) → IsSubterm (psi y) (course.last h.0)
    part y h = subst (λ t. IsSubterm (psi y) t) (goes.trees h.0 h.1) (keeps_subterms (variables_to psi) h.2)

    -- variables of the trees with one value have one tree
    pub same_tree : (y w : ℕ) → IsInTrees course.followed b y → IsInTrees course.followed b w
        → put_entries course.g (psi y) ≡ put_entries course.g (psi w) → psi y ≡ psi w
    same_tree y w h k e = course.told h.0 k.0 (psi y) (psi w) h.1 k.1 (part y h) (part w k) e

    -- what is put into the trees leads to the same last ones
    pub trees_after : (p after : ℕ → Tree) → ((y : ℕ) → IsInTrees course.followed b y → substitute after (p y) ≡ psi y)
        → (x : ℕ) → Contains course.followed x → substitute after (substitute p (b.trees x)) ≡ course.last x
    trees_after p after h x c =
        substitute_in_turn after p (b.trees x)
        ∙ substitute_agrees (λ y. substitute after (p y)) psi (b.trees x) (λ y k. h y (x, c, k))
        ∙ goes.trees x c

    -- the branch's substitution keeps values
    pub under : (t : Tree) → substitute eta (substitute b.theta t) ≡ substitute eta t
    under t =
        substitute_in_turn eta b.theta t
        ∙ substitute_agrees (λ x. substitute eta (b.theta x)) eta t (λ x k. goes.values x)

    pub value_of_variable : (z : Target) (w : ℕ) → Contains b.targets z → substitute b.theta z.term ≡ leaf (var w)
        → put_entries course.g (psi z.name) ≡ eta w
    value_of_variable z w c e = goes.sought z c ∙ sym (under z.term) ∙ ap (substitute eta) e
