-- A listed solution under an assignment is a choice, and meets the ask.
use Rattle.std.proofs.Common.{◌≡◌, ℕ, zero, suc, ◌<◌, ◌≤◌, List, [], map, ◌⊎◌, inl, inr, Option, Some, None, refl, sym, ◌∙◌, ap, arith, subst, Contains, slice_index_or}
use Rattle.std.specs.Prelude.{unwrap_or, Any}
use Rattle.dps_terms.specs.Tree.{Leaf, public, private, var, ax, entry, rigid, Tree, leaf, StandsIn}
use Rattle.dps_terms.specs.Replace.{replace, substitute, variables_to, entries_to, put_entries, numbered}
use Rattle.dps_terms.specs.Kinds.{IsBuiltOf, AnySymbol}
use Rattle.dps_terms.proofs.Replacing.{replace_in_turn, replace_agrees}
use Rattle.dps_terms.proofs.Building.{leaf_meets, built_instance}
use Rattle.dps_unify.specs.Order.{level_of}
use Rattle.dps_unify.specs.Unifier.{Unifies}
use Rattle.dps_unify.proofs.Trees.{substitute_in_turn, substitute_agrees}
use Rattle.dps_know.specs.Know.{entry_at}
use Rattle.dps_know.specs.declared.know.Entry.{Entry}
use Rattle.dps_solver.specs.Levels.{IsEntryUpTo, IsLeafUpTo, IsGroundUpTo, AnyRigidName}
use Rattle.dps_solver.specs.Scene.{Scene, value_at, Ask}
use Rattle.dps_solver.specs.declared.scene.Target.{Target}
use Rattle.dps_solver.specs.Solutions.{IsChoice, valued, IsValuation, MeetsBy}
use Rattle.dps_solver.specs.Search.{GeneralSolution, Branch}
use Rattle.dps_directions.specs.Valid.{IsValid, Fits}
use Rattle.dps_directions.specs.Directions.{ListedMeet, IsAssignment, IsInstance, HoldsRigidNamesOf, StandsInBinding}
use Rattle.dps_directions.specs.Values.{HaveOlderValues}
use Rattle.dps_directions.proofs.Invariant.{IsFree, IsOpen, IsBuiltLeaf, meaning, meant, IsBuilt}
use Rattle.dps_directions.proofs.Steps.{IsOutcome, ListedAreOutcomes}
use Rattle.dps_know.proofs.Listing.{mapped_contains}
use Rattle.dps_directions.proofs.Listing.{contains_any, zip_mapped}
use Rattle.dps_directions.proofs.Valuations.{numbered-map}
use Rattle.dps_directions.proofs.Outcomes.{binding_at, theta_at, is_free}

-- a tree of a branch that has no target left
module _ (scene : Scene) (b : Branch) (means : ℕ → Tree) (free : (y l : ℕ) → IsFree b y l → means y ≡ leaf (var y))
    (none_left : (y l : ℕ) → IsOpen b y l → IsFree b y l) (older : HaveOlderValues scene) where
  module _ (a s base : ℕ → Tree) (g : List Tree) (is : IsValuation scene s g) (l : ℕ)
      (below : (x k : ℕ) → level_of scene.system.levels x ≡ Some k → k < l → valued g s x ≡ substitute base (b.theta x)) where
    -- an entry of at most this level has the value that theta gives it
    in_value : (i : ℕ) (e : Entry) (o : Option Tree) (x : ℕ) → entry_at scene.system.know i ≡ Some e → e.level ≤ l → value_at scene i ≡ o
        → StandsIn (var x) (unwrap_or o (leaf (entry i))) → valued g s x ≡ substitute base (b.theta x)
    in_value i e None x there low at (c) = absurd (not_entry i x c)
      where
        not_entry : (j y : ℕ) → StandsIn (var y) (leaf (entry j)) → ⊥
        not_entry j y h = elim h [ ]
    in_value i e (Some v) x there low at c =
        let o = older.older i e v there at x c in below x o.0 o.1 (omega (arith, o.2, low))

    numbered_is : (i : ℕ) → numbered scene.values i (leaf (entry i)) ≡ unwrap_or (value_at scene i) (leaf (entry i))
    numbered_is zero = refl
    numbered_is (suc k) = refl

    entry_means : (i : ℕ) → IsEntryUpTo scene.system.know l i → numbered g i (leaf (entry i)) ≡ substitute base (substitute b.theta (numbered scene.values i (leaf (entry i))))
    entry_means i there =
        ap (λ h. numbered h i (leaf (entry i))) is
        ∙ sym (numbered-map (substitute (valued g s)) scene.values i (λ k. refl))
        ∙ substitute_agrees (valued g s) (λ x. substitute base (b.theta x)) (numbered scene.values i (leaf (entry i)))
        (λ x c. in_value i there.0 (value_at scene i) x there.1 there.2 refl (subst (λ t. StandsIn (var x) t) (numbered_is i) c))
        ∙ sym (substitute_in_turn base b.theta (numbered scene.values i (leaf (entry i))))

    leaf_means : (t : Tree) → IsBuiltOf (IsBuiltLeaf scene b l) AnySymbol t → ((y : ℕ) → StandsIn (var y) t → base y ≡ valued g a y) → (x : Leaf)
        → StandsIn x t → replace (entries_to g) (variables_to a x) ≡ replace (variables_to base) (replace (variables_to b.theta) (meaning scene means x))
    leaf_means t up h (public n) c = refl
    leaf_means t up h (private n) c = refl
    leaf_means t up h (ax n) c = refl
    leaf_means t up h (rigid n) c = refl
    leaf_means t up h (entry i) c = entry_means i (leaf_meets (IsBuiltLeaf scene b l) AnySymbol up c)
    leaf_means t up h (var y) c =
        let open' = leaf_meets (IsBuiltLeaf scene b l) AnySymbol up c in
        let f = none_left y open'.0 open'.1 in
        sym (h y c) ∙ sym (ap (λ u. substitute base (substitute b.theta u)) (free y open'.0 f) ∙ ap (substitute base) f.1)

    -- so the value of a tree that is built for a term is the term's
    pub value_of_built : (t term : Tree) → IsBuilt scene b means l t term → ((y : ℕ) → StandsIn (var y) t → base y ≡ valued g a y)
        → put_entries g (substitute a t) ≡ substitute base (substitute b.theta term)
    value_of_built t term built h =
        replace_in_turn (variables_to a) (entries_to g) t
        ∙ replace_agrees (λ x. replace (entries_to g) (variables_to a x))
        (λ x. replace (variables_to base) (replace (variables_to b.theta) (meaning scene means x))) t (leaf_means t built.leaves h)
        ∙ sym (replace_in_turn (meaning scene means) (λ x. replace (variables_to base) (variables_to b.theta x)) t ∙ replace_agrees
        (λ x. replace (λ y. replace (variables_to base) (variables_to b.theta y)) (meaning scene means x))
        (λ x. replace (variables_to base) (replace (variables_to b.theta) (meaning scene means x))) t
        (λ x c. sym (replace_in_turn (variables_to b.theta) (variables_to base) (meaning scene means x))))
        ∙ sym (replace_in_turn (variables_to b.theta) (variables_to base) (meant scene means t))
        ∙ ap (substitute base) built.means_it

pub older_of : (names : ℕ → Type 0) (scene : Scene) → IsValid names scene → HaveOlderValues scene
older_of names scene valid = record { older = valid.older; each_value = valid.each_value }

-- where trees of the free variables are put in, the tree is ground
ground_leaf : (scene : Scene) (b : Branch) (names : ℕ → Type 0) (l : ℕ) (a : ℕ → Tree) (t : Tree)
    → ((y : ℕ) → StandsIn (var y) t → IsGroundUpTo names scene.system.m scene.system.know l (a y)) → ((k : ℕ) → StandsIn (rigid k) t → names k)
    → (x : Leaf) → StandsIn x t → IsBuiltLeaf scene b l x → IsBuiltOf (IsLeafUpTo names scene.system.m scene.system.know [] l) AnySymbol (variables_to a x)
ground_leaf scene b names l a t h r (public n) c k = tt
ground_leaf scene b names l a t h r (private n) c k = absurd k
ground_leaf scene b names l a t h r (ax n) c k = absurd k
ground_leaf scene b names l a t h r (entry i) c k = k
ground_leaf scene b names l a t h r (rigid n) c k = (r n c, k)
ground_leaf scene b names l a t h r (var y) c k = h y c

pub ground_built : (scene : Scene) (b : Branch) (names : ℕ → Type 0) (l : ℕ) (a : ℕ → Tree) (t : Tree)
    → IsBuiltOf (IsBuiltLeaf scene b l) AnySymbol t → ((y : ℕ) → StandsIn (var y) t → IsGroundUpTo names scene.system.m scene.system.know l (a y))
    → ((k : ℕ) → StandsIn (rigid k) t → names k) → IsGroundUpTo names scene.system.m scene.system.know l (substitute a t)
ground_built scene b names l a t up h r =
    built_instance (IsBuiltLeaf scene b l) AnySymbol (IsLeafUpTo names scene.system.m scene.system.know [] l) (variables_to a) t up (ground_leaf scene b names l a t h r)

module _ (names : ℕ → Type 0) (scene : Scene) (ask : Ask) (solution : GeneralSolution) (o : IsOutcome scene ask solution) (a s base : ℕ → Tree)
    (g : List Tree) (valid : IsValid names scene) (fits : Fits scene ask) (holds : HoldsRigidNamesOf names scene solution)
    (assigned : IsAssignment names scene solution a) (instance : IsInstance scene solution a s) (is : IsValuation scene s g)
    (on : (y : ℕ) → StandsInBinding scene solution y ⊎ Any (λ t. StandsIn (var y) t) solution.answers → base y ≡ valued g a y) where
  same_instance : (x l : ℕ) → level_of scene.system.levels x ≡ Some l → s x ≡ substitute a (o.last.trees x)
  same_instance x l e = instance.variables x l e ∙ ap (substitute a) (binding_at scene ask solution o x l e)

  tree_at : (x l : ℕ) → level_of scene.system.levels x ≡ Some l → IsGroundUpTo names scene.system.m scene.system.know l (s x)
  tree_at x l e =
      let at = binding_at scene ask solution o x l e in
      subst (IsGroundUpTo names scene.system.m scene.system.know l) (sym (same_instance x l e))
      (ground_built scene o.last names l a (o.last.trees x) (o.kept.bindings x l e).leaves
      (λ y c. assigned.bound x l y e (subst (λ t. StandsIn (var y) t) (sym at) c))
      (λ k c. holds x l k e (subst (λ t. StandsIn (rigid k) t) (sym at) c)))

  pub is_choice : IsChoice names scene.system s
  is_choice = record { trees = tree_at; others = instance.others }

  -- by levels: the variables have the values that theta gives
  values_below : (n x l : ℕ) → level_of scene.system.levels x ≡ Some l → l < n → valued g s x ≡ substitute base (o.last.theta x)
  values_below zero x l e low = absurd (omega (arith, low))
  values_below (suc n) x l e low =
      ap (put_entries g) (same_instance x l e)
      ∙ value_of_built scene o.last o.kept.means o.kept.means_free (is_free scene ask solution o) (older_of names scene valid) a s base g is l
      (λ y k f lower. values_below n y k f (omega (arith, lower, low)))
      (o.last.trees x) (leaf (var x)) (o.kept.bindings x l e)
      (λ y c. on y (inl (x, l, e, subst (λ t. StandsIn (var y) t) (sym (binding_at scene ask solution o x l e)) c)))

  pub values_agree : (x l : ℕ) → level_of scene.system.levels x ≡ Some l → substitute base (solution.theta x) ≡ valued g s x
  values_agree x l e = ap (substitute base) (theta_at scene ask solution o x) ∙ sym (values_below (suc l) x l e (omega arith))

  theta_is : o.last.theta ≡ solution.theta
  theta_is = sym (ap (λ (q : GeneralSolution). q.theta) o.is)

  answers_are : solution.answers ≡ map (λ (z : Target). o.last.trees z.name) ask.targets
  answers_are = ap (λ (q : GeneralSolution). q.answers) o.is

  equations_hold : Unifies (λ x. substitute base (o.last.theta x)) ask.equations
  equations_hold k d l =
      let p = slice_index_or ask.equations k d in
      sym (substitute_in_turn base o.last.theta p.0) ∙ ap (substitute base) (o.solved k d l) ∙ substitute_in_turn base o.last.theta p.1

  abbrev MeetsTarget : Target → Tree → Type 0
  MeetsTarget z t =
      IsGroundUpTo AnyRigidName scene.system.m scene.system.know z.level t
      × (put_entries g t ≡ substitute (λ x. substitute base (o.last.theta x)) z.term)

  level_is_m : (z : Target) → Contains ask.targets z → z.level ≡ scene.system.m
  level_is_m z c = subst (λ (y : Target). y.level ≡ scene.system.m) c.2 (fits.levels c.0 z c.1)

  target_met : (z : Target) → Contains ask.targets z → MeetsTarget z (substitute a (o.last.trees z.name))
  target_met z c =
      let built = o.kept.answers z c in
      let in_answers : Contains solution.answers (o.last.trees z.name) =
      subst (λ ts. Contains ts (o.last.trees z.name)) (sym answers_are) (mapped_contains (λ (y : Target). o.last.trees y.name) ask.targets z c)
      in (
        ground_built scene o.last AnyRigidName z.level a (o.last.trees z.name) built.leaves
            (λ y k. subst (λ n. IsGroundUpTo AnyRigidName scene.system.m scene.system.know n (a y)) (sym (level_is_m z c)) (assigned.asked (o.last.trees z.name) y in_answers k))
            (λ k h. tt),
        value_of_built scene o.last o.kept.means o.kept.means_free (is_free scene ask solution o) (older_of names scene valid) a s base g is z.level
            (λ x k e low. values_below z.level x k e low)
            (o.last.trees z.name) z.term built
            (λ y k. on y (inr (contains_any (λ t. StandsIn (var y) t) solution.answers (o.last.trees z.name) in_answers k)))
            ∙ substitute_in_turn base o.last.theta z.term,
      )

  -- the first direction
  pub meets : MeetsBy scene ask s g (λ x. substitute base (solution.theta x)) (map (substitute a) solution.answers)
  meets =
      subst (λ (ts : List Tree). MeetsBy scene ask s g (λ x. substitute base (solution.theta x)) (map (substitute a) ts)) (sym answers_are)
      (subst (λ (th : ℕ → Tree). MeetsBy scene ask s g (λ x. substitute base (th x)) (map (substitute a) (map (λ (z : Target). o.last.trees z.name) ask.targets))) theta_is at_last)
    where
      at_last : MeetsBy scene ask s g (λ x. substitute base (o.last.theta x)) (map (substitute a) (map (λ (z : Target). o.last.trees z.name) ask.targets))
      at_last = record {
        agrees = λ x l e. sym (values_below (suc l) x l e (omega arith));
        equations = equations_hold;
        targets = zip_mapped MeetsTarget (λ (z : Target). o.last.trees z.name) (substitute a) ask.targets target_met;
      }

pub listed_meet : (names : ℕ → Type 0) (scene : Scene) (ask : Ask) → ListedAreOutcomes names scene ask → ListedMeet names scene ask
listed_meet names scene ask outcomes = λ list moves solution a s base g valid fits found listed holds assigned instance is on.
    let o = outcomes list moves solution valid fits found listed in (
      is_choice names scene ask solution o a s base g valid fits holds assigned instance is on,
      meets names scene ask solution o a s base g valid fits holds assigned instance is on,
    )
