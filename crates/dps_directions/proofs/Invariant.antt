-- What every branch of a search keeps.
use Rattle.std.specs.Prelude.{◌≡◌, ◌≢◌, ◌⊎◌, ◌<◌, ◌≤◌, ℕ, Some, None, Contains, AllPairs, ⊤}
use Rattle.dps_terms.specs.Tree.{Leaf, public, private, var, ax, entry, rigid, Tree, leaf, StandsIn}
use Rattle.dps_terms.specs.Replace.{replace, substitute, numbered}
use Rattle.dps_terms.specs.Kinds.{IsBuiltOf, AnySymbol}
use Rattle.dps_unify.specs.Order.{level_of}
use Rattle.dps_solver.specs.Levels.{IsEntryUpTo}
use Rattle.dps_solver.specs.Scene.{Scene, Ask}
use Rattle.dps_solver.specs.declared.scene.Target.{Target}
use Rattle.dps_solver.specs.Search.{Branch, system_numbers}

-- a tree is still sought for the variable, at this level
abbrev pub IsPending : Branch → ℕ → ℕ → Type 0
IsPending b y l = (z : Target) × Contains b.targets z × (z.name ≡ y) × (z.level ≡ l)

-- the variable has this level, and is bound to nothing
abbrev pub IsFree : Branch → ℕ → ℕ → Type 0
IsFree b y l = (level_of b.levels y ≡ Some l) × (b.theta y ≡ leaf (var y))

-- what may stand in trees
abbrev pub IsOpen : Branch → ℕ → ℕ → Type 0
IsOpen b y l = IsPending b y l ⊎ IsFree b y l

abbrev pub IsBuiltLeaf : Scene → Branch → ℕ → Leaf → Type 0
IsBuiltLeaf scene b l (public n) = ⊤
IsBuiltLeaf scene b l (var y) = (k : ℕ) × IsOpen b y k × (k ≤ l)
IsBuiltLeaf scene b l (entry i) = IsEntryUpTo scene.system.know l i
IsBuiltLeaf scene b l (rigid k) = scene.system.m ≤ l
IsBuiltLeaf scene b l (private n) = ⊥
IsBuiltLeaf scene b l (ax j) = ⊥

-- the term that a tree means: an entry means its value, and a variable what is given
abbrev pub meaning : Scene → (ℕ → Tree) → Leaf → Tree
meaning scene means (var y) = means y
meaning scene means (entry i) = numbered scene.values i (leaf (entry i))
meaning scene means (public n) = leaf (public n)
meaning scene means (private n) = leaf (private n)
meaning scene means (ax j) = leaf (ax j)
meaning scene means (rigid k) = leaf (rigid k)

abbrev pub meant : Scene → (ℕ → Tree) → Tree → Tree
meant scene means t = replace (meaning scene means) t

-- the tree has at most this level and means this term
pub record IsBuilt (scene : Scene) (b : Branch) (means : ℕ → Tree) (l : ℕ) (tree term : Tree) : Type 0 where
  pub leaves : IsBuiltOf (IsBuiltLeaf scene b l) AnySymbol tree
  pub means_it : substitute b.theta (meant scene means tree) ≡ substitute b.theta term

-- the terms of the search: what stands in them is put through the branch's substitution alone
pub data IsTermOf (scene : Scene) (ask : Ask) (b : Branch) : Tree → Type 0 where
  value_of : {v : Tree} → Contains scene.values v → IsTermOf scene ask b v
  sought_for : {z : Target} → Contains b.targets z → IsTermOf scene ask b z.term
  asked_for : {z : Target} → Contains ask.targets z → IsTermOf scene ask b z.term
  left_of : {p : Tree × Tree} → Contains ask.equations p → IsTermOf scene ask b p.0
  right_of : {p : Tree × Tree} → Contains ask.equations p → IsTermOf scene ask b p.1

-- the target's name is a new one: nothing has it yet
pub record IsNew (scene : Scene) (ask : Ask) (b : Branch) (y : ℕ) : Type 0 where
  pub unbound : b.theta y ≡ leaf (var y)
  pub no_level : level_of b.levels y ≡ None
  pub terms : (t : Tree) → IsTermOf scene ask b t → ¬ StandsIn (var y) t

-- or it is a variable with a level that is bound to the target's term, which is no variable
pub record IsBoundTo (scene : Scene) (b : Branch) (z : Target) : Type 0 where
  pub level : level_of b.levels z.name ≡ Some z.level
  pub term : b.theta z.name ≡ substitute b.theta z.term
  pub composed : (w : ℕ) → b.theta z.name ≢ leaf (var w)

-- the variable stands in the tree of a variable of the scene
abbrev pub IsInBindings : Scene → Branch → ℕ → Type 0
IsInBindings scene b y = (x l : ℕ) × (level_of scene.system.levels x ≡ Some l) × StandsIn (var y) (b.trees x)

-- What every branch of the search keeps.
pub record IsKept (scene : Scene) (ask : Ask) (b : Branch) : Type 0 where
  pub means : ℕ → Tree
  pub means_sought : (z : Target) → Contains b.targets z → substitute b.theta (means z.name) ≡ substitute b.theta z.term
  pub means_free : (y l : ℕ) → IsFree b y l → means y ≡ leaf (var y)
  -- what is put for variables is put once, and binds no variable with a level to one without
  pub idempotent : (x : ℕ) → substitute b.theta (b.theta x) ≡ b.theta x
  pub levelled : (x l y : ℕ) → level_of b.levels x ≡ Some l → b.theta x ≡ leaf (var y) → (k : ℕ) × (level_of b.levels y ≡ Some k) × (k ≤ l)
  -- names of targets are distinct and apart
  pub distinct : AllPairs (λ (z y : Target). z.name ≢ y.name) b.targets
  pub apart : (z : Target) (x : ℕ) → Contains b.targets z → x ≢ z.name → ¬ StandsIn (var z.name) (b.theta x)
  pub names : (z : Target) → Contains b.targets z → IsNew scene ask b z.name ⊎ IsBoundTo scene b z
  -- new numbers are new
  pub below_next : (y l : ℕ) → IsOpen b y l → y < b.next
  pub new_numbers : (n : ℕ) → b.next ≤ n → IsNew scene ask b n × ((x : ℕ) → x ≢ n → ¬ StandsIn (var n) (b.theta x))
  -- an open variable is the scene's, or above all numbers of the system
  pub fresh :
      (y l : ℕ) → IsOpen b y l
      → ((k : ℕ) × (level_of scene.system.levels y ≡ Some k)) ⊎ ((x : ℕ) → Contains (system_numbers scene.system) x → x < y)
  pub next_high : (x : ℕ) → Contains (system_numbers scene.system) x → x < b.next
  -- levels: those of the scene, and none above m
  pub levels : (x l : ℕ) → level_of scene.system.levels x ≡ Some l → level_of b.levels x ≡ Some l
  pub up_to_m : (y l : ℕ) → IsOpen b y l → l ≤ scene.system.m
  -- the trees are built for what they are sought for
  pub bindings : (x l : ℕ) → level_of scene.system.levels x ≡ Some l → IsBuilt scene b means l (b.trees x) (leaf (var x))
  pub answers : (z : Target) → Contains ask.targets z → IsBuilt scene b means z.level (b.trees z.name) z.term
  pub unbound : (x l : ℕ) → level_of scene.system.levels x ≡ Some l → b.theta x ≡ leaf (var x) → b.trees x ≡ leaf (var x)
  -- A variable that stands in bindings has the least level of them, and any other the level m.
  pub least :
      (y l : ℕ) → IsOpen b y l → IsInBindings scene b y
      → (x k : ℕ) × (level_of scene.system.levels x ≡ Some k) × StandsIn (var y) (b.trees x) × (k ≤ l)
  pub others : (y l : ℕ) → IsOpen b y l → ¬ IsInBindings scene b y → l ≡ scene.system.m
