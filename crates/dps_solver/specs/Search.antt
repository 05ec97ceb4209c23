-- The search for the most general solutions of an ask: which it lists, in which order, and with how many moves.
use Rattle.std.specs.Prelude.{◌≡◌, ◌↔◌, ◌<◌, ◌≤◌, ℕ, ◌+◌, nat_le, nat_eq, max, is_some, if◌then◌else◌, List, [], ◌∷◌, ◌++◌, Some, map, length, Contains, AllPairs}
use Rattle.std.specs.List.{zip, range_with_len, flat_map}
use Rattle.dps_terms.specs.Tree.{public, private, var, ax, entry, rigid, Tree, leaf, app, trees}
use Rattle.dps_terms.specs.Replace.{substitute, numbered}
use Rattle.dps_terms.specs.Variables.{occurrences}
use Rattle.dps_terms.specs.Views.{arguments}
use Rattle.dps_terms.specs.Bindings.{image}
use Rattle.dps_unify.specs.Order.{level_of}
use Rattle.dps_unify.specs.Unifier.{IsMgu, IsNotUnifiable}
use Rattle.dps_know.specs.Know.{compositions}
use Rattle.dps_know.specs.declared.know.Entry.{Entry}
use Rattle.dps_solver.specs.Levels.{IsVariableUpTo}
use Rattle.dps_solver.specs.Scene.{Disequation, System, Scene, Ask}
use Rattle.dps_solver.specs.declared.scene.Target.{Target}
use Rattle.dps_solver.specs.Solutions.{identity, Respects}

-- A most general solution: the tree of each variable of the scene, the trees of the ask's targets, and what is put for
-- variables in values.
pub record GeneralSolution : Type 0 where
  pub bindings : ℕ → Tree
  pub answers : List Tree
  pub theta : ℕ → Tree

-- a solution is plain where it binds each variable of the scene to itself
abbrev pub IsPlain : GeneralSolution → Type 0
IsPlain solution = (x : ℕ) → solution.bindings x ≡ leaf (var x)

-- A branch of the search: what is put for variables in values, the trees that they and the targets have so far, the
-- targets that are left, the variables with their levels, and the least number that no variable has had.
pub record Branch : Type 0 where
  pub theta : ℕ → Tree
  pub trees : ℕ → Tree
  pub targets : List Target
  pub levels : List (ℕ × ℕ)
  pub next : ℕ

-- one more substitution after z: t for the variable x
abbrev pub then_put : ℕ → Tree → (ℕ → Tree) → ℕ → Tree
then_put x t z y = substitute (image ((x, t) ∷ [])) (z y)

-- the target's tree is t, and the others are left
abbrev pub with_tree : Branch → Target → List Target → Tree → Branch
with_tree b z rest t = record b { trees = then_put z.name t b.trees; targets = rest }

-- the variable w becomes the target's, at the target's level
abbrev pub lowered : Branch → Target → List Target → ℕ → Branch
lowered b z rest w =
    record {
      theta = then_put w (leaf (var z.name)) b.theta;
      trees = then_put w (leaf (var z.name)) b.trees;
      targets = rest;
      levels = (z.name, z.level) ∷ b.levels;
      next = b.next;
    }

-- the root of the term over new variables, for whose trees the arguments become the first targets
abbrev pub root_over : Tree → List ℕ → Tree
root_over (leaf x) numbers = leaf x
root_over (app f ts) numbers = app f (trees (map (λ n. leaf (var n)) numbers))

abbrev pub argument_targets : Target → List ℕ → List Tree → List Target
argument_targets z numbers ts = map (λ p. record { name = p.0; level = z.level; term = p.1 }) (zip numbers ts)

abbrev pub composed : Branch → Target → List Target → Tree → Branch
composed b z rest t =
    let numbers : List ℕ = range_with_len b.next (length (arguments t)) in
    record {
      theta = b.theta;
      trees = then_put z.name (root_over t numbers) b.trees;
      targets = argument_targets z numbers (arguments t) ++ rest;
      levels = b.levels;
      next = b.next + length (arguments t);
    }

-- the variables with a level, each with it, that are free before and bound after, by number
pub record AreNewlyBound (levels : List (ℕ × ℕ)) (before after : ℕ → Tree) (bound : List (ℕ × ℕ)) : Type 0 where
  pub ascending : AllPairs (λ p q. p.0 < q.0) bound
  pub those :
      (p : ℕ × ℕ)
      → Contains bound p
      ↔ ((level_of levels p.0 ≡ Some p.1) × (before p.0 ≡ leaf (var p.0)) × ¬ (after p.0 ≡ leaf (var p.0)))

-- A variable that is bound to another one has it as its tree; for one that is bound to another term a tree is sought.
abbrev pub with_one_bound : Tree → ℕ × ℕ → Branch → Branch
with_one_bound (leaf (var y)) p b = record b { trees = then_put p.0 (leaf (var y)) b.trees }
with_one_bound t p b = record b { targets = b.targets ++ record { name = p.0; level = p.1; term = t } ∷ [] }

abbrev pub with_bound : List (ℕ × ℕ) → Branch → Branch
with_bound [] b = b
with_bound (p ∷ ps) b = with_bound ps (with_one_bound (b.theta p.0) p b)

-- The ways to go on from a branch: to follow a variable, to use an entry, or to compose.
pub data Way : Type 0 where
  follow : Way
  use_entry : ℕ → Way
  compose : Way

-- the entries of level at most l, by number
abbrev pub entry_ways : ℕ → ℕ → List Entry → List Way
entry_ways l i [] = []
entry_ways l i (e ∷ es) = if nat_le e.level l then use_entry i ∷ entry_ways l (i + 1) es else entry_ways l (i + 1) es

-- The ways for a target of level l and a term, in their order: a variable is followed; for another term each entry of
-- level at most l is used, by number, and then a symbol, a public name, or at level m a rigid name is composed.
abbrev pub ways : System → ℕ → Tree → List Way
ways system l (leaf (var w)) = follow ∷ []
ways system l (leaf (public n)) = entry_ways l 1 system.know.entries ++ compose ∷ []
ways system l (leaf (rigid k)) = entry_ways l 1 system.know.entries ++ (if nat_eq l system.m then compose ∷ [] else [])
ways system l (leaf (private n)) = entry_ways l 1 system.know.entries
ways system l (leaf (ax j)) = entry_ways l 1 system.know.entries
ways system l (leaf (entry i)) = entry_ways l 1 system.know.entries
ways system l (app f ts) = entry_ways l 1 system.know.entries ++ compose ∷ []

-- the entry's value and the target's term, with theta put in
abbrev pub entry_equation : Scene → Branch → Target → ℕ → List (Tree × Tree)
entry_equation scene b z i = (substitute b.theta (numbered scene.values i (leaf (entry i))), substitute b.theta z.term) ∷ []

-- The way leads to this branch.
pub data Leads (scene : Scene) (b : Branch) (z : Target) (rest : List Target) : Way → Branch → Type 0 where
  -- a variable of at most the target's level is the target's tree
  follows :
      {w : ℕ} {c : Branch}
      → substitute b.theta z.term ≡ leaf (var w)
      → IsVariableUpTo b.levels z.level w
      → c ≡ with_tree b z rest (leaf (var w))
      → Leads scene b z rest follow c
  -- a variable of a rule, or of a greater level, becomes the target's
  lowers :
      {w : ℕ} {c : Branch}
      → substitute b.theta z.term ≡ leaf (var w)
      → ¬ IsVariableUpTo b.levels z.level w
      → c ≡ lowered b z rest w
      → Leads scene b z rest follow c
  -- the entry is the target's tree, where its value and the term are made equal
  uses :
      {i : ℕ} {u : List (ℕ × Tree)} {theta : ℕ → Tree} {bound : List (ℕ × ℕ)} {c : Branch}
      → IsMgu b.levels (entry_equation scene b z i) u
      → theta ≡ (λ x. substitute (image u) (b.theta x))
      → AreNewlyBound b.levels b.theta theta bound
      → c ≡ with_bound bound (record (with_tree b z rest (leaf (entry i))) { theta = theta })
      → Leads scene b z rest (use_entry i) c
  -- the term's root is composed of trees that are still sought
  composes : {c : Branch} → c ≡ composed b z rest (substitute b.theta z.term) → Leads scene b z rest compose c

-- the trees of the scene's variables
abbrev pub bindings_of : Scene → Branch → ℕ → Tree
bindings_of scene b x = if is_some (level_of scene.system.levels x) then b.trees x else leaf (var x)

abbrev pub solution_of : Scene → Ask → Branch → GeneralSolution
solution_of scene ask b =
    record { bindings = bindings_of scene b; answers = map (λ (z : Target). b.trees z.name) ask.targets; theta = b.theta }

-- The search from a branch lists these solutions, in this order, and takes this number of moves. A branch with no target
-- left gives its solution, where this respects the scene, or nothing. Else the ways for the first target are tried in
-- their order. Each is one move, whether it can be gone or not.
mutual
  pub data Lists (scene : Scene) (ask : Ask) : Branch → List GeneralSolution → ℕ → Type 0 where
    gives :
        {b : Branch} {list : List GeneralSolution} {moves : ℕ}
        → b.targets ≡ []
        → Respects scene.system (bindings_of scene b)
        → list ≡ solution_of scene ask b ∷ []
        → moves ≡ 0
        → Lists scene ask b list moves
    drops :
        {b : Branch} {list : List GeneralSolution} {moves : ℕ}
        → b.targets ≡ []
        → ¬ Respects scene.system (bindings_of scene b)
        → list ≡ []
        → moves ≡ 0
        → Lists scene ask b list moves
    goes_on :
        {b : Branch} {z : Target} {rest : List Target} {list : List GeneralSolution} {moves : ℕ}
        → b.targets ≡ z ∷ rest
        → ListsBy scene ask b z rest (ways scene.system z.level (substitute b.theta z.term)) list moves
        → Lists scene ask b list moves

  pub data ListsBy (scene : Scene) (ask : Ask) : Branch → Target → List Target → List Way → List GeneralSolution → ℕ → Type 0 where
    no_way : {b : Branch} {z : Target} {rest : List Target} → ListsBy scene ask b z rest [] [] 0
    -- the way leads on
    leads :
        {b c : Branch} {z : Target} {rest : List Target} {w : Way} {ws : List Way} {list here others : List GeneralSolution} {moves first after : ℕ}
        → Leads scene b z rest w c
        → Lists scene ask c here first
        → ListsBy scene ask b z rest ws others after
        → list ≡ here ++ others
        → moves ≡ 1 + first + after
        → ListsBy scene ask b z rest (w ∷ ws) list moves
    -- the entry's value and the term can't be made equal
    ends :
        {b : Branch} {z : Target} {rest : List Target} {i : ℕ} {ws : List Way} {list : List GeneralSolution} {moves after : ℕ}
        → IsNotUnifiable (entry_equation scene b z i)
        → ListsBy scene ask b z rest ws list after
        → moves ≡ 1 + after
        → ListsBy scene ask b z rest (use_entry i ∷ ws) list moves

-- the numbers of all variables of the scene and the ask, the names of targets and free variables of disequations included
abbrev pub entry_numbers : Entry → List ℕ
entry_numbers e = occurrences e.recipe

abbrev pub disequation_numbers : Disequation → List ℕ
disequation_numbers d = d.free ++ flat_map (λ (p : Tree × Tree). occurrences p.0 ++ occurrences p.1) d.pairs

abbrev pub system_numbers : System → List ℕ
system_numbers system =
    map (λ (p : ℕ × ℕ). p.0) system.levels
    ++ (flat_map entry_numbers system.know.entries
    ++ (flat_map occurrences (compositions system.know)
    ++ (flat_map occurrences system.know.handles ++ (flat_map occurrences system.labels ++ flat_map disequation_numbers system.disequations))))

abbrev pub ask_numbers : Ask → List ℕ
ask_numbers ask =
    flat_map (λ (p : Tree × Tree). occurrences p.0 ++ occurrences p.1) ask.equations
    ++ flat_map (λ (z : Target). z.name ∷ occurrences z.term) ask.targets

-- the least number above all of the list
abbrev pub least_above : List ℕ → ℕ
least_above [] = 0
least_above (n ∷ ns) = max (n + 1) (least_above ns)

abbrev pub first_new : Scene → Ask → ℕ
first_new scene ask = least_above (system_numbers scene.system ++ (flat_map occurrences scene.values ++ ask_numbers ask))

-- the branch of an ask without equations
abbrev pub unbound : Scene → Ask → Branch
unbound scene ask =
    record { theta = identity; trees = identity; targets = ask.targets; levels = scene.system.levels; next = first_new scene ask }

-- The search lists these solutions of the ask, in this order, with this number of moves.
pub data Finds (scene : Scene) (ask : Ask) : List GeneralSolution → ℕ → Type 0 where
  -- nothing makes the equations true
  unsolvable : {moves : ℕ} → IsNotUnifiable ask.equations → moves ≡ 0 → Finds scene ask [] moves
  -- the search starts with their most general unifier
  starts :
      {u : List (ℕ × Tree)} {theta : ℕ → Tree} {bound : List (ℕ × ℕ)} {b : Branch} {list : List GeneralSolution} {moves : ℕ}
      → IsMgu scene.system.levels ask.equations u
      → theta ≡ image u
      → AreNewlyBound scene.system.levels identity theta bound
      → b ≡ with_bound bound (record (unbound scene ask) { theta = theta })
      → Lists scene ask b list moves
      → Finds scene ask list moves

-- The search ends with no more moves than are left, or it is spent: whatever it would list takes more.
abbrev pub IsFoundWithin : Scene → Ask → ℕ → List GeneralSolution → ℕ → Type 0
IsFoundWithin scene ask left list moves = Finds scene ask list moves × (moves ≤ left)

abbrev pub IsSpentWithin : Scene → Ask → ℕ → Type 0
IsSpentWithin scene ask left = (list : List GeneralSolution) (moves : ℕ) → Finds scene ask list moves → left < moves
