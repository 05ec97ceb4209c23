-- Splits of a node on bindings of its variables, and partitions of its configurations.
use Rattle.std.specs.Prelude.{◌≡◌, ◌≢◌, ◌≤◌, ℕ, ◌+◌, Bool, true, false, not, List, [], ◌∷◌, ◌++◌, Some, None, map, filter, length, slice_get, All, Contains}
use Rattle.std.specs.List.{AllZip, range_with_len}
use Rattle.dps_terms.specs.Tree.{var, entry, Tree, leaf, StandsIn}
use Rattle.dps_terms.specs.Replace.{substitute, variables_to}
use Rattle.dps_terms.specs.Variables.{occurrences}
use Rattle.dps_terms.specs.Same.{same}
use Rattle.dps_process.specs.Process.{Process, EachBinder, replace_in}
use Rattle.dps_unify.specs.Order.{level_of}
use Rattle.dps_know.specs.Know.{know_under}
use Rattle.dps_solver.specs.Scene.{Disequation}
use Rattle.dps_solver.specs.Solutions.{valued, IsValuation}
use Rattle.dps_node.specs.Node.{SymbolicConfig, Node, label_under, variables_of, scene_of, with_configs}
use Rattle.dps_renewal.specs.Numbering.{is_among, counted_as, as_variable, variables_in, least}

-- what each of the node's variables becomes
abbrev pub bound_trees : Node → (ℕ → Tree) → List Tree
bound_trees node bindings = map (λ (p : ℕ × ℕ). bindings p.0) (variables_of node)

-- the new variables of the bindings, by first occurrence; they get the node's next numbers
abbrev pub new_variables : Node → (ℕ → Tree) → List ℕ
new_variables node bindings =
    variables_in (λ y. not (is_among y (map (λ (p : ℕ × ℕ). p.0) (variables_of node)))) (bound_trees node bindings)

-- what a variable becomes, with the new numbers
abbrev pub binding : Node → (ℕ → Tree) → ℕ → Tree
binding node bindings x =
    substitute (counted_as as_variable (length node.levels + 1) (new_variables node bindings)) (bindings x)

-- a new variable has the least level of the node's variables in whose bindings it stands
abbrev pub new_level : Node → (ℕ → Tree) → ℕ → ℕ
new_level node bindings y =
    least
    (map (λ (p : ℕ × ℕ). p.1) (filter (λ (p : ℕ × ℕ). is_among y (occurrences (bindings p.0))) (variables_of node)))

abbrev pub new_levels : Node → (ℕ → Tree) → List ℕ
new_levels node bindings = map (new_level node bindings) (new_variables node bindings)

-- the disequation with trees put for variables
abbrev pub disequation_under : (ℕ → Tree) → Disequation → Disequation
disequation_under z d = record { free = d.free; pairs = map (λ p. (substitute z p.0, substitute z p.1)) d.pairs }

-- The configuration with z put for the variables: a variable stands for a tree in what the attacker built, and for its value
-- in values, messages and parts. The new values are computed from themselves, as each holds variables of smaller level.
pub record IsConfigUnder (node : Node) (z : ℕ → Tree) (c d : SymbolicConfig) : Type 0 where
  pub side : d.side ≡ c.side
  pub values : IsValuation (scene_of node c) z d.values
  pub frame : d.frame ≡ map (substitute (valued d.values z)) c.frame
  pub parts : d.parts ≡ map (replace_in (variables_to (valued d.values z))) c.parts
  pub mixed : d.mixed ≡ c.mixed

-- Kid 0 of a split: the bindings are put everywhere.
pub record Applies (node : Node) (bindings : ℕ → Tree) (kid : Node) : Type 0 where
  pub labels : kid.labels ≡ map (label_under (substitute (binding node bindings))) node.labels
  pub levels : kid.levels ≡ node.levels ++ new_levels node bindings
  pub know : kid.know ≡ know_under (binding node bindings) node.know
  pub disequations : kid.disequations ≡ map (disequation_under (binding node bindings)) node.disequations
  pub configs : AllZip (IsConfigUnder node (binding node bindings)) node.configs kid.configs
  pub m : kid.m ≡ node.m
  pub closed : kid.closed ≡ node.closed
  pub examine : kid.examine ≡ node.examine
  pub count : kid.count ≡ node.count

-- Kid 1 of a split: no trees for the new variables give the bindings.
abbrev pub exclusion : Node → (ℕ → Tree) → Disequation
exclusion node bindings =
    record {
      free = range_with_len (length node.levels + 1) (length (new_variables node bindings));
      pairs =
          map
          (λ (p : ℕ × ℕ). (leaf (var p.0), binding node bindings p.0))
          (filter (λ (p : ℕ × ℕ). not (same (binding node bindings p.0) (leaf (var p.0)))) (variables_of node));
    }

abbrev pub excluded : Node → (ℕ → Tree) → Node
excluded node bindings =
    record node { levels = node.levels ++ new_levels node bindings; disequations = node.disequations ++ exclusion node bindings ∷ [] }

-- the two kids of a split
abbrev pub IsSplit : Node → (ℕ → Tree) → List Node → Type 0
IsSplit node bindings kids = (kid : Node) × Applies node bindings kid × (kids ≡ kid ∷ excluded node bindings ∷ [])

-- The i-th entry's value, counted from 0, holds variables whose trees hold only entries that came before.
abbrev pub HasOlderEntries : (ℕ → Tree) → List Tree → Type 0
HasOlderEntries z values =
    (i x j : ℕ) (v : Tree) → slice_get values i ≡ Some v → StandsIn (var x) v → StandsIn (entry j) (z x) → j ≤ i

-- no part of the configuration binds a variable that stands in the value of what is put for another one
abbrev pub BindsNoneOf : (ℕ → Tree) → SymbolicConfig → Type 0
BindsNoneOf z c =
    (g : List Tree) (p : Process) (x : ℕ) → g ≡ map (substitute (valued g z)) c.values → Contains c.parts p → z x ≢ leaf (var x)
    → EachBinder (λ y. ¬ StandsIn (var y) (valued g z x)) p

-- Bindings by which a node can be split: they bind its own variables alone, and can be put into its configurations. What
-- the search lists for a node of the tree is such.
pub record CanSplit (node : Node) (bindings : ℕ → Tree) : Type 0 where
  pub own : (x : ℕ) → level_of (variables_of node) x ≡ None → bindings x ≡ leaf (var x)
  pub older : All (λ (c : SymbolicConfig). HasOlderEntries (binding node bindings) c.values) node.configs
  pub apart : All (BindsNoneOf (binding node bindings)) node.configs

-- those at whose place the list has this truth value
abbrev pub chosen : {A : Type 0} → Bool → List Bool → List A → List A
chosen true (true ∷ bs) (c ∷ cs) = c ∷ chosen true bs cs
chosen true (false ∷ bs) (c ∷ cs) = chosen true bs cs
chosen false (true ∷ bs) (c ∷ cs) = chosen false bs cs
chosen false (false ∷ bs) (c ∷ cs) = c ∷ chosen false bs cs
chosen b bs cs = []

-- the node with these configurations, where there are any
abbrev pub where_any : Node → List SymbolicConfig → List Node
where_any node [] = []
where_any node (c ∷ cs) = with_configs node (c ∷ cs) ∷ []

-- a partition: the configurations for which it holds, and the others
abbrev pub partition : Node → List Bool → List Node
partition node holds = where_any node (chosen true holds node.configs) ++ where_any node (chosen false holds node.configs)
