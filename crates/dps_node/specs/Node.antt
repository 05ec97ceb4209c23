-- Nodes of the partition tree.
use Rattle.std.specs.Prelude.{ℕ, ◌+◌, Bool, true, false, List, [], ◌∷◌, Option, Some, None, filter, filter_map}
use Rattle.std.specs.List.{flat_map}
use Rattle.dps_branch.specs.declared.Side.{Side}
use Rattle.dps_branch.specs.declared.Side.TheVariants.{Left, Right}
use Rattle.dps_terms.specs.Tree.{Tree}
use Rattle.dps_terms.specs.Variables.{occurrences}
use Rattle.dps_process.specs.Process.{Process}
use Rattle.dps_process.specs.Steps.{Label, inputs, outputs, overhears}
use Rattle.dps_process.specs.Problem.{Problem}
use Rattle.dps_know.specs.Know.{Knowledge}
use Rattle.dps_solver.specs.Scene.{Disequation, System, Scene}
use Rattle.dps_renewal.specs.Numbering.{is_among}

-- a configuration whose terms may hold the node's variables, with the values of the entries in it, and whether its private
-- communications stand in the node already
pub record SymbolicConfig : Type 0 where
  pub side : Side
  pub parts : List Process
  pub frame : List Tree
  pub values : List Tree
  pub mixed : Bool

-- A node: its word, whose input labels hold trees; the level of each variable that was ever given, by its number, counted
-- from 1; the attacker's knowledge; disequations; configurations; the length of the frames; whether all is known that can be
-- deduced; whether the last handle is still to be examined; and the count of steps since the last label.
pub record Node : Type 0 where
  pub labels : List Label
  pub levels : List ℕ
  pub know : Knowledge
  pub disequations : List Disequation
  pub configs : List SymbolicConfig
  pub m : ℕ
  pub closed : Bool
  pub examine : Bool
  pub count : ℕ

-- the trees of the input labels
abbrev pub label_tree : Label → Option Tree
label_tree (inputs c t) = Some t
label_tree (outputs c j) = None
label_tree (overhears c j) = None

abbrev pub label_trees : Node → List Tree
label_trees node = filter_map label_tree node.labels

abbrev pub label_under : (Tree → Tree) → Label → Label
label_under f (inputs c t) = inputs c (f t)
label_under f (outputs c j) = outputs c j
label_under f (overhears c j) = overhears c j

-- the numbers with their levels
abbrev pub numbered_from : ℕ → List ℕ → List (ℕ × ℕ)
numbered_from n [] = []
numbered_from n (l ∷ ls) = (n, l) ∷ numbered_from (n + 1) ls

-- the node's variables, with their levels, by number: those that stand in its label trees
abbrev pub variables_of : Node → List (ℕ × ℕ)
variables_of node = filter (λ (p : ℕ × ℕ). is_among p.0 (flat_map occurrences (label_trees node))) (numbered_from 1 node.levels)

-- the constraint system of the node, and the scene of one of its configurations
abbrev pub system_of : Node → System
system_of node =
    record {
      m = node.m;
      levels = variables_of node;
      know = node.know;
      labels = label_trees node;
      disequations = node.disequations;
    }

abbrev pub scene_of : Node → SymbolicConfig → Scene
scene_of node c = record { system = system_of node; values = c.values }

-- the node with other configurations, or with another count
abbrev pub with_configs : Node → List SymbolicConfig → Node
with_configs node configs = record node { configs = configs }

abbrev pub at_count : Node → ℕ → Node
at_count node n = record node { count = n }

-- the root: both processes, and nothing known
abbrev pub begins : Side → Process → SymbolicConfig
begins side p = record { side = side; parts = p ∷ []; frame = []; values = []; mixed = false }

abbrev pub root : Problem → Node
root problem =
    record {
      labels = [];
      levels = [];
      know = record { entries = []; handles = [] };
      disequations = [];
      configs = begins Left problem.left ∷ begins Right problem.right ∷ [];
      m = 0;
      closed = true;
      examine = false;
      count = 0;
    }
