-- What the code's structures stand for.
use Rattle.std.specs.Prelude.{ℕ, ◌+◌, List, [], length, map}
use Rattle.dps_terms.specs.Tree.{Tree}
use Rattle.dps_terms.specs.Variables.{variables}
use Rattle.dps_process.specs.Steps.{Label, inputs, outputs, overhears}
use Rattle.dps_process.specs.Labels.{label_of}
use Rattle.dps_renewal.specs.declared.renewal.Renewal.{Renewal}
use Rattle.dps_renewal.specs.Putting.{IsRenewed}
use Rattle.dps_solver.specs.Code.{disequation_of}
use Rattle.dps_node.specs.declared.node.SymConfig.{SymConfig}
use Rattle.dps_node.specs.declared.node.Node.{Node as CodeNode}
use Rattle.dps_node.specs.Node.{SymbolicConfig, Node, variables_of}

abbrev pub config_of : SymConfig → SymbolicConfig
config_of c = record { side = c.side; parts = c.parts.items; frame = c.frame.items; values = c.values.items; mixed = c.mixed }

abbrev pub node_of : CodeNode → Node
node_of n =
    record {
      labels = map label_of n.labels.items;
      levels = n.levels.items;
      know = n.know;
      disequations = map disequation_of n.disequations.items;
      configs = map config_of n.configs.items;
      m = n.m;
      closed = n.closed;
      examine = n.examine;
      count = n.count;
    }

-- the variables of the label's tree, each once, by first occurrence
abbrev pub label_variables : Label → List ℕ
label_variables (inputs c t) = variables t
label_variables (outputs c j) = []
label_variables (overhears c j) = []

-- what becomes of the node's variables in a split
abbrev pub IsRenewal : Node → (ℕ → Tree) → Renewal → Type 0
IsRenewal node bindings renewal = IsRenewed (variables_of node) (length node.levels + 1) bindings renewal
