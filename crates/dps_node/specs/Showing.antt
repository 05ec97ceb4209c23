-- Rule 5: the kids by visible labels.
use Rattle.std.specs.Prelude.{◌≡◌, ◌≢◌, ℕ, ◌+◌, true, false, nat_eq, if◌then◌else◌, List, [], ◌∷◌, ◌++◌, Option, Some, None, map, filter_map, length}
use Rattle.std.specs.List.{flat_map}
use Rattle.dps_terms.specs.Tree.{var, leaf}
use Rattle.dps_signature.specs.Signature.{Name, Signature}
use Rattle.dps_process.specs.Process.{Process, input, output, put}
use Rattle.dps_process.specs.Steps.{inputs, outputs}
use Rattle.dps_node.specs.Node.{SymbolicConfig, Node, with_configs}
use Rattle.dps_node.specs.Mixing.{picks, AddsEach}

-- the numbers of the public names, in order
abbrev pub public_from : ℕ → List Name → List ℕ
public_from n [] = []
public_from n (name ∷ names) = if name.is_private then public_from (n + 1) names else n ∷ public_from (n + 1) names

abbrev pub public_channels : Signature → List ℕ
public_channels signature = public_from 0 signature.names

-- the configuration after the part's output on the channel, or after its input of the variable, where the part acts so
abbrev pub sent : ℕ → SymbolicConfig → Process × List Process → Option SymbolicConfig
sent c config (output d u p, rest) =
    if nat_eq c d
    then Some (record { side = config.side; parts = rest ++ p ∷ []; frame = config.frame ++ u ∷ []; values = config.values; mixed = false })
    else None
sent c config (p, rest) = None

abbrev pub received : ℕ → ℕ → SymbolicConfig → Process × List Process → Option SymbolicConfig
received c y config (input d x p, rest) =
    if nat_eq c d
    then Some (record { side = config.side; parts = rest ++ put x (leaf (var y)) p ∷ []; frame = config.frame; values = config.values; mixed = false })
    else None
received c y config (p, rest) = None

-- the node after an output on the channel, with all configurations that come of one
abbrev pub after_output : Node → ℕ → Node
after_output node c =
    record node {
      labels = node.labels ++ outputs c (node.m + 1) ∷ [];
      configs = flat_map (λ (k : SymbolicConfig). filter_map (sent c k) (picks k.parts)) node.configs;
      m = node.m + 1;
      closed = false;
      examine = true;
      count = 0;
    }

-- the node after an input of a new variable of level m
abbrev pub after_input : Node → ℕ → Node
after_input node c =
    record node {
      labels = node.labels ++ inputs c (leaf (var (length node.levels + 1))) ∷ [];
      levels = node.levels ++ node.m ∷ [];
      configs = flat_map (λ (k : SymbolicConfig). filter_map (received c (length node.levels + 1) k) (picks k.parts)) node.configs;
      count = 0;
    }

-- for each public channel in order the outputs, and then for each the inputs
abbrev pub shown : Signature → Node → List Node
shown signature node = map (after_output node) (public_channels signature) ++ map (after_input node) (public_channels signature)

-- equal configurations stand once, and a label without configurations gives no kid
pub data Keeps : List Node → List Node → Type 0 where
  none_left : Keeps [] []
  leaves_out : {node : Node} {nodes kept : List Node} → node.configs ≡ [] → Keeps nodes kept → Keeps (node ∷ nodes) kept
  keeps :
      {node kid : Node} {nodes kept : List Node} {configs : List SymbolicConfig}
      → node.configs ≢ []
      → AddsEach [] node.configs configs
      → kid ≡ with_configs node configs
      → Keeps nodes kept
      → Keeps (node ∷ nodes) (kid ∷ kept)
