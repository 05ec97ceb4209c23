-- What a reader expects of expansions, each stated as one fact.
use Rattle.std.specs.Prelude.{◌≡◌, ℕ, List}
use Rattle.dps_process.specs.Problem.{Problem}
use Rattle.dps_node.specs.Node.{Node}
use Rattle.dps_node.specs.Expansion.{Expands}

-- Each expansion of a node takes the same number of steps. (Its kids are determined too where the values of the entries
-- are: in the nodes of the tree, whose values hold variables of smaller level alone.)
abbrev pub ExpansionsTakeOneCount : Type 0
ExpansionsTakeOneCount =
    (problem : Problem) (node : Node) (n m : ℕ) (ks ls : List Node)
    → Expands problem node n ks → Expands problem node m ls → n ≡ m
