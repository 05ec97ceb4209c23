-- A tree from a node on, where the nodes are counted from 0 in preorder: a root before its arguments, and these from left
-- to right.
use Rattle.std.specs.Prelude.{ℕ, zero, suc, List}
use Rattle.dps_terms.specs.Tree.{Tree, Trees, leaf, app, none, more, list_of}

-- trees before others
abbrev pub joined : Trees → Trees → Trees
joined none us = us
joined (more t ts) us = more t (joined ts us)

-- What is left of trees, one beside another, when so many of their nodes are taken off. A symbol that is taken off leaves
-- its arguments.
abbrev pub without_nodes : ℕ → Trees → Trees
without_nodes zero ts = ts
without_nodes (suc n) none = none
without_nodes (suc n) (more (leaf x) ts) = without_nodes n ts
without_nodes (suc n) (more (app f us) ts) = without_nodes n (joined us ts)

-- the greatest subterms of the tree whose roots are its n-th node or come later
abbrev pub subterms_from : Tree → ℕ → List Tree
subterms_from t n = list_of (without_nodes n (more t none))
