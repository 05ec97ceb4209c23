-- The leaf that a program's value is.
use Rattle.dps_terms.specs.declared.TermLeaf.{TermLeaf}
use Rattle.dps_terms.specs.declared.TermLeaf.TheVariants.{Public, Private, Var, Ax, Entry, Rigid}
use Rattle.dps_terms.specs.Tree.{Leaf, public, private, var, ax, entry, rigid}

abbrev pub leaf_seen : TermLeaf → Leaf
leaf_seen (Public n) = public n
leaf_seen (Private n) = private n
leaf_seen (Var n) = var n
leaf_seen (Ax n) = ax n
leaf_seen (Entry n) = entry n
leaf_seen (Rigid n) = rigid n
