-- Terms of processes, as a file writes them.
use Rattle.std.specs.Prelude.{List}
use Rattle.dps_terms.specs.Tree.{Tree}
use Rattle.dps_scopes.specs.declared.written.Use.{Use}

-- a term of a process, and what in it is or may become a private name, in text order
pub record Written : Type 0 where
  pub tree : Tree
  pub uses : List Use
