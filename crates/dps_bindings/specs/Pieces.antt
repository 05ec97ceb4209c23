-- Trees as they are given, piece by piece.
use Rattle.std.specs.Prelude.{ℕ, List, ◌++◌, map}
use Rattle.std.specs.List.{range_with_len}
use Rattle.dps_terms.specs.Leaves.{leaf_seen}
use Rattle.dps_terms.specs.Tree.{var, Tree, leaf, app, trees}
use Rattle.dps_bindings.specs.declared.piece.Root.{Root as CodeRoot}
use Rattle.dps_bindings.specs.declared.piece.Piece.{Piece}
use Rattle.dps_bindings.specs.declared.piece.Piece.TheVariants.{Leaf, Root}
use Rattle.dps_bindings.specs.declared.piece.Given.{Given}

-- so many variables, from the first one on
abbrev pub variables_from : ℕ → ℕ → List Tree
variables_from first count = map (λ n. leaf (var n)) (range_with_len first count)

abbrev pub root_tree : CodeRoot → Tree
root_tree r = app r.sym (trees (variables_from r.first r.arity))

abbrev pub piece_tree : Piece → Tree
piece_tree (Leaf l) = leaf (leaf_seen l)
piece_tree (Root r) = root_tree r

-- each variable with its piece
abbrev pub pairs_of : List Given → List (ℕ × Tree)
pairs_of given = map (λ (g : Given). (g.variable, piece_tree g.piece)) given

-- what is put for so many variables, before other trees
abbrev pub put_for : (ℕ → Tree) → ℕ → ℕ → List Tree → List Tree
put_for z first count others = map z (range_with_len first count) ++ others
