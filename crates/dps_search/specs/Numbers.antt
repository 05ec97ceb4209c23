-- The numbers of variables, part by part.
use Rattle.std.specs.Prelude.{ℕ, List, [], ◌∷◌, ◌++◌}
use Rattle.std.specs.List.{flat_map, cons_option}
use Rattle.dps_terms.specs.Tree.{Tree, leaf, app}
use Rattle.dps_terms.specs.Variables.{variable_of, occurrences}
use Rattle.dps_know.specs.declared.know.Entry.{Entry}
use Rattle.dps_solver.specs.declared.scene.Target.{Target}

-- of the root alone
abbrev pub root_numbers : Tree → List ℕ
root_numbers (leaf x) = variable_of x
root_numbers (app f ts) = []

abbrev pub composition_numbers : Entry → List ℕ
composition_numbers e = flat_map occurrences (cons_option e.composition [])

abbrev pub pair_numbers : Tree × Tree → List ℕ
pair_numbers p = occurrences p.0 ++ occurrences p.1

abbrev pub target_numbers : Target → List ℕ
target_numbers z = z.name ∷ occurrences z.term
