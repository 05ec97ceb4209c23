use Rattle.std.proofs.Common.{◌+◌, ◌*◌, map}
use Rattle.dps_terms.specs.Tree.{node_count}
use Rattle.dps_signature.specs.Kinds.{IsConstructorTerm}
use Rattle.dps_terms.specs.Seen.{seen}
use Rattle.dps_theory.specs.Held.{shape_of}
use Rattle.dps_theory.proofs.Forms.{FirstArguments}
use Rattle.dps_theory.proofs.form.+constructors.Given as goal

abbrev pub decreases-has_constructor_arguments : goal.decreases-has_constructor_arguments
decreases-has_constructor_arguments l = 2 * node_count (seen l.term)

abbrev pub decreases-is_constructor_term : goal.decreases-is_constructor_term
decreases-is_constructor_term l = 2 * node_count (seen l.term) + 1

abbrev pub invariant-has_constructor_arguments-loop-index : goal.invariant-has_constructor_arguments-loop-index
invariant-has_constructor_arguments-loop-index l = FirstArguments (IsConstructorTerm (map shape_of l.known)) (seen l.term) l.index
