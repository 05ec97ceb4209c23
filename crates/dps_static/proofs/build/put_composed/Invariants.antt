use Rattle.std.proofs.Common.{◌≡◌, length, take, reverse}
use Rattle.dps_terms.specs.declared.Sym.{Sym}
use Rattle.dps_terms.specs.declared.borrowed.TermView.TheVariants.{App}
use Rattle.dps_terms.specs.Views.{view_of, arguments}
use Rattle.dps_terms.specs.Seen.{seen}
use Rattle.dps_static.proofs.Taking.{IsOpening}
use Rattle.dps_static.proofs.build.put_composed.Given as goal

abbrev pub invariant-loop-index : goal.invariant-loop-index
invariant-loop-index l = (f : Sym) → App f ≡ view_of (seen l.tree) → IsOpening l.fn.steps.items f (length (arguments (seen l.tree))) (take l.index (arguments (seen l.tree))) (reverse l.steps.items)
