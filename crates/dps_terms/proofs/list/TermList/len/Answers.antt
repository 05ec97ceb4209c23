use Rattle.std.proofs.Common.{ap, arith, length}
use Rattle.dps_terms.specs.Cells.{forest}
use Rattle.dps_terms.proofs.Preorder.{length-list_of}
use Rattle.dps_terms.proofs.Listed.{as_many_starts}
use Rattle.dps_terms.proofs.list.TermList.len.Goals as goal

pub returns : goal.returns
returns c =
    let cells = c.self.inside.cells.items in
    omega (arith, c.len.ensures, ap length c.self.view_is, length-list_of (forest cells), ap length c.self.invariant.places, as_many_starts 0 (forest cells))
