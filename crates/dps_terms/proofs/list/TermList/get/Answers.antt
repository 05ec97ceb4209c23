use Rattle.std.proofs.Common.{◌∙◌, ap, sym, arith, length, slice_get}
use Rattle.dps_terms.specs.Cells.{forest, tree_of}
use Rattle.dps_terms.proofs.Preorder.{narrow_at, length-list_of}
use Rattle.dps_terms.proofs.Listed.{as_many_starts}
use Rattle.dps_terms.proofs.list.TermList.get.Goals as goal

pub term_at-requires-clause-sound : goal.term_at-requires-clause-sound
term_at-requires-clause-sound c = rw (c.as_slice-cells.ensures.value, c.as_slice-starts.ensures.value) c.self.invariant

pub term_at-requires-clause-place : goal.term_at-requires-clause-place
term_at-requires-clause-place c =
    let cells = c.self.inside.cells.items in
    rw c.as_slice-starts.ensures.value (omega (arith, c.requires, ap length c.self.view_is, length-list_of (forest cells), ap length c.self.invariant.places, as_many_starts 0 (forest cells)))

pub invariant_of-result : goal.invariant_of-result
invariant_of-result c =
    record {
      again = c.term_at.ensures.again;
      narrow = narrow_at (forest c.self.inside.cells.items) c.args.index (tree_of c.term_at.result.now) c.self.invariant.narrow (rw c.as_slice-cells.ensures.value at c.term_at.ensures.tree);
    }

pub returns : goal.returns
returns c =
    ap (λ ts. slice_get ts c.args.index) (sym c.self.view_is) ∙ (rw c.as_slice-cells.ensures.value at c.term_at.ensures.tree)
