use Rattle.std.proofs.Common.{◌∙◌, ap, sym, arith, slice_get, drop}
use Rattle.dps_terms.specs.Cells.{forest, tree_of}
use Rattle.dps_terms.proofs.Preorder.{below_root, narrow_at, not_empty}
use Rattle.dps_terms.proofs.borrowed.TermRef.argument.Goals as goal

pub split_at-requires : goal.split_at-requires
split_at-requires c = let h = not_empty c.args.self.cells.now c.args.self.again in omega (arith, h)

pub at-requires-clause-terms : goal.at-requires-clause-terms
at-requires-clause-terms c = rw c.split_at.ensures.back (below_root c.args.self.cells.now c.args.self.again).terms

pub at-requires-clause-there : goal.at-requires-clause-there
at-requires-clause-there c =
    let b = below_root c.args.self.cells.now c.args.self.again in
    rw c.split_at.ensures.back (omega (arith, b.number, c.requires))

pub invariant_of-result : goal.invariant_of-result
invariant_of-result c =
    let b = below_root c.args.self.cells.now c.args.self.again in
    record {
      again = c.at.ensures.again;
      narrow = narrow_at (forest (drop 1 c.args.self.cells.now)) c.args.index (tree_of c.at.result.now) (b.narrow c.args.self.narrow)
          (rw c.split_at.ensures.back at c.at.ensures.tree);
    }

pub returns : goal.returns
returns c =
    let b = below_root c.args.self.cells.now c.args.self.again in
    ap (λ ts. slice_get ts c.args.index) (sym b.same) ∙ (rw c.split_at.ensures.back at c.at.ensures.tree)
