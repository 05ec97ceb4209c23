use Rattle.std.proofs.Common.{◌≡◌, ◌<◌, ◌∙◌, ap, sym, subst, length, slice_get, Some}
use Rattle.dps_terms.specs.Tree.{list_of}
use Rattle.dps_terms.specs.Cells.{cells_of, forest, first, tree_of, AreTerms}
use Rattle.dps_terms.proofs.Preorder.{read_from}
use Rattle.dps_terms.proofs.Listed.{found_at}
use Rattle.dps_terms.proofs.list.term_at.Goals as goal

pub split_at-requires : goal.split_at-requires
split_at-requires c = (found_at c.args.cells.now c.args.starts.now c.args.index _ c.requires.sound c.requires.place).within

pub split_first-requires-clause-terms : goal.split_first-requires-clause-terms
split_first-requires-clause-terms c =
    subst AreTerms (sym c.split_at.ensures.back) (found_at c.args.cells.now c.args.starts.now c.args.index _ c.requires.sound c.requires.place).terms

pub split_first-requires-clause-some : goal.split_first-requires-clause-some
split_first-requires-clause-some c =
    subst (λ cs. 0 < length cs) (sym c.split_at.ensures.back) (found_at c.args.cells.now c.args.starts.now c.args.index _ c.requires.sound c.requires.place).some

pub returns-clause-tree : goal.returns-clause-tree
returns-clause-tree c =
    let rest = c.split_at.result.1.now in
    let read : tree_of c.split_first.result.0.now ≡ first (forest rest) = read_from (first (forest rest)) c.split_first.result.0.now c.split_first.ensures.first in
    subst (λ cs. slice_get (list_of (forest c.args.cells.now)) c.args.index ≡ Some (first (forest cs))) (sym c.split_at.ensures.back)
    (found_at c.args.cells.now c.args.starts.now c.args.index _ c.requires.sound c.requires.place).tree
    ∙ ap Some (sym read)

pub returns-clause-again : goal.returns-clause-again
returns-clause-again c =
    let rest = c.split_at.result.1.now in
    let read : tree_of c.split_first.result.0.now ≡ first (forest rest) = read_from (first (forest rest)) c.split_first.result.0.now c.split_first.ensures.first in
    ap cells_of read ∙ sym c.split_first.ensures.first
