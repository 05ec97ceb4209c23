use Rattle.std.proofs.Common.{◌∙◌, ◌++◌, ◌∷◌, [], ap}
use Rattle.dps_terms.specs.Cells.{tree_of}
use Rattle.dps_terms.proofs.Listed.{one_added}
use Rattle.dps_terms.proofs.list.TermList.push.Goals as goal

pub invariant_of-self-2 : goal.invariant_of-self-2
invariant_of-self-2 c =
    (one_added c.self.inside.cells.items c.args.term.cells.now c.append.new.cells.items c.self.inside.starts.items c.append.new.starts.items c.self.invariant c.args.term.again c.args.term.narrow
    c.in_ok-append.ensures.cells c.in_ok-append.ensures.starts).0

pub returns-clause-ok : goal.returns-clause-ok
returns-clause-ok c =
    (one_added c.self.inside.cells.items c.args.term.cells.now c.append.new.cells.items c.self.inside.starts.items c.append.new.starts.items c.self.invariant c.args.term.again c.args.term.narrow
    c.in_ok-append.ensures.cells c.in_ok-append.ensures.starts).1
    ∙ ap (λ ts. ts ++ tree_of c.args.term.cells.now ∷ []) c.self.view_is
