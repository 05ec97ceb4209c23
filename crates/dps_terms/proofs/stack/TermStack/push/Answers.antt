use Rattle.std.proofs.Common.{◌∙◌, ◌++◌, ◌∷◌, ap}
use Rattle.std.specs.Prelude.{reverse}
use Rattle.dps_terms.specs.Cells.{tree_of}
use Rattle.dps_terms.proofs.Stacked.{pushed}
use Rattle.dps_terms.proofs.stack.TermStack.push.Goals as goal

pub invariant_of-self-2 : goal.invariant_of-self-2
invariant_of-self-2 c =
    (pushed c.self.inside.cells.items c.args.term.cells.now c.put_backward.new.cells.items c.args.term.again c.args.term.narrow
    (c.put_backward.ensures ∙ ap (λ xs. xs ++ reverse c.args.term.cells.now) c.in_ok-reserve.ensures.items) c.self.invariant).0

pub returns-clause-ok : goal.returns-clause-ok
returns-clause-ok c =
    (pushed c.self.inside.cells.items c.args.term.cells.now c.put_backward.new.cells.items c.args.term.again c.args.term.narrow
    (c.put_backward.ensures ∙ ap (λ xs. xs ++ reverse c.args.term.cells.now) c.in_ok-reserve.ensures.items) c.self.invariant).1
    ∙ ap (λ ts. tree_of c.args.term.cells.now ∷ ts) c.self.view_is
