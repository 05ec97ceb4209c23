use Rattle.std.proofs.Common.{◌+◌}
use Rattle.dps_terms.specs.Seen.{seen}
use Rattle.dps_terms.specs.Walk.{subterms_from}
use Rattle.dps_symeval.proofs.FreeNodes.{free_from, free_inside}
use Rattle.dps_symeval.proofs.agenda.holds_destructor.Goals as goal

pub returns-then-has_destructor_root : goal.returns-then-has_destructor_root
returns-then-has_destructor_root c = λ h.
    (rw c.if-has_destructor_root.true at c.has_destructor_root.ensures) (free_inside c.args.theory.now (seen c.args.term) (seen c.subterm.result) h c.subterm.ensures.inside)

pub loop-node-preserved : goal.loop-node-preserved
loop-node-preserved c = λ h.
    let t = seen c.args.term in
    let i = c.loop-node.node in
    c.loop-node.invariant
    (free_from c.args.theory.now (subterms_from t i) (subterms_from t (i + 1)) (seen c.subterm.result) c.subterm.ensures.first c.subterm.ensures.below
    (rw c.if-has_destructor_root.false at c.has_destructor_root.ensures) h)
