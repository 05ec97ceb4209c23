use Rattle.std.proofs.Common.{◌∙◌, ap, ℕ, filter}
use Rattle.std.proofs.lemmas.Result.{IfOk-weaker}
use Rattle.dps_node.specs.Node.{numbered_from}
use Rattle.dps_renewal.specs.Numbering.{is_among}
use Rattle.dps_node.specs.Code.{node_of}
use Rattle.dps_node.proofs.Numbered.{levels_of_those}
use Rattle.dps_node.proofs.numbering.variables.Goals as goal

pub returns : goal.returns
returns c =
    IfOk-weaker c.levels_of.result _ _
    (λ v h. h
    ∙ ap (λ ks. filter (λ (p : ℕ × ℕ). is_among p.0 ks) (numbered_from 1 c.deref-2.result.now)) c.in_ok-standing.ensures
    ∙ rw (c.deref.ensures.value, c.deref-2.ensures.value) (levels_of_those (node_of c.args.node.now)))
    c.levels_of.ensures
