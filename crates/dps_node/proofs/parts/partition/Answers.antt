use Rattle.std.proofs.Common.{◌∙◌, map, refl}
use Rattle.std.proofs.lemmas.Result.{IfOk-weaker}
use Rattle.dps_node.specs.Code.{config_of, node_of}
use Rattle.dps_node.proofs.Parting.{parts_are}
use Rattle.dps_node.proofs.parts.partition.Goals as goal

pub returns : goal.returns
returns c =
    let these = rw c.replace-configs.ensures.value at c.in_ok-these.ensures.these in
    let others = rw c.replace-configs.ensures.value at c.in_ok-these.ensures.others in
    IfOk-weaker c.kids_with.result _ _
    (λ v h. h
    ∙ parts_are (node_of c.args.node) c.args.holds.now c.args.node.configs.items c.in_ok-these.these.items c.in_ok-these.others.items
    (map config_of c.replace-configs.new.dest.items) refl these others)
    c.kids_with.ensures
