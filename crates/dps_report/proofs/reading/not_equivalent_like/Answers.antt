use Rattle.std.proofs.Common.{subst, sym, ◌∙◌}
use Rattle.dps_report.proofs.LongRead.{OnlyPath, no_node_of_attack, no_model_of_trace, attack_without_path, no_text_of_trace, attack_with_trace}
use Rattle.dps_report.proofs.reading.not_equivalent_like.Goals as goal

pub returns-in_default : goal.returns-in_default
returns-in_default c = no_node_of_attack c.args.format c.args.bytes.now c.in_default.ensures.none

pub returns-in_default-model_of_trace : goal.returns-in_default-model_of_trace
returns-in_default-model_of_trace c =
    no_model_of_trace c.args.format c.args.bytes.now c.in-Some.node.now c.in-Some.trace.now c.in-Some.ensures.found c.in_default-model_of_trace.ensures.only

pub returns-in_default-2 : goal.returns-in_default-2
returns-in_default-2 c =
    attack_without_path c.args.format c.args.bytes.now c.in-Some.node.now c.in-Some.trace.now c.in-Some.ensures.found
    (subst (OnlyPath c.in-Some.node.now) c.in_default-2.is c.in_ok-node.ensures.only)

pub returns-in-Some-3 : goal.returns-in-Some-3
returns-in-Some-3 c =
    let text = rw c.in-Some-3.is at c.in_ok-trace.ensures.found in
    attack_with_trace c.args.format c.args.bytes.now c.in-Some.node.now c.in-Some.trace.now c.in-Some.ensures.found c.in-Some-model_of_trace.model c.in-Some-2.node c.in-Some-3.trace
    c.in-Some-model_of_trace.ensures.found.0 c.in-Some-model_of_trace.ensures.found.1 c.in-Some-model_of_trace.ensures.only
    (subst (OnlyPath c.in-Some.node.now) c.in-Some-2.is c.in_ok-node.ensures.only) text.0 text.1

pub returns-in-None : goal.returns-in-None
returns-in-None c =
    no_text_of_trace c.args.format c.args.bytes.now c.in-Some.node.now c.in-Some.trace.now c.in-Some.ensures.found
    (λ u. sym c.in-None.is ∙ c.in_ok-trace.ensures.only u)
