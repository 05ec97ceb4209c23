use Rattle.std.proofs.Common.{refl}
use Rattle.dps_signature.specs.Signature.{shapes}
use Rattle.dps_theory.proofs.TupleRules.{kept_with_projections, over_cases}
use Rattle.dps_theory.proofs.laws.accepted_rules_join_projections.Goals as goal

pub returns : goal.returns
returns c = λ signature rules checkable own.
    let kept = kept_with_projections signature rules (shapes signature) refl checkable own in
    record { accepted = kept.accepted; over = over_cases signature rules (shapes signature) refl checkable own; plain = kept.plain }
