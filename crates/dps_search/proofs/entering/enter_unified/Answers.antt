use Rattle.std.proofs.Common.{◌∙◌, Option, subst}
use Rattle.std.specs.Prelude.{MatchOption}
use Rattle.dps_terms.specs.Bindings.{image}
use Rattle.dps_unify.specs.Unifier.{IsNotUnifiable}
use Rattle.dps_bindings.specs.declared.unified.Unified.{Unified}
use Rattle.dps_search.specs.Code.{branch_of}
use Rattle.dps_bindings.specs.Putting.{IsUnifiedBy}
use Rattle.dps_search.proofs.entering.enter_unified.Goals as goal

pub returns-in-Some : goal.returns-in-Some
returns-in-Some c =
    let b = branch_of c.args.branch.now in
    let pairs = c.from_ref.result.now in
    let n = subst (λ (o : Option Unified). MatchOption o (IsNotUnifiable pairs) (λ u. IsUnifiedBy b.levels pairs b.theta (image u.theta) u.bound.items)) c.in-Some.is c.in_ok-unified.ensures in
    record {
      after = image c.in-Some.unified.theta;
      bound = c.in-Some.unified.bound.items;
      unified = subst (λ ps. IsUnifiedBy b.levels ps b.theta (image c.in-Some.unified.theta) c.in-Some.unified.bound.items) (c.from_ref.ensures.value ∙ c.in_ok-pair.ensures) n;
      is = c.in_ok-next-in-Some.ensures;
    }

pub returns : goal.returns
returns c =
    let b = branch_of c.args.branch.now in
    let pairs = c.from_ref.result.now in
    let n = subst (λ (o : Option Unified). MatchOption o (IsNotUnifiable pairs) (λ u. IsUnifiedBy b.levels pairs b.theta (image u.theta) u.bound.items)) c.in-None.is c.in_ok-unified.ensures in
    subst IsNotUnifiable (c.from_ref.ensures.value ∙ c.in_ok-pair.ensures) n
