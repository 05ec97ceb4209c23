use Rattle.std.proofs.Common.{◌∙◌, Option, subst}
use Rattle.std.specs.Prelude.{MatchOption}
use Rattle.dps_terms.specs.Bindings.{image}
use Rattle.dps_unify.specs.Unifier.{IsNotUnifiable}
use Rattle.dps_bindings.specs.declared.unified.Unified.{Unified}
use Rattle.dps_search.specs.Code.{branch_of, scene_of, ask_of}
use Rattle.dps_bindings.specs.Putting.{IsUnifiedBy}
use Rattle.dps_search.proofs.Advancing.{start_with, not_started}
use Rattle.dps_search.proofs.search.first_branch.Goals as goal

pub returns-in_ok-branch-in-Some : goal.returns-in_ok-branch-in-Some
returns-in_ok-branch-in-Some c =
    let levels = c.in_ok-levels.levels.items in
    let pairs = c.deref-2.result.now in
    let before = c.empty-nothing.result in
    let n = subst (λ (o : Option Unified). MatchOption o (IsNotUnifiable pairs) (λ u. IsUnifiedBy levels pairs (image before) (image u.theta) u.bound.items)) c.in-Some.is c.in_ok-unified.ensures in
    start_with (scene_of c.args.scene.now) (ask_of c.args.ask.now) (branch_of c.in_ok-branch-in-Some.branch) levels pairs before (image c.in-Some.unified.theta)
    c.in-Some.unified.bound.items (c.in_ok-levels.ensures.items ∙ c.deref.ensures.value) c.deref-2.ensures.value c.empty-nothing.ensures n c.in_ok-branch-in-Some.ensures

pub returns-in-None : goal.returns-in-None
returns-in-None c =
    let levels = c.in_ok-levels.levels.items in
    let pairs = c.deref-2.result.now in
    let before = c.empty-nothing.result in
    let n = subst (λ (o : Option Unified). MatchOption o (IsNotUnifiable pairs) (λ u. IsUnifiedBy levels pairs (image before) (image u.theta) u.bound.items)) c.in-None.is c.in_ok-unified.ensures in
    not_started (scene_of c.args.scene.now) (ask_of c.args.ask.now) pairs c.deref-2.ensures.value n
