use Rattle.std.proofs.Common.{List, take}
use Rattle.std.proofs.lemmas.Result.{IfOk-weaker}
use Rattle.dps_process.specs.Labels.{label_of}
use Rattle.dps_process.specs.Steps.{Config}
use Rattle.dps_semantics.specs.Following.{AreFollowing}
use Rattle.dps_semantics.proofs.Lists.{taken_more, taken_all}
use Rattle.dps_semantics.proofs.Following.{follow_more, follow_same}
use Rattle.dps_semantics.proofs.running.following.Goals as goal

pub loop-index-preserved : goal.loop-index-preserved
loop-index-preserved c =
    let p = c.args.problem.now in
    let label = label_of c.args.label.now in
    let configs = c.args.configs.now in
    let i = c.loop-index.index in
    let new = c.add_following.new.found.items in
    taken_more (λ (cs : List Config). AreFollowing p cs label new) configs i c.index-configs-index.result c.index-configs-index.is c.loop-index-test.true
    (follow_more p label (take i configs) c.index-configs-index.result c.loop-index.found.items new c.loop-index.invariant c.in_ok-add_following.ensures)

pub returns-clause-just : goal.returns-clause-just
returns-clause-just c =
    let p = c.args.problem.now in
    let label = label_of c.args.label.now in
    let configs = c.args.configs.now in
    let found = c.loop-index.found.items in
    let all = taken_all (λ (cs : List Config). AreFollowing p cs label found) configs c.loop-index.index c.loop-index-test.false c.loop-index.invariant in
    IfOk-weaker c.each_once.result _ (λ once. AreFollowing p configs label once.items) (λ once s. follow_same p label configs found once.items all s) c.each_once.ensures.same
