use Rattle.std.proofs.Common.{◌≡◌, ◌∙◌, ◌∷◌, ◌++◌, [], List, ap}
use Rattle.std.proofs.lemmas.Result.{IfOk-weaker}
use Rattle.dps_process.specs.Process.{Process}
use Rattle.dps_process.specs.Problem.{side_of}
use Rattle.dps_process.specs.Steps.{Config, start}
use Rattle.dps_semantics.specs.Settling.{AreJust}
use Rattle.dps_semantics.specs.Words.{EndsIn}
use Rattle.dps_semantics.proofs.Ends.{first_ends}
use Rattle.dps_semantics.proofs.running.started.Goals as goal

pub returns-clause-just : goal.returns-clause-just
returns-clause-just c =
    let p = c.args.problem.now in
    let side = c.args.side in
    let config : Config = record { parts = c.push.new.self.items; frame = c.new.result.items } in
    let parts : config.parts ≡ side_of p side ∷ [] =
    c.in_ok-push.ensures.items ∙ (ap (λ (ps : List Process). ps ++ c.in_ok-copy.field-0 ∷ []) c.new-parts.ensures.items ∙ ap (λ (q : Process). q ∷ [])
    (c.in_ok-copy.ensures ∙ c.side.ensures.process)) in
    let same : config ≡ start (side_of p side) = λ i. record { parts = parts i; frame = c.new.ensures.items i } in
    IfOk-weaker c.settle.result _ (λ configs. AreJust (EndsIn p side []) configs.items) (λ configs s. first_ends p side config configs.items same s) c.settle.ensures.just
