use Rattle.std.proofs.Common.{◌≡◌, [], List, sym, subst}
use Rattle.std.proofs.lemmas.Result.{IfOk-weaker}
use Rattle.dps_bags.specs.Apart.{StandOnce}
use Rattle.dps_bags.proofs.Keeping.{apart_none}
use Rattle.dps_process.specs.Process.{Process, nil}
use Rattle.dps_process.specs.Steps.{Config}
use Rattle.dps_semantics.specs.Settling.{SettlesTo, AreJust, AreSettlings}
use Rattle.dps_semantics.specs.Parts.{StandForJust}
use Rattle.dps_semantics.specs.Coming.{AllComeTo}
use Rattle.dps_semantics.proofs.Settled.{settlings}
use Rattle.dps_semantics.proofs.settling.settle.Goals as goal

pub returns-clause-just : goal.returns-clause-just
returns-clause-just c =
    let p = c.args.problem.now in
    let mid = c.all_come_to.new.parts in
    let new = c.reached.new.parts in
    let parts = c.config.inside.parts.items in
    let frame = c.config.inside.frame in
    let first = subst (λ (t : List Process). StandForJust (AllComeTo p.theory c.deref.result.now) t mid c.in_ok-bags.bags) c.new-parts.ensures c.in_ok-bags.ensures in
    let come = subst (λ (ps : List Process). StandForJust (AllComeTo p.theory ps) [] mid c.in_ok-bags.bags) c.deref.ensures.value first in
    IfOk-weaker c.configs.result _ (λ configs. AreSettlings p c.args.config configs.items)
    (λ configs e. subst (λ (k : Config). AreJust (SettlesTo p.model p.signature p.theory k) configs.items) c.config.view_is
    (settlings p.model p.signature p.theory parts frame mid new c.in_ok-bags.bags c.in_ok-bags-2.bags come c.in_ok-bags-2.ensures configs.items e)) c.configs.ensures.are

pub configs-requires-clause-parts : goal.configs-requires-clause-parts
configs-requires-clause-parts c =
    let first = subst (λ (t : List Process). StandOnce nil t) (sym c.new-parts.ensures) (apart_none (λ (p q : Process). p ≡ q) nil) in
    c.in_ok-bags-2.ensures.grown.once (c.in_ok-bags.ensures.grown.once first)
