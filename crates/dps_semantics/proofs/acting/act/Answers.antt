use Rattle.std.proofs.Common.{[], List, sym, subst}
use Rattle.std.proofs.lemmas.Result.{IfOk-weaker}
use Rattle.dps_bags.proofs.Keeping.{apart_none}
use Rattle.dps_process.specs.Labels.{label_of}
use Rattle.dps_process.specs.Steps.{Config, Step, shows, AreOneBag}
use Rattle.dps_semantics.specs.Settling.{AreNext, AreJust, EachStandsOnce}
use Rattle.dps_semantics.specs.Asking.{IsAsked, IsNotAsked}
use Rattle.dps_semantics.specs.declared.moving.Asked.{Asked}
use Rattle.dps_semantics.proofs.Lists.{of_some, of_none}
use Rattle.dps_semantics.proofs.Actions.{moves_next, nothing_next, code_label}
use Rattle.dps_semantics.proofs.acting.act.Goals as goal

pub returns-in-Some-clause-just : goal.returns-in-Some-clause-just
returns-in-Some-clause-just c =
    let p = c.args.problem.now in
    let config = c.args.config.now in
    let label = label_of c.args.label.now in
    let asked = c.in-Some.asked in
    let inside = of_some _ (λ (a : Asked). IsAsked p c.config.inside.frame label a) c.in_ok-asked.field-0 asked c.in_ok-asked.ensures.asked c.in-Some.is in
    let is_asked = subst (λ (k : Config). IsAsked p k.frame label asked) c.config.view_is inside in
    IfOk-weaker c.all_moved.result _ (λ configs. AreNext p config label configs.items)
    (λ configs m. moves_next p config label asked c.what_is_asked.ensures.accepted is_asked configs.items m) c.all_moved.ensures.moves

pub returns-in-None-clause-just : goal.returns-in-None-clause-just
returns-in-None-clause-just c =
    let p = c.args.problem.now in
    let config = c.args.config.now in
    let label = label_of c.args.label.now in
    let inside = of_none _ (λ (a : Asked). IsAsked p c.config.inside.frame label a) c.in_ok-asked.field-0 c.in_ok-asked.ensures.asked c.in-None.is in
    let not_asked = subst (λ (k : Config). IsNotAsked p k.frame label) c.config.view_is inside in
    subst (λ (cs : List Config). AreJust (λ d. Step p.model p.signature p.theory config (shows label) d) cs) (sym c.new.ensures.items)
    (nothing_next p config label (code_label c.args.label.now) not_asked)

pub returns-in-None-clause-once : goal.returns-in-None-clause-once
returns-in-None-clause-once c = subst EachStandsOnce (sym c.new.ensures.items) (apart_none AreOneBag (record { parts = []; frame = [] }))
