use Rattle.std.proofs.Common.{◌≡◌, [], ◌∷◌, List, map, subst}
use Rattle.dps_terms.specs.Tree.{Tree}
use Rattle.dps_symeval.specs.Cases.{cases, as_case, ArePossible}
use Rattle.dps_symeval.specs.declared.agenda.Task.{Task}
use Rattle.dps_symeval.specs.Agenda.{no_terms, all_done, AreOpen}
use Rattle.dps_symeval.proofs.Outcomes.{if_ok_then}
use Rattle.dps_symeval.proofs.Answering.{one_task, opened_by, one_each, answers}
use Rattle.dps_symeval.proofs.evaluation.cases.Goals as goal

pub as_cases-requires : goal.as_cases-requires
as_cases-requires c =
    let cs = c.in_ok-choices.choices.items in
    let tasks = one_task c.whole.result c.in_ok-agenda.agenda.items c.push.new.self.items c.in_ok-agenda.ensures.items c.in_ok-push.ensures.items in
    one_each c.args.theory.now c.args.first c.args.term.now cs
    (opened_by c.args.theory.now c.args.first c.whole.result c.args.term.now cs c.whole.ensures
    (subst (λ (ts : List Task). AreOpen (all_done c.args.theory.now ts (no_terms c.args.first ∷ [])) cs) tasks c.in_ok-choices.ensures))

pub returns : goal.returns
returns c =
    let cs = c.in_ok-choices.choices.items in
    let tasks = one_task c.whole.result c.in_ok-agenda.agenda.items c.push.new.self.items c.in_ok-agenda.ensures.items c.in_ok-push.ensures.items in
    let opened = opened_by c.args.theory.now c.args.first c.whole.result c.args.term.now cs c.whole.ensures
    (subst (λ (ts : List Task). AreOpen (all_done c.args.theory.now ts (no_terms c.args.first ∷ [])) cs) tasks c.in_ok-choices.ensures) in
    if_ok_then (λ v. (t : Tree) → v.items ≡ map (as_case t) cs) (λ v. ArePossible (cases c.args.theory.now c.args.first c.args.term.now) v.items) c.as_cases.result
    (λ v h. answers c.args.theory.now c.args.first c.args.term.now cs v.items opened (h c.args.term.now)) c.as_cases.ensures
