use Rattle.std.proofs.Common.{[], ◌∷◌, List, map, subst}
use Rattle.dps_terms.specs.Tree.{Tree}
use Rattle.dps_symeval.specs.Cases.{equal_cases, ArePossible}
use Rattle.dps_symeval.specs.declared.agenda.Task.{Task}
use Rattle.dps_symeval.specs.Agenda.{no_terms, all_done, AreOpen, as_equal_case}
use Rattle.dps_symeval.proofs.Outcomes.{if_ok_then}
use Rattle.dps_symeval.proofs.Answering.{two_tasks, both_opened_by, two_each, equal_answers}
use Rattle.dps_symeval.proofs.evaluation.equal_cases.Goals as goal

pub as_equal_cases-requires : goal.as_equal_cases-requires
as_equal_cases-requires c =
    let cs = c.in_ok-choices.choices.items in
    let tasks =
    two_tasks c.whole-2.result c.whole.result c.in_ok-agenda.agenda.items c.push.new.self.items c.push-2.new.self.items
    c.in_ok-agenda.ensures.items c.in_ok-push.ensures.items c.in_ok-push-2.ensures.items in
    two_each c.args.theory.now c.args.first c.args.left.now c.args.right.now cs
    (both_opened_by c.args.theory.now c.args.first c.whole-2.result c.whole.result c.args.left.now c.args.right.now cs c.whole-2.ensures c.whole.ensures
    (subst (λ (ts : List Task). AreOpen (all_done c.args.theory.now ts (no_terms c.args.first ∷ [])) cs) tasks c.in_ok-choices.ensures))

pub returns : goal.returns
returns c =
    let cs = c.in_ok-choices.choices.items in
    let tasks =
    two_tasks c.whole-2.result c.whole.result c.in_ok-agenda.agenda.items c.push.new.self.items c.push-2.new.self.items
    c.in_ok-agenda.ensures.items c.in_ok-push.ensures.items c.in_ok-push-2.ensures.items in
    let opened = both_opened_by c.args.theory.now c.args.first c.whole-2.result c.whole.result c.args.left.now c.args.right.now cs c.whole-2.ensures c.whole.ensures
    (subst (λ (ts : List Task). AreOpen (all_done c.args.theory.now ts (no_terms c.args.first ∷ [])) cs) tasks c.in_ok-choices.ensures) in
    if_ok_then (λ v. (t u : Tree) → ArePossible (map (as_equal_case t u) cs) v.items)
    (λ v. ArePossible (equal_cases c.args.theory.now c.args.first c.args.left.now c.args.right.now) v.items)
    c.as_equal_cases.result
    (λ v h. equal_answers c.args.theory.now c.args.first c.args.left.now c.args.right.now cs v.items opened (h c.args.left.now c.args.right.now)) c.as_equal_cases.ensures
