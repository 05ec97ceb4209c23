use Rattle.std.proofs.Common.{rules, ◌≡◌, ◌+◌, ◌-◌, ◌∙◌, Err, sym, arith}
use Rattle.dps_search.specs.declared.scene.Stop.TheVariants.{Spent}
use Rattle.dps_search.specs.Code.{scene_of, ask_of}
use Rattle.dps_search.proofs.Advancing.{passed_on, goes_on_popped, spends, finds, no_task}
use Rattle.dps_search.proofs.search.solve.Goals as goal

pub loop-task-preserved : goal.loop-task-preserved
loop-task-preserved c =
    let start = c.args.steps.now.used in
    let mid = c.loop-task.steps.used + c.pass_apart.result in
    let found = c.loop-task.search.found.items in
    let passed = passed_on (scene_of c.args.scene.now) (ask_of c.args.ask.now) c.loop-task.search.agenda.items c.pop.new.self.items c.in-Some.task c.pass_apart.new.task found
    start c.loop-task.steps.used c.pass_apart.result c.in-Some.ensures.items c.loop-task.invariant.no_less c.pass_apart.ensures.later c.loop-task.invariant.lists in
    record {
      lists = goes_on_popped (scene_of c.args.scene.now) (ask_of c.args.ask.now) c.pop.new.self.items c.advance.new.search.agenda.items c.pass_apart.new.task found
          c.advance.new.search.found.items start mid c.advance.new.steps.used (omega (arith, c.loop-task.invariant.no_less)) c.in_ok-advance.ensures.no_less passed
          c.in_ok-advance.ensures.on;
      no_less = omega (arith, c.loop-task.invariant.no_less, c.in_ok-advance.ensures.no_less);
      no_more = c.in_ok-advance.ensures.no_more;
      budget = c.in_ok-advance.ensures.budget ∙ c.loop-task.invariant.budget;
    }

pub returns-in_err-advance-clause-spent : goal.returns-in_err-advance-clause-spent
returns-in_err-advance-clause-spent c = λ e.
    let k : c.advance.result ≡ Err Spent = search rules in
    let s = c.advance.ensures.spent k in
    let start = c.args.steps.now.used in
    let found = c.loop-task.search.found.items in
    let passed = passed_on (scene_of c.args.scene.now) (ask_of c.args.ask.now) c.loop-task.search.agenda.items c.pop.new.self.items c.in-Some.task c.pass_apart.new.task found
    start c.loop-task.steps.used c.pass_apart.result c.in-Some.ensures.items c.loop-task.invariant.no_less c.pass_apart.ensures.later c.loop-task.invariant.lists in
    spends (scene_of c.args.scene.now) (ask_of c.args.ask.now) c.pop.new.self.items c.pass_apart.new.task found start (c.loop-task.steps.used + c.pass_apart.result)
    c.args.steps.now.budget (sym (c.advance.ensures.unmoved k) ∙ s.1 ∙ c.advance.ensures.budget ∙ c.loop-task.invariant.budget) passed s.0

pub returns-clause-found : goal.returns-clause-found
returns-clause-found c =
    let none = no_task c.loop-task.search.agenda.items (omega (arith, c.in_default.ensures.cases.0, c.loop-task.search.agenda.ok)) in
    finds (scene_of c.args.scene.now) (ask_of c.args.ask.now) c.loop-task.search.agenda.items c.loop-task.search.found.items (c.loop-task.steps.used - c.args.steps.now.used)
    (c.args.steps.now.budget - c.args.steps.now.used) none (omega (arith, c.loop-task.invariant.no_more, c.loop-task.invariant.budget)) c.loop-task.invariant.lists
