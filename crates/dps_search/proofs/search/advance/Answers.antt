use Rattle.std.proofs.Common.{◌+◌, ◌-◌, nat_lt, arith}
use Rattle.dps_search.specs.Code.{scene_of, ask_of}
use Rattle.dps_search.proofs.Advancing.{advance_none, advance_some, advance_moved, advance_branched}
use Rattle.dps_search.proofs.search.advance.Goals as goal

pub returns-in-Ended-None-clause-on : goal.returns-in-Ended-None-clause-on
returns-in-Ended-None-clause-on c =
    let steps = c.args.steps.now in
    advance_none (scene_of c.args.scene.now) (ask_of c.args.ask.now) (nat_lt steps.used steps.budget) c.args.task c.take_turn.new.task
    c.args.search.now.agenda.items c.args.search.now.found.items c.in_ok-take_turn.field-0 c.in_ok-take_turn.ensures
    c.in-Ended-None.field-0 (steps.used - steps.used) c.in-Ended-None.is c.in-Ended-None.field-0-is (omega arith)

pub returns-in-Ended-Some-clause-on : goal.returns-in-Ended-Some-clause-on
returns-in-Ended-Some-clause-on c =
    let steps = c.args.steps.now in
    advance_some (scene_of c.args.scene.now) (ask_of c.args.ask.now) (nat_lt steps.used steps.budget) c.args.task c.take_turn.new.task
    c.args.search.now.agenda.items c.args.search.now.found.items c.in_ok-take_turn.field-0 c.in_ok-take_turn.ensures
    c.in-Ended-Some.field-0 c.in-Ended-Some.solution c.push.new.self.items (steps.used - steps.used) c.in-Ended-Some.is c.in-Ended-Some.field-0-is
    c.in_ok-push-in-Ended-Some.ensures.items (omega arith)

pub returns-in-Moved-clause-on : goal.returns-in-Moved-clause-on
returns-in-Moved-clause-on c =
    let steps = c.args.steps.now in
    advance_moved (scene_of c.args.scene.now) (ask_of c.args.ask.now) (nat_lt steps.used steps.budget) c.args.task c.take_turn.new.task
    c.args.search.now.agenda.items c.args.search.now.found.items c.in_ok-take_turn.field-0 c.in_ok-take_turn.ensures
    c.push-in-Moved.new.self.items (steps.used + 1 - steps.used) c.in-Moved.is c.in_ok-push-in-Moved.ensures.items (omega arith)

pub returns-in-Branched-clause-on : goal.returns-in-Branched-clause-on
returns-in-Branched-clause-on c =
    let steps = c.args.steps.now in
    advance_branched (scene_of c.args.scene.now) (ask_of c.args.ask.now) (nat_lt steps.used steps.budget) c.args.task c.take_turn.new.task
    c.args.search.now.agenda.items c.args.search.now.found.items c.in_ok-take_turn.field-0 c.in_ok-take_turn.ensures
    c.in-Branched.branch c.push-in-Branched.new.self.items c.push-in-Branched-2.new.self.items (steps.used + 1 - steps.used) c.in-Branched.is
    c.in_ok-push-in-Branched.ensures.items c.in_ok-push-in-Branched-2.ensures.items (omega arith)
