use Rattle.dps_symeval.specs.Agenda.{reduced_last}
use Rattle.dps_symeval.proofs.Reducing.{adds_one, adds_none}
use Rattle.dps_symeval.proofs.narrowing.add_reduced.Goals as goal

pub returns-in_ok-push-in-Some : goal.returns-in_ok-push-in-Some
returns-in_ok-push-in-Some c =
    let n = rw c.in-Some.is at c.in_ok-reduced.ensures in
    adds_one c.args.found.now.items c.push.new.self.items c.in-Some.reduced (reduced_last c.args.arity c.args.choice.now c.args.rule.now) n.0 n.1 c.in_ok-push-in-Some.ensures.items

pub returns-in-None : goal.returns-in-None
returns-in-None c =
    adds_none c.args.found.now.items (reduced_last c.args.arity c.args.choice.now c.args.rule.now) (rw c.in-None.is at c.in_ok-reduced.ensures)
