use Rattle.std.proofs.Common.{List, [], ◌∷◌, arith, subst, sym}
use Rattle.std.specs.Prelude.{reverse}
use Rattle.dps_symeval.specs.Cases.{Choices}
use Rattle.dps_symeval.specs.Agenda.{no_terms, GoesOn}
use Rattle.dps_symeval.proofs.Thinning.{unchanged}
use Rattle.dps_symeval.proofs.Agendas.{start_is_open, goes_on_popped, weight_falls, nothing_left, no_task}
use Rattle.dps_symeval.proofs.agenda.choices_of.Goals as goal

pub loop-task-init : goal.loop-task-init
loop-task-init c =
    let same = c.in_ok-choices.ensures in
    record {
      goes_on = subst (λ (cs : List Choices). GoesOn c.args.theory.now (reverse c.args.agenda.items) (no_terms c.args.first ∷ []) (reverse c.args.agenda.items) cs) (sym same) (unchanged _);
      unifiable = start_is_open c.args.first c.in_ok-choices.choices.items same;
    }

pub loop-task-preserved : goal.loop-task-preserved
loop-task-preserved c = record {
  goes_on = goes_on_popped c.args.theory.now (reverse c.args.agenda.items) (no_terms c.args.first ∷ []) c.loop-task.choices.items c.advance.new.choices.items
      c.loop-task.agenda.items c.pop.new.self.items (reverse c.advance.new.agenda.items) c.in-Some.task c.in-Some.ensures.items c.loop-task.invariant.goes_on c.in_ok-advance.ensures.on;
  unifiable = c.in_ok-advance.ensures.unifiable c.loop-task.invariant.unifiable;
}

pub loop-task-smaller : goal.loop-task-smaller
loop-task-smaller c =
    weight_falls c.args.theory.now c.loop-task.agenda.items c.pop.new.self.items (reverse c.advance.new.agenda.items) c.in-Some.task c.in-Some.ensures.items c.in_ok-advance.ensures.smaller

pub returns : goal.returns
returns c =
    nothing_left c.args.theory.now (reverse c.args.agenda.items) c.loop-task.agenda.items (no_terms c.args.first ∷ []) c.loop-task.choices.items
    (no_task c.loop-task.agenda.items (omega (arith, c.in_default.ensures.cases.0, c.loop-task.agenda.ok))) c.loop-task.invariant.goes_on c.loop-task.invariant.unifiable
