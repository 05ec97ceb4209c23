use Rattle.std.proofs.Common.{◌+◌, ◌<◌, ◌∷◌, arith}
use Rattle.std.specs.Prelude.{reverse}
use Rattle.std.specs.List.{flat_map}
use Rattle.dps_terms.specs.Seen.{seen}
use Rattle.dps_symeval.specs.declared.agenda.Task.TheVariants.{Apply}
use Rattle.dps_symeval.specs.Agenda.{IsThinned, GoesOn, root_applied, weights}
use Rattle.dps_symeval.proofs.Outcomes.{ok_then, on_ok}
use Rattle.dps_symeval.proofs.Agendas.{apply_goes_on}
use Rattle.dps_symeval.proofs.agenda.advance.Goals as goal

pub returns-in-Apply : goal.returns-in-Apply
returns-in-Apply c =
    let tasks = reverse c.args.agenda.now.items in
    let cs = c.args.choices.now.items in
    let ds = c.apply.new.choices.items in
    rw c.in-Apply.is
    (record {
      on = ok_then (IsThinned (flat_map (root_applied c.args.theory.now (seen c.in-Apply.term)) cs) ds) (GoesOn c.args.theory.now (Apply c.in-Apply.term ∷ tasks) cs tasks ds) c.apply.result
          (λ h. apply_goes_on c.args.theory.now c.in-Apply.term tasks cs ds h) c.apply.ensures.on;
      unifiable = c.apply.ensures.unifiable;
      smaller = on_ok (weights tasks < 1 + weights tasks) c.apply.result (omega arith);
    })
