use Rattle.std.proofs.Common.{◌∙◌}
use Rattle.std.specs.List.{flat_map}
use Rattle.dps_terms.specs.Seen.{seen}
use Rattle.dps_symeval.specs.Agenda.{IsThinned, applied_last, root_applied}
use Rattle.dps_symeval.proofs.Outcomes.{ok_then}
use Rattle.dps_symeval.proofs.Agendas.{root_thinned, leaf_thinned}
use Rattle.dps_symeval.proofs.agenda.apply.Goals as goal

pub returns-in-App-clause-on : goal.returns-in-App-clause-on
returns-in-App-clause-on c =
    ok_then (IsThinned (flat_map (applied_last c.args.theory.now c.in-App.sym c.arity.result) c.args.choices.now.items) c.apply_symbol.new.choices.items)
    (IsThinned (flat_map (root_applied c.args.theory.now (seen c.args.term)) c.args.choices.now.items) c.apply_symbol.new.choices.items) c.apply_symbol.result
    (λ h. root_thinned c.args.theory.now c.args.choices.now.items (seen c.args.term) c.in-App.sym c.arity.result c.apply_symbol.new.choices.items c.in-App.ensures c.arity.ensures.number h)
    c.apply_symbol.ensures.on

pub returns-in_default : goal.returns-in_default
returns-in_default c = record {
  on = leaf_thinned c.args.theory.now c.args.choices.now.items (seen c.args.term) (λ f e. c.in_default.not-App f (c.view.ensures ∙ e));
  unifiable = λ h. h;
}
