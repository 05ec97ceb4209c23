use Rattle.std.proofs.Common.{map, subst}
use Rattle.std.specs.Prelude.{OnOk}
use Rattle.dps_symeval.specs.Agenda.{AddsOpen, reduced_last}
use Rattle.dps_symeval.proofs.Reducing.{all_within, all_bounded, rules_at}
use Rattle.dps_symeval.proofs.narrowing.narrow.Goals as goal

pub reduce_all-requires : goal.reduce_all-requires
reduce_all-requires c = record {
  within = all_within c.args.theory.now c.args.sym c.rules-rules.result.now c.of.result.now c.rules-rules.ensures.list c.of.ensures;
  bounded = all_bounded c.args.theory.now c.rules-rules.result.now c.rules-rules.ensures.list c.rules-rules.ensures.accepted;
}

pub returns : goal.returns
returns c =
    subst (λ rs. OnOk c.reduce_all.result (AddsOpen (map (reduced_last c.args.arity c.args.choice.now) rs) c.args.found.now.items c.reduce_all.new.found.items))
    (rules_at c.args.theory.now c.args.sym c.rules-rules.result.now c.of.result.now c.rules-rules.ensures.list c.of.ensures) c.reduce_all.ensures
