use Rattle.std.proofs.Common.{◌≡◌, ◌-◌, arith, subst}
use Rattle.dps_terms.specs.Seen.{seen}
use Rattle.dps_symeval.specs.Agenda.{IsBegun}
use Rattle.dps_symeval.proofs.Agendas.{begun_root, begun_more}
use Rattle.dps_symeval.proofs.agenda.begin.Goals as goal

pub loop-left-init : goal.loop-left-init
loop-left-init c = record {
  within = omega (arith, c.arity-left.ensures.number);
  begun = begun_root c.args.term c.arity-left.result c.args.agenda.now.items c.push.new.self.items c.arity-left.ensures.number c.in_ok-push.ensures.items;
}

pub argument-requires : goal.argument-requires
argument-requires c = omega (arith, c.loop-left.invariant.within, c.loop-left-test.true)

pub loop-left-preserved : goal.loop-left-preserved
loop-left-preserved c = record {
  within = omega (arith, c.loop-left.invariant.within);
  begun = begun_more (seen c.args.term) c.loop-left.left (c.loop-left.left - 1) c.args.agenda.now.items c.loop-left.agenda.items c.push-in-loop-left.new.self.items c.argument.result
      (omega (arith, c.loop-left-test.true)) c.argument.ensures c.in_ok-push-2.ensures.items c.loop-left.invariant.begun;
}

pub returns : goal.returns
returns c =
    let none : c.loop-left.left ≡ 0 = omega (arith, c.loop-left-test.false) in
    subst (λ k. IsBegun (seen c.args.term) k c.args.agenda.now.items c.loop-left.agenda.items) none c.loop-left.invariant.begun
