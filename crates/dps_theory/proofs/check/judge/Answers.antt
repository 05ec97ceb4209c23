use Rattle.std.proofs.Common.{◌<◌, length, map, arith, ◌∙◌, ap, length-set}
use Rattle.dps_theory.specs.Held.{shape_of}
use Rattle.dps_theory.proofs.Accepting.{judged_all}
use Rattle.dps_theory.proofs.Walking.{index_taken}
use Rattle.dps_theory.proofs.check.judge.Goals as goal

pub loop-place-preserved : goal.loop-place-preserved
loop-place-preserved c = record {
  judged = c.in_ok-root.ensures.judged;
  indexed =
      (let within : c.in_ok-root.root < length c.loop-place.index = omega (arith, c.in_ok-root.ensures.root, c.loop-place.invariant.symbols) in
      index_taken c.args.rules.now c.loop-place.place c.in_ok-root.root c.loop-place.index c.add.new.self c.loop-place.invariant.indexed c.in_ok-root.ensures.indexed within c.loop-place-test.true c.in-Ok-add.ensures);
  symbols = ap length c.in-Ok-add.ensures ∙ length-set c.loop-place.index _ _ ∙ c.loop-place.invariant.symbols;
}

pub returns-clause-accepted : goal.returns-clause-accepted
returns-clause-accepted c =
    judged_all (map shape_of c.args.known.now) c.args.rules.now c.loop-place.place c.loop-place.invariant.judged c.loop-place-test.false
