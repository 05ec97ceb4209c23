use Rattle.std.proofs.Common.{◌≡◌, max, ap, arith}
use Rattle.std.specs.List.{flat_map}
use Rattle.dps_solver.specs.Search.{least_above, disequation_numbers}
use Rattle.dps_solver.specs.Code.{disequation_of}
use Rattle.dps_solver.specs.declared.scene.Disequation.{Disequation}
use Rattle.dps_search.specs.Numbers.{pair_numbers}
use Rattle.dps_search.proofs.Above.{above_next, above_append}
use Rattle.dps_search.proofs.numbers.above_disequations.Goals as goal

pub loop-disequation-preserved : goal.loop-disequation-preserved
loop-disequation-preserved c =
    let d = c.disequation-item.result in
    let free : least_above c.deref.result.now ≡ least_above d.free.items = ap least_above c.deref.ensures.value in
    let pairs : least_above (flat_map pair_numbers c.deref-in-loop-disequation.result.now) ≡ least_above (flat_map pair_numbers d.pairs.items) =
    ap (λ ps. least_above (flat_map pair_numbers ps)) c.deref-in-loop-disequation.ensures.value in
    above_next (λ (e : Disequation). disequation_numbers (disequation_of e)) c.args.disequations.now c.loop-disequation.disequation-index d c.loop-disequation.above c.in_ok-above.above
    (max c.args.next (least_above (flat_map (λ (e : Disequation). disequation_numbers (disequation_of e)) c.args.disequations.now))) c.loop-disequation-test.true c.disequation-item.is
    c.loop-disequation.invariant
    (omega (arith, above_append d.free.items (flat_map pair_numbers d.pairs.items), free, pairs, c.in_ok-free.ensures, c.in_ok-above.ensures))
