use Rattle.std.proofs.Common.{Some, sym, ap, ◌∙◌}
use Rattle.std.proofs.lemmas.Option.{slice_get-get_or}
use Rattle.dps_bindings.proofs.Newly.{found_more, found_all}
use Rattle.dps_bindings.proofs.unified.all_variables.Goals as goal

pub loop-pair-preserved : goal.loop-pair-preserved
loop-pair-preserved c =
    let pairs = c.args.pairs.now in
    let i = c.loop-pair.pair-index in
    let p = c.pair-item.result in
    found_more pairs i p c.loop-pair.found.items c.add_variables.new.found.items c.add_variables-in-loop-pair.new.found.items c.loop-pair.invariant
    (slice_get-get_or pairs i p c.loop-pair-test.true ∙ ap Some (sym c.pair-item.is)) c.in_ok-add_variables.ensures c.in_ok-add_variables-2.ensures

pub returns : goal.returns
returns c = found_all c.args.pairs.now c.loop-pair.pair-index c.loop-pair.found.items c.loop-pair.invariant c.loop-pair-test.false
