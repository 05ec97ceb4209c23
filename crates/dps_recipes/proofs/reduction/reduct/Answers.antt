use Rattle.std.proofs.Common.{length, refl}
use Rattle.std.proofs.lemmas.Option.{slice_get_read}
use Rattle.dps_recipes.proofs.Trying.{tried_next, tried_all}
use Rattle.dps_recipes.proofs.reduction.reduct.Goals as goal

pub loop-place-preserved : goal.loop-place-preserved
loop-place-preserved c =
    let inside = c.requires.within c.loop-place.place-index 0 c.loop-place-test.true in
    tried_next c.args.rules.now c.args.places.now c.args.term.now c.loop-place.place-index c.index-rules-place.result c.loop-place.invariant
    (slice_get_read c.args.rules.now (length c.args.rules.now) _ _ refl inside c.index-rules-place.is)
    (rw c.in_default.is at c.in_ok-value.ensures)

pub returns : goal.returns
returns c =
    tried_all c.args.rules.now c.args.places.now c.args.term.now c.loop-place.place-index c.requires c.loop-place.invariant c.loop-place-test.false
