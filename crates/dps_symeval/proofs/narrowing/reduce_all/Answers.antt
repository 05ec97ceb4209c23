use Rattle.std.proofs.Common.{◌+◌, length, get_or, refl, sym, subst, arith}
use Rattle.std.proofs.lemmas.Option.{slice_get_read}
use Rattle.dps_theory.specs.Theory.{IsBounded}
use Rattle.dps_symeval.proofs.Reducing.{adds_nothing, reduces_more, reduces_all}
use Rattle.dps_symeval.proofs.narrowing.reduce_all.Goals as goal

pub loop-place-init : goal.loop-place-init
loop-place-init c = adds_nothing c.args.found.now.items

pub add_reduced-requires : goal.add_reduced-requires
add_reduced-requires c =
    let inside = c.requires.within c.loop-place.place-index 0 c.loop-place-test.true in
    subst IsBounded (sym c.index-rules-place.is) (c.requires.bounded (get_or c.args.places.now c.loop-place.place-index 0) c.index-rules-place.result inside)

pub loop-place-preserved : goal.loop-place-preserved
loop-place-preserved c =
    let inside = c.requires.within c.loop-place.place-index 0 c.loop-place-test.true in
    reduces_more c.args.arity c.args.choice.now c.args.rules.now c.args.places.now c.loop-place.place-index (c.loop-place.place-index + 1) c.index-rules-place.result c.loop-place-test.true
    (slice_get_read c.args.rules.now (length c.args.rules.now) _ _ refl inside c.index-rules-place.is) (omega arith)
    c.args.found.now.items c.loop-place.found.items c.add_reduced.new.found.items c.loop-place.invariant c.in_ok-add_reduced.ensures

pub returns : goal.returns
returns c =
    reduces_all c.args.arity c.args.choice.now c.args.rules.now c.args.places.now c.loop-place.place-index
    c.args.found.now.items c.loop-place.found.items c.loop-place-test.false c.loop-place.invariant
