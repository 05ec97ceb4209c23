use Rattle.std.proofs.Common.{get_or, length, refl, subst}
use Rattle.std.proofs.lemmas.Option.{slice_get_read}
use Rattle.dps_theory.specs.Theory.{Rule, Agree}
use Rattle.dps_theory.specs.Overlaps.{HasSmallVariables, IsOverlap}
use Rattle.dps_theory.proofs.Walking.{walk_start}
use Rattle.dps_theory.proofs.Accepting.{before_within, before_on, before_end, overlap_before, one_there, all_at, same_element}
use Rattle.dps_theory.proofs.check.earlier_overlap.Goals as goal

pub loop-before-init : goal.loop-before-init
loop-before-init c = λ q e. walk_start _ q c.requires.listed.0 c.args.earlier.now (c.requires.listed.1 q e) c.requires.listed.2

pub bounds-rules-before : goal.bounds-rules-before
bounds-rules-before c =
    let q = one_there c.args.rules.now c.args.place c.requires.inside in
    (before_within c.requires.judged.0 c.args.rules.now c.args.place c.requires.judged.1 q.0 c.args.earlier.now c.loop-before.before-index c.loop-before-test.true (c.loop-before.invariant q.0 q.1)).1

pub overlap-requires-clause-bounded : goal.overlap-requires-clause-bounded
overlap-requires-clause-bounded c =
    let q = one_there c.args.rules.now c.args.place c.requires.inside in
    let inside =
    before_within c.requires.judged.0 c.args.rules.now c.args.place c.requires.judged.1 q.0 c.args.earlier.now c.loop-before.before-index c.loop-before-test.true (c.loop-before.invariant q.0 q.1) in
    (c.requires.judged.1.forms (get_or c.args.earlier.now c.loop-before.before-index 0) c.index-rules-before.result inside.0
    (slice_get_read c.args.rules.now (length c.args.rules.now) _ _ refl inside.1 c.index-rules-before.is)).bounded

pub overlap-requires-clause-first_small : goal.overlap-requires-clause-first_small
overlap-requires-clause-first_small c =
    let q = one_there c.args.rules.now c.args.place c.requires.inside in
    let inside =
    before_within c.requires.judged.0 c.args.rules.now c.args.place c.requires.judged.1 q.0 c.args.earlier.now c.loop-before.before-index c.loop-before-test.true (c.loop-before.invariant q.0 q.1) in
    all_at HasSmallVariables c.args.rules.now (get_or c.args.earlier.now c.loop-before.before-index 0) c.index-rules-before.result c.requires.small inside.1 c.index-rules-before.is

pub returns-in-Some : goal.returns-in-Some
returns-in-Some c = λ q e.
    let walk = c.loop-before.invariant q e in
    let inside =
    before_within c.requires.judged.0 c.args.rules.now c.args.place c.requires.judged.1 q c.args.earlier.now c.loop-before.before-index c.loop-before-test.true walk in
    let here = slice_get_read c.args.rules.now (length c.args.rules.now) _ _ refl c.requires.inside c.index-rules-place.is in
    let same = same_element c.args.rules.now c.args.place c.index-rules-place.result q here e in
    overlap_before c.requires.judged.0 c.args.rules.now c.args.place c.requires.judged.1 q c.index-rules-before.result c.args.earlier.now c.loop-before.before-index c.loop-before-test.true walk c.in-Some.unifier
    (slice_get_read c.args.rules.now (length c.args.rules.now) _ _ refl inside.1 c.index-rules-before.is)
    (subst (λ (s : Rule). IsOverlap c.index-rules-before.result s c.in-Some.unifier) same (rw c.in-Some.is at c.in_ok-unifier.ensures))

pub loop-before-preserved : goal.loop-before-preserved
loop-before-preserved c = λ q e.
    let walk = c.loop-before.invariant q e in
    let inside =
    before_within c.requires.judged.0 c.args.rules.now c.args.place c.requires.judged.1 q c.args.earlier.now c.loop-before.before-index c.loop-before-test.true walk in
    let here = slice_get_read c.args.rules.now (length c.args.rules.now) _ _ refl c.requires.inside c.index-rules-place.is in
    let same = same_element c.args.rules.now c.args.place c.index-rules-place.result q here e in
    let there = slice_get_read c.args.rules.now (length c.args.rules.now) _ _ refl inside.1 c.index-rules-before.is in
    let agrees : Agree c.index-rules-before.result c.index-rules-place.result = rw c.in_default.is at c.in_ok-unifier.ensures in
    before_on c.requires.judged.0 c.args.rules.now c.args.place c.requires.judged.1 q c.args.earlier.now c.loop-before.before-index c.loop-before-test.true walk
    (λ r d. subst (λ (s : Rule). Agree s q) (same_element c.args.rules.now _ c.index-rules-before.result r there d) (subst (Agree c.index-rules-before.result) same agrees))

pub returns : goal.returns
returns c = λ q e.
    before_end c.requires.judged.0 c.args.rules.now c.args.place c.requires.judged.1 q c.args.earlier.now c.loop-before.before-index (c.loop-before.invariant q e) c.loop-before-test.false
