use Rattle.std.proofs.Common.{◌≡◌, slice_get, Some, arith, sym, ap, ◌∙◌, true≢false, below_more}
use Rattle.std.proofs.lemmas.Option.{slice_get_within}
use Rattle.dps_terms.specs.Seen.{seen}
use Rattle.dps_static.proofs.kept.place_from.Goals as goal

pub returns-then-equals-clause-first : goal.returns-then-equals-clause-first
returns-then-equals-clause-first c = record {
  here = c.get.ensures ∙ ap Some (c.equals.ensures.0 c.if-equals.true);
  none_before = c.loop-place.invariant;
}

pub loop-place-preserved : goal.loop-place-preserved
loop-place-preserved c =
    let here : slice_get c.args.trees.now c.loop-place.place ≡ Some (seen c.args.tree) → ⊥ = λ there.
    (let same : seen c.get.result ≡ seen c.args.tree = cc (c.get.ensures, there) in
    true≢false (sym (c.equals.ensures.1 same) ∙ c.if-equals.false)) in
    below_more _ _ c.loop-place.invariant here

pub returns-clause-first : goal.returns-clause-first
returns-clause-first c = λ j e.
    let h = slice_get_within c.args.trees.now j (seen c.args.tree) e in
    c.loop-place.invariant j (omega (arith, h, c.len-place-end.ensures, c.loop-place-test.false)) e
