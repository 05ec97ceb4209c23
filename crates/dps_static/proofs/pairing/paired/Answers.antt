use Rattle.std.proofs.Common.{◌≡◌, ◌∙◌, Some, get_or, arith, ap, sym, subst}
use Rattle.dps_static.proofs.Paired.{pairs_next}
use Rattle.dps_static.proofs.pairing.paired.Goals as goal

pub loop-index-preserved : goal.loop-index-preserved
loop-index-preserved c =
    pairs_next c.args.recipes.now c.args.values.now c.loop-index.pairs.items c.push.new.self.items c.loop-index.index c.in_ok-recipe.recipe c.in_ok-value.value
    (omega (arith, c.loop-index-test.true))
    (subst (λ r. r ≡ get_or c.args.recipes.now c.loop-index.index r) (sym c.in_ok-recipe.ensures.same) c.index-recipes-index.is)
    (c.get.ensures ∙ ap Some (sym c.in_ok-value.ensures.same)) c.in_ok-push.ensures.items c.loop-index.invariant
