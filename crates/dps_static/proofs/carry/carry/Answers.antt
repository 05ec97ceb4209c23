use Rattle.std.proofs.Common.{◌≡◌, length, refl, Some}
use Rattle.std.specs.Prelude.{slice_get}
use Rattle.std.proofs.lemmas.Option.{slice_get_read}
use Rattle.dps_static.proofs.Carried.{values_next, recipe_lost}
use Rattle.dps_static.proofs.carry.carry.Goals as goal

pub returns-in-None : goal.returns-in-None
returns-in-None c =
    let there : slice_get c.args.recipes.now c.loop-recipe.recipe-index ≡ Some c.recipe-item.result = slice_get_read c.args.recipes.now (length c.args.recipes.now) _ _ refl
    c.loop-recipe-test.true c.recipe-item.is in
    recipe_lost c.args.theory.now c.args.frame.now c.args.recipes.now c.recipe-item.result c.in_ok-lost-in-None.lost c.loop-recipe.recipe-index there
    c.in_ok-lost-in-None.ensures.same (rw c.in-None.is at c.in_ok-found.ensures)

pub loop-recipe-preserved : goal.loop-recipe-preserved
loop-recipe-preserved c =
    let there : slice_get c.args.recipes.now c.loop-recipe.recipe-index ≡ Some c.recipe-item.result = slice_get_read c.args.recipes.now (length c.args.recipes.now) _ _ refl
    c.loop-recipe-test.true c.recipe-item.is in
    values_next c.args.theory.now c.args.frame.now c.args.recipes.now c.loop-recipe.values.items c.push.new.self.items c.recipe-item.result c.in-Some.found c.loop-recipe.recipe-index there
    c.in_ok-push-in-Some.ensures.items (rw c.in-Some.is at c.in_ok-found.ensures) c.loop-recipe.invariant
