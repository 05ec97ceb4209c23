use Rattle.std.proofs.Common.{◌≡◌, false}
use Rattle.dps_report.proofs.TestsRead.{false_is_no_answer, value_recipe, value_is_test, equal_recipes, equal_is_test, no_equal}
use Rattle.dps_report.proofs.reading.is_test.Goals as goal

pub returns-in-Some : goal.returns-in-Some
returns-in-Some c = (
  λ t. value_is_test c.args.test.now c.in-Some.recipe.now c.in-Some.ensures.found (c.is_word.ensures.0 t),
  λ h. c.is_word.ensures.1 (value_recipe c.args.test.now c.in-Some.recipe.now c.in-Some.ensures.found h),
)

pub returns-then-is_word : goal.returns-then-is_word
returns-then-is_word c = (
  λ t.
      equal_is_test c.args.test.now c.in-Some-behind.recipes.now c.in-Some-cut.first.now c.in-Some-cut.second.now c.in-Some-behind.ensures.found
      c.in-Some-cut.ensures.found (c.is_word-in-Some-cut.ensures.0 c.if-is_word.true) (c.is_word-then-is_word.ensures.0 t),
  λ h.
      let words = equal_recipes c.args.test.now c.in-Some-behind.recipes.now c.in-Some-cut.first.now c.in-Some-cut.second.now c.in-Some-behind.ensures.found c.in-Some-cut.ensures.found h in
      c.is_word-then-is_word.ensures.1 words.right,
)

pub returns-else-is_word : goal.returns-else-is_word
returns-else-is_word c = (
  λ t. absurd (let f : c.is_word-in-Some-cut.result ≡ false = c.if-is_word.false in cc),
  λ h.
      let words = equal_recipes c.args.test.now c.in-Some-behind.recipes.now c.in-Some-cut.first.now c.in-Some-cut.second.now c.in-Some-behind.ensures.found c.in-Some-cut.ensures.found h in
      c.is_word-in-Some-cut.ensures.1 words.left,
)

pub returns-in-None : goal.returns-in-None
returns-in-None c = (
  λ t. absurd (false_is_no_answer t),
  λ h. absurd (no_equal c.args.test.now c.in-Some-behind.recipes.now c.in-Some-behind.ensures.found c.in-None.ensures.none h),
)
