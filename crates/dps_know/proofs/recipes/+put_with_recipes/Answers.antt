use Rattle.std.proofs.Common.{◌≡◌, arith, subst}
use Rattle.std.specs.Prelude.{OnOk}
use Rattle.dps_terms.specs.Seen.{seen}
use Rattle.dps_terms.specs.Replace.{entries_to}
use Rattle.dps_terms.specs.Smaller.{argument_is_smaller}
use Rattle.dps_know.proofs.Walks.{applied}
use Rattle.dps_know.proofs.recipes.+put_with_recipes.Goals as goal

pub put_with_recipes-requires : goal.put_with_recipes-requires
put_with_recipes-requires t c =
    let h = argument_is_smaller (seen c.args.tree) _ (seen c.argument.result) c.argument.ensures in
    (omega (arith, h, c.decreases), tt)

pub returns-after-loop-left : goal.returns-after-loop-left
returns-after-loop-left t c =
    subst
    (λ s. OnOk c.apply.result (c.apply.new.self ≡ s))
    (applied (entries_to c.args.recipes.now) (seen c.args.tree) c.in-App.sym c.loop-left.left c.arity.result c.args.stack.now c.loop-left.stack
    c.in-App.ensures c.arity.ensures.number (omega (arith, c.loop-left-test.false)) c.loop-left.invariant.so_far)
    c.apply.ensures.ok
