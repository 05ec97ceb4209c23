use Rattle.std.proofs.Common.{◌≡◌, List, ◌+◌, ◌++◌, ◌∷◌, [], ap, ◌∙◌}
use Rattle.dps_core.specs.declared.event.Mark.TheVariants.{Open}
use Rattle.dps_core.specs.declared.rows.Row.{Row}
use Rattle.dps_core.specs.Book.{kids, row}
use Rattle.dps_core.proofs.Lists.{kids-next}
use Rattle.dps_core.proofs.rows.kids_of.Goals as goal

pub loop-number-preserved : goal.loop-number-preserved
loop-number-preserved c =
    c.in_ok-push.ensures.items
    ∙ ap (λ (rows : List Row). rows ++ row c.in_ok-child.field-0 Open ∷ []) c.loop-number.invariant
    ∙ ap (λ p. kids c.args.path.now 0 c.loop-number.number ++ row p Open ∷ []) c.in_ok-child.ensures
    ∙ kids-next c.args.path.now c.loop-number.number
