use Rattle.std.proofs.Common.{◌≡◌, List, [], ◌∷◌, ◌++◌, ap, ◌∙◌}
use Rattle.dps_pool.specs.declared.table.TableNode.{TableNode}
use Rattle.dps_pool.proofs.table.TableNode.kids.Goals as goal

pub returns : goal.returns
returns c =
    let first : TableNode = c.in_ok-kid.field-0 in
    let second : TableNode = c.in_ok-kid-2.field-0 in (
      first,
      second,
      c.in_ok-push-2.ensures.items
          ∙ ap (λ (xs : List TableNode). xs ++ second ∷ []) c.in_ok-push.ensures.items
          ∙ ap (λ (xs : List TableNode). (xs ++ first ∷ []) ++ second ∷ []) c.new-kids.ensures.items,
      c.in_ok-kid.ensures,
      c.in_ok-kid-2.ensures,
    )
