use Rattle.std.proofs.Common.{List, ◌++◌, ◌∷◌, [], ap, ◌∙◌}
use Rattle.dps_bindings.specs.declared.piece.Given.{Given}
use Rattle.dps_bindings.proofs.InTurn.{given_more}
use Rattle.dps_bindings.proofs.pieces.with_given.Goals as goal

pub returns : goal.returns
returns c =
    given_more c.args.given.now c.push.new.self.items c.args.one (c.in_ok-push.ensures.items ∙ ap (λ (gs : List Given). gs ++ c.args.one ∷ []) c.in_ok-made.ensures.items)
