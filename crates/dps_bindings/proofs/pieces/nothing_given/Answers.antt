use Rattle.std.proofs.Common.{List, ap}
use Rattle.dps_bindings.specs.declared.piece.Given.{Given}
use Rattle.dps_bindings.specs.Pieces.{pairs_of}
use Rattle.dps_bindings.specs.Putting.{in_turn}
use Rattle.dps_bindings.proofs.pieces.nothing_given.Goals as goal

pub returns : goal.returns
returns c = ap (λ (gs : List Given). in_turn (pairs_of gs)) c.new.ensures.items
