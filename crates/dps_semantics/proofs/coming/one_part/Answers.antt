use Rattle.std.proofs.Common.{◌≡◌, ◌∷◌, []}
use Rattle.std.proofs.lemmas.Result.{IfOk-weaker}
use Rattle.dps_semantics.specs.Parts.{StandForJust}
use Rattle.dps_semantics.proofs.Numbering.{number_stands}
use Rattle.dps_semantics.proofs.coming.one_part.Goals as goal

pub returns : goal.returns
returns c =
    IfOk-weaker c.of.result _ (λ bags. StandForJust (λ ps. ps ≡ c.args.process.now ∷ []) c.args.parts.now c.number.new.self bags)
    (λ bags j. number_stands c.args.parts.now c.number.new.self c.args.process.now c.in_ok-number.number c.push.new.self.items bags c.in_ok-number.ensures
    (rw c.new-bag.ensures.items at c.in_ok-push.ensures.items) j) c.of.ensures
