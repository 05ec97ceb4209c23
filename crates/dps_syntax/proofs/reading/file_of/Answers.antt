use Rattle.std.proofs.Common.{◌∙◌, sym, subst}
use Rattle.dps_syntax.specs.Marks.{IsShallowWalk}
use Rattle.dps_syntax.specs.Parts.{parts_of}
use Rattle.dps_syntax.proofs.Whole.{file_built}
use Rattle.dps_syntax.proofs.reading.file_of.Goals as goal

pub returns : goal.returns
returns c =
    let walk = rw c.in-Ok.is at c.in_ok-stop.ensures in
    let marks : IsShallowWalk c.deref.result.now c.deref-in-Ok.result.now = subst (IsShallowWalk c.deref.result.now) (sym c.deref-in-Ok.ensures.value) walk in
    file_built c.args.bytes.now c.args.tokens.now c.deref.result.now c.deref-in-Ok.result.now (parts_of c.in_ok-parts-in-Ok.parts.items)
    (record { declarations = c.in_ok-declarations-in-Ok.declarations }) (c.deref.ensures.value ∙ c.in_ok-words.ensures) marks c.in_ok-parts-in-Ok.ensures
    c.in_ok-declarations-in-Ok.ensures.trees c.in_ok-declarations-in-Ok.ensures.keywords
