use Rattle.std.proofs.Common.{◌≡◌, get_or, sym, ap, ◌∙◌, arith}
use Rattle.dps_syntax.specs.declared.tree.Part.TheVariants.{Inner}
use Rattle.dps_syntax.specs.Tree.{Derivation, count}
use Rattle.dps_syntax.specs.Parts.{parts_of}
use Rattle.dps_scopes.proofs.Rows.{inner_is_smaller}
use Rattle.dps_names.proofs.pattern.+pattern.Goals as goal

pub members-read_pattern-requires : goal.members-read_pattern-requires
members-read_pattern-requires t c =
    let here : get_or c.args.parts.now c.loop-part.part-index c.part-item.result ≡ Inner c.in-Inner.tree = sym c.part-item.is ∙ c.in-Inner.is in
    let smaller = inner_is_smaller c.args.parts.now c.loop-part.part-index c.part-item.result c.in-Inner.tree c.loop-part-test.true here in
    let same : count (parts_of c.as_slice-parts.result.now) ≡ count c.in-Inner.tree.parts = ap (λ ps. count (parts_of ps)) c.as_slice-parts.ensures.value
    ∙ ap (λ (v : Derivation). count v.parts) c.tree.view_is in
    (omega (arith, smaller, same, c.decreases), tt)
