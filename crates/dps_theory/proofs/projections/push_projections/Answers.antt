use Rattle.std.proofs.Common.{◌∙◌, ap, sym}
use Rattle.dps_signature.specs.Names.{symbol_named}
use Rattle.dps_theory.proofs.projections.push_projections.Goals as goal

pub push_rules-requires-clause-there : goal.push_rules-requires-clause-there
push_rules-requires-clause-there c = λ i low high.
    let named = ap (symbol_named c.args.signature.now) (sym c.tuple_text.ensures) ∙ sym c.in-Some.ensures in
    let there = c.requires.there.destructors c.args.length c.in-Some.tuple.number i c.requires.low c.requires.high named low high in (there.0, there.1)
