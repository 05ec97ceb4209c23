use Rattle.std.proofs.Common.{◌∙◌, length, map, refl, ap, sym, subst, arith}
use Rattle.std.proofs.lemmas.List.{length-take, take-map}
use Rattle.dps_signature.specs.Counted.{symbol_of, name_of}
use Rattle.dps_signature.specs.Spelled.{IsSpelled}
use Rattle.dps_signature.proofs.Spelling.{symbols_cut}
use Rattle.dps_signature.proofs.signature.Signature.truncate_symbols.Goals as goal

pub invariant_of-self : goal.invariant_of-self
invariant_of-self c =
    let old = c.self.inside.symbols.entries in (
      omega (arith, ap length c.truncate.ensures.entries, length-take c.args.count old, c.self.invariant.0),
      c.self.invariant.1,
      c.self.invariant.2,
      subst (λ ss. IsSpelled (record { symbols = ss; names = map name_of c.self.inside.names.entries })) (sym (ap (map symbol_of) c.truncate.ensures.entries ∙ sym (take-map symbol_of c.args.count old)))
          (symbols_cut (record { symbols = map symbol_of old; names = map name_of c.self.inside.names.entries }) c.args.count c.self.invariant.3),
    )

pub returns : goal.returns
returns c =
    rw (← c.self.view_is, c.truncate.ensures.entries, take-map symbol_of c.args.count c.self.inside.symbols.entries) refl
