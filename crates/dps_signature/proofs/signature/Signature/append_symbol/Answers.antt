use Rattle.std.proofs.Common.{◌≡◌, ◌<◌, ◌++◌, ◌∷◌, [], ◌∙◌, refl, ap, sym, subst, arith, length, map, length-append}
use Rattle.std.proofs.lemmas.List.{length-map}
use Rattle.dps_signature.specs.declared.signature.SymbolShape.{SymbolShape}
use Rattle.dps_signature.specs.Signature.{Symbol}
use Rattle.dps_signature.specs.Counted.{symbol_of, name_of}
use Rattle.dps_signature.specs.Spelled.{IsSpelled}
use Rattle.dps_signature.proofs.Positions.{put_last}
use Rattle.dps_signature.proofs.Spelling.{symbol_added}
use Rattle.dps_signature.proofs.signature.Signature.append_symbol.Goals as goal

pub invariant_of-self-2 : goal.invariant_of-self-2
invariant_of-self-2 c =
    let old = c.self.inside.symbols.entries in
    let bytes = c.in_ok-key.ensures.ok in
    let fresh = rw (← c.self.view_is, ← bytes) at c.requires.fresh in
    let few : length (map symbol_of old) < 16777216 = rw (← c.self.view_is) at c.requires.few in
    let shape : SymbolShape = record { kind = c.args.kind; arity = c.args.arity } in
    let grown : map symbol_of c.insert.new.self.entries ≡ map symbol_of old ++ symbol_of (c.in_ok-key.key, shape) ∷ [] = ap (map symbol_of) c.in_ok-insert.ensures.entries
    ∙ put_last (λ (s : Symbol). s.name) symbol_of (λ e. refl) c.in_ok-key.key shape old fresh in (
      omega (arith, few, ap length grown, length-append (map symbol_of old) (symbol_of (c.in_ok-key.key, shape) ∷ []), length-map c.insert.new.self.entries symbol_of),
      c.self.invariant.1,
      c.self.invariant.2,
      subst (λ ss. IsSpelled (record { symbols = ss; names = map name_of c.self.inside.names.entries })) (sym grown)
          (symbol_added (record { symbols = map symbol_of old; names = map name_of c.self.inside.names.entries }) (symbol_of (c.in_ok-key.key, shape)) c.self.invariant.3
          (rw (← bytes) at c.requires.spelled) fresh (rw (← c.self.view_is, ← bytes) at c.requires.no_name)),
    )

pub returns-clause-ok : goal.returns-clause-ok
returns-clause-ok c =
    let bytes = c.in_ok-key.ensures.ok in
    let fresh = rw (← c.self.view_is, ← bytes) at c.requires.fresh in
    rw (← c.self.view_is, c.in_ok-insert.ensures.entries, put_last (λ (s : Symbol). s.name) _ (λ e. refl) c.in_ok-key.key _ c.self.inside.symbols.entries fresh, bytes) refl
