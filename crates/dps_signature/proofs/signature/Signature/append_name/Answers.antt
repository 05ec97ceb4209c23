use Rattle.std.proofs.Common.{◌≡◌, ◌<◌, ◌++◌, ◌∷◌, [], refl, ap, sym, subst, ◌∙◌, arith, length, map, length-append}
use Rattle.std.proofs.lemmas.List.{length-map, map-append}
use Rattle.dps_signature.specs.declared.signature.NameShape.{NameShape}
use Rattle.dps_signature.specs.Signature.{Name, privates_in}
use Rattle.dps_signature.specs.Counted.{symbol_of, name_of, AreCountedFrom}
use Rattle.dps_signature.specs.Spelled.{IsSpelled}
use Rattle.dps_signature.proofs.Spelling.{name_added}
use Rattle.dps_signature.proofs.Positions.{put_last, goes_last}
use Rattle.dps_signature.proofs.Counting.{privates-le, privates-last, counted_last, one_or_none, byte_of}
use Rattle.dps_signature.proofs.signature.Signature.append_name.Goals as goal

pub overflow_add-self : goal.overflow_add-self
overflow_add-self c =
    let old = c.self.inside.names.entries in
    omega (arith, c.self.invariant.1, c.self.invariant.2.1, privates-le (map name_of old), length-map old name_of, c.from.ensures, byte_of c.args.private, one_or_none c.args.private)

pub invariant_of-self-2 : goal.invariant_of-self-2
invariant_of-self-2 c =
    let old = c.self.inside.names.entries in
    let bytes = c.in_ok-key.ensures.ok in
    let fresh = rw (← c.self.view_is, ← bytes) at c.requires.fresh in
    let few : length (map name_of old) < 16777216 = rw (← c.self.view_is) at c.requires.few in
    let shape : NameShape = record { private = c.args.private; private_before = c.self.inside.private_count } in
    let grown : c.insert.new.self.entries ≡ old ++ (c.in_ok-key.key, shape) ∷ [] = c.in_ok-insert.ensures.entries
    ∙ goes_last (λ (n : Name). n.name) name_of (λ e. refl) c.in_ok-key.key shape old fresh in
    let names : map name_of c.insert.new.self.entries ≡ map name_of old ++ name_of (c.in_ok-key.key, shape) ∷ [] = ap (map name_of) grown ∙ map-append name_of old ((c.in_ok-key.key, shape) ∷ []) in
    let count = ap privates_in names ∙ privates-last (map name_of old) (name_of (c.in_ok-key.key, shape)) in (
      c.self.invariant.0,
      omega (arith, few, ap length grown, length-append old ((c.in_ok-key.key, shape) ∷ []), length-map old name_of),
      (
        subst (AreCountedFrom 0) (sym grown) (counted_last 0 old (c.in_ok-key.key, shape) c.self.invariant.2.0 (omega (arith, c.self.invariant.2.1))),
        omega (arith, count, c.self.invariant.2.1, c.from.ensures, byte_of c.args.private),
      ),
      subst (λ ns. IsSpelled (record { symbols = map symbol_of c.self.inside.symbols.entries; names = ns })) (sym names)
          (name_added (record { symbols = map symbol_of c.self.inside.symbols.entries; names = map name_of old }) (name_of (c.in_ok-key.key, shape)) c.self.invariant.3
          (rw (← bytes) at c.requires.spelled) (rw (← c.self.view_is, ← bytes) at c.requires.no_symbol) fresh),
    )

pub returns-clause-ok : goal.returns-clause-ok
returns-clause-ok c =
    let bytes = c.in_ok-key.ensures.ok in
    let fresh = rw (← c.self.view_is, ← bytes) at c.requires.fresh in
    rw (← c.self.view_is, c.in_ok-insert.ensures.entries, put_last (λ (n : Name). n.name) name_of (λ e. refl) c.in_ok-key.key _ c.self.inside.names.entries fresh, bytes) refl
