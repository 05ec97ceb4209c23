use Rattle.std.proofs.Common.{◌≡◌, ◌++◌, ◌∙◌, ap, length, map, arith}
use Rattle.std.proofs.lemmas.List.{length-map}
use Rattle.dps_signature.specs.Signature.{shapes}
use Rattle.dps_theory.specs.Held.{shape_of}
use Rattle.dps_theory.specs.Projections.{projections}
use Rattle.dps_theory.proofs.TupleRules.{few_rules, roots_below, kept_with_projections}
use Rattle.dps_theory.proofs.theory.Theory.joined.Goals as goal

pub index_of-requires-clause-few : goal.index_of-requires-clause-few
index_of-requires-clause-few c =
    rw c.deref.ensures.value
    (few_rules c.args.signature.now c.append.new.self.items c.in_ok-all.all.items c.args.rules.items c.in_ok-all.ensures c.in_ok-append.ensures.items c.requires.checkable.few)

pub index_of-requires-clause-rooted : goal.index_of-requires-clause-rooted
index_of-requires-clause-rooted c =
    let same : c.append.new.self.items ≡ projections c.args.signature.now ++ c.args.rules.items = c.in_ok-append.ensures.items ∙ ap (λ l. l ++ c.args.rules.items) c.in_ok-all.ensures in
    let kept = kept_with_projections c.args.signature.now c.args.rules.items (map shape_of c.args.known.items) c.requires.known c.requires.checkable c.requires.accepted in
    let all = roots_below _ kept.accepted in
    let symbols : c.len.result ≡ length (shapes c.args.signature.now) = omega (arith, c.len.ensures, c.args.known.ok, length-map c.args.known.items shape_of, ap length c.requires.known) in
    rw (c.deref.ensures.value, same, symbols) all

pub invariant_of-result : goal.invariant_of-result
invariant_of-result c =
    let same : c.append.new.self.items ≡ projections c.args.signature.now ++ c.args.rules.items = c.in_ok-append.ensures.items ∙ ap (λ l. l ++ c.args.rules.items) c.in_ok-all.ensures in (
      rw (c.requires.known, same) (kept_with_projections c.args.signature.now c.args.rules.items (map shape_of c.args.known.items) c.requires.known c.requires.checkable c.requires.accepted),
      rw c.deref.ensures.value at c.in_ok-index.ensures,
    )
