use Rattle.std.proofs.Common.{◌∙◌, List, take, drop, sym, ap, Some, inl, subst, refl}
use Rattle.std.proofs.lemmas.List.{length-take-le}
use Rattle.dps_terms.specs.Tree.{Tree, app, trees}
use Rattle.dps_signature.specs.declared.SymKind.TheVariants.{Constructor, Destructor}
use Rattle.dps_recipes.specs.Reduction.{HasAllAt}
use Rattle.dps_recipes.proofs.Applying.{arities_differ, arities_same, no_arity_gives, has_shape, put_given, first_taken}
use Rattle.dps_recipes.proofs.Trying.{all_at_places}
use Rattle.dps_recipes.proofs.reduction.put_applied.Goals as goal

pub returns-then-ne-clause-given : goal.returns-then-ne-clause-given
returns-then-ne-clause-given c =
    no_arity_gives c.args.theory.now c.args.sym (take c.args.arity c.args.values.now) c.args.arity (sym (length-take-le c.args.arity c.args.values.now c.requires.there))
    (λ e. arities_differ c.arity.result c.args.arity c.if-ne.ensures (c.arity.ensures ∙ e))

pub returns-in-Some-Constructor-clause-given : goal.returns-in-Some-Constructor-clause-given
returns-in-Some-Constructor-clause-given c =
    let vs : List Tree = take c.args.arity c.args.values.now in
    record {
      value = app c.args.sym (trees vs);
      put = c.in_ok-apply.ensures.ok;
      gives = inl (
        has_shape c.args.theory.now c.args.sym vs c.args.arity (sym (length-take-le c.args.arity c.args.values.now c.requires.there)) Constructor
            (sym c.kind.ensures ∙ (c.in-Some-Constructor.is ∙ ap Some c.in-Some-Constructor.field-0-is))
            (sym c.arity.ensures ∙ arities_same c.arity.result c.args.arity c.if-ne.ensures),
        refl,
      );
    }

pub put_reduct-requires : goal.put_reduct-requires
put_reduct-requires c =
    let taken = first_taken c.apply.new.self c.pop.new.self c.in_ok-term-in-Some-Destructor.term (app c.args.sym (trees (take c.args.arity c.args.values.now)))
    (drop c.args.arity c.args.values.now) c.in_ok-apply.ensures.ok c.in_ok-term-in-Some-Destructor.ensures.ok in
    subst (λ t. HasAllAt c.rules-rules.result.now c.of.result.now t) (sym taken.0)
    (all_at_places c.args.theory.now c.args.sym (trees (take c.args.arity c.args.values.now)) c.rules-rules.result.now c.of.result.now c.rules-rules.ensures.accepted c.rules-rules.ensures.list
    c.of.ensures)

pub returns-in_ok-found-in-Some-Destructor-clause-given : goal.returns-in_ok-found-in-Some-Destructor-clause-given
returns-in_ok-found-in-Some-Destructor-clause-given c =
    let vs : List Tree = take c.args.arity c.args.values.now in
    let taken = first_taken c.apply.new.self c.pop.new.self c.in_ok-term-in-Some-Destructor.term (app c.args.sym (trees vs)) (drop c.args.arity c.args.values.now) c.in_ok-apply.ensures.ok
    c.in_ok-term-in-Some-Destructor.ensures.ok in
    put_given c.args.theory.now c.args.sym c.args.arity c.args.values.now c.put_reduct.new.values c.pop.new.self c.in_ok-term-in-Some-Destructor.term c.in_ok-found-in-Some-Destructor.found
    c.rules-rules.ensures.accepted taken.0 taken.1
    (has_shape c.args.theory.now c.args.sym vs c.args.arity (sym (length-take-le c.args.arity c.args.values.now c.requires.there)) Destructor
    (sym c.kind.ensures ∙ (c.in-Some-Destructor.is ∙ ap Some c.in-Some-Destructor.field-0-is))
    (sym c.arity.ensures ∙ arities_same c.arity.result c.args.arity c.if-ne.ensures))
    (rw c.rules-rules.ensures.list at c.in_ok-found-in-Some-Destructor.ensures)
