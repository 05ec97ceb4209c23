use Rattle.std.proofs.Common.{◌≡◌, ◌∙◌, arith, refl, sym, map, true, false}
use Rattle.dps_terms.specs.Seen.{seen}
use Rattle.dps_terms.specs.Smaller.{argument_is_smaller}
use Rattle.dps_theory.specs.Held.{shape_of}
use Rattle.dps_theory.proofs.Forms.{constructor_arguments_one, constructor_arguments_all, constructor_app}
use Rattle.dps_theory.proofs.form.+constructors.Goals as goal

pub has_constructor_arguments-is_constructor_term-requires : goal.has_constructor_arguments-is_constructor_term-requires
has_constructor_arguments-is_constructor_term-requires t c =
    let h = argument_is_smaller (seen c.args.term) c.loop-index.index (seen c.argument.result) c.argument.ensures in (omega (arith, h, c.decreases), tt)

pub has_constructor_arguments-returns-then-not-is_constructor_term : goal.has_constructor_arguments-returns-then-not-is_constructor_term
has_constructor_arguments-returns-then-not-is_constructor_term t c = (
  λ e. cc,
  λ h. let e : false ≡ true = c.if-not-is_constructor_term.ensures.1 (constructor_arguments_one (map shape_of c.args.known.now) (seen c.args.term) c.loop-index.index (seen c.argument.result) h c.argument.ensures) in cc,
)

pub has_constructor_arguments-returns : goal.has_constructor_arguments-returns
has_constructor_arguments-returns t c = (
  λ _. constructor_arguments_all (map shape_of c.args.known.now) (seen c.args.term) c.loop-index.index c.loop-index.invariant (omega (arith, c.arity-index-end.ensures.number)),
  λ _. refl,
)

pub is_constructor_term-returns-then-has_shape : goal.is_constructor_term-returns-then-has_shape
is_constructor_term-returns-then-has_shape t c =
    let both = constructor_app (map shape_of c.args.known.now) (seen c.args.term) c.in-App.sym c.arity.result c.in-App.ensures c.arity.ensures.number in (
      λ e. both.0 (c.has_shape.ensures.0 c.if-has_shape.true, c.has_constructor_arguments.ensures.0 e),
      λ h. c.has_constructor_arguments.ensures.1 (both.1 h).1,
    )

pub is_constructor_term-returns-else-has_shape : goal.is_constructor_term-returns-else-has_shape
is_constructor_term-returns-else-has_shape t c =
    let both = constructor_app (map shape_of c.args.known.now) (seen c.args.term) c.in-App.sym c.arity.result c.in-App.ensures c.arity.ensures.number in (
      λ e. let k : true ≡ false = sym e ∙ c.if-has_shape.false in cc,
      λ h. c.has_shape.ensures.1 (both.1 h).0,
    )
