use Rattle.std.proofs.Common.{◌<◌, arith, below_more, refl, sym, ◌∙◌, ap, Some, true≢false}
use Rattle.std.specs.Prelude.{slice_get}
use Rattle.std.proofs.lemmas.Option.{slice_get_within}
use Rattle.dps_tree.proofs.Constructors.{kind_there, all_build, one_destroys}
use Rattle.dps_tree.proofs.plain.has_constructors_alone.Goals as goal

pub loop-number-preserved : goal.loop-number-preserved
loop-number-preserved c =
    below_more _ _ c.loop-number.invariant
    (λ s e. kind_there (slice_get c.args.signature.now.symbols c.loop-number.number) s _ (c.kind.ensures ∙ ap Some c.in-Constructor.is) e)

pub returns-in-Destructor : goal.returns-in-Destructor
returns-in-Destructor c = (
  λ e. absurd (true≢false (sym e)),
  λ h. absurd (one_destroys c.args.signature.now.symbols c.loop-number.number (c.kind.ensures ∙ ap Some c.in-Destructor.is) h),
)

pub returns : goal.returns
returns c = (
  λ _. all_build c.args.signature.now.symbols
      (λ j s e. let within : j < c.loop-number.number = omega (arith, slice_get_within c.args.signature.now.symbols j s e, c.symbol_count-number-end.ensures.count) in
      c.loop-number.invariant j within s e),
  λ _. refl,
)
