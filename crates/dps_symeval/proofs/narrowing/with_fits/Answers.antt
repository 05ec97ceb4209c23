use Rattle.std.proofs.Common.{◌+◌, ◌++◌, ◌∙◌, ap, arith}
use Rattle.std.specs.List.{zip}
use Rattle.dps_terms.specs.Seen.{seen}
use Rattle.dps_terms.specs.Views.{arguments}
use Rattle.dps_symeval.proofs.Reducing.{fits_next, fits_all}
use Rattle.dps_symeval.proofs.narrowing.with_fits.Goals as goal

pub loop-index-preserved : goal.loop-index-preserved
loop-index-preserved c =
    fits_next c.args.equations.now c.args.terms.now (arguments (seen c.whole-left.result)) c.loop-index.index (c.loop-index.index + 1) c.index-terms-index.result (seen c.argument.result)
    c.in_ok-term.term c.in_ok-pattern.pattern c.loop-index.all.items c.push.new.self.items (omega arith)
    (omega (arith, c.loop-index-test.true, c.min-count.ensures)) c.index-terms-index.is c.argument.ensures
    c.in_ok-term.ensures.same c.in_ok-pattern.ensures.same c.in_ok-push.ensures.items c.loop-index.invariant

pub returns : goal.returns
returns c =
    fits_all c.args.equations.now c.args.terms.now (arguments (seen c.whole-left.result)) c.loop-index.index c.loop-index.all.items
    (omega (arith, c.loop-index-test.false, c.min-count.ensures, c.arity.ensures.number)) c.loop-index.invariant
    ∙ ap (λ t. c.args.equations.now ++ zip c.args.terms.now (arguments t)) c.whole-left.ensures
