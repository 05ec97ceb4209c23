use Rattle.std.proofs.Common.{◌≡◌, ◌∙◌, arith, refl, true, false}
use Rattle.dps_terms.specs.Seen.{seen}
use Rattle.dps_terms.specs.Smaller.{argument_is_smaller}
use Rattle.dps_theory.proofs.Forms.{closed_all, closed_one}
use Rattle.dps_theory.proofs.form.+is_closed.Goals as goal

pub is_closed-requires : goal.is_closed-requires
is_closed-requires t c =
    let h = argument_is_smaller (seen c.args.term) c.loop-index.index (seen c.argument.result) c.argument.ensures in (omega (arith, h, c.decreases), tt)

pub returns-then-not-is_closed : goal.returns-then-not-is_closed
returns-then-not-is_closed t c = (
  λ e. cc,
  λ h. let e : false ≡ true = c.if-not-is_closed.ensures.1 (closed_one (seen c.args.term) c.loop-index.index (seen c.argument.result) c.argument.ensures h) in cc,
)

pub returns : goal.returns
returns t c = (
  λ _. closed_all (seen c.args.term) c.loop-index.index (λ n e. c.in_default.not-Var n (c.view.ensures ∙ e)) c.loop-index.invariant (omega (arith, c.arity-index-end.ensures.number)),
  λ _. refl,
)
