use Rattle.std.proofs.Common.{◌≡◌, ◌∙◌, arith, refl, sym, true, false, inl, inr}
use Rattle.dps_terms.specs.Seen.{seen}
use Rattle.dps_terms.specs.Smaller.{argument_is_smaller}
use Rattle.dps_know.proofs.Parts.{strict_one, strict_none, subterm_or}
use Rattle.dps_know.proofs.subterms.+subterms.Goals as goal

pub is_strict_subterm-is_subterm-requires : goal.is_strict_subterm-is_subterm-requires
is_strict_subterm-is_subterm-requires t c =
    let h = argument_is_smaller (seen c.args.term) c.loop-index.index (seen c.argument.result) c.argument.ensures in (omega (arith, h, c.decreases), tt)

pub is_strict_subterm-returns-then-is_subterm : goal.is_strict_subterm-returns-then-is_subterm
is_strict_subterm-returns-then-is_subterm t c = (
  λ _. strict_one (seen c.args.part) (seen c.args.term) c.loop-index.index (seen c.argument.result) c.argument.ensures (c.if-is_subterm.ensures.0 refl),
  λ _. refl,
)

pub is_strict_subterm-returns : goal.is_strict_subterm-returns
is_strict_subterm-returns t c = (
  λ e. cc,
  λ h. absurd (strict_none (seen c.args.part) (seen c.args.term) c.loop-index.index c.loop-index.invariant (omega (arith, c.arity-index-end.ensures.number)) h),
)

pub is_subterm-returns-then-equals : goal.is_subterm-returns-then-equals
is_subterm-returns-then-equals t c = (
  λ _. (subterm_or (seen c.args.part) (seen c.args.term)).1 (inl (c.equals.ensures.0 c.if-equals.true)),
  λ _. c.if-equals.true,
)

pub is_subterm-returns-else-equals : goal.is_subterm-returns-else-equals
is_subterm-returns-else-equals t c = (
  λ e. (subterm_or (seen c.args.part) (seen c.args.term)).1 (inr (c.is_strict_subterm.ensures.0 e)),
  λ h.
      elim ((subterm_or (seen c.args.part) (seen c.args.term)).0 h) [
        | inl e ↦ let k : false ≡ true = sym c.if-equals.false ∙ c.equals.ensures.1 e in cc
        | inr k ↦ c.is_strict_subterm.ensures.1 k
      ],
)
