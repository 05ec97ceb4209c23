use Rattle.std.proofs.Common.{subst}
use Rattle.dps_theory.specs.Theory.{Rule}
use Rattle.dps_recipes.specs.Reduction.{IsInstance, DoesNotFit}
use Rattle.dps_recipes.proofs.Fitting.{no_match_fits, match_fits}
use Rattle.dps_recipes.proofs.reduction.rewritten.Goals as goal

pub returns-in-Some : goal.returns-in-Some
returns-in-Some c =
    subst (λ (r : Rule). IsInstance r c.args.term.now c.in_ok-value-in-Some.value) c.rule.view_is
    (match_fits (record { left = c.rule.inside.left; right = c.rule.inside.right }) c.args.term.now c.in_ok-free.free.items c.in-Some.by c.in_ok-value-in-Some.value
    (rw c.deref.ensures.value at (rw c.in-Some.is at c.in_ok-by.ensures)) c.in_ok-value-in-Some.ensures)

pub returns : goal.returns
returns c =
    subst (λ (r : Rule). DoesNotFit r c.args.term.now) c.rule.view_is
    (no_match_fits (record { left = c.rule.inside.left; right = c.rule.inside.right }) c.args.term.now
    (rw c.in_ok-free.ensures at (rw c.deref.ensures.value at (rw c.in-None.is at c.in_ok-by.ensures))))
