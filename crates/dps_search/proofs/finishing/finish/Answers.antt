use Rattle.std.proofs.Common.{◌≡◌, ◌∙◌, ℕ, List, true, false, ap, sym, subst, map}
use Rattle.std.specs.Prelude.{is_some, if◌then◌else◌}
use Rattle.dps_terms.specs.Tree.{Tree, leaf, var}
use Rattle.dps_terms.specs.Bindings.{image}
use Rattle.dps_unify.specs.Order.{level_of}
use Rattle.dps_solver.specs.Solutions.{Respects}
use Rattle.dps_solver.specs.declared.scene.Target.{Target}
use Rattle.dps_bindings.specs.declared.piece.Given.{Given}
use Rattle.dps_search.specs.Code.{system_of}
use Rattle.dps_bindings.specs.Pieces.{pairs_of}
use Rattle.dps_bindings.specs.Putting.{in_turn}
use Rattle.dps_search.proofs.finishing.finish.Goals as goal

abbrev leveled : List (ℕ × ℕ) → (ℕ → Tree) → ℕ → Tree
leveled ls z x = if is_some (level_of ls x) then z x else leaf (var x)

pub returns-then-not-branch : goal.returns-then-not-branch
returns-then-not-branch c = λ r.
    let put = c.in_ok-trees.ensures ∙ ap (λ (gs : List Given). in_turn (pairs_of gs)) c.deref.ensures.value in
    let is = c.in_ok-bindings.ensures ∙ (λ i. leveled (c.deref-2.ensures.value i) (put i)) in
    let d : false ≡ true = sym c.if-not-branch.true ∙ c.in_ok-respects.ensures.1 (subst (λ (z : ℕ → Tree). Respects (system_of c.args.scene.now) z) (sym is) r) in cc

pub returns : goal.returns
returns c =
    let put = c.in_ok-trees.ensures ∙ ap (λ (gs : List Given). in_turn (pairs_of gs)) c.deref.ensures.value in
    let is = c.in_ok-bindings.ensures ∙ (λ i. leveled (c.deref-2.ensures.value i) (put i)) in
    let found = c.in_ok-answers.ensures ∙ (λ i. map (λ (z : Target). put i z.name) (c.deref-3.ensures.value i)) in (
      subst (λ (z : ℕ → Tree). Respects (system_of c.args.scene.now) z) is (c.in_ok-respects.ensures.0 c.if-not-branch.false),
      λ i. record { bindings = is i; answers = found i; theta = image (c.in_ok-theta.ensures i) },
    )
