use Rattle.std.proofs.Common.{List, ◌∷◌, [], ap, sym, ◌∙◌, subst₂}
use Rattle.dps_terms.specs.Replace.{numbered, substitute}
use Rattle.dps_terms.specs.Tree.{entry, Tree, leaf}
use Rattle.dps_terms.specs.Bindings.{image}
use Rattle.dps_unify.specs.Unifier.{IsNotUnifiable}
use Rattle.dps_search.specs.Code.{branch_of, scene_of}
use Rattle.dps_search.proofs.Comparing.{never_entered}
use Rattle.dps_search.proofs.passing.is_apart.Goals as goal

pub returns-in-Some : goal.returns-in-Some
returns-in-Some c = λ e z rest some.
    let i = c.args.entry in
    let theta = image c.args.branch.now.theta in
    let there = c.whole.ensures ∙ sym (c.in-Some.ensures (leaf (entry i))) ∙ ap (λ (ts : List Tree). numbered ts i (leaf (entry i))) c.deref.ensures.value in
    never_entered (scene_of c.args.scene.now) (branch_of c.args.branch.now) c.index-target.result.now z c.args.branch.now.targets.items rest i some c.index-target.ensures
    (subst₂ (λ t u. IsNotUnifiable ((substitute theta t, substitute theta u) ∷ [])) there c.whole-in-Some.ensures (c.are_apart.ensures e))
