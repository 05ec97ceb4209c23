use Rattle.std.proofs.Common.{◌≡◌, ℕ, List, slice_get, Some, sym, ◌∙◌, ap, subst}
use Rattle.std.proofs.lemmas.Option.{get_or_from_slice_get}
use Rattle.dps_terms.specs.Tree.{Tree}
use Rattle.dps_terms.specs.Bindings.{bound}
use Rattle.dps_bindings.proofs.Setting.{bound_there}
use Rattle.dps_bindings.proofs.bindings.Bindings.get.Goals as goal

pub returns-in-Some : goal.returns-in-Some
returns-in-Some c =
    let x = c.args.variable in
    let s = c.self.inside.pairs.items in
    let i = c.in-Some.index in
    let t = c.in-Some.ensures.0 in
    let at : slice_get s i ≡ Some (x, t) = subst (λ (ps : List (ℕ × Tree)). slice_get ps i ≡ Some (x, t)) c.deref.ensures.value c.in-Some.ensures.1 in
    let is : c.index.result.now ≡ (x, t) = c.index.ensures ∙ get_or_from_slice_get s i (x, t) c.index.result.now at in
    (λ j. Some (is j).1) ∙ sym (bound_there x t s i at c.self.invariant) ∙ ap (λ (ps : List (ℕ × Tree)). bound ps x) c.self.view_is
