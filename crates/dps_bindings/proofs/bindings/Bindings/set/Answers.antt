use Rattle.std.proofs.Common.{◌≡◌, ℕ, List, slice_get, slice_set, Some, None, sym, ◌∙◌, ap, subst}
use Rattle.std.proofs.lemmas.Option.{get_or_from_slice_get}
use Rattle.std.proofs.lemmas.Result.{on_ok_weaker}
use Rattle.dps_terms.specs.Tree.{Tree}
use Rattle.dps_terms.specs.Bindings.{bound, image, IsDistinct}
use Rattle.dps_bindings.specs.Putting.{image_with}
use Rattle.dps_bindings.proofs.Setting.{image_set, distinct_set, image_push}
use Rattle.dps_bindings.proofs.bindings.Bindings.set.Goals as goal

pub invariant_of-self : goal.invariant_of-self
invariant_of-self c =
    let x = c.args.variable in
    let s = c.self.inside.pairs.items in
    let i = c.in-Some.index in
    let t = c.in-Some.ensures.0 in
    let at : slice_get s i ≡ Some (x, t) = subst (λ (ps : List (ℕ × Tree)). slice_get ps i ≡ Some (x, t)) c.deref.ensures.value c.in-Some.ensures.1 in
    let is : c.index_mut.result.now ≡ (x, t) = c.index_mut.ensures.value ∙ get_or_from_slice_get s i (x, t) c.index_mut.result.now at in
    subst (λ (k : ℕ). IsDistinct (slice_set s i (k, c.args.term))) (λ j. (sym is j).0) (distinct_set x t c.args.term s i at c.self.invariant)

pub returns-in-Some : goal.returns-in-Some
returns-in-Some c =
    let x = c.args.variable in
    let s = c.self.inside.pairs.items in
    let i = c.in-Some.index in
    let t = c.in-Some.ensures.0 in
    let at : slice_get s i ≡ Some (x, t) = subst (λ (ps : List (ℕ × Tree)). slice_get ps i ≡ Some (x, t)) c.deref.ensures.value c.in-Some.ensures.1 in
    let is : c.index_mut.result.now ≡ (x, t) = c.index_mut.ensures.value ∙ get_or_from_slice_get s i (x, t) c.index_mut.result.now at in
    (λ j. image (slice_set s i ((is j).0, c.args.term))) ∙ image_set x t c.args.term s i at c.self.invariant
    ∙ ap (λ (ps : List (ℕ × Tree)). image_with x c.args.term (image ps)) c.self.view_is

pub returns-in-None : goal.returns-in-None
returns-in-None c =
    let x = c.args.variable in
    let free : bound c.args.self.now x ≡ None = subst (λ (ps : List (ℕ × Tree)). bound ps x ≡ None) (c.deref.ensures.value ∙ c.self.view_is) c.in-None.ensures in
    on_ok_weaker c.bind.result (λ e. ap image e ∙ image_push c.args.self.now x c.args.term free) c.bind.ensures.ok
