use Rattle.std.proofs.Common.{◌≡◌, ◌<◌, ◌∙◌, ap, refl, sym, subst, length, arith, length-set, true}
use Rattle.std.proofs.lemmas.Option.{slice_get_read}
use Rattle.dps_terms.specs.Seen.{seen}
use Rattle.dps_theory.specs.Theory.{Rule}
use Rattle.dps_theory.specs.Index.{has_root, HasRootBelow}
use Rattle.dps_theory.proofs.Accepting.{root_from_view, same_element, below_from_view}
use Rattle.dps_theory.proofs.Walking.{index_taken}
use Rattle.dps_theory.proofs.index.index_of.Goals as goal

pub loop-place-preserved : goal.loop-place-preserved
loop-place-preserved c =
    let here = slice_get_read c.args.rules.now (length c.args.rules.now) _ _ refl c.loop-place-test.true c.index-rules-place.is in
    let same = c.whole.ensures ∙ ap (λ (r : Rule). r.left) c.rule.view_is in
    let root : has_root c.in-App.root.number c.index-rules-place.result.left ≡ true =
    subst (λ t. has_root c.in-App.root.number t ≡ true) same (root_from_view (seen c.whole.result) c.in-App.root c.in-App.ensures) in
    let rooted : HasRootBelow c.args.symbols c.index-rules-place.result.left =
    subst (λ (r : Rule). HasRootBelow c.args.symbols r.left) (sym c.index-rules-place.is) (c.requires.rooted c.loop-place.place c.index-rules-place.result c.loop-place-test.true) in
    let below = below_from_view c.args.symbols (seen c.whole.result) c.in-App.root c.in-App.ensures (subst (HasRootBelow c.args.symbols) (sym same) rooted) in
    let within : c.in-App.root.number < length c.loop-place.index = omega (arith, below, c.loop-place.invariant.symbols) in
    record {
      indexed =
          index_taken c.args.rules.now c.loop-place.place c.in-App.root.number c.loop-place.index c.add.new.self c.loop-place.invariant.indexed
          (λ r e. subst (λ (q : Rule). has_root c.in-App.root.number q.left ≡ true) (same_element c.args.rules.now c.loop-place.place c.index-rules-place.result r here e) root)
          within c.loop-place-test.true c.in_ok-add.ensures;
      symbols = ap length c.in_ok-add.ensures ∙ length-set c.loop-place.index _ _ ∙ c.loop-place.invariant.symbols;
    }
