use Rattle.std.proofs.Common.{ℕ, List, map, ◌∙◌, ◌∷◌, ◌++◌, [], ap, sym}
use Rattle.std.proofs.lemmas.List.{map-append}
use Rattle.dps_theory.proofs.Walking.{take_mapped}
use Rattle.dps_theory.proofs.index.RootIndex.copy.Goals as goal

pub loop-places-preserved : goal.loop-places-preserved
loop-places-preserved c =
    let places = c.as_slice-places-items.result.now in
    let done = c.loop-places.by_root.items in
    let copied = c.in_ok-extend_from_slice.ensures.items ∙ (ap (λ l. l ++ c.as_slice.result.now) c.new-copies.ensures.items ∙ c.as_slice.ensures.value) in
    ap (map (λ v. v.items)) c.in_ok-push.ensures.items
    ∙ map-append (λ v. v.items) done _
    ∙ (λ i. c.loop-places.invariant i ++ (copied ∙ ap (λ v. v.items) c.places-item.is) i ∷ [])
    ∙ sym (take_mapped (λ v. v.items) places c.loop-places.places-index _ c.loop-places-test.true)
