use Rattle.std.proofs.Common.{length, sym, subst}
use Rattle.dps_terms.specs.Tree.{node_count}
use Rattle.dps_terms.specs.Seen.{seen}
use Rattle.dps_terms.specs.Digest.{digest}
use Rattle.dps_static.specs.Places.{ArePlacesOf, AreSizesOf, IsPlaced}
use Rattle.dps_static.proofs.Placing.{places_stay, places_push, sizes_stay, sizes_push}
use Rattle.dps_static.proofs.kept.Kept.push.Goals as goal

pub invariant_of-self-in_err-put_size : goal.invariant_of-self-in_err-put_size
invariant_of-self-in_err-put_size c =
    let kept = c.self.inside.trees in
    let places = c.self.inside.places.entries in
    let later = c.put_place.new.places.entries in
    let placed : IsPlaced places (digest (seen c.args.tree)) (length kept) later =
    subst (λ d. IsPlaced places d (length kept) later) c.digest.ensures
    (subst (λ l. IsPlaced places c.digest.result l later) c.len.ensures c.in_ok-put_place.ensures.ok) in (
      places_stay kept places later (digest (seen c.args.tree)) c.self.invariant.0 placed,
      subst (AreSizesOf kept) (sym c.in_err-put_size.ensures.err) c.self.invariant.1,
    )

pub invariant_of-self-in_err-push : goal.invariant_of-self-in_err-push
invariant_of-self-in_err-push c =
    let kept = c.self.inside.trees in
    let places = c.self.inside.places.entries in
    let later = c.put_place.new.places.entries in
    let sizes = c.put_size.new.sizes.keys in
    let placed : IsPlaced places (digest (seen c.args.tree)) (length kept) later =
    subst (λ d. IsPlaced places d (length kept) later) c.digest.ensures
    (subst (λ l. IsPlaced places c.digest.result l later) c.len.ensures c.in_ok-put_place.ensures.ok) in (
      subst (λ ts. ArePlacesOf ts later) (sym c.in_err-push.ensures.err) (places_stay kept places later (digest (seen c.args.tree)) c.self.invariant.0 placed),
      subst (λ ts. AreSizesOf ts sizes) (sym c.in_err-push.ensures.err) (sizes_stay kept c.self.inside.sizes.keys sizes (node_count (seen c.args.tree)) c.self.invariant.1 c.in_ok-put_size.ensures.ok),
    )

pub invariant_of-self-2 : goal.invariant_of-self-2
invariant_of-self-2 c =
    let kept = c.self.inside.trees in
    let places = c.self.inside.places.entries in
    let later = c.put_place.new.places.entries in
    let sizes = c.put_size.new.sizes.keys in
    let placed : IsPlaced places (digest (seen c.args.tree)) (length kept) later =
    subst (λ d. IsPlaced places d (length kept) later) c.digest.ensures
    (subst (λ l. IsPlaced places c.digest.result l later) c.len.ensures c.in_ok-put_place.ensures.ok) in (
      subst (λ ts. ArePlacesOf ts later) (sym c.in_ok-push.ensures.ok) (places_push kept places later (seen c.args.tree) c.self.invariant.0 placed),
      subst (λ ts. AreSizesOf ts sizes) (sym c.in_ok-push.ensures.ok) (sizes_push kept c.self.inside.sizes.keys sizes (seen c.args.tree) c.self.invariant.1 c.in_ok-put_size.ensures.ok),
    )
