use Rattle.std.proofs.Common.{◌≡◌, ℕ, List, ◌∷◌, [], ◌++◌, map, sym, ap, ◌∙◌, string_bytes, position}
use Rattle.std.proofs.lemmas.List.{length-map, map-append}
use Rattle.std.specs.Str.{bytes_eq}
use Rattle.dps_scopes.specs.Places.{place_or_last}
use Rattle.dps_scopes.proofs.Noting.{position-push}
use Rattle.dps_scopes.proofs.texts.Texts.push.Goals as goal

pub invariant_of-self-in-Ok : goal.invariant_of-self-in-Ok
invariant_of-self-in-Ok c text =
    let texts : List (List ℕ) = map string_bytes c.self.inside.texts.items in
    let here = string_bytes c.in_ok-key.key in
    let more = ap (map string_bytes) c.in_ok-push.ensures.items ∙ map-append string_bytes c.self.inside.texts.items (c.in_ok-kept.kept ∷ []) in
    let same : string_bytes c.in_ok-key.key ≡ string_bytes c.in_ok-kept.kept = c.in_ok-key.ensures.ok ∙ sym c.in_ok-kept.ensures.ok in
    c.in-Ok.ensures.ok text
    ∙ (ap (λ o. place_or_last o (bytes_eq text here) c.len-place.result) (c.self.invariant text)
    ∙ (ap (λ n. place_or_last (position (bytes_eq text) texts) (bytes_eq text here) n) (c.len-place.ensures ∙ (c.self.inside.texts.ok.0 ∙ sym (length-map c.self.inside.texts.items string_bytes)))
    ∙ (sym (position-push (bytes_eq text) texts here)
    ∙ (ap (λ bs. position (bytes_eq text) (texts ++ bs ∷ [])) same ∙ ap (position (bytes_eq text)) (sym more)))))
