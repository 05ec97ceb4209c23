-- Recipes that are resolved one after the other.
use Rattle.std.proofs.Common.{◌≡◌, ℕ, suc, ◌+◌, ◌<◌, List, [], ◌∷◌, ◌++◌, length, get_or, drop, sym, ap, ◌∙◌, add-one}
use Rattle.std.proofs.Math.Seq.{drop-cons}
use Rattle.dps_terms.specs.Tree.{Tree}
use Rattle.dps_terms.specs.Replace.{put_entries}
use Rattle.dps_know.specs.declared.know.Entry.{Entry}
use Rattle.dps_know.specs.Know.{resolved_after}

pub resolved_more :
    (entries : List Entry) (done more : List Tree) (i : ℕ) (e : Entry) (r : Tree) → i < length entries → e ≡ get_or entries i e
    → r ≡ put_entries done e.recipe → more ≡ done ++ r ∷ []
    → resolved_after more (drop (i + 1) entries) ≡ resolved_after done (drop i entries)
resolved_more entries done more i e r within at is grown =
    let split : drop i entries ≡ e ∷ drop (i + 1) entries =
    drop-cons entries i e within ∙ (λ j. sym at j ∷ drop (suc i) entries) ∙ ap (λ n. e ∷ drop n entries) (sym (add-one i)) in
    ap (λ ds. resolved_after ds (drop (i + 1) entries)) (grown ∙ ap (λ t. done ++ t ∷ []) is) ∙ sym (ap (resolved_after done) split)
