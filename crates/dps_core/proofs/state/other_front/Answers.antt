use Rattle.std.proofs.Common.{◌≡◌, ℕ, ◌+◌, ◌<◌, ◌∷◌, List, length, Some, ap, ◌∙◌, sym, subst, ◌⊎◌, inl, inr, arith, true, false}
use Rattle.std.specs.Prelude.{slice_get}
use Rattle.std.proofs.lemmas.Option.{slice_get_within}
use Rattle.dps_core.specs.Answers.{IsFront}
use Rattle.dps_core.proofs.state.other_front.Goals.{else-other-place-via-then-other-place+else-is_front, else-other-place-via-else-other-place}
use Rattle.dps_core.proofs.state.other_front.Goals as goal

last_or_before : (k n : ℕ) → k < n + 1 → (k < n) ⊎ (k ≡ n)
last_or_before k n h = grind (arith)

none_more : (decks : List (List ℕ)) (place ticket n k : ℕ) → ((j : ℕ) → j < n → (j ≡ place → ⊥) → IsFront decks j ticket → ⊥) → ((n ≡ place → ⊥) → IsFront decks n ticket → ⊥) → (k < n) ⊎ (k ≡ n)
    → (k ≡ place → ⊥) → IsFront decks k ticket → ⊥
none_more decks place ticket n k before here (inl h) apart front = before k h apart front
none_more decks place ticket n k before here (inr e) apart front = here (λ z. apart (e ∙ z)) (subst (λ j. IsFront decks j ticket) e front)

pub loop-other-preserved : goal.loop-other-preserved
loop-other-preserved c =
    let here : (c.loop-other.other ≡ c.args.place → ⊥) → IsFront c.args.decks.now c.loop-other.other c.args.ticket → ⊥ =
    elim c.else-other-place.branch [
      | else-other-place-via-then-other-place+else-is_front w ↦ λ apart front. let t : true ≡ false = sym (w.is_front.ensures.1 front) ∙ w.if-is_front.false in cc
      | else-other-place-via-else-other-place w ↦ λ apart front. apart w.if-other-place.false
    ] in
    λ k l. none_more c.args.decks.now c.args.place c.args.ticket c.loop-other.other k c.loop-other.invariant here (last_or_before k c.loop-other.other l)

pub returns : goal.returns
returns c = λ other apart front.
    absurd (c.loop-other.invariant other (omega (arith, slice_get_within c.args.decks.now other (c.args.ticket ∷ front.0) front.1, c.loop-other-test.false)) apart front)
