use Rattle.std.proofs.Common.{◌≡◌, ℕ, ◌<◌, List, ◌∷◌, length, drop, Some, true, ltb, eqb, refl, ap, ◌∙◌, sym, arith}
use Rattle.std.specs.Prelude.{slice_get}
use Rattle.std.proofs.lemmas.Bool.Decides.{nat_tests}
use Rattle.std.proofs.lemmas.Option.{same_Some, slice_get-get_or}
use Rattle.dps_core.proofs.Lists.{front}
use Rattle.dps_core.proofs.state.is_front.Goals as goal

pub returns : goal.returns
returns c =
    let a = c.in-Some.ensures.lookup in
    let z : ltb c.args.place (length c.args.decks.now) ≡ true = sym a.0 in
    let l : c.args.place < length c.args.decks.now = grind (arith, nat_tests, z) in
    let g : slice_get c.args.decks.now c.args.place ≡ Some c.in-Some.deck.now = slice_get-get_or c.args.decks.now c.args.place c.in-Some.deck.now l ∙ ap (λ (x : List ℕ). Some x) (sym a.1) in
    let f : slice_get c.in-Some.deck.now 0 ≡ Some c.in-Some-first.first = sym c.first.ensures ∙ c.in-Some-first.is in (
      (λ h.
          let e : c.in-Some-first.first ≡ c.args.ticket = grind (arith, nat_tests, h) in
          (drop 1 c.in-Some.deck.now, g ∙ ap (λ (x : List ℕ). Some x) (front c.in-Some.deck.now c.in-Some-first.first f) ∙ ap (λ (k : ℕ). Some (k ∷ drop 1 c.in-Some.deck.now)) e)),
      (λ x.
          let d : c.in-Some.deck.now ≡ c.args.ticket ∷ x.0 = same_Some c.in-Some.deck.now (c.args.ticket ∷ x.0) (sym g ∙ x.1) in
          let e : c.in-Some-first.first ≡ c.args.ticket = same_Some c.in-Some-first.first c.args.ticket (sym f ∙ ap (λ (k : List ℕ). slice_get k 0) d) in
          grind (arith, nat_tests, e)),
    )
