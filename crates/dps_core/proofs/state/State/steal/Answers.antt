use Rattle.std.proofs.Common.{◌≡◌, ℕ, ◌<◌, List, ◌∷◌, ◌++◌, [], length, drop, Some, true, false, refl, ap, ◌∙◌, sym, subst, arith}
use Rattle.std.specs.Prelude.{slice_get, slice_set}
use Rattle.std.proofs.lemmas.Option.{slice_get_within, get_or_from_slice_get, slice_get-get_or}
use Rattle.dps_core.specs.declared.event.Event.TheVariants as event
use Rattle.dps_core.specs.contracts.state.State.{the_view}
use Rattle.dps_core.specs.Answers.{IsFront}
use Rattle.dps_core.specs.Pool.{Pool, Step}
use Rattle.dps_core.proofs.Books.{book_of}
use Rattle.dps_core.proofs.Pools.{pool_of}
use Rattle.dps_core.proofs.Moves.{steal-step}
use Rattle.dps_core.proofs.state.State.steal.Goals as goal

pub returns-then-other-place-clause-answer : goal.returns-then-other-place-clause-answer
returns-then-other-place-clause-answer c = (
  refl,
  λ any h.
      let d : slice_get c.deref.result.now h.0 ≡ Some (c.args.ticket ∷ h.2) = ap (λ x. slice_get x h.0) (c.deref.ensures.value ∙ ap (λ (s : Pool). s.decks) c.self.view_is) ∙ h.5 in
      (c.other_front-other.ensures h.0 h.3 (h.2, d)).0 c.if-other-place.true,
)

pub returns-then-not-is_front-clause-answer : goal.returns-then-not-is_front-clause-answer
returns-then-not-is_front-clause-answer c = (
  refl,
  λ any h.
      let d : slice_get c.deref.result.now h.0 ≡ Some (c.args.ticket ∷ h.2) = ap (λ x. slice_get x h.0) (c.deref.ensures.value ∙ ap (λ (s : Pool). s.decks) c.self.view_is) ∙ h.5 in
      let f : IsFront c.deref.result.now c.other_front-other.result c.args.ticket = (c.other_front-other.ensures h.0 h.3 (h.2, d)).1 in
      let g = c.is_front.ensures.1 (subst (λ x. IsFront x c.other_front-other.result c.args.ticket) (c.deref.ensures.value ∙ sym c.deref-2.ensures.value) f) in
      let clash : true ≡ false = sym g ∙ c.if-not-is_front.true in cc,
)

pub index_mut-requires-2 : goal.index_mut-requires-2
index_mut-requires-2 c =
    let f : IsFront c.self.inside.decks.items c.other_front-other.result c.args.ticket = subst (λ x. IsFront x c.other_front-other.result c.args.ticket) c.deref-2.ensures.value
    (c.is_front.ensures.0 c.if-not-is_front.false) in
    omega (arith, slice_get_within c.self.inside.decks.items c.other_front-other.result (c.args.ticket ∷ f.0) f.1, c.self.inside.decks.ok)

pub take_first-requires : goal.take_first-requires
take_first-requires c =
    let f : IsFront c.self.inside.decks.items c.other_front-other.result c.args.ticket = subst (λ x. IsFront x c.other_front-other.result c.args.ticket) c.deref-2.ensures.value
    (c.is_front.ensures.0 c.if-not-is_front.false) in
    let e : c.index_mut-2.result.now ≡ c.args.ticket ∷ f.0 = c.index_mut-2.ensures.value
    ∙ get_or_from_slice_get c.self.inside.decks.items c.other_front-other.result (c.args.ticket ∷ f.0) c.index_mut-2.result.now f.1 in
    omega (arith, ap length e)

pub returns-clause-answer : goal.returns-clause-answer
returns-clause-answer c =
    let other = c.other_front-other.result in
    let f : IsFront c.self.inside.decks.items other c.args.ticket = subst (λ x. IsFront x other c.args.ticket) c.deref-2.ensures.value (c.is_front.ensures.0 c.if-not-is_front.false) in
    let e : c.index_mut-2.result.now ≡ c.args.ticket ∷ f.0 = c.index_mut-2.ensures.value ∙ get_or_from_slice_get c.self.inside.decks.items other (c.args.ticket ∷ f.0) c.index_mut-2.result.now f.1 in
    let l : c.args.worker < length c.self.inside.hands.items = omega (arith, c.self.inside.hands.ok) in
    let h : slice_get c.self.inside.hands.items c.args.worker ≡ Some c.index_mut.result.now = slice_get-get_or c.self.inside.hands.items c.args.worker c.index_mut.result.now l
    ∙ ap (λ (x : List ℕ). Some x) (sym c.index_mut.ensures.value) in
    subst (λ (s : Pool). Step s (event.Steal c.args.worker c.args.ticket)
    (pool_of (book_of c.self.inside.rows.items c.self.inside.best c.self.inside.halted) (slice_set c.self.inside.decks.items other c.take_first.new.self)
    (slice_set c.self.inside.hands.items c.args.worker c.add.new.self))) c.self.view_is
    (steal-step (the_view c.self.inside) c.args.worker c.args.ticket other c.index_mut.result.now f.0 c.add.new.self c.take_first.new.self c.if-other-place.false h f.1 c.in_ok-add.ensures.added
    (c.take_first.ensures ∙ ap (drop 1) e))
