use Rattle.std.proofs.Common.{◌≡◌, ℕ, suc, ◌+◌, ◌++◌, List, [], ◌∷◌, refl, ap, ◌∙◌, sym, subst, arith}
use Rattle.dps_core.specs.Pool.{Pool, start}
use Rattle.dps_core.proofs.Lists.{replicate-push}
use Rattle.dps_core.proofs.state.State.new.Goals as goal

pub loop-init : goal.loop-init
loop-init c = (
  0,
  refl,
  rw (c.in_ok-push.ensures.items, c.new-rows.ensures.items, c.root.ensures) refl,
  rw (c.in_ok-push-2.ensures.items, c.new-decks.ensures.items, c.new.ensures) refl,
  rw (c.in_ok-push-3.ensures.items, c.new-hands.ensures.items, c.in_ok-add.ensures.added, c.new-first.ensures) refl,
)

pub loop-preserved : goal.loop-preserved
loop-preserved c =
    let k = c.loop.invariant in
    let h : c.loop.counter + 1 ≡ suc (suc k.0) = omega (arith, k.1) in (
      suc k.0,
      h,
      k.2,
      rw (c.in_ok-push-4.ensures.items, k.3, c.new-in-loop.ensures) (replicate-push (suc k.0)),
      rw (c.in_ok-push-5.ensures.items, k.4, c.new-in-loop-2.ensures) (ap (λ (r : List (List ℕ)). (0 ∷ []) ∷ r) (replicate-push k.0)),
    )

pub returns : goal.returns
returns c =
    let k = c.loop.invariant in
    let e : c.args.workers ≡ suc k.0 = omega (arith, k.1) in
    rw (k.2, k.3, k.4) (ap start (sym e))
