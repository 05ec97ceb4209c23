use Rattle.std.proofs.Common.{◌≡◌, ℕ, suc, ◌+◌, ◌<◌, ◌≤◌, length, take, get_or, refl, ap, ◌∙◌, sym, subst, rules, arith}
use Rattle.dps_core.specs.Pool.{times, without}
use Rattle.std.specs.List.{remove}
use Rattle.dps_core.proofs.Lists.{without-taken, without-first, times-take_more}
use Rattle.dps_core.proofs.tickets.Tickets.take_out.Goals as goal

pub loop-place-init : goal.loop-place-init
loop-place-init c = (c.self.view_is, refl, refl)

pub returns-then-index-ticket : goal.returns-then-index-ticket
returns-then-index-ticket c =
    let i = c.loop-place.invariant in
    let l : c.loop-place.place < length c.args.self.now = omega (arith, ap length c.self.view_is, c.self.inside.items.ok) in
    let e : get_or c.args.self.now c.loop-place.place c.index.result.now ≡ c.args.ticket = ap (λ xs. get_or xs c.loop-place.place c.index.result.now) (sym i.0) ∙ sym c.index.ensures
    ∙ c.if-index-ticket.true in
    c.remove.ensures.items ∙ ap (λ xs. remove xs c.loop-place.place) i.0 ∙ without-first c.index.result.now c.args.ticket c.loop-place.place c.args.self.now l e i.1

pub loop-place-preserved : goal.loop-place-preserved
loop-place-preserved c =
    let i = c.loop-place.invariant in
    let l : c.loop-place.place < length c.args.self.now = omega (arith, ap length c.self.view_is, c.self.inside.items.ok) in
    let more : suc c.loop-place.place ≡ c.loop-place.place + 1 = omega arith in
    let n = λ (h : get_or c.args.self.now c.loop-place.place c.index.result.now ≡ c.args.ticket). c.if-index-ticket.false
    (c.index.ensures ∙ ap (λ xs. get_or xs c.loop-place.place c.index.result.now) i.0 ∙ h) in
    (i.0, subst (λ (k : ℕ). times c.args.ticket (take k c.args.self.now) ≡ 0) more (times-take_more c.index.result.now c.args.ticket c.loop-place.place c.args.self.now l n i.1), refl)

pub returns : goal.returns
returns c =
    let i = c.loop-place.invariant in
    let l : length c.args.self.now ≤ c.loop-place.place = omega (arith, ap length c.self.view_is, c.self.inside.items.ok) in
    i.0 ∙ without-taken c.args.ticket c.loop-place.place c.args.self.now l i.1
