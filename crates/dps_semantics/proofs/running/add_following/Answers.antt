use Rattle.std.proofs.Common.{List, sym, subst, arith, true≢false}
use Rattle.dps_process.specs.Labels.{label_of}
use Rattle.dps_process.specs.Steps.{Config}
use Rattle.dps_semantics.proofs.Lists.{no_items_left}
use Rattle.dps_semantics.proofs.Following.{NextBelow, next_more, next_all}
use Rattle.dps_semantics.proofs.running.add_following.Goals as goal

pub loop-next-preserved : goal.loop-next-preserved
loop-next-preserved c =
    let p = c.args.problem.now in
    let config = c.args.config.now in
    let label = label_of c.args.label.now in
    let moved = c.in_ok-left.left.items in
    let old = c.args.found.now.items in
    let left = c.pop.new.self.items in
    let found = c.loop-next.found.items in
    next_more p config label moved old left found c.in_ok-settled.settled.items c.append.new.self.items c.in-Some.next c.in_ok-left.ensures.just
    (subst (λ (ls : List Config). NextBelow p config label moved old ls found) c.in-Some.ensures.items c.loop-next.invariant)
    c.in_ok-settled.ensures.just c.in_ok-append.ensures.items

pub returns : goal.returns
returns c =
    let p = c.args.problem.now in
    let config = c.args.config.now in
    let label = label_of c.args.label.now in
    let moved = c.in_ok-left.left.items in
    let old = c.args.found.now.items in
    let found = c.loop-next.found.items in
    let none = no_items_left c.loop-next.left.items (λ h. true≢false (sym (c.in_default.ensures.variant.1 (omega (arith, h, c.loop-next.left.ok))))) in
    next_all p config label moved old found c.in_ok-left.ensures.just (subst (λ (ls : List Config). NextBelow p config label moved old ls found) none c.loop-next.invariant)
