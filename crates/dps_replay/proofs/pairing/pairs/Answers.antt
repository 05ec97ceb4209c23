use Rattle.std.proofs.Common.{◌≡◌, ℕ, length, get_or, subst, arith}
use Rattle.dps_semantics.specs.Once.{config_at}
use Rattle.dps_replay.proofs.Partners.{all_left, place_left, popped}
use Rattle.dps_replay.proofs.pairing.pairs.Goals as goal

pub loop-end-init : goal.loop-end-init
loop-end-init c = rw c.in_ok-pairs.ensures.items (all_left c.args.ends.items c.args.others.now c.args.partners.now)

pub partner-requires-clause-place : goal.partner-requires-clause-place
partner-requires-clause-place c =
    let left =
    place_left c.args.ends.items c.args.others.now c.args.partners.now c.loop-end.left.items c.pop.new.self.items
    c.in-Some.end c.loop-end.pairs.items c.loop-end.invariant c.in-Some.ensures.items in
    omega (arith, left, c.requires.counted, c.len-in-Some.ensures, c.pop.new.self.ok)

pub partner-requires-clause-partner : goal.partner-requires-clause-partner
partner-requires-clause-partner c =
    let left =
    place_left c.args.ends.items c.args.others.now c.args.partners.now c.loop-end.left.items c.pop.new.self.items
    c.in-Some.end c.loop-end.pairs.items c.loop-end.invariant c.in-Some.ensures.items in
    c.requires.within c.len-in-Some.result (omega (arith, left, c.len-in-Some.ensures, c.pop.new.self.ok))

pub loop-end-preserved : goal.loop-end-preserved
loop-end-preserved c =
    let others = c.args.others.now in
    let partners = c.args.partners.now in
    let rest = c.pop.new.self.items in
    let other = c.in_ok-other.other in
    let size : c.len-in-Some.result ≡ length rest = omega (arith, c.len-in-Some.ensures, c.pop.new.self.ok) in
    let is = subst (λ (n : ℕ). other ≡ config_at others (get_or partners n 0)) size c.in_ok-other.ensures in
    popped c.args.ends.items others partners c.loop-end.left.items rest c.in-Some.end other c.loop-end.pairs.items c.push.new.self.items c.loop-end.invariant c.in-Some.ensures.items is
    c.in_ok-push.ensures.items
