use Rattle.std.proofs.Common.{◌≡◌, ◌<◌, ◌++◌, List, true, false, length, take, sym, subst, arith}
use Rattle.std.specs.Prelude.{reverse}
use Rattle.std.proofs.lemmas.List.{append-nil}
use Rattle.dps_node.specs.declared.node.SymConfig.{SymConfig}
use Rattle.dps_node.specs.Splits.{chosen}
use Rattle.dps_node.proofs.Parting.{pushed, taken_shorter}
use Rattle.dps_node.proofs.parts.parted.Goals as goal

-- the configuration holds, and goes to the first
pub loop-config-preserved-in-Continue-1 : goal.loop-config-preserved-in-Continue-1
loop-config-preserved-in-Continue-1 c =
    let holds = c.args.holds.now in
    let all = c.args.configs.items in
    let before = c.loop-config.left.items in
    let left = c.pop.new.self.items in
    let one = c.in-Some.config in
    let at = c.in-Some.ensures.items in
    let i = c.loop-config.invariant in
    let shorter : length left < length holds = taken_shorter holds before left one at i.within in
    let place : c.len.result ≡ length left = omega (arith, c.len.ensures, c.pop.new.self.ok) in
    record {
      within = omega (arith, shorter);
      these =
          subst (λ (xs : List SymConfig). chosen true (take (length left) holds) left ++ reverse xs ≡ chosen true holds all) (sym c.in_ok-push.ensures.items)
          (pushed true true _ holds all before left c.loop-config.these.items one c.len.result at i.within place c.if-holds-len.true i.these);
      others =
          subst (λ (xs : List SymConfig). chosen false (take (length left) holds) left ++ reverse xs ≡ chosen false holds all) (append-nil c.loop-config.others.items)
          (pushed false true _ holds all before left c.loop-config.others.items one c.len.result at i.within place c.if-holds-len.true i.others);
    }

-- it does not, and goes to the others
pub loop-config-preserved : goal.loop-config-preserved
loop-config-preserved c =
    let holds = c.args.holds.now in
    let all = c.args.configs.items in
    let before = c.loop-config.left.items in
    let left = c.pop.new.self.items in
    let one = c.in-Some.config in
    let at = c.in-Some.ensures.items in
    let i = c.loop-config.invariant in
    let shorter : length left < length holds = taken_shorter holds before left one at i.within in
    let place : c.len.result ≡ length left = omega (arith, c.len.ensures, c.pop.new.self.ok) in
    record {
      within = omega (arith, shorter);
      these =
          subst (λ (xs : List SymConfig). chosen true (take (length left) holds) left ++ reverse xs ≡ chosen true holds all) (append-nil c.loop-config.these.items)
          (pushed true false _ holds all before left c.loop-config.these.items one c.len.result at i.within place c.if-holds-len.false i.these);
      others =
          subst (λ (xs : List SymConfig). chosen false (take (length left) holds) left ++ reverse xs ≡ chosen false holds all) (sym c.in_ok-push-2.ensures.items)
          (pushed false false _ holds all before left c.loop-config.others.items one c.len.result at i.within place c.if-holds-len.false i.others);
    }
