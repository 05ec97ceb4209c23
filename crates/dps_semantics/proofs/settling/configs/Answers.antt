use Rattle.std.proofs.Common.{arith, [], subst, sym, List, ℕ}
use Rattle.std.specs.Prelude.{Contains}
use Rattle.std.proofs.lemmas.List.Elements.{Contains-get_or}
use Rattle.dps_semantics.specs.Configs.{AreConfigsOf}
use Rattle.dps_semantics.proofs.Lists.{taken_all}
use Rattle.dps_semantics.proofs.Distinct.{configs_once}
use Rattle.dps_semantics.proofs.settling.configs.Goals as goal

pub copies-requires : goal.copies-requires
copies-requires c = λ n h. c.requires.numbers c.bag.result.now (subst (λ (b : List ℕ). Contains c.args.bags.now b) (sym c.bag.ensures.there)
    (Contains-get_or c.args.bags.now c.loop-index.index [] (omega (arith, c.loop-index-test.true, c.len-index-end.ensures.count)))) n h

pub returns-clause-once : goal.returns-clause-once
returns-clause-once c =
    let parts = c.args.parts.now in
    let bags = c.args.bags.now in
    let frame = c.args.frame.now in
    let configs = c.loop-index.configs.items in
    let all =
    taken_all (λ (bs : List (List ℕ)). AreConfigsOf parts bs frame configs) bags c.loop-index.index
    (omega (arith, c.loop-index-test.false, c.len-index-end.ensures.count)) c.loop-index.invariant in
    configs_once parts c.requires.parts bags frame configs c.len-index-end.ensures.kept c.requires.numbers all
