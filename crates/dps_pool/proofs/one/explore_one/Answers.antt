use Rattle.std.proofs.Common.{◌≡◌, ℕ, List, [], ◌∷◌, ◌++◌, Some, ◌<◌, length, map, refl, ap, ◌∙◌, sym, subst, arith}
use Rattle.std.specs.Prelude.{reverse}
use Rattle.dps_branch.specs.LookTrees.{stop}
use Rattle.dps_branch.specs.Looks.{AreKids}
use Rattle.dps_pool.proofs.Firsts.{first_stop, some-stops, none-stops}
use Rattle.dps_pool.proofs.Stacks.{first_among, pile, expanded, stopped, smaller}
use Rattle.dps_pool.proofs.one.explore_one.Goals as goal

pub returns-in-Stop : goal.returns-in-Stop
returns-in-Stop g c =
    let place = g.N.Branching.place in
    let looks = g.N.Branching.looks in
    let h = rw c.in-Stop.is at c.in_ok-kind.ensures in
    some-stops (looks c.args.root) c.in_ok-copy-in-Stop.field-0 c.in-Stop.kind
    (sym c.loop-node.invariant
    ∙ ap (λ (xs : List _). first_among place looks (reverse xs)) c.in-Some.ensures.items
    ∙ stopped place looks c.in-Some.node c.pop.new.self.items c.in-Stop.kind h
    ∙ ap (λ (p : List ℕ). Some (p, c.in-Stop.kind)) (sym (c.in_ok-copy-in-Stop.ensures ∙ c.path.ensures)))

pub loop-node-smaller : goal.loop-node-smaller
loop-node-smaller g c =
    let place = g.N.Branching.place in
    let looks = g.N.Branching.looks in
    let rest = c.pop.new.self.items in
    let kids = c.in-Kids.kids.items in
    let k = rw c.in-Kids.is at c.in_ok-kind.ensures in
    let new = c.in_ok-append-in-Kids.ensures.items ∙ ap (λ (xs : List _). rest ++ xs) c.reverse.ensures.items in
    subst (λ (xs : List _). pile (map looks xs) < pile (map looks c.loop-node.left.items)) (sym new)
    (subst (λ (xs : List _). pile (map looks (rest ++ reverse kids)) < pile (map looks xs)) (sym c.in-Some.ensures.items) (smaller place looks c.in-Some.node kids rest k))

pub loop-node-preserved : goal.loop-node-preserved
loop-node-preserved g c =
    let place = g.N.Branching.place in
    let looks = g.N.Branching.looks in
    let rest = c.pop.new.self.items in
    let kids = c.in-Kids.kids.items in
    let k = rw c.in-Kids.is at c.in_ok-kind.ensures in
    let new = c.in_ok-append-in-Kids.ensures.items ∙ ap (λ (xs : List _). rest ++ xs) c.reverse.ensures.items in
    ap (λ (xs : List _). first_among place looks (reverse xs)) new
    ∙ expanded place looks c.in-Some.node kids rest k
    ∙ ap (λ (xs : List _). first_among place looks (reverse xs)) (sym c.in-Some.ensures.items)
    ∙ c.loop-node.invariant

nothing : {N : Type 0} (nodes : List N) → length nodes ≡ 0 → nodes ≡ []
nothing [] e = refl
nothing (n ∷ nodes) e = absurd (omega (arith, e))

pub returns : goal.returns
returns g c =
    let place = g.N.Branching.place in
    let looks = g.N.Branching.looks in
    let none = nothing c.loop-node.left.items (omega (arith, c.in_default.ensures.cases.0, c.loop-node.left.ok)) in
    none-stops (looks c.args.root) (sym c.loop-node.invariant ∙ ap (λ (xs : List _). first_among place looks (reverse xs)) none)
