use Rattle.std.proofs.Common.{◌≡◌, ℕ, ◌<◌, List, [], map, get_or, length, sym, ◌∙◌, ap, subst, Vec, Global}
use Rattle.std.specs.List.Sorted.{IsNonDecreasing}
use Rattle.std.proofs.lemmas.List.Elements.{Contains-get_or}
use Rattle.dps_bags.proofs.Holding.{mapped_length, mapped_item}
use Rattle.dps_bags.proofs.bags.Bags.bag.Goals as goal

pub returns-clause-ascending : goal.returns-clause-ascending
returns-clause-ascending c =
    let place = c.args.place in
    let list = c.self.inside.list.items in
    let numbers : Vec ℕ Global → List ℕ = λ bag. bag.items in
    let within : place < length (map numbers list) = subst (λ (bs : List (List ℕ)). place < length bs) (sym c.self.view_is) c.requires in
    let item : get_or (map numbers list) place [] ≡ c.as_slice.result.now =
    mapped_item numbers list place c.index.result.now [] (subst (λ n. place < n) (mapped_length numbers list) within) ∙ (sym (ap numbers c.index.ensures) ∙ sym c.as_slice.ensures.value) in
    subst IsNonDecreasing item (c.self.invariant.0.ascending (get_or (map numbers list) place []) (Contains-get_or (map numbers list) place [] within))
