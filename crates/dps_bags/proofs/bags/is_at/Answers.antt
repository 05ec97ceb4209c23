use Rattle.std.proofs.Common.{◌≡◌, List, ℕ, [], map, get_or, sym, ◌∙◌, ap, ◌<◌, subst, Vec, Global}
use Rattle.dps_bags.proofs.Holding.{mapped_length, mapped_item, same_numbers}
use Rattle.dps_bags.proofs.bags.is_at.Goals as goal

pub returns-in-Some : goal.returns-in-Some
returns-in-Some c =
    let bags = c.args.bags.now in
    let place = c.args.place in
    let numbers : Vec ℕ Global → List ℕ = λ bag. bag.items in
    let within = c.in-Some.ensures.lookup.3.0 in
    let same = same_numbers c.as_slice.result.now c.args.bag.now c.eq.result c.eq.ensures in
    let item : get_or (map numbers bags) place [] ≡ c.as_slice.result.now =
    mapped_item numbers bags place c.in-Some.other.now [] within ∙ (sym (ap numbers c.in-Some.ensures.lookup.1) ∙ sym c.as_slice.ensures.value) in
    (λ t. (subst (λ n. place < n) (sym (mapped_length numbers bags)) within, item ∙ same.0 t), λ h. same.1 (sym item ∙ h.1))
