use Rattle.std.proofs.Common.{◌≡◌, ◌<◌, ◌∙◌, [], List, ℕ, Vec, Global, length, map, get_or, ap, sym, arith}
use Rattle.dps_bags.proofs.Holding.{mapped_item, mapped_length, same_numbers}
use Rattle.dps_semantics.proofs.once.is_key_at.Goals as goal

abbrev numbers_in : Vec ℕ Global → List ℕ
numbers_in key = key.items

pub returns-in-Some : goal.returns-in-Some
returns-in-Some c =
    let keys = c.args.keys.now in
    let place = c.args.place in
    let key = c.in-Some.key.now in
    let same = same_numbers c.as_slice.result.now c.args.numbers.now c.eq.result c.eq.ensures in
    let within : place < length keys = c.in-Some.ensures.lookup.3.0 in
    let item : get_or (map numbers_in keys) place [] ≡ c.as_slice.result.now =
    mapped_item numbers_in keys place key [] within ∙ (ap numbers_in (sym c.in-Some.ensures.lookup.1) ∙ sym c.as_slice.ensures.value) in
    (λ t. (omega (arith, within, mapped_length numbers_in keys), item ∙ same.0 t), λ h. same.1 (sym item ∙ h.1))
