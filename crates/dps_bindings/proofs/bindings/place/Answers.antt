use Rattle.std.proofs.Common.{rules, ◌≡◌, ◌<◌, length, slice_get, Some, sym, ◌∙◌, ap}
use Rattle.std.proofs.lemmas.Option.{slice_get-get_or}
use Rattle.dps_bindings.proofs.bindings.place.Goals as goal

pub returns-then-pairs-index : goal.returns-then-pairs-index
returns-then-pairs-index c =
    let pairs = c.args.pairs.now in
    let i = c.loop-index.index in
    let p = c.index-pairs-index.result in
    let within : i < length pairs = search rules in
    let there : slice_get pairs i ≡ Some p = slice_get-get_or pairs i p within ∙ ap Some (sym c.index-pairs-index.is) in
    let key : p.0 ≡ c.args.variable = search rules in
    (p.1, there ∙ (λ j. Some (key j, p.1)))
