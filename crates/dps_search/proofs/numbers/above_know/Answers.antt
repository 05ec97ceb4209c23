use Rattle.std.proofs.Common.{◌≡◌, ◌++◌, ap, arith}
use Rattle.std.specs.List.{flat_map}
use Rattle.std.proofs.lemmas.Result.{IfOk-weaker}
use Rattle.dps_terms.specs.Variables.{occurrences}
use Rattle.dps_know.specs.Know.{compositions}
use Rattle.dps_solver.specs.Search.{least_above, entry_numbers}
use Rattle.dps_search.specs.Numbers.{composition_numbers}
use Rattle.dps_search.proofs.Above.{above_append, flat_compositions}
use Rattle.dps_search.proofs.numbers.above_know.Goals as goal

pub returns : goal.returns
returns c =
    let know = c.args.know.now in
    let first = flat_map entry_numbers know.entries in
    let second = flat_map occurrences (compositions know) in
    let third = flat_map occurrences know.handles in
    let last : least_above (flat_map occurrences c.handles.result.now) ≡ least_above third = ap (λ ts. least_above (flat_map occurrences ts)) c.handles.ensures in
    let mid : least_above (flat_map composition_numbers know.entries) ≡ least_above second = ap least_above (flat_compositions know.entries) in
    IfOk-weaker c.above_terms.result _ _
    (λ n h. omega (arith, h, last, mid, c.in_ok-recipes.ensures, c.in_ok-compositions.ensures, above_append first (second ++ third), above_append second third))
    c.above_terms.ensures
