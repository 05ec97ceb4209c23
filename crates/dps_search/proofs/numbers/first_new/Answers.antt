use Rattle.std.proofs.Common.{max, ap, ◌∙◌}
use Rattle.std.specs.List.{flat_map}
use Rattle.std.proofs.lemmas.Result.{IfOk-weaker}
use Rattle.dps_terms.specs.Variables.{occurrences}
use Rattle.dps_solver.specs.Search.{least_above, system_numbers}
use Rattle.dps_search.specs.Code.{system_of}
use Rattle.dps_search.specs.Numbers.{pair_numbers, target_numbers}
use Rattle.dps_search.proofs.Above.{first_is}
use Rattle.dps_search.proofs.numbers.first_new.Goals as goal

pub returns : goal.returns
returns c =
    let s = c.args.scene.now in
    let a = c.args.ask.now in
    let one = c.in_ok-system.system in
    let two = c.in_ok-values.values in
    let three = c.in_ok-equations.equations in
    IfOk-weaker c.above_targets.result _ _
    (λ n h. first_is (system_numbers (system_of s)) (flat_map occurrences s.values.items) (flat_map pair_numbers a.equations.items) (flat_map target_numbers a.targets.items) one two three n
    c.in_ok-system.ensures
    (c.in_ok-values.ensures ∙ ap (λ ts. max one (least_above (flat_map occurrences ts))) c.deref.ensures.value)
    (c.in_ok-equations.ensures ∙ ap (λ ps. max two (least_above (flat_map pair_numbers ps))) c.deref-2.ensures.value)
    (h ∙ ap (λ zs. max three (least_above (flat_map target_numbers zs))) c.deref-3.ensures.value))
    c.above_targets.ensures
