use Rattle.std.proofs.Common.{◌≡◌, nat_eq, map, take, get_or, ap, ◌∙◌}
use Rattle.std.specs.List.{flat_map}
use Rattle.indexmap.specs.IndexSet.{insert_all}
use Rattle.dps_terms.specs.Bindings.{image}
use Rattle.dps_terms.specs.Variables.{occurrences, each_once, variables}
use Rattle.dps_renewal.proofs.EachOnce.{next_binding}
use Rattle.dps_renewal.proofs.bindings.variables_of_bindings.Goals as goal

pub loop-variable-preserved : goal.loop-variable-preserved
loop-variable-preserved c =
    let b = image c.args.bindings.now in
    let own = c.args.own.now in
    let i = c.loop-variable.variable-index in
    let standing : c.deref.result.now ≡ variables (b (get_or own i 0)) = c.deref.ensures.value ∙ c.in_ok-standing.ensures in
    c.in_ok-add_numbers.ensures
    ∙ (ap (λ ks. insert_all nat_eq ks c.deref.result.now) c.loop-variable.invariant
    ∙ (ap (insert_all nat_eq (each_once (flat_map occurrences (map b (take i own))))) standing ∙ next_binding b own i 0 c.loop-variable-test.true))
