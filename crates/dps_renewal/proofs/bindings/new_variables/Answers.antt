use Rattle.std.proofs.Common.{◌≡◌, [], filter, map, not, nat_eq, ap, subst, ◌∙◌}
use Rattle.std.specs.Prelude.{IfOk}
use Rattle.std.specs.List.{flat_map}
use Rattle.indexmap.specs.IndexSet.{insert_all}
use Rattle.dps_terms.specs.Bindings.{image}
use Rattle.dps_terms.specs.Variables.{occurrences, each_once}
use Rattle.dps_renewal.specs.Numbering.{is_among}
use Rattle.dps_renewal.proofs.EachOnce.{others_once}
use Rattle.dps_renewal.proofs.bindings.new_variables.Goals as goal

pub returns : goal.returns
returns c =
    let own = c.args.own.now in
    let known = c.add_numbers.new.found.keys in
    let xs = flat_map occurrences (map (image c.args.bindings.now) own) in
    let standing : c.as_slice.result.now ≡ each_once xs = c.as_slice.ensures.keys ∙ c.in_ok-standing.ensures in
    let added : known ≡ insert_all nat_eq [] own = c.in_ok-add_numbers.ensures ∙ ap (λ ks. insert_all nat_eq ks own) c.new-known.ensures.empty in
    let same : each_once (filter (λ y. not (is_among y known)) c.as_slice.result.now) ≡ filter (λ y. not (is_among y own)) (each_once xs) =
    ap (λ ys. each_once (filter (λ y. not (is_among y known)) ys)) standing ∙ others_once own known xs added in
    subst (λ ys. IfOk c.not_among.result (λ set. set.keys ≡ ys)) same c.not_among.ensures
