use Rattle.std.proofs.Common.{◌≡◌, rules}
use Rattle.std.specs.Prelude.{Some, None}
use Rattle.std.specs.Option.{option_map}
use Rattle.std.specs.Ordering.{nat_cmp}
use Rattle.std.specs.BTreeSet as tree
use Rattle.dps_elab.specs.Meaning.{first_such, is_no_channel}
use Rattle.dps_elab.proofs.Checking.{private_fault}
use Rattle.dps_elab.proofs.expanding.first_fault.Goals as goal

pub returns-in-Some-first_among : goal.returns-in-Some-first_among
returns-in-Some-first_among c =
    let none : option_map (λ x. x.place) (first_such is_no_channel c.args.channels.now) ≡ None = search rules in
    let some : option_map (λ u. u.place) (first_such (λ u. tree.contains nat_cmp c.in_ok-names.names u.name) c.args.privates.now) ≡ Some c.in-Some-first_among.place = search rules in
    λ left right. private_fault c.args.channels.now c.args.privates.now (tree.contains nat_cmp c.in_ok-names.names) c.in-Some-first_among.place left right none (search rules) some
