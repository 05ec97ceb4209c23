use Rattle.dps_terms.specs.Seen.{seen}
use Rattle.dps_static.proofs.Numbers.{are_new}
use Rattle.dps_static.proofs.naming.new_names.Goals as goal

pub returns : goal.returns
returns c =
    are_new _ c.add_numbers.new.numbers c.add_numbers-2.new.numbers (seen c.args.one) (seen c.args.other) c.in_ok-names.names.items c.in_ok-add_numbers.ensures c.in_ok-add_numbers-2.ensures
    (rw (c.deref.ensures.value, c.deref-2.ensures.value) at c.in_ok-names.ensures)
