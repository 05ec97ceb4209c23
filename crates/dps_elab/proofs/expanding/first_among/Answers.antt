use Rattle.std.proofs.Common.{sym, ◌∙◌}
use Rattle.std.specs.Ordering.{nat_cmp}
use Rattle.std.specs.BTreeSet as tree
use Rattle.dps_elab.proofs.Checking.{passed_over}
use Rattle.dps_elab.proofs.expanding.first_among.Goals as goal

pub loop-found-preserved : goal.loop-found-preserved
loop-found-preserved c =
    passed_over (λ u. tree.contains nat_cmp c.args.names.now u.name) c.args.privates.now c.loop-found.found-index (record { name = 0; place = record { line = 0; column = 0 } })
    c.loop-found-test.true (sym c.contains.ensures ∙ c.if-contains.false)
    ∙ c.loop-found.invariant
