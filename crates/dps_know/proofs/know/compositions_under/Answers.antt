use Rattle.dps_terms.specs.Replace.{substitute}
use Rattle.dps_terms.specs.Bindings.{image}
use Rattle.dps_know.proofs.Recorded.{compositions_more}
use Rattle.dps_know.proofs.know.compositions_under.Goals as goal

pub loop-entry-preserved : goal.loop-entry-preserved
loop-entry-preserved c =
    compositions_more (substitute (image c.args.by.now)) c.args.entries.now c.loop-entry.entry-index c.entry-item.result c.loop-entry.made.items c.add_composition.new.made.items _
    c.loop-entry-test.true c.entry-item.is c.loop-entry.invariant c.in_ok-add_composition.ensures
