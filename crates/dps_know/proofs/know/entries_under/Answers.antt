use Rattle.std.proofs.Common.{◌∙◌}
use Rattle.dps_terms.specs.Bindings.{image}
use Rattle.dps_know.specs.Know.{entry_under}
use Rattle.dps_know.proofs.Walks.{mapped_more}
use Rattle.dps_know.proofs.know.entries_under.Goals as goal

pub loop-entry-preserved : goal.loop-entry-preserved
loop-entry-preserved c =
    let step =
    mapped_more (entry_under (image c.args.by.now)) _ c.loop-entry.made.items c.loop-entry.entry-index c.entry-item.result c.in_ok-one.one c.loop-entry.invariant c.loop-entry-test.true c.entry-item.is
    c.in_ok-one.ensures in
    c.in_ok-push.ensures.items ∙ step
