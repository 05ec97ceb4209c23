use Rattle.std.proofs.Common.{ap, ◌∙◌}
use Rattle.dps_terms.specs.Bindings.{image}
use Rattle.dps_terms.specs.Replace.{variables_to}
use Rattle.dps_process.specs.Process.{replace_in}
use Rattle.dps_node.proofs.Mapped.{mapped_more}
use Rattle.dps_node.proofs.configs.parts_under.Goals as goal

pub loop-part-preserved : goal.loop-part-preserved
loop-part-preserved c =
    mapped_more (replace_in (variables_to (image c.args.by.now))) c.args.parts.now c.loop-part.part-index c.part-item.result c.loop-part.made.items c.push.new.self.items c.in_ok-one.one
    c.loop-part-test.true c.in_ok-push.ensures.items (c.in_ok-one.ensures ∙ ap (replace_in (variables_to (image c.args.by.now))) c.part-item.is) c.loop-part.invariant
