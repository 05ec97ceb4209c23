use Rattle.std.proofs.Common.{◌∙◌, ◌++◌, ap, length}
use Rattle.dps_theory.specs.Overlaps.{levels_from}
use Rattle.dps_theory.proofs.Overlapping.{levels_of_two}
use Rattle.dps_theory.proofs.overlap.order_of.Goals as goal

pub returns : goal.returns
returns c =
    levels_of_two c.args.first.now c.args.second.now c.push_levels.new.levels.items c.push_levels-2.new.levels.items
    (c.in_ok-push_levels.ensures ∙ ap (λ l. l ++ levels_from (length l) c.args.first.now) c.new-levels.ensures.items)
    c.in_ok-push_levels-2.ensures
