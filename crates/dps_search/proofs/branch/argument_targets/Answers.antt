use Rattle.std.proofs.Common.{◌+◌, ◌++◌, ◌∷◌, [], Some, ap, sym, ◌∙◌}
use Rattle.dps_terms.specs.Views.{arguments}
use Rattle.dps_terms.specs.Seen.{seen}
use Rattle.dps_search.proofs.Stepping.{targets_more, target_of}
use Rattle.dps_search.proofs.branch.argument_targets.Goals as goal

pub loop-index-preserved : goal.loop-index-preserved
loop-index-preserved c =
    let term = c.in_ok-term.term in
    let there = c.argument.ensures ∙ ap Some (sym c.in_ok-term.ensures.same) in
    targets_more c.args.level c.args.first (arguments (seen c.args.term)) c.loop-index.index term c.loop-index.targets.items c.push.new.self.items there
    c.loop-index.invariant (c.in_ok-push.ensures.items ∙ ap (λ k. c.loop-index.targets.items ++ target_of c.args.level term (c.args.first + k) ∷ []) c.from.ensures)
