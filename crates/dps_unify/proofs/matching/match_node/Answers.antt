use Rattle.std.proofs.Common.{◌≡◌, ◌∙◌, true, false}
use Rattle.dps_terms.specs.Seen.{seen}
use Rattle.dps_unify.proofs.Matched.{refused_root, grows_none}
use Rattle.dps_unify.proofs.matching.match_node.Goals as goal

pub returns-in_default : goal.returns-in_default
returns-in_default c = record {
  found = refused_root c.args.free.now c.args.solution.now (seen c.args.pattern) (seen c.args.term)
      (λ m e. c.in_default.not-Var m (c.view.ensures ∙ e)) (λ a. let m : false ≡ true = c.if-has_root_of.ensures.1 a in cc);
  grown = grows_none c.args.free.now c.args.solution.now (seen c.args.pattern);
}
