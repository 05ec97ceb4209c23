use Rattle.std.proofs.Common.{◌*◌, ◌+◌, drop}
use Rattle.dps_syntax.specs.Tree.{count}
use Rattle.dps_syntax.specs.Parts.{parts_of}
use Rattle.dps_scopes.specs.RuleTerms.{rule_terms}
use Rattle.dps_scopes.specs.Growth.{GrowsByTuples, HasTextsOf}
use Rattle.dps_scopes.proofs.Rows.{Reads}
use Rattle.dps_scopes.proofs.rule_term.+rule_term.Given as goal

abbrev pub decreases-rule_term : goal.decreases-rule_term
decreases-rule_term l = 2 * count (parts_of l.parts.now)

abbrev pub decreases-identified : goal.decreases-identified
decreases-identified l = 2 * count (parts_of l.arguments.now) + 1

abbrev pub decreases-bracketed : goal.decreases-bracketed
decreases-bracketed l = 2 * count (parts_of l.members.now) + 1

abbrev pub decreases-rule_terms : goal.decreases-rule_terms
decreases-rule_terms l = 2 * count (parts_of l.parts.now)

abbrev pub invariant-rule_terms-loop-part : goal.invariant-rule_terms-loop-part
invariant-rule_terms-loop-part l = record {
  reads : Reads
      (rule_terms l.definitions)
      (parts_of l.parts)
      (record { signature = l.initial.signature; variables = l.initial.variables })
      l.found.items
      (parts_of (drop l.part-index l.parts))
      (record { signature = l.signature; variables = l.variables });
  grows : GrowsByTuples l.initial.signature l.signature;
  texts : HasTextsOf l.initial.variables l.variables;
}
