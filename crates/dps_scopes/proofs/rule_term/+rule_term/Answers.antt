use Rattle.std.proofs.Common.{◌≡◌, get_or, sym, ap, ◌∙◌, arith}
use Rattle.dps_syntax.specs.declared.tree.Part.TheVariants.{Inner}
use Rattle.dps_syntax.specs.Tree.{Derivation, count}
use Rattle.dps_syntax.specs.Parts.{parts_of}
use Rattle.dps_scopes.specs.Outcome.{done}
use Rattle.dps_scopes.specs.RuleTerms.{rule_term, rule_terms}
use Rattle.dps_scopes.proofs.Growth.{followed, more_texts, tuple_then_more}
use Rattle.dps_scopes.proofs.Rows.{inner_is_smaller, past_inner, rule_terms_are_row}
use Rattle.dps_scopes.proofs.rule_term.+rule_term.Goals as goal

pub rule_terms-rule_term-requires : goal.rule_terms-rule_term-requires
rule_terms-rule_term-requires t c =
    let here : get_or c.args.parts.now c.loop-part.part-index c.part-item.result ≡ Inner c.in-Inner.tree = sym c.part-item.is ∙ c.in-Inner.is in
    let smaller = inner_is_smaller c.args.parts.now c.loop-part.part-index c.part-item.result c.in-Inner.tree c.loop-part-test.true here in
    let same : count (parts_of c.as_slice-parts.result.now) ≡ count c.in-Inner.tree.parts = ap (λ ps. count (parts_of ps)) c.as_slice-parts.ensures.value
    ∙ ap (λ (v : Derivation). count v.parts) c.tree.view_is in
    (omega (arith, smaller, same, c.decreases), tt)

pub rule_terms-loop-part-preserved : goal.rule_terms-loop-part-preserved
rule_terms-loop-part-preserved t c =
    let here : get_or c.args.parts.now c.loop-part.part-index c.part-item.result ≡ Inner c.in-Inner.tree = sym c.part-item.is ∙ c.in-Inner.is in
    let same : parts_of c.as_slice-parts.result.now ≡ c.in-Inner.tree.parts = ap parts_of c.as_slice-parts.ensures.value ∙ ap (λ (v : Derivation). v.parts) c.tree.view_is in
    let read : rule_term c.args.definitions.now c.in-Inner.tree.parts (record { signature = c.loop-part.signature; variables = c.loop-part.variables })
    ≡ done c.in_ok-term.term (record { signature = c.rule_term.new.signature; variables = c.rule_term.new.variables }) =
    ap (λ ps. rule_term c.args.definitions.now ps (record { signature = c.loop-part.signature; variables = c.loop-part.variables })) (sym same) ∙ c.in_ok-term.ensures.found in
    record {
      reads =
          past_inner (rule_term c.args.definitions.now) (rule_terms c.args.definitions.now) (rule_terms_are_row c.args.definitions.now) (parts_of c.args.parts.now)
          (record { signature = c.args.signature.now; variables = c.args.variables.now }) c.loop-part.found.items c.push.new.self.items
          c.args.parts.now c.loop-part.part-index c.part-item.result c.in-Inner.tree (record { signature = c.loop-part.signature; variables = c.loop-part.variables })
          c.in_ok-term.term (record { signature = c.rule_term.new.signature; variables = c.rule_term.new.variables })
          c.loop-part.invariant.reads c.loop-part-test.true here read c.in_ok-push.ensures.items;
      grows = followed c.args.signature.now c.loop-part.signature c.rule_term.new.signature c.loop-part.invariant.grows c.rule_term.ensures.grown;
      texts = more_texts c.args.variables.now c.loop-part.variables c.rule_term.new.variables c.loop-part.invariant.texts c.rule_term.ensures.more;
    }

pub bracketed-returns-in_err-members-2-clause-grown : goal.bracketed-returns-in_err-members-2-clause-grown
bracketed-returns-in_err-members-2-clause-grown t c =
    tuple_then_more c.args.signature.now c.tuple_symbol.new.signature c.rule_terms-2.new.signature _ c.rule_terms-2.ensures.grown c.in_ok-sym.ensures.ok
    (omega (arith, c.if-count-le1.false)) (omega (arith, c.if-count-gt-MOST_ARGUMENTS.false))

pub bracketed-returns-in_err-app-clause-grown : goal.bracketed-returns-in_err-app-clause-grown
bracketed-returns-in_err-app-clause-grown t c =
    tuple_then_more c.args.signature.now c.tuple_symbol.new.signature c.rule_terms-2.new.signature _ c.rule_terms-2.ensures.grown c.in_ok-sym.ensures.ok
    (omega (arith, c.if-count-le1.false)) (omega (arith, c.if-count-gt-MOST_ARGUMENTS.false))

pub bracketed-returns-clause-grown : goal.bracketed-returns-clause-grown
bracketed-returns-clause-grown t c =
    tuple_then_more c.args.signature.now c.tuple_symbol.new.signature c.rule_terms-2.new.signature _ c.rule_terms-2.ensures.grown c.in_ok-sym.ensures.ok
    (omega (arith, c.if-count-le1.false)) (omega (arith, c.if-count-gt-MOST_ARGUMENTS.false))
