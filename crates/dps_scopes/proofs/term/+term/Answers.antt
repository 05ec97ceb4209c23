use Rattle.std.proofs.Common.{◌≡◌, get_or, sym, ap, ◌∙◌, arith}
use Rattle.dps_syntax.specs.declared.tree.Part.TheVariants.{Inner}
use Rattle.dps_syntax.specs.Tree.{Derivation, count}
use Rattle.dps_syntax.specs.Parts.{parts_of}
use Rattle.dps_scopes.specs.Blocks.{blocks}
use Rattle.dps_scopes.specs.Outcome.{done}
use Rattle.dps_scopes.specs.Terms.{term, terms}
use Rattle.dps_scopes.proofs.Growth.{followed, tuple_then_more}
use Rattle.dps_scopes.proofs.Rows.{inner_is_smaller, past_inner, terms_are_row}
use Rattle.dps_scopes.proofs.term.+term.Goals as goal

pub terms-term-requires : goal.terms-term-requires
terms-term-requires t c =
    let here : get_or c.args.parts.now c.loop-part.part-index c.part-item.result ≡ Inner c.in-Inner.tree = sym c.part-item.is ∙ c.in-Inner.is in
    let smaller = inner_is_smaller c.args.parts.now c.loop-part.part-index c.part-item.result c.in-Inner.tree c.loop-part-test.true here in
    let same : count (parts_of c.as_slice.result.now) ≡ count c.in-Inner.tree.parts = ap (λ ps. count (parts_of ps)) c.as_slice.ensures.value ∙ ap (λ (v : Derivation). count v.parts) c.tree.view_is in
    (omega (arith, smaller, same, c.decreases), tt)

pub terms-loop-part-preserved : goal.terms-loop-part-preserved
terms-loop-part-preserved t c =
    let here : get_or c.args.parts.now c.loop-part.part-index c.part-item.result ≡ Inner c.in-Inner.tree = sym c.part-item.is ∙ c.in-Inner.is in
    let same : parts_of c.as_slice.result.now ≡ c.in-Inner.tree.parts = ap parts_of c.as_slice.ensures.value ∙ ap (λ (v : Derivation). v.parts) c.tree.view_is in
    let read : term c.args.definitions.now (blocks c.args.scope.now) c.in-Inner.tree.parts c.loop-part.signature ≡ done c.in_ok-written.written c.term.new.signature =
    ap (λ ps. term c.args.definitions.now (blocks c.args.scope.now) ps c.loop-part.signature) (sym same) ∙ c.in_ok-written.ensures.found in
    record {
      reads =
          past_inner (term c.args.definitions.now (blocks c.args.scope.now)) (terms c.args.definitions.now (blocks c.args.scope.now))
          (terms_are_row c.args.definitions.now (blocks c.args.scope.now)) (parts_of c.args.parts.now) c.args.signature.now c.loop-part.found.items c.push.new.self.items
          c.args.parts.now c.loop-part.part-index c.part-item.result c.in-Inner.tree c.loop-part.signature c.in_ok-written.written c.term.new.signature
          c.loop-part.invariant.reads c.loop-part-test.true here read c.in_ok-push.ensures.items;
      grows = followed c.args.signature.now c.loop-part.signature c.term.new.signature c.loop-part.invariant.grows c.term.ensures.grown;
    }

pub bracketed-returns-in_err-members-2-clause-grown : goal.bracketed-returns-in_err-members-2-clause-grown
bracketed-returns-in_err-members-2-clause-grown t c =
    tuple_then_more c.args.signature.now c.tuple_symbol.new.signature c.terms-2.new.signature _ c.terms-2.ensures.grown c.in_ok-sym.ensures.ok
    (omega (arith, c.if-count-le1.false)) (omega (arith, c.if-count-gt-MOST_ARGUMENTS.false))

pub bracketed-returns-in_err-applied-clause-grown : goal.bracketed-returns-in_err-applied-clause-grown
bracketed-returns-in_err-applied-clause-grown t c =
    tuple_then_more c.args.signature.now c.tuple_symbol.new.signature c.terms-2.new.signature _ c.terms-2.ensures.grown c.in_ok-sym.ensures.ok
    (omega (arith, c.if-count-le1.false)) (omega (arith, c.if-count-gt-MOST_ARGUMENTS.false))

pub bracketed-returns-clause-grown : goal.bracketed-returns-clause-grown
bracketed-returns-clause-grown t c =
    tuple_then_more c.args.signature.now c.tuple_symbol.new.signature c.terms-2.new.signature _ c.terms-2.ensures.grown c.in_ok-sym.ensures.ok
    (omega (arith, c.if-count-le1.false)) (omega (arith, c.if-count-gt-MOST_ARGUMENTS.false))
