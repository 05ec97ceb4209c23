use Rattle.std.proofs.Common.{◌≡◌, get_or, sym, ap, ◌∙◌, arith}
use Rattle.dps_syntax.specs.declared.tree.Part.TheVariants.{Inner}
use Rattle.dps_syntax.specs.Tree.{Derivation, count}
use Rattle.dps_syntax.specs.Parts.{parts_of}
use Rattle.dps_scopes.specs.Blocks.{blocks}
use Rattle.dps_scopes.proofs.Rows.{inner_is_smaller}
use Rattle.dps_names.proofs.Processing.{grouped_none, repeated_none, restricted_none, received_none, sent_none, compared_none, matched_none, continued_none}
use Rattle.dps_names.proofs.process.+process.Goals as goal

pub parallels-choices-requires : goal.parallels-choices-requires
parallels-choices-requires t c =
    let here : get_or c.args.parts.now c.loop-part.part-index c.part-item.result ≡ Inner c.in-Inner.tree = sym c.part-item.is ∙ c.in-Inner.is in
    let smaller = inner_is_smaller c.args.parts.now c.loop-part.part-index c.part-item.result c.in-Inner.tree c.loop-part-test.true here in
    let same : count (parts_of c.as_slice.result.now) ≡ count c.in-Inner.tree.parts = ap (λ ps. count (parts_of ps)) c.as_slice.ensures.value ∙ ap (λ (v : Derivation). count v.parts) c.tree.view_is in
    (omega (arith, smaller, same, c.decreases), tt)

pub choices-process-requires : goal.choices-process-requires
choices-process-requires t c =
    let here : get_or c.args.parts.now c.loop-part.part-index c.part-item.result ≡ Inner c.in-Inner.tree = sym c.part-item.is ∙ c.in-Inner.is in
    let smaller = inner_is_smaller c.args.parts.now c.loop-part.part-index c.part-item.result c.in-Inner.tree c.loop-part-test.true here in
    let same : count (parts_of c.as_slice.result.now) ≡ count c.in-Inner.tree.parts = ap (λ ps. count (parts_of ps)) c.as_slice.ensures.value ∙ ap (λ (v : Derivation). count v.parts) c.tree.view_is in
    (omega (arith, smaller, same, c.decreases), tt)

pub grouped-returns-in-None : goal.grouped-returns-in-None
grouped-returns-in-None t c = grouped_none c.args.definitions.now (blocks c.args.scope.now) (parts_of c.args.parts.now) c.args.signature.now c.nil.result c.in-None.ensures.found c.nil.ensures

pub repeated-returns-in-None : goal.repeated-returns-in-None
repeated-returns-in-None t c = repeated_none c.args.definitions.now (blocks c.args.scope.now) (parts_of c.args.parts.now) c.args.signature.now c.nil.result c.in-None.ensures.found c.nil.ensures

pub restricted-returns-in-None : goal.restricted-returns-in-None
restricted-returns-in-None t c = restricted_none c.args.definitions.now (blocks c.args.scope.now) (parts_of c.args.parts.now) c.args.signature.now c.nil.result c.in-None.ensures.found c.nil.ensures

pub received-returns-in-None : goal.received-returns-in-None
received-returns-in-None t c = received_none c.args.definitions.now (blocks c.args.scope.now) (parts_of c.args.parts.now) c.args.signature.now c.nil.result c.in-None.ensures.found c.nil.ensures

pub sent-returns-in-None : goal.sent-returns-in-None
sent-returns-in-None t c = sent_none c.args.definitions.now (blocks c.args.scope.now) (parts_of c.args.parts.now) c.args.signature.now c.nil.result c.in-None.ensures.found c.nil.ensures

pub compared-returns-in-None : goal.compared-returns-in-None
compared-returns-in-None t c = compared_none c.args.definitions.now (blocks c.args.scope.now) (parts_of c.args.parts.now) c.args.signature.now c.nil.result c.in-None.ensures.found c.nil.ensures

pub matched-returns-in-None : goal.matched-returns-in-None
matched-returns-in-None t c = matched_none c.args.definitions.now (blocks c.args.scope.now) (parts_of c.args.parts.now) c.args.signature.now c.nil.result c.in-None.ensures.found c.nil.ensures

pub continued-returns-in-None : goal.continued-returns-in-None
continued-returns-in-None t c = continued_none c.args.definitions.now (blocks c.args.scope.now) (parts_of c.args.parts.now) c.args.signature.now c.nil.result c.in-None.ensures.found c.nil.ensures
