use Rattle.std.proofs.Common.{◌≡◌, ◌+◌, length, vec_len, arith, sym, ◌∙◌, subst}
use Rattle.std.proofs.lemmas.Bool.{eqb-true}
use Rattle.dps_terms.specs.Seen.{seen}
use Rattle.dps_terms.specs.Views.{arguments}
use Rattle.dps_static.specs.Cuts.{CoversArguments}
use Rattle.dps_static.proofs.Cutting.{around_nothing, covers_around}
use Rattle.dps_static.proofs.pivot.cover_around.Goals as goal

pub returns-clause-covers : goal.returns-clause-covers
returns-clause-covers c =
    let kept = c.args.kept.now in
    let ps = arguments (seen c.args.pattern) in
    covers_around kept c.args.asked ps c.args.pivot c.args.start.items c.in_ok-before.before.items c.in_ok-whole.whole.items c.in_ok-before.ensures.covers
    (subst (λ n. CoversArguments kept (length kept) ps (c.args.pivot + 1) n c.in_ok-before.before.items c.in_ok-whole.whole.items) c.arity-arity.ensures.number (rw c.len.ensures at c.in_ok-whole.ensures.covers))

pub returns-then-is_empty-clause-covers : goal.returns-then-is_empty-clause-covers
returns-then-is_empty-clause-covers c =
    let empty : vec_len c.args.start ≡ 0 = eqb-true (vec_len c.args.start) 0 (sym c.is_empty.ensures ∙ c.if-is_empty.true) in
    let none : length c.args.start.items ≡ 0 = omega (arith, empty, c.args.start.ok) in
    around_nothing c.args.kept.now c.args.asked (arguments (seen c.args.pattern)) c.args.pivot c.args.start.items none
