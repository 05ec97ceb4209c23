use Rattle.std.proofs.Common.{◌≡◌, ◌∙◌, arith, subst}
use Rattle.std.proofs.lemmas.List.Elements.{All-append}
use Rattle.dps_terms.specs.Tree.{var}
use Rattle.dps_terms.specs.Seen.{seen}
use Rattle.dps_terms.specs.Smaller.{argument_is_smaller}
use Rattle.dps_terms.specs.Views.{arguments}
use Rattle.dps_unify.proofs.Trees.{stands_in_argument}
use Rattle.dps_static.specs.Binding.{BindsParts}
use Rattle.dps_static.specs.Cuts.{CoversEntries, CoversArguments}
use Rattle.dps_static.proofs.Finding.{rooted_view}
use Rattle.dps_static.proofs.Cutting.{covers_leaf, covers_root, covers_next}
use Rattle.dps_static.proofs.cover.+cover.Goals as goal

pub cover-returns-in_default : goal.cover-returns-in_default
cover-returns-in_default t c = record {
  covers = covers_leaf c.args.kept.now c.args.to (seen c.args.pattern) c.args.start.items (λ f e. c.in_default.not-App f (c.view.ensures ∙ e));
  parts = c.requires.parts;
}

pub cover-entries-requires-clause-rooted : goal.cover-entries-requires-clause-rooted
cover-entries-requires-clause-rooted t c = rooted_view (seen c.args.pattern) c.in-App.field-0 c.in-App.ensures

pub cover-returns-in_ok-append-in-App : goal.cover-returns-in_ok-append-in-App
cover-returns-in_ok-append-in-App t c =
    let kept = c.args.kept.now in
    let p = seen c.args.pattern in
    let one : CoversEntries kept 0 c.args.to p c.args.start.items c.in_ok-found-in-App.found.items = rw c.deref.ensures.value at c.in_ok-found-in-App.ensures.covers in
    let rest = subst (λ n. CoversArguments kept c.args.to (arguments p) 0 n c.args.start.items c.in_ok-rest-in-App.rest.items) c.arity-arity.ensures.number c.in_ok-rest-in-App.ensures.covers in
    rw c.in_ok-append-in-App.ensures.items (record {
      covers = covers_root kept c.args.to p c.args.start.items c.in_ok-found-in-App.found.items c.in_ok-rest-in-App.rest.items c.in-App.field-0 c.in-App.ensures one rest;
      parts = All-append (BindsParts kept c.args.free.now) c.in_ok-found-in-App.found.items c.in_ok-rest-in-App.rest.items c.in_ok-found-in-App.ensures.parts c.in_ok-rest-in-App.ensures.parts;
    })

pub cover_arguments-cover-requires : goal.cover_arguments-cover-requires
cover_arguments-cover-requires t c =
    let h = argument_is_smaller (seen c.args.pattern) c.loop-index.index (seen c.argument.result) c.argument.ensures in (
      omega (arith, h, c.decreases),
      (
        c.requires.within,
        (
          (λ n k. c.requires.free n (stands_in_argument (var n) (seen c.args.pattern) c.loop-index.index (seen c.argument.result) c.argument.ensures k)),
          c.loop-index.invariant.parts,
        ),
      ),
    )

pub cover_arguments-loop-index-preserved : goal.cover_arguments-loop-index-preserved
cover_arguments-loop-index-preserved t c = record {
  covers =
      covers_next c.args.kept.now c.args.to (arguments (seen c.args.pattern)) c.args.first c.loop-index.index (seen c.argument.result) c.args.start.items c.loop-index.found.items
      c.in_ok-found.found.items (omega (arith, c.loop-index.auto.index)) c.argument.ensures
      c.loop-index.invariant.covers c.in_ok-found.ensures.covers;
  parts = c.in_ok-found.ensures.parts;
}

pub cover_arguments-returns-clause-covers : goal.cover_arguments-returns-clause-covers
cover_arguments-returns-clause-covers t c =
    let end : c.loop-index.index ≡ c.args.last = omega (arith, c.loop-index.auto.index-end c.requires.range, c.loop-index-test.false) in
    subst (λ n. CoversArguments c.args.kept.now c.args.to (arguments (seen c.args.pattern)) c.args.first n c.args.start.items c.loop-index.found.items) end c.loop-index.invariant.covers
