use Rattle.std.proofs.Common.{◌≤◌, ◌∙◌, length, arith}
use Rattle.std.proofs.lemmas.List.Elements.{All-nil, All-append}
use Rattle.dps_terms.specs.Tree.{var}
use Rattle.dps_terms.specs.Seen.{seen}
use Rattle.dps_terms.specs.Smaller.{argument_is_smaller}
use Rattle.dps_terms.specs.Views.{arguments}
use Rattle.dps_unify.proofs.Trees.{stands_in_argument}
use Rattle.dps_static.specs.Binding.{BindsParts}
use Rattle.dps_static.proofs.Finding.{rooted_view}
use Rattle.dps_static.proofs.Cutting.{new_leaf, new_root, pivots_next, pivots_done}
use Rattle.dps_static.proofs.pivot.+pivot.Goals as goal

pub with_new-returns-in_ok-append-in-App : goal.with_new-returns-in_ok-append-in-App
with_new-returns-in_ok-append-in-App t c =
    let kept = c.args.kept.now in
    let p = seen c.args.pattern in
    rw c.in_ok-append-in-App.ensures.items (record {
      covers =
          new_root
          kept
          c.args.asked
          p
          c.args.start.now
          c.in_ok-found-in-App.found.items
          c.in_ok-below-in-App.below.items
          c.in-App.field-0
          c.in-App.ensures
          (rw c.len.ensures at c.in_ok-found-in-App.ensures.covers)
          c.in_ok-below-in-App.ensures.covers;
      parts = All-append (BindsParts kept c.args.free.now) c.in_ok-found-in-App.found.items c.in_ok-below-in-App.below.items c.in_ok-found-in-App.ensures.parts c.in_ok-below-in-App.ensures.parts;
    })

pub with_new-returns-in_default : goal.with_new-returns-in_default
with_new-returns-in_default t c = record {
  covers = new_leaf c.args.kept.now c.args.asked (seen c.args.pattern) c.args.start.now c.new.result.items (λ f e. c.in_default.not-App f (c.view.ensures ∙ e));
  parts = rw c.new.ensures.items (All-nil (BindsParts c.args.kept.now c.args.free.now));
}

pub with_new-entries-requires-clause-rooted : goal.with_new-entries-requires-clause-rooted
with_new-entries-requires-clause-rooted t c = rooted_view (seen c.args.pattern) c.in-App.field-0 c.in-App.ensures

pub with_new_below-with_new-requires : goal.with_new_below-with_new-requires
with_new_below-with_new-requires t c =
    let h = argument_is_smaller (seen c.args.pattern) c.loop-pivot.pivot (seen c.argument.result) c.argument.ensures in (
      omega (arith, h, c.decreases),
      (c.requires.within, ((λ n k. c.requires.free n (stands_in_argument (var n) (seen c.args.pattern) c.loop-pivot.pivot (seen c.argument.result) c.argument.ensures k)), c.requires.parts)),
    )

pub with_new_below-loop-pivot-preserved : goal.with_new_below-loop-pivot-preserved
with_new_below-loop-pivot-preserved t c =
    let kept = c.args.kept.now in
    let ps = arguments (seen c.args.pattern) in
    rw c.in_ok-append.ensures.items (record {
      covers =
          pivots_next
          kept
          c.args.asked
          ps
          c.loop-pivot.pivot
          (seen c.argument.result)
          c.argument.ensures
          c.args.start.now
          c.loop-pivot.found.items
          c.in_ok-by_pivot.by_pivot.items
          c.in_ok-whole.whole.items
          c.loop-pivot.invariant.covers
          c.in_ok-by_pivot.ensures.covers
          c.in_ok-whole.ensures.covers;
      parts = All-append (BindsParts kept c.args.free.now) c.loop-pivot.found.items c.in_ok-whole.whole.items c.loop-pivot.invariant.parts c.in_ok-whole.ensures.parts;
    })

pub with_new_below-returns-clause-covers : goal.with_new_below-returns-clause-covers
with_new_below-returns-clause-covers t c =
    let end : length (arguments (seen c.args.pattern)) ≤ c.loop-pivot.pivot = omega (arith, c.arity-pivot-end.ensures.number) in
    pivots_done c.args.kept.now c.args.asked (arguments (seen c.args.pattern)) c.loop-pivot.pivot c.args.start.now c.loop-pivot.found.items end c.loop-pivot.invariant.covers
