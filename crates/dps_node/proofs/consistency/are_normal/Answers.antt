use Rattle.std.proofs.Common.{◌≡◌, ◌∙◌, ap, sym, refl, true, false, Some, arith}
use Rattle.std.specs.Prelude.{IfSome}
use Rattle.std.proofs.lemmas.Option.{slice_get-get_or, slice_get_within}
use Rattle.dps_know.specs.Know.{compositions, IsNormal}
use Rattle.dps_process.specs.Labels.{label_of}
use Rattle.dps_process.specs.declared.label.Label.{Label as LabelValue}
use Rattle.dps_solver.proofs.Each.{first_more}
use Rattle.dps_node.specs.Node.{label_tree}
use Rattle.dps_node.proofs.Consisting.{all_trees, each_tree}
use Rattle.dps_node.proofs.consistency.are_normal.Goals as goal

pub loop-label-preserved : goal.loop-label-preserved
loop-label-preserved c =
    let i = c.loop-label.label-index in
    let one = c.label-item.result in
    let there = slice_get-get_or c.args.labels.now i one c.loop-label-test.true ∙ ap Some (sym c.label-item.is) in
    first_more (λ (x : LabelValue). IfSome (label_tree (label_of x)) (IsNormal (compositions c.args.know.now))) c.args.labels.now i one
    c.loop-label.invariant there (c.is_normal.ensures.0 c.if-not-is_normal.false)

pub returns-then-not-is_normal : goal.returns-then-not-is_normal
returns-then-not-is_normal c =
    let i = c.loop-label.label-index in
    let one = c.label-item.result in
    let there = slice_get-get_or c.args.labels.now i one c.loop-label-test.true ∙ ap Some (sym c.label-item.is) in (
      λ e. cc,
      λ a. let d : false ≡ true = sym c.if-not-is_normal.true ∙ c.is_normal.ensures.1 (each_tree (IsNormal (compositions c.args.know.now)) c.args.labels.now i one there a) in cc,
    )

pub returns : goal.returns
returns c = (
  λ e. all_trees (IsNormal (compositions c.args.know.now)) c.args.labels.now
      (λ j x at. c.loop-label.invariant j x (omega (arith, slice_get_within c.args.labels.now j x at, c.loop-label-test.false)) at),
  λ a. refl,
)
