use Rattle.std.proofs.Common.{◌∙◌, ℕ, Option, ap, sym, arith}
use Rattle.std.specs.Prelude.{is_some}
use Rattle.std.proofs.lemmas.List.{take_all}
use Rattle.dps_terms.specs.Bindings.{image}
use Rattle.dps_unify.specs.Order.{level_of}
use Rattle.dps_search.proofs.Finished.{tested, tested_free, tested_more, tested_same, image_tested}
use Rattle.dps_search.proofs.finishing.scene_bindings.Goals.{then-is_some+in_ok-copy+in_ok-bind, else-is_some}
use Rattle.dps_search.proofs.finishing.scene_bindings.Goals as goal

pub bind-requires : goal.bind-requires
bind-requires c =
    tested_free (λ (x : ℕ). is_some (level_of c.args.levels.now x)) c.args.trees.now c.loop-index.bindings c.loop-index.index c.pair-variable.result.0 c.pair-variable.result.1.now
    c.len-index-end.ensures.distinct c.pair-variable.ensures c.loop-index.invariant

pub loop-index-preserved : goal.loop-index-preserved
loop-index-preserved c =
    let g = λ (x : ℕ). is_some (level_of c.args.levels.now x) in
    let trees = c.args.trees.now in
    let i = c.loop-index.index in
    let n = c.pair-variable.result.0 in
    let t = c.pair-variable.result.1.now in
    let some = c.is_some.ensures ∙ ap (λ (o : Option ℕ). is_some o) c.level.ensures in
    elim c.if-is_some.branch [
      | then-is_some+in_ok-copy+in_ok-bind w ↦
          w.bindings-is ∙ tested_more g trees c.loop-index.bindings w.bind.new.self i n t w.in_ok-copy.copy c.loop-index.invariant c.pair-variable.ensures
          (sym some ∙ w.if-is_some.true) w.in_ok-copy.ensures.same w.in_ok-bind.ensures.ok
      | else-is_some w ↦
          w.bindings-is ∙ tested_same g trees c.loop-index.bindings i n t c.loop-index.invariant c.pair-variable.ensures (sym some ∙ w.if-is_some.false)
    ]

pub returns : goal.returns
returns c =
    let g = λ (x : ℕ). is_some (level_of c.args.levels.now x) in
    let trees = c.args.trees.now in
    ap image (c.loop-index.invariant ∙ ap (tested g) (take_all c.loop-index.index trees (omega (arith, c.loop-index-test.false, c.len-index-end.ensures.count)))) ∙ image_tested g trees
