use Rattle.std.proofs.Common.{◌≡◌, ◌∙◌, ◌∷◌, ◌++◌, [], ℕ, List, take, get_or, ap}
use Rattle.dps_terms.specs.Tree.{Tree}
use Rattle.dps_tree.specs.Table.{frame_of}
use Rattle.dps_tree.proofs.Holding.{taken_next, taken_all}
use Rattle.dps_tree.proofs.TableGrowth.{frame_pushed, frame_kept}
use Rattle.dps_tree.proofs.table.Table.copies.Goals as goal
use Rattle.dps_tree.proofs.table.Table.copies.Goals.{in-Some+in_ok-copy+in_ok-push, in_default}

pub loop-number-preserved : goal.loop-number-preserved
loop-number-preserved c =
    let table = c.args.self.now in
    let numbers = c.args.numbers.now in
    let first = take c.loop-number.number-index numbers in
    let number = get_or numbers c.loop-number.number-index 0 in
    let old = c.loop-number.copies.items in
    taken_next (λ (ns : List ℕ). c.match-message.copies.items ≡ frame_of table ns) numbers c.loop-number.number-index 0 c.loop-number-test.true
    (elim c.match-message.branch [
      | in-Some+in_ok-copy+in_ok-push w ↦
          ap (λ v. v.items) w.copies-is ∙
          (w.in_ok-push.ensures.items ∙
          (ap (λ (u : Tree). old ++ u ∷ []) w.in_ok-copy.ensures.same ∙ frame_pushed table first number w.in-Some.message old w.in-Some.ensures c.loop-number.invariant))
      | in_default w ↦ ap (λ v. v.items) w.copies-is ∙ frame_kept table first number old w.in_default.ensures c.loop-number.invariant
    ])

pub returns : goal.returns
returns c =
    taken_all (λ (ns : List ℕ). c.loop-number.copies.items ≡ frame_of c.args.self.now ns) c.args.numbers.now c.loop-number.number-index c.loop-number-test.false c.loop-number.invariant
