use Rattle.std.proofs.Common.{◌++◌, ap, ◌∙◌, refl, arith}
use Rattle.std.proofs.lemmas.Result.{on_ok_weaker}
use Rattle.dps_terms.specs.Seen.{seen}
use Rattle.dps_solver.specs.Search.{then_put}
use Rattle.dps_search.specs.Code.{branch_of}
use Rattle.dps_bindings.specs.Pieces.{piece_tree}
use Rattle.dps_search.proofs.Stepping.{is_composed}
use Rattle.dps_search.proofs.branch.compose.Goals as goal

pub returns : goal.returns
returns c =
    let b = branch_of c.args.branch.now in
    let root = piece_tree c.root_over-piece.result in
    on_ok_weaker c.give.result
    (λ e.
    e ∙ is_composed b c.args.target.now (seen c.args.term) root c.args.branch.now.targets.items (then_put c.args.target.now.name root b.trees)
    c.append.new.self.items c.in-Some.next c.root_over-piece.ensures refl
    (c.in_ok-append.ensures.items ∙ ap (λ zs. zs ++ c.args.branch.now.targets.items) c.in_ok-targets.ensures)
    (first_of (omega (arith, c.in-Some.ensures, c.arity.ensures.number, c.from.ensures), grind (arith, c.in-Some.ensures, c.arity.ensures.number, c.from.ensures))))
    c.give.ensures
