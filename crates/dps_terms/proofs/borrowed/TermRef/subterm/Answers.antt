use Rattle.std.proofs.Common.{◌≡◌, ◌∙◌, ◌∷◌, ◌+◌, ◌≤◌, ap, sym, subst, arith, length, drop, take}
use Rattle.dps_terms.specs.Tree.{node_count, IsSubterm}
use Rattle.dps_terms.specs.Views.{arguments}
use Rattle.dps_terms.specs.Walk.{subterms_from}
use Rattle.dps_terms.specs.Cells.{AreTerms, cells_of, forest, first, tree_of, is_narrow}
use Rattle.dps_terms.specs.Seen.{seen}
use Rattle.dps_terms.proofs.Preorder.{read_from}
use Rattle.dps_terms.proofs.Walking.{as_many, at}
use Rattle.dps_terms.proofs.borrowed.TermRef.subterm.Goals as goal

pub split_at-requires : goal.split_at-requires
split_at-requires c = omega (arith, c.requires, as_many c.args.self.cells.now c.args.self.again)

pub split_first-requires-clause-terms : goal.split_first-requires-clause-terms
split_first-requires-clause-terms c =
    subst AreTerms (sym c.split_at.ensures.back) (at c.args.self.cells.now c.args.node c.args.self.again c.args.self.narrow c.requires).terms

pub split_first-requires-clause-some : goal.split_first-requires-clause-some
split_first-requires-clause-some c =
    omega (arith, ap length c.split_at.ensures.back, (at c.args.self.cells.now c.args.node c.args.self.again c.args.self.narrow c.requires).some)

pub invariant_of-result : goal.invariant_of-result
invariant_of-result c =
    let k = at c.args.self.cells.now c.args.node c.args.self.again c.args.self.narrow c.requires in
    let t = first (forest (drop c.args.node c.args.self.cells.now)) in
    let cells : c.split_first.result.0.now ≡ cells_of t = c.split_first.ensures.first ∙ ap (λ cs. cells_of (first (forest cs))) c.split_at.ensures.back in
    let read : tree_of c.split_first.result.0.now ≡ t = read_from t c.split_first.result.0.now cells in
    record { again = ap cells_of read ∙ sym cells; narrow = ap is_narrow read ∙ k.narrow }

pub returns-clause-first : goal.returns-clause-first
returns-clause-first c =
    let k = at c.args.self.cells.now c.args.node c.args.self.again c.args.self.narrow c.requires in
    let t = first (forest (drop c.args.node c.args.self.cells.now)) in
    let cells : c.split_first.result.0.now ≡ cells_of t = c.split_first.ensures.first ∙ ap (λ cs. cells_of (first (forest cs))) c.split_at.ensures.back in
    let read : tree_of c.split_first.result.0.now ≡ t = read_from t c.split_first.result.0.now cells in
    subst (λ u. subterms_from (seen c.args.self) c.args.node ≡ u ∷ drop (length (arguments u)) (subterms_from (seen c.args.self) (c.args.node + 1))) (sym read) k.split

pub returns-clause-below : goal.returns-clause-below
returns-clause-below c =
    let k = at c.args.self.cells.now c.args.node c.args.self.again c.args.self.narrow c.requires in
    let t = first (forest (drop c.args.node c.args.self.cells.now)) in
    let cells : c.split_first.result.0.now ≡ cells_of t = c.split_first.ensures.first ∙ ap (λ cs. cells_of (first (forest cs))) c.split_at.ensures.back in
    let read : tree_of c.split_first.result.0.now ≡ t = read_from t c.split_first.result.0.now cells in
    subst (λ u. arguments u ≡ take (length (arguments u)) (subterms_from (seen c.args.self) (c.args.node + 1))) (sym read) k.below

pub returns-clause-behind : goal.returns-clause-behind
returns-clause-behind c =
    let k = at c.args.self.cells.now c.args.node c.args.self.again c.args.self.narrow c.requires in
    let t = first (forest (drop c.args.node c.args.self.cells.now)) in
    let cells : c.split_first.result.0.now ≡ cells_of t = c.split_first.ensures.first ∙ ap (λ cs. cells_of (first (forest cs))) c.split_at.ensures.back in
    let read : tree_of c.split_first.result.0.now ≡ t = read_from t c.split_first.result.0.now cells in
    subst (λ u. subterms_from (seen c.args.self) (c.args.node + node_count u) ≡ drop 1 (subterms_from (seen c.args.self) c.args.node)) (sym read) k.behind_it

pub returns-clause-inside : goal.returns-clause-inside
returns-clause-inside c =
    let k = at c.args.self.cells.now c.args.node c.args.self.again c.args.self.narrow c.requires in
    let t = first (forest (drop c.args.node c.args.self.cells.now)) in
    let cells : c.split_first.result.0.now ≡ cells_of t = c.split_first.ensures.first ∙ ap (λ cs. cells_of (first (forest cs))) c.split_at.ensures.back in
    let read : tree_of c.split_first.result.0.now ≡ t = read_from t c.split_first.result.0.now cells in
    subst (λ u. IsSubterm u (seen c.args.self)) (sym read) k.inside

pub returns-clause-within : goal.returns-clause-within
returns-clause-within c =
    let k = at c.args.self.cells.now c.args.node c.args.self.again c.args.self.narrow c.requires in
    let t = first (forest (drop c.args.node c.args.self.cells.now)) in
    let cells : c.split_first.result.0.now ≡ cells_of t = c.split_first.ensures.first ∙ ap (λ cs. cells_of (first (forest cs))) c.split_at.ensures.back in
    let read : tree_of c.split_first.result.0.now ≡ t = read_from t c.split_first.result.0.now cells in
    subst (λ u. c.args.node + node_count u ≤ node_count (seen c.args.self)) (sym read) k.within
