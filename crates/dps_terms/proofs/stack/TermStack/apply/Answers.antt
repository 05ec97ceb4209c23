use Rattle.std.proofs.Common.{◌≡◌, ◌∙◌, ap, arith, length, drop, take, ◌∷◌}
use Rattle.std.specs.Prelude.{reverse}
use Rattle.dps_terms.specs.Tree.{node_counts, app, trees}
use Rattle.dps_terms.specs.Cells.{forest, front}
use Rattle.dps_terms.specs.Stacks.{trees_on}
use Rattle.dps_terms.proofs.Preorder.{length-list_of}
use Rattle.dps_terms.proofs.Stacked.{applied}
use Rattle.dps_terms.proofs.stack.TermStack.apply.Goals as goal

pub width_in_front-requires-clause-there : goal.width_in_front-requires-clause-there
width_in_front-requires-clause-there c =
    let old = c.self.inside.cells.items in
    let n : length (trees_on old) ≡ length c.args.self.now = ap length c.self.view_is in
    rw c.as_slice.ensures (omega (arith, c.requires.there, n, length-list_of (forest (reverse old))))

pub invariant_of-self-2 : goal.invariant_of-self-2
invariant_of-self-2 c =
    let old = c.self.inside.cells.items in
    let n : length (trees_on old) ≡ length c.args.self.now = ap length c.self.view_is in
    let w : c.width_in_front.result ≡ node_counts (front c.args.arity (forest (reverse old))) = c.width_in_front.ensures
    ∙ ap (λ xs. node_counts (front c.args.arity (forest (reverse xs)))) c.as_slice.ensures in
    (applied c.args.sym c.args.arity c.in-Some.width old c.push.new.self.items c.requires.few (omega (arith, c.requires.there, n))
    (omega (arith, w, c.in-Ok.ensures, c.in-Some.ensures)) c.in_ok-push.ensures.ok c.self.invariant).0

pub returns-clause-ok : goal.returns-clause-ok
returns-clause-ok c =
    let old = c.self.inside.cells.items in
    let n : length (trees_on old) ≡ length c.args.self.now = ap length c.self.view_is in
    let w : c.width_in_front.result ≡ node_counts (front c.args.arity (forest (reverse old))) = c.width_in_front.ensures
    ∙ ap (λ xs. node_counts (front c.args.arity (forest (reverse xs)))) c.as_slice.ensures in
    (applied c.args.sym c.args.arity c.in-Some.width old c.push.new.self.items c.requires.few (omega (arith, c.requires.there, n))
    (omega (arith, w, c.in-Ok.ensures, c.in-Some.ensures)) c.in_ok-push.ensures.ok c.self.invariant).1
    ∙ ap (λ ts. app c.args.sym (trees (take c.args.arity ts)) ∷ drop c.args.arity ts) c.self.view_is
