use Rattle.std.proofs.Common.{◌++◌, map, refl, ap, ◌∙◌, arith}
use Rattle.std.specs.Prelude.{reverse}
use Rattle.std.proofs.lemmas.List.{reverse-reverse}
use Rattle.dps_symeval.proofs.Mapping.{reversed_back}
use Rattle.dps_node.specs.Asking.{found_at}
use Rattle.dps_node.proofs.Asked.{next_put, all_put}
use Rattle.dps_node.proofs.asking.append.Goals as goal

pub loop-solution-init : goal.loop-solution-init
loop-solution-init c =
    let turned =
    reversed_back c.args.solutions.items c.reverse.new.self c.args.solutions.len (omega (arith, c.args.solutions.ok))
    (c.reverse.ensures.after ∙ ap reverse c.as_mut_slice.ensures.value) in
    ap (λ xs. c.args.found.now.items ++ map (found_at c.args.place) xs) (ap reverse turned ∙ reverse-reverse c.args.solutions.items)

pub loop-solution-preserved : goal.loop-solution-preserved
loop-solution-preserved c =
    next_put (found_at c.args.place) (c.args.found.now.items ++ map (found_at c.args.place) c.args.solutions.items) c.loop-solution.found.items c.push.new.self.items c.loop-solution.solutions.items
    c.pop.new.self.items c.in-Some.solution (found_at c.args.place c.in-Some.solution) c.in-Some.ensures.items refl c.in_ok-push.ensures.items c.loop-solution.invariant

pub returns : goal.returns
returns c =
    all_put (found_at c.args.place) (c.args.found.now.items ++ map (found_at c.args.place) c.args.solutions.items) c.loop-solution.found.items c.loop-solution.solutions.items
    (omega (arith, c.in_default.ensures.cases.0, c.loop-solution.solutions.ok)) c.loop-solution.invariant
