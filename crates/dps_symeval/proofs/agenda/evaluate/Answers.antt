use Rattle.std.proofs.Common.{◌≡◌, ◌+◌, ◌*◌, ◌<◌, List, ◌∷◌, ◌++◌, take, drop, length, map, subst, arith}
use Rattle.std.specs.Prelude.{reverse, All, OnOk}
use Rattle.dps_terms.specs.Tree.{node_count}
use Rattle.dps_terms.specs.Seen.{seen}
use Rattle.dps_symeval.specs.Cases.{Choices}
use Rattle.dps_symeval.specs.declared.agenda.Task.TheVariants.{Evaluate}
use Rattle.dps_symeval.specs.Agenda.{IsBegun, GoesOn, IsOpen, with_result, weights}
use Rattle.dps_symeval.proofs.Outcomes.{ok_then, on_ok}
use Rattle.dps_symeval.proofs.Mapping.{mapped_back}
use Rattle.dps_symeval.proofs.Agendas.{begun_goes_on, begun_is_smaller, free_goes_on, still_open, one_node}
use Rattle.dps_symeval.proofs.agenda.evaluate.Goals as goal

pub returns-then-holds_destructor : goal.returns-then-holds_destructor
returns-then-holds_destructor c =
    let theory = c.args.theory.now in
    let old = c.args.agenda.now.items in
    let new = c.begin.new.agenda.items in
    let cs = c.args.choices.now.items in
    record {
      on = ok_then (IsBegun (seen c.args.term) 0 old new) (GoesOn theory (Evaluate c.args.term ∷ reverse old) cs (reverse new) cs) c.begin.result
          (λ b. begun_goes_on theory c.args.term old new cs c.if-holds_destructor.ensures b) c.begin.ensures;
      unifiable = λ h. on_ok (All IsOpen cs) c.begin.result h;
      smaller = ok_then (IsBegun (seen c.args.term) 0 old new) (weights (reverse new) < 2 * node_count (seen c.args.term) + weights (reverse old)) c.begin.result
          (λ b. begun_is_smaller theory (seen c.args.term) old new c.if-holds_destructor.ensures b) c.begin.ensures;
    }

pub returns : goal.returns
returns c =
    let theory = c.args.theory.now in
    let r = c.args.term in
    let tasks = reverse c.args.agenda.now.items in
    let cs = c.args.choices.now.items in
    let ds = c.add_all.new.choices in
    let f : Choices → Choices = λ x. with_result x (seen r) in
    let done : OnOk c.add_all.result (ds ≡ map f cs) = subst (λ xs. OnOk c.add_all.result (ds ≡ map f xs)) c.deref_mut.ensures.value c.add_all.ensures in
    let whole : List Choices = take c.args.choices.now.len (ds ++ drop (length ds) cs) in
    let back : ds ≡ map f cs → whole ≡ map f cs = mapped_back f cs ds c.args.choices.now.len (omega (arith, c.args.choices.now.ok)) in
    record {
      on = ok_then (ds ≡ map f cs) (GoesOn theory (Evaluate r ∷ tasks) cs tasks whole) c.add_all.result
          (λ e. free_goes_on theory r tasks cs whole c.if-holds_destructor.ensures (back e)) done;
      unifiable = λ h. ok_then (ds ≡ map f cs) (All IsOpen whole) c.add_all.result (λ e. still_open theory (seen r) cs whole (back e) h) done;
      smaller = on_ok (weights tasks < 2 * node_count (seen r) + weights tasks) c.add_all.result (omega (arith, one_node (seen r)));
    }
