use Rattle.std.proofs.Common.{◌≡◌, ◌++◌, List, take, drop, length, map, subst, arith}
use Rattle.std.specs.Prelude.{All, OnOk}
use Rattle.std.specs.List.{flat_map}
use Rattle.dps_symeval.specs.Cases.{Choices}
use Rattle.dps_symeval.specs.Agenda.{AreOpen, IsOpen, IsThinned, applied_last, constructed_last, narrowed_last}
use Rattle.dps_symeval.proofs.Outcomes.{ok_then}
use Rattle.dps_symeval.proofs.Mapping.{mapped_back}
use Rattle.dps_symeval.proofs.Agendas.{narrowed_thinned, constructed_thinned, constructed_open}
use Rattle.dps_symeval.proofs.agenda.apply_symbol.Goals as goal

pub returns-then-is_destructor : goal.returns-then-is_destructor
returns-then-is_destructor c =
    let h : AreOpen (flat_map (narrowed_last c.args.theory.now c.args.sym c.args.arity) c.args.choices.now.items) c.in_ok-found.found.items =
    rw c.as_slice.ensures.value at c.in_ok-found.ensures in
    record {
      on = narrowed_thinned c.args.theory.now c.args.choices.now.items c.args.sym c.args.arity c.is_destructor.result c.in_ok-found.found.items c.if-is_destructor.true c.is_destructor.ensures h;
      unifiable = λ _. h.unifiable;
    }

pub returns : goal.returns
returns c =
    let theory = c.args.theory.now in
    let cs = c.args.choices.now.items in
    let ds = c.construct_all.new.choices in
    let f : Choices → Choices = constructed_last c.args.sym c.args.arity in
    let done : OnOk c.construct_all.result (ds ≡ map f cs) = subst (λ xs. OnOk c.construct_all.result (ds ≡ map f xs)) c.deref_mut.ensures.value c.construct_all.ensures in
    let whole : List Choices = take c.args.choices.now.len (ds ++ drop (length ds) cs) in
    let back : ds ≡ map f cs → whole ≡ map f cs = mapped_back f cs ds c.args.choices.now.len (omega (arith, c.args.choices.now.ok)) in
    record {
      on = ok_then (ds ≡ map f cs) (IsThinned (flat_map (applied_last theory c.args.sym c.args.arity) cs) whole) c.construct_all.result
          (λ e. constructed_thinned theory cs c.args.sym c.args.arity c.is_destructor.result whole c.if-is_destructor.false c.is_destructor.ensures (back e)) done;
      unifiable = λ h. ok_then (ds ≡ map f cs) (All IsOpen whole) c.construct_all.result (λ e. constructed_open theory cs c.args.sym c.args.arity whole (back e) h) done;
    }
