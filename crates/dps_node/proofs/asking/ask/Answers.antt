use Rattle.std.proofs.Common.{◌≡◌, ◌<◌, true, Some, None, length, get_or, map, refl, sym, subst, ◌∙◌, arith}
use Rattle.std.specs.Prelude.{vec_len}
use Rattle.std.proofs.lemmas.List.{length-map}
use Rattle.dps_search.specs.Code.{scene_of, solution_seen}
use Rattle.dps_node.specs.declared.asking.Found.{Found}
use Rattle.dps_node.specs.Questions.{decided, undecided}
use Rattle.dps_node.specs.Asking.{query_of, found_in}
use Rattle.dps_node.proofs.Asked.{all_own}
use Rattle.dps_node.proofs.ReadPlain.{first_moved, none_moved, none_there, some_there, true_at, false_of, open_of}
use Rattle.dps_node.proofs.asking.ask.Goals as goal

pub returns-in-Some-clause-answered : goal.returns-in-Some-clause-answered
returns-in-Some-clause-answered c =
    let qs = map query_of c.args.question.now in
    let scene = scene_of c.args.scene.now in
    let fs = c.in_ok-found.found.items in
    let h = c.in_ok-found.ensures.found in
    let i = c.in-Some.place in
    let f = c.swap_remove.result in
    let first = first_moved c.args.scene.now.levels.items c.deref.result.now true fs c.deref-2.result.now i c.deref.ensures.value c.deref-2.ensures.value c.in-Some.ensures in
    let value : f ≡ get_or fs i f = c.swap_remove.ensures.value in
    let place : f.place < length c.args.question.now = subst (λ (g : Found). g.place < length c.args.question.now) (sym value) (c.in_ok-found.ensures.places i f first.0) in (
      decided (Some (found_in qs f)),
      (omega (arith, place, length-map c.args.question.now query_of), refl),
      record {
        found = map (found_in qs) fs;
        moves = h.0;
        finds = h.1;
        answers = true_at scene qs fs i f f (all_own scene h.1) first.0 value first.1 (first.2 f);
        counted = omega (arith, h.2);
      },
    )

pub returns-then-is_empty-clause-answered : goal.returns-then-is_empty-clause-answered
returns-then-is_empty-clause-answered c =
    let qs = map query_of c.args.question.now in
    let fs = c.in_ok-found.found.items in
    let h = c.in_ok-found.ensures.found in (
      decided None,
      refl,
      record {
        found = map (found_in qs) fs;
        moves = h.0;
        finds = h.1;
        answers = false_of (scene_of c.args.scene.now) qs fs (omega (arith, none_there (vec_len c.in_ok-found.found) (sym c.is_empty.ensures ∙ c.if-is_empty.true), c.in_ok-found.found.ok));
        counted = omega (arith, h.2);
      },
    )

pub returns-clause-answered : goal.returns-clause-answered
returns-clause-answered c =
    let qs = map query_of c.args.question.now in
    let fs = c.in_ok-found.found.items in
    let h = c.in_ok-found.ensures.found in
    let f = c.swap_remove-2.result in
    let none = none_moved c.args.scene.now.levels.items c.deref.result.now true fs c.deref-2.result.now c.deref.ensures.value c.deref-2.ensures.value c.in_default.ensures in (
      undecided (solution_seen f.solution),
      refl,
      record {
        found = map (found_in qs) fs;
        moves = h.0;
        finds = h.1;
        answers =
            open_of (scene_of c.args.scene.now) qs fs f f
            (omega (arith, some_there (vec_len c.in_ok-found.found) (sym c.is_empty.ensures ∙ c.if-is_empty.false), c.in_ok-found.found.ok))
            c.swap_remove-2.ensures.value none;
        counted = omega (arith, h.2);
      },
    )
