use Rattle.std.proofs.Common.{◌≡◌, ◌+◌, ◌-◌, ◌<◌, ◌++◌, Err, length, get_or, take, map, refl, ap, sym, subst, ◌∙◌, arith}
use Rattle.std.specs.Prelude.{All}
use Rattle.std.proofs.lemmas.List.{length-map, get_or-map, take_all}
use Rattle.std.proofs.lemmas.List.Elements.{All-nil}
use Rattle.dps_solver.specs.Search.{GeneralSolution, IsSpentWithin}
use Rattle.dps_search.specs.Code.{scene_of, solution_seen}
use Rattle.dps_search.specs.declared.scene.Stop.TheVariants.{Spent}
use Rattle.dps_node.specs.declared.asking.Found.{Found}
use Rattle.dps_node.specs.Questions.{Query, FindsAll}
use Rattle.dps_node.specs.Asking.{query_of, found_in, no_query}
use Rattle.dps_node.proofs.Asked.{finds_next, front_takes, found_more, places_more, none_found, finds_moved}
use Rattle.dps_node.proofs.asking.find_counted.Goals as goal

pub loop-place-init : goal.loop-place-init
loop-place-init c = record {
  finds = none_found (scene_of c.args.scene.now) (map (found_in (map query_of c.args.question.now)) c.new-found.result.items) ((c.args.steps.now.used + 1) - (c.args.steps.now.used + 1))
      (ap (map (found_in (map query_of c.args.question.now))) c.new-found.ensures.items) (omega arith);
  begun = omega arith;
  within = omega (arith, c.if-steps.false, c.requires);
  budget = refl;
  places = subst (All (λ (f : Found). f.place < length c.args.question.now)) (sym c.new-found.ensures.items) (All-nil (λ (f : Found). f.place < length c.args.question.now));
}

pub solve-requires : goal.solve-requires
solve-requires c = c.loop-place.invariant.within

pub loop-place-preserved : goal.loop-place-preserved
loop-place-preserved c =
    let question = c.args.question.now in
    let qs = map query_of question in
    let i = c.loop-place.place in
    let item = c.index-question-place.result in
    let q : Query = query_of item in
    let test : i < length question = c.loop-place-test.true in
    let sols = c.in-Ok.solutions.items in
    let at : q ≡ get_or qs i q = ap query_of c.index-question-place.is ∙ sym (get_or-map query_of question i item q test) in
    let same : get_or qs i no_query ≡ q = get_or-map query_of question i item no_query test ∙ sym (ap query_of c.index-question-place.is) in
    let list = map (found_in qs) c.loop-place.found.items in
    let n = c.loop-place.steps.used - (c.args.steps.now.used + 1) in
    let m = c.solve.new.steps.used - c.loop-place.steps.used in
    let next =
    finds_next (scene_of c.args.scene.now) qs i q list (map solution_seen sols) n m
    (omega (arith, test, length-map question query_of)) at c.loop-place.invariant.finds c.in-Ok.ensures.found.0 in
    let more : map (found_in qs) c.append.new.found.items ≡ list ++ map (λ (s : GeneralSolution). (q, s)) (map solution_seen sols) =
    found_more qs i c.loop-place.found.items c.append.new.found.items sols c.in_ok-append-in-Ok.ensures
    ∙ ap (λ (p : Query). list ++ map (λ (s : GeneralSolution). (p, s)) (map solution_seen sols)) same in
    record {
      finds = finds_moved (scene_of c.args.scene.now) (take (i + 1) qs) (list ++ map (λ (s : GeneralSolution). (q, s)) (map solution_seen sols)) (map (found_in qs) c.append.new.found.items) (n + m)
          (c.solve.new.steps.used - (c.args.steps.now.used + 1)) more (omega (arith, c.loop-place.invariant.begun, c.in-Ok.ensures.no_less)) next;
      begun = omega (arith, c.loop-place.invariant.begun, c.in-Ok.ensures.no_less);
      within = c.in-Ok.ensures.no_more;
      budget = c.in-Ok.ensures.budget ∙ c.loop-place.invariant.budget;
      places = places_more (λ k. k < length question) i c.loop-place.found.items c.append.new.found.items sols c.in_ok-append-in-Ok.ensures test c.loop-place.invariant.places;
    }

pub returns-in-Err-clause-spent : goal.returns-in-Err-clause-spent
returns-in-Err-clause-spent c = λ e list moves h.
    let question = c.args.question.now in
    let qs = map query_of question in
    let i = c.loop-place.place in
    let item = c.index-question-place.result in
    let q : Query = query_of item in
    let test : i < length question = c.loop-place-test.true in
    let at : q ≡ get_or qs i q = ap query_of c.index-question-place.is ∙ sym (get_or-map query_of question i item q test) in
    let n = c.loop-place.steps.used - (c.args.steps.now.used + 1) in
    let left = c.loop-place.steps.budget - c.loop-place.steps.used in
    let d : c.in-Err.stop ≡ Spent = cc in
    let spent : IsSpentWithin (scene_of c.args.scene.now) q.ask left = c.in-Err.ensures.spent (ap Err d) in
    let takes : left + n < moves =
    front_takes (scene_of c.args.scene.now) qs i q (map (found_in qs) c.loop-place.found.items) list n moves left
    (omega (arith, test, length-map question query_of)) at c.loop-place.invariant.finds spent h in
    omega (arith, takes, c.loop-place.invariant.begun, c.loop-place.invariant.within, c.loop-place.invariant.budget)

pub returns : goal.returns
returns c =
    let qs = map query_of c.args.question.now in
    let n = c.loop-place.steps.used - (c.args.steps.now.used + 1) in
    let finds : FindsAll (scene_of c.args.scene.now) qs (map (found_in qs) c.loop-place.found.items) n =
    subst (λ xs. FindsAll (scene_of c.args.scene.now) xs (map (found_in qs) c.loop-place.found.items) n)
    (take_all c.loop-place.place qs (omega (arith, c.loop-place-test.false, length-map c.args.question.now query_of))) c.loop-place.invariant.finds in
    record {
      found = (n, finds, omega (arith, c.loop-place.invariant.begun));
      places = c.loop-place.invariant.places;
      spent = λ e list moves h. absurd cc;
      no_less = omega (arith, c.loop-place.invariant.begun);
      no_more = c.loop-place.invariant.within;
      budget = c.loop-place.invariant.budget;
    }
