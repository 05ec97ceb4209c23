use Rattle.std.proofs.Common.{◌≡◌, ◌++◌, List, map, length, ap, sym, subst, ◌∙◌, arith}
use Rattle.std.specs.Prelude.{reverse, All}
use Rattle.std.proofs.lemmas.List.{reverse-reverse}
use Rattle.dps_symeval.specs.Cases.{Case, Choices, ArePossible}
use Rattle.dps_symeval.specs.Agenda.{as_equal_case}
use Rattle.dps_symeval.proofs.Mapping.{reversed_back}
use Rattle.dps_symeval.proofs.Answering.{popped_last, popped_all, reversed_all, next_possible, no_choice, possible_all}
use Rattle.dps_symeval.proofs.evaluation.as_equal_cases.Goals as goal

pub loop-choice-init : goal.loop-choice-init
loop-choice-init c =
    let turned = reversed_back c.args.choices.items c.reverse.new.self c.args.choices.len (omega (arith, c.args.choices.ok)) (c.reverse.ensures.after ∙ ap reverse c.as_mut_slice.ensures.value) in
    record {
      listed = λ t u kept k.
          subst (λ (xs : List Case). ArePossible (map (as_equal_case t u) c.args.choices.items) (xs ++ kept)) (sym c.in_ok-cases.ensures.items)
          (subst (λ (cs : List Choices). ArePossible (map (as_equal_case t u) cs) kept) (ap reverse turned ∙ reverse-reverse c.args.choices.items) k);
      two = subst (All (λ (x : Choices). length x.results ≡ 2)) (sym turned) (reversed_all (λ (x : Choices). length x.results ≡ 2) c.args.choices.items c.requires);
    }

pub add_equal_case-requires : goal.add_equal_case-requires
add_equal_case-requires c =
    (popped_all (λ (x : Choices). length x.results ≡ 2) c.loop-choice.choices.items c.pop.new.self.items c.in-Some.choice c.in-Some.ensures.items c.loop-choice.invariant.two).1

pub loop-choice-preserved : goal.loop-choice-preserved
loop-choice-preserved c = record {
  listed = λ t u kept k.
      next_possible (map (as_equal_case t u) c.args.choices.items) (as_equal_case t u c.in-Some.choice) (map (as_equal_case t u) (reverse c.pop.new.self.items)) kept
      c.loop-choice.cases.items c.add_equal_case.new.cases.items
      (λ others h. c.loop-choice.invariant.listed t u others (subst (λ (cs : List Choices). ArePossible (map (as_equal_case t u) cs) others)
      (sym (popped_last c.loop-choice.choices.items c.pop.new.self.items c.in-Some.choice c.in-Some.ensures.items)) h))
      (c.in_ok-add_equal_case.ensures t u) k;
  two = (popped_all (λ (x : Choices). length x.results ≡ 2) c.loop-choice.choices.items c.pop.new.self.items c.in-Some.choice c.in-Some.ensures.items c.loop-choice.invariant.two).0;
}

pub returns : goal.returns
returns c = λ t u.
    possible_all (as_equal_case t u) (map (as_equal_case t u) c.args.choices.items) c.loop-choice.cases.items c.loop-choice.choices.items
    (no_choice c.loop-choice.choices.items (omega (arith, c.in_default.ensures.cases.0, c.loop-choice.choices.ok))) (c.loop-choice.invariant.listed t u)
