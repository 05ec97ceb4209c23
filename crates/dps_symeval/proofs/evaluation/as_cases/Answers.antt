use Rattle.std.proofs.Common.{◌≡◌, map, length, ap, sym, subst, ◌∙◌, arith}
use Rattle.std.specs.Prelude.{reverse, All}
use Rattle.std.proofs.lemmas.List.{reverse-reverse}
use Rattle.dps_symeval.specs.Cases.{Choices, as_case}
use Rattle.dps_symeval.proofs.Mapping.{reversed_back}
use Rattle.dps_symeval.proofs.Answering.{popped_all, reversed_all, next_case, no_choice, listed_all}
use Rattle.dps_symeval.proofs.evaluation.as_cases.Goals as goal

pub loop-choice-init : goal.loop-choice-init
loop-choice-init c =
    let turned = reversed_back c.args.choices.items c.reverse.new.self c.args.choices.len (omega (arith, c.args.choices.ok)) (c.reverse.ensures.after ∙ ap reverse c.as_mut_slice.ensures.value) in
    record {
      listed = λ t. rw c.in_ok-cases.ensures.items (ap (map (as_case t)) (ap reverse turned ∙ reverse-reverse c.args.choices.items));
      one = subst (All (λ (x : Choices). length x.results ≡ 1)) (sym turned) (reversed_all (λ (x : Choices). length x.results ≡ 1) c.args.choices.items c.requires);
    }

pub as_case-requires : goal.as_case-requires
as_case-requires c =
    (popped_all (λ (x : Choices). length x.results ≡ 1) c.loop-choice.choices.items c.pop.new.self.items c.in-Some.choice c.in-Some.ensures.items c.loop-choice.invariant.one).1

pub loop-choice-preserved : goal.loop-choice-preserved
loop-choice-preserved c = record {
  listed = λ t.
      next_case t (map (as_case t) c.args.choices.items) c.loop-choice.cases.items c.push.new.self.items c.loop-choice.choices.items c.pop.new.self.items c.in-Some.choice
      c.as_case.result c.in-Some.ensures.items (c.as_case.ensures t) c.in_ok-push.ensures.items (c.loop-choice.invariant.listed t);
  one = (popped_all (λ (x : Choices). length x.results ≡ 1) c.loop-choice.choices.items c.pop.new.self.items c.in-Some.choice c.in-Some.ensures.items c.loop-choice.invariant.one).0;
}

pub returns : goal.returns
returns c = λ t.
    listed_all (as_case t) (map (as_case t) c.args.choices.items) c.loop-choice.cases.items c.loop-choice.choices.items
    (no_choice c.loop-choice.choices.items (omega (arith, c.in_default.ensures.cases.0, c.loop-choice.choices.ok))) (c.loop-choice.invariant.listed t)
