use Rattle.std.proofs.Common.{ap, sym, ◌∙◌, true≢false}
use Rattle.dps_terms.specs.Replace.{put_entries}
use Rattle.dps_theory.specs.Evaluation.{Evaluates, IsMessage}
use Rattle.dps_static.specs.Naming.{number_of}
use Rattle.dps_static.proofs.passing.use_test.Goals as goal

pub returns-in-Some : goal.returns-in-Some
returns-in-Some c =
    let given : Evaluates c.args.theory.now c.in_ok-left.left c.in-Some.value = rw c.in-Some.is at c.in_ok-value.ensures in
    record {
      names = number_of c.in_ok-names-in-Some.names.items;
      new = rw (c.whole-in-Some-4.ensures, c.whole-in-Some-5.ensures, c.in_ok-left.ensures, c.whole.ensures, c.in_ok-right-in-Some.ensures, c.whole-in-Some-3.ensures) at c.in_ok-names-in-Some.ensures;
      left_is = rw (c.deref.ensures.value, c.whole-in-Some-6.ensures) at c.in_ok-first-in-Some.ensures;
      right_is = rw (c.deref-in-Some.ensures.value, c.whole-in-Some-7.ensures) at c.in_ok-second-in-Some.ensures;
      value = c.in-Some.value;
      evaluates = rw (c.in_ok-left.ensures, c.whole.ensures) at given;
      differs = λ e. true≢false (sym (c.in_ok-same-in-Some.ensures.1 (ap (put_entries c.args.counterparts.now) c.whole-in-Some.ensures ∙ (sym e ∙ sym c.whole-in-Some-2.ensures))) ∙ c.if-same.false);
    }

pub returns : goal.returns
returns c =
    let given : ¬ IsMessage c.args.theory.now c.in_ok-left.left = rw c.in-None.is at c.in_ok-value.ensures in
    record {
      names = number_of c.in_ok-names-in-None.names.items;
      new = rw (c.whole-in-None-2.ensures, c.whole-in-None-3.ensures, c.in_ok-left.ensures, c.whole.ensures, c.in_ok-right-in-None.ensures, c.whole-in-None.ensures) at c.in_ok-names-in-None.ensures;
      is = rw (c.deref-in-None.ensures.value, c.whole-in-None-4.ensures) at c.in_ok-recipe-in-None.ensures;
      fails = rw (c.in_ok-left.ensures, c.whole.ensures) at given;
    }
