use Rattle.std.proofs.Common.{◌∙◌, ◌-◌, ◌∷◌, Some, refl, ap, sym, subst, arith}
use Rattle.std.specs.Prelude.{reverse}
use Rattle.dps_terms.specs.Tree.{var, StandsIn}
use Rattle.dps_terms.specs.Seen.{seen}
use Rattle.dps_unify.specs.Chain.{solved}
use Rattle.dps_unify.specs.Visits.{IsVisiting}
use Rattle.dps_unify.specs.declared.reaching.Visit.{Visit}
use Rattle.dps_unify.proofs.Reached.{IsNode, all_listed, last_first, other_avoids, free_avoids, passed_avoids, arguments_avoid, goes_on, found, enters}
use Rattle.dps_unify.proofs.reaching.look.Goals as goal

pub returns-in_default : goal.returns-in_default
returns-in_default c = λ whole h.
    let b = c.args.bindings.now in
    let x = c.args.variable in
    let v = c.args.visit in
    let w : Visit = record { term = v.term; left = v.left - 1; variable = v.variable } in
    let vs = reverse c.args.visits.now.items in
    let keys = c.args.passed.now.keys in
    let s = seen c.subterm.result in
    let k : IsNode v w s = record {
      some = omega (arith, c.if-left-eq0.false);
      term = refl;
      left = refl;
      variable = refl;
      first = c.subterm.ensures.first;
      below =
          c.subterm.ensures.below;
      inside = c.subterm.ensures.inside;
    } in
    subst (λ ws. IsVisiting b x whole ws keys) (sym (last_first c.args.visits.now.items c.push.new.self.items w c.in_ok-push.ensures.items))
    (goes_on b c.requires.chain x c.requires.free whole v w vs keys s k h
    (other_avoids b c.requires.chain x c.requires.free whole s (λ n e. c.in_default.not-Var n (c.view.ensures ∙ e)) (arguments_avoid b c.requires.chain x c.requires.free whole v w vs keys s k h)))

pub returns-then-number-variable : goal.returns-then-number-variable
returns-then-number-variable c = λ whole h.
    let b = c.args.bindings.now in
    let x = c.args.variable in
    let v = c.args.visit in
    let w : Visit = record { term = v.term; left = v.left - 1; variable = v.variable } in
    let vs = reverse c.args.visits.now.items in
    let keys = c.args.passed.now.keys in
    let s = seen c.subterm.result in
    let k : IsNode v w s = record {
      some = omega (arith, c.if-left-eq0.false);
      term = refl;
      left = refl;
      variable = refl;
      first = c.subterm.ensures.first;
      below =
          c.subterm.ensures.below;
      inside = c.subterm.ensures.inside;
    } in
    found b c.requires.chain x c.requires.free whole v w vs keys s k h c.in-Var.number (sym c.in-Var.ensures) c.if-number-variable.true

pub returns-then-contains : goal.returns-then-contains
returns-then-contains c = λ whole h.
    let b = c.args.bindings.now in
    let x = c.args.variable in
    let v = c.args.visit in
    let w : Visit = record { term = v.term; left = v.left - 1; variable = v.variable } in
    let vs = reverse c.args.visits.now.items in
    let keys = c.args.passed.now.keys in
    let s = seen c.subterm.result in
    let k : IsNode v w s = record {
      some = omega (arith, c.if-left-eq0.false);
      term = refl;
      left = refl;
      variable = refl;
      first = c.subterm.ensures.first;
      below =
          c.subterm.ensures.below;
      inside = c.subterm.ensures.inside;
    } in
    subst (λ ws. IsVisiting b x whole ws keys) (sym (last_first c.args.visits.now.items c.push.new.self.items w c.in_ok-push.ensures.items))
    (goes_on b c.requires.chain x c.requires.free whole v w vs keys s k h
    (passed_avoids b c.requires.chain x c.requires.free whole s c.in-Var.number (sym c.in-Var.ensures)
    (all_listed (λ n. ¬ StandsIn (var x) (solved b n)) keys c.in-Var.number h.passed (sym c.if-contains.ensures))))

pub returns-in_default-get : goal.returns-in_default-get
returns-in_default-get c = λ whole h.
    let b = c.args.bindings.now in
    let x = c.args.variable in
    let v = c.args.visit in
    let w : Visit = record { term = v.term; left = v.left - 1; variable = v.variable } in
    let vs = reverse c.args.visits.now.items in
    let keys = c.args.passed.now.keys in
    let s = seen c.subterm.result in
    let k : IsNode v w s = record {
      some = omega (arith, c.if-left-eq0.false);
      term = refl;
      left = refl;
      variable = refl;
      first = c.subterm.ensures.first;
      below =
          c.subterm.ensures.below;
      inside = c.subterm.ensures.inside;
    } in
    subst (λ ws. IsVisiting b x whole ws keys) (sym (last_first c.args.visits.now.items c.push.new.self.items w c.in_ok-push.ensures.items))
    (goes_on b c.requires.chain x c.requires.free whole v w vs keys s k h
    (free_avoids b c.requires.chain x c.requires.free whole s c.in-Var.number (sym c.in-Var.ensures) (sym c.in_default-get.ensures) c.if-number-variable.false))

pub returns : goal.returns
returns c = λ whole h.
    let b = c.args.bindings.now in
    let x = c.args.variable in
    let v = c.args.visit in
    let w : Visit = record { term = v.term; left = v.left - 1; variable = v.variable } in
    let u : Visit = record { term = c.in-Some.bound; left = c.node_count.result; variable = Some c.in-Var.number } in
    let vs = reverse c.args.visits.now.items in
    let keys = c.args.passed.now.keys in
    let s = seen c.subterm.result in
    let k : IsNode v w s = record {
      some = omega (arith, c.if-left-eq0.false);
      term = refl;
      left = refl;
      variable = refl;
      first = c.subterm.ensures.first;
      below =
          c.subterm.ensures.below;
      inside = c.subterm.ensures.inside;
    } in
    let behind = last_first c.push.new.self.items c.push-2.new.self.items u c.in_ok-push-2.ensures.items
    ∙ ap (λ ws. u ∷ ws) (last_first c.args.visits.now.items c.push.new.self.items w c.in_ok-push.ensures.items) in
    subst (λ ws. IsVisiting b x whole ws keys) (sym behind)
    (enters b c.requires.chain x c.requires.free whole v w vs keys s k h u c.in-Var.number (seen c.in-Some.bound) (sym c.in-Var.ensures)
    (sym c.in-Some.ensures) refl c.node_count.ensures.count c.node_count.ensures.end refl)
