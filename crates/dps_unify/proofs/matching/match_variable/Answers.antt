use Rattle.std.proofs.Common.{◌≡◌, ◌∙◌, ◌++◌, ◌∷◌, [], ap, sym, true, false, inl, inr}
use Rattle.std.proofs.lemmas.Bool.{cases_Bool, eqb-true}
use Rattle.dps_terms.specs.Seen.{seen}
use Rattle.dps_terms.specs.Tree.{Tree, leaf, var}
use Rattle.dps_unify.proofs.Matched.{matched_bound, refused_bound, matched_new, grows_matched}
use Rattle.dps_unify.proofs.matching.match_variable.Goals as goal

pub returns-in-Some-clause-found : goal.returns-in-Some-clause-found
returns-in-Some-clause-found c =
    elim (cases_Bool c.equals.result) [
      | inl k ↦ rw k
          (matched_bound c.args.free.now c.args.solution.now c.args.variable (seen c.args.term) c.in-Some.bound.now (sym c.in-Some.ensures)
          (sym c.whole.ensures ∙ c.equals.ensures.0 k))
      | inr k ↦ rw k
          (refused_bound c.args.free.now c.args.solution.now c.args.variable (seen c.args.term) c.in-Some.bound.now (sym c.in-Some.ensures)
          (λ e. let m : false ≡ true = sym k ∙ c.equals.ensures.1 (c.whole.ensures ∙ e) in cc))
    ]

pub returns : goal.returns
returns c =
    let among = c.if-not-contains.ensures.cases in
    let found =
    matched_new c.args.free.now c.args.solution.now c.args.variable (seen c.args.term) c.bind.new.self (sym c.in_default.ensures)
    (among.0, among.1, eqb-true _ _ (among.2 c.args.variable))
    (c.in_ok-bind.ensures.ok ∙ ap (λ (t : Tree). c.args.solution.now ++ (c.args.variable, t) ∷ []) c.in_ok-image.ensures.same) in
    record { found = found; grown = grows_matched c.args.free.now c.args.solution.now c.bind.new.self (leaf (var c.args.variable)) (seen c.args.term) found }
