-- What a true evaluation finds is over the node's variables.
use Rattle.std.proofs.Common.{◌≡◌, ℕ, List, refl, sym, ◌∙◌, ap, subst, inl, inr, arith, Some, None}
use Rattle.dps_terms.specs.declared.PublicName.TheVariants.{At}
use Rattle.dps_terms.specs.Tree.{public, var, Tree, leaf, StandsIn}
use Rattle.dps_terms.specs.Replace.{substitute, variables_to, put_entries}
use Rattle.dps_unify.specs.Order.{level_of}
use Rattle.dps_unify.specs.Unifier.{Unifies}
use Rattle.dps_unify.proofs.Trees.{substitute_in_turn}
use Rattle.dps_theory.specs.Theory.{Theory, IsAccepted}
use Rattle.dps_theory.specs.Evaluation.{Evaluates}
use Rattle.dps_theory.proofs.Evaluating.{evaluates_once}
use Rattle.dps_solver.specs.Solutions.{valued}
use Rattle.dps_symeval.specs.Cases.{cases}
use Rattle.dps_symeval.proofs.Listed.{from_mapped}
use Rattle.dps_symeval.proofs.Covering.{cases_cover}
use Rattle.dps_node.specs.Node.{SymbolicConfig, Node, variables_of, scene_of}
use Rattle.dps_node.specs.Questions.{Query, Found, value_of, first_free, of_case, eval}
use Rattle.dps_node.specs.Truth.{IsDecided, IsUnder, IsTermUnder}
use Rattle.dps_node.proofs.Truth.{option_cases, IsUsed, is_used, filling, filling_here, filling_other, filling_ground, meets_by}
use Rattle.dps_node.proofs.Trees.{agree_back}

module _ (names : ℕ → Type 0) (theory : Theory) (node : Node) (c : SymbolicConfig) (u : Tree) (used : Found) (s : ℕ → Tree) (g : List Tree) (accepted : IsAccepted theory) (under : IsUnder names node c (eval theory node u) s g) (d : IsDecided node c (eval theory node u) (Some used)) (term : IsTermUnder theory node (valued g s) u) where
  is : IsUsed (scene_of node c) (eval theory node u) used
  is = is_used node c (eval theory node u) used d

  abbrev fill : ℕ → ℕ → Tree
  fill n = filling names node c (eval theory node u) s g under n

  evaluates_to : (n : ℕ) → Evaluates theory (substitute (valued g s) u) (substitute (valued g (fill n)) (value_of used))
  evaluates_to n =
      let m =
      meets_by names node c (eval theory node u) s g under used is (fill n)
      (filling_here names node c (eval theory node u) s g under n)
      (filling_ground names node c (eval theory node u) s g under n) (valued g (fill n)) (λ y k. refl) in
      let eta : ℕ → Tree = λ x. substitute (valued g (fill n)) (used.1.theta x) in
      let k = from_mapped of_case (cases theory (first_free node) u) used.0 is.at.asked in
      (cases_cover theory accepted (first_free node) (valued g s) u (substitute (valued g (fill n)) (value_of used)) term.closes).1
      (record {
        used = k.0;
        listed = k.1;
        values = eta;
        agree = λ x i. let l = term.known x i in m.agrees x l.0 l.1;
        equations = subst (λ (q : Query). Unifies eta q.ask.equations) k.2 m.equations;
        result = ap (λ (q : Query). substitute eta q.result) (sym k.2) ∙ sym (substitute_in_turn (valued g (fill n)) used.1.theta used.0.result);
      })

  other_never : (x : ℕ) → StandsIn (var x) (value_of used) → level_of (variables_of node) x ≡ None → ⊥
  other_never x k e =
      let all : substitute (valued g (fill 0)) (value_of used) ≡ substitute (valued g (fill 1)) (value_of used) = evaluates_once theory accepted (evaluates_to 0) (evaluates_to 1) in
      let here : put_entries g (fill 0 x) ≡ put_entries g (fill 1 x) = agree_back (variables_to (valued g (fill 0))) (variables_to (valued g (fill 1))) (value_of used) (var x) all k in
      let names_equal : leaf (public (At 0)) ≡ leaf (public (At 1)) =
      ap (put_entries g) (sym (filling_other names node c (eval theory node u) s g under 0 x e)) ∙ (here ∙ ap (put_entries g) (filling_other names node c (eval theory node u) s g under 1 x e)) in
      let same : ◌≡◌ {A = ℕ} 0 1 = cc in
      absurd (omega (arith, same))

  pub value_known : (x : ℕ) → StandsIn (var x) (value_of used) → (l : ℕ) × (level_of (variables_of node) x ≡ Some l)
  value_known x k = elim (option_cases (level_of (variables_of node) x)) [ inl e ↦ absurd (other_never x k e) | inr l ↦ l ]
