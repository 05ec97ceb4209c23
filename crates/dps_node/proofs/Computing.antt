-- What the answers on destructors and on composed trees say.
use Rattle.std.proofs.Common.{◌≡◌, ℕ, ◌+◌, ◌<◌, List, [], ◌∷◌, map, length, refl, sym, ◌∙◌, ap, subst, inl, inr, arith, Option, Some, None}
use Rattle.std.specs.Prelude.{◌≢◌, All}
use Rattle.std.specs.List.{AllZip, range_with_len}
use Rattle.std.proofs.lemmas.List.Elements.{All-nil, All-cons, All-head, All-tail}
use Rattle.dps_terms.specs.declared.Sym.{Sym}
use Rattle.dps_signature.specs.declared.SymKind.TheVariants.{Constructor, Destructor}
use Rattle.dps_terms.specs.Tree.{Tree, Trees, app, more, trees, count}
use Rattle.dps_terms.specs.Replace.{substitute, substitute_all, put_entries}
use Rattle.dps_signature.specs.Signature.{HasShape}
use Rattle.dps_terms.specs.Views.{arguments}
use Rattle.dps_terms.specs.Kinds.{AreBuiltOf, IsName}
use Rattle.dps_unify.specs.Order.{level_of}
use Rattle.dps_unify.specs.Unifier.{Unifies}
use Rattle.dps_unify.specs.Renaming.{raised}
use Rattle.dps_unify.proofs.Trees.{substitute_in_turn, substitute_agrees}
use Rattle.dps_theory.specs.Theory.{Rule, Theory, HasDestructorRoot, IsAccepted}
use Rattle.dps_theory.specs.Evaluation.{Evaluates, Reduces, reduced, IsMessage}
use Rattle.dps_theory.proofs.Evaluating.{one_kind, plain_evaluate, plain_all_alone}
use Rattle.dps_solver.specs.Levels.{IsGroundUpTo, AnyRigidName}
use Rattle.dps_solver.specs.declared.scene.Target.{Target}
use Rattle.dps_solver.specs.Search.{argument_targets, root_over}
use Rattle.dps_solver.specs.Solutions.{valued}
use Rattle.dps_theory.specs.Index.{has_root}
use Rattle.dps_symeval.specs.Cases.{rules_of, rule_from, fits_rule}
use Rattle.dps_symeval.proofs.Listed.{contains_first, mapped, from_mapped, filtered, from_filtered}
use Rattle.dps_symeval.proofs.Sound.{one_arity, reduces}
use Rattle.dps_symeval.proofs.Complete.{Below, spliced, spliced_low, high_instance, inverted, root_found, fitting}
use Rattle.dps_node.specs.Node.{SymbolicConfig, Node, variables_of, scene_of}
use Rattle.dps_node.specs.Questions.{Query, Question, Found, value_of, first_free, by_rule, success, composition}
use Rattle.dps_node.specs.Truth.{IsDecided, IsUnder, IsMessageUnder, Tells}
use Rattle.dps_node.proofs.Truth.{is_before_new, false_holds_never, IsUsed, is_used, meets_here}

count_mapped : (f : Tree → Tree) (ts : List Tree) → count (trees (map f ts)) ≡ length ts
count_mapped f [] = refl
count_mapped f (t ∷ ts) = omega (arith, count_mapped f ts)

module _ (names : ℕ → Type 0) (theory : Theory) (node : Node) (c : SymbolicConfig) (s : ℕ → Tree) (g : List Tree) (accepted : IsAccepted theory) where
  abbrev z : ℕ → Tree
  z x = valued g s x

  -- the terms become these messages
  become :
      (y : ℕ → Tree) (ts : List Tree) → ((x l : ℕ) → level_of (variables_of node) x ≡ Some l → y x ≡ z x)
      → All (λ t. IsMessageUnder theory node z t) ts → substitute_all y (trees ts) ≡ trees (map (substitute z) ts)
  become y [] h k = refl
  become y (t ∷ ts) h k =
      let first = All-head (λ t. IsMessageUnder theory node z t) t ts k in
      let a = substitute_agrees y z t (λ x m. let l = first.known x m in h x l.0 l.1) in
      let b = become y ts h (All-tail (λ t. IsMessageUnder theory node z t) t ts k) in
      λ i. more (a i) (b i)

  are_plain : (ts : List Tree) → All (λ t. IsMessageUnder theory node z t) ts → AreBuiltOf IsName (HasShape theory.shapes Constructor) (trees (map (substitute z) ts))
  are_plain [] k = tt
  are_plain (t ∷ ts) k = ((All-head (λ t. IsMessageUnder theory node z t) t ts k).plain, are_plain ts (All-tail (λ t. IsMessageUnder theory node z t) t ts k))

  module _ (f : Sym) (values : List Tree) (shape : HasShape theory.shapes Destructor f (length values)) (messages : All (λ t. IsMessageUnder theory node z t) values) where
    there : HasShape theory.shapes Destructor f (count (trees (map (substitute z) values)))
    there = subst (HasShape theory.shapes Destructor f) (sym (count_mapped (substitute z) values)) shape

    success_true :
        (used : Found) → IsUnder names node c (success theory node f values) s g
        → IsDecided node c (success theory node f values) (Some used)
        → Evaluates theory (app f (trees (map (substitute z) values))) (substitute z (value_of used))
    success_true used under d =
        let question : Question = success theory node f values in
        let is : IsUsed (scene_of node c) question used = is_used node c question used d in
        let k = from_mapped (by_rule node values) (rules_of theory f) used.0 is.at.asked in
        let r : Rule = k.0 in
        let l = from_filtered (λ (r : Rule). has_root f.number r.left) theory.rules r k.1 in
        let m = meets_here names node c question s g under used is (ap (λ (q : Query). q.ask.targets) k.2) in
        let eta : ℕ → Tree = λ x. substitute z (used.1.theta x) in
        let e : Unifies eta (fits_rule values (rule_from (first_free node) r)) = subst (λ (q : Query). Unifies eta q.ask.equations) k.2 m.equations in
        let len : (ps : Trees) → r.left ≡ app f ps → length values ≡ count ps =
        λ ps h. one_arity theory.shapes f Destructor (length values) (count ps) shape (subst (λ t. HasDestructorRoot theory.shapes t) h (accepted.root r l.0)) in
        let red : Reduces theory f (substitute_all eta (trees values)) (substitute eta (raised (first_free node) r.right)) = reduces theory accepted eta f (first_free node) r values l.0 l.1 len e in
        let at : Reduces theory f (trees (map (substitute z) values)) (substitute eta (raised (first_free node) r.right)) =
        subst (λ us. Reduces theory f us (substitute eta (raised (first_free node) r.right))) (become eta values (λ x n h. m.agrees x n h) messages) red in
        let is_value : substitute eta (raised (first_free node) r.right) ≡ substitute z (value_of used) =
        ap (λ (q : Query). substitute eta q.result) (sym k.2) ∙ sym (substitute_in_turn z used.1.theta used.0.result) in
        subst (λ v. Evaluates theory (app f (trees (map (substitute z) values))) v) is_value
        (reduced (trees (map (substitute z) values)) there (plain_evaluate theory (trees (map (substitute z) values)) (are_plain values messages)) at)

    success_false : IsUnder names node c (success theory node f values) s g → IsDecided node c (success theory node f values) None → ¬ IsMessage theory (app f (trees (map (substitute z) values)))
    success_false under d e =
        elim (inverted theory f (trees (map (substitute z) values)) e.0 e.1) [
          | inl k ↦ one_kind theory.shapes f (count (trees (map (substitute z) values))) (count (trees (map (substitute z) values))) k.1 there
          | inr k ↦
              let red : Reduces theory f k.0 e.0 = k.3 in
              let y : ℕ → Tree = spliced (first_free node) z red.by in
              let low : (x : ℕ) → x < first_free node → y x ≡ z x = spliced_low (first_free node) z red.by in
              let same : substitute_all y (trees values) ≡ k.0 = become y values (λ x l h. low x (is_before_new node x l h)) messages ∙ sym (plain_all_alone theory k.2 (are_plain values messages)) in
              false_holds_never names node c (success theory node f values) s g under d
              (record {
                query = by_rule node values red.rule;
                asked =
                    mapped (by_rule node values) (rules_of theory f) red.rule
                    (filtered (λ (q : Rule). has_root f.number q.left) theory.rules red.rule red.listed (root_found theory f red.rule.left red.patterns red.left));
                eta = y;
                trees = [];
                meets = record {
                  agrees = λ x l h. low x (is_before_new node x l h);
                  equations = fitting theory accepted y f (first_free node) values k.0 e.0 red same (high_instance (first_free node) z red.by red.rule.left);
                  targets = tt;
                };
              })
        ]

    pub success_tells :
        (o : Option Found) → IsUnder names node c (success theory node f values) s g
        → IsDecided node c (success theory node f values) o
        → Tells o (λ used. Evaluates theory (app f (trees (map (substitute (valued g s)) values))) (substitute (valued g s) (value_of used))) (¬ IsMessage theory (app f (trees (map (substitute (valued g s)) values))))
    success_tells (Some used) under d = success_true used under d
    success_tells None under d = success_false under d

module _ (names : ℕ → Type 0) (node : Node) (c : SymbolicConfig) (s : ℕ → Tree) (g : List Tree) where
  each_target :
      (eta : ℕ → Tree) (t : Tree) (n : ℕ) (us args : List Tree)
      → All (λ u. IsGroundUpTo AnyRigidName node.m node.know node.m u) us → map (put_entries g) us ≡ map (substitute eta) args
      → AllZip (λ (z : Target) t. IsGroundUpTo AnyRigidName node.m node.know z.level t × (put_entries g t ≡ substitute eta z.term)) (argument_targets (record { name = 0; level = node.m; term = t }) (range_with_len n (length args)) args) us
  each_target eta t n [] [] h e = tt
  each_target eta t n (u ∷ us) [] h e = cc
  each_target eta t n [] (a ∷ args) h e = cc
  each_target eta t n (u ∷ us) (a ∷ args) h e =
      let here : put_entries g u ≡ substitute eta a = cc in
      let rest : map (put_entries g) us ≡ map (substitute eta) args = cc in
      ((All-head (λ u. IsGroundUpTo AnyRigidName node.m node.know node.m u) u us h, here), each_target eta t (n + 1) us args (All-tail (λ u. IsGroundUpTo AnyRigidName node.m node.know node.m u) u us h) rest)

  pub composition_false :
      (t : Tree) (us : List Tree) → IsUnder names node c (composition node t) s g → IsDecided node c (composition node t) None
      → All (λ u. IsGroundUpTo AnyRigidName node.m node.know node.m u) us
      → map (put_entries g) us ≢ map (substitute (valued g s)) (arguments t)
  composition_false t us under d ground e =
      let numbers : List ℕ = range_with_len (first_free node) (length (arguments t)) in
      let q : Query = record { ask = record { equations = []; targets = argument_targets (record { name = 0; level = node.m; term = t }) numbers (arguments t) }; result = root_over t numbers } in
      false_holds_never names node c (composition node t) s g under d
      (record {
        query = q;
        asked = contains_first q [];
        eta = valued g s;
        trees = us;
        meets = record {
          agrees = λ x l k. refl;
          equations = All-nil (λ p. substitute (valued g s) p.0 ≡ substitute (valued g s) p.1);
          targets = each_target (valued g s) t (first_free node) us (arguments t) ground e;
        };
      })
