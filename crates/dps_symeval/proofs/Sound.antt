-- Where the equations of a case hold, the term evaluates to its result.
use Rattle.std.proofs.Common.{◌≡◌, ℕ, ◌+◌, List, [], ◌∷◌, ◌++◌, length, map, refl, sym, ◌∙◌, ap, subst, arith, true, cond, Some, Option}
use Rattle.std.specs.Prelude.{Contains}
use Rattle.std.specs.List.{zip}
use Rattle.std.specs.Option.{option_map}
use Rattle.std.proofs.lemmas.Bool.{eqb-true}
use Rattle.dps_terms.specs.declared.Sym.{Sym}
use Rattle.dps_signature.specs.declared.SymKind.{SymKind}
use Rattle.dps_signature.specs.declared.SymKind.TheVariants.{Constructor, Destructor}
use Rattle.dps_terms.specs.Tree.{Leaf, public, private, var, ax, entry, rigid, Tree, Trees, leaf, app, none, more, count, list_of, trees, StandsIn, IsAmong, itself, below, in_first, in_rest}
use Rattle.dps_terms.specs.Replace.{substitute, substitute_all, variables_to}
use Rattle.dps_signature.specs.Signature.{Shape, HasShape, HasArity}
use Rattle.dps_terms.specs.Views.{arguments}
use Rattle.dps_terms.specs.Kinds.{IsBuiltOf, AreBuiltOf}
use Rattle.dps_signature.specs.Kinds.{IsPlain}
use Rattle.dps_terms.proofs.Building.{count-replace_all}
use Rattle.dps_unify.specs.Unifier.{Unifies}
use Rattle.dps_unify.specs.Renaming.{raised}
use Rattle.dps_unify.proofs.Trees.{substitute_in_turn, unified_arguments}
use Rattle.dps_theory.specs.Theory.{Rule, Theory, HasRule, HasDestructorRoot, IsAccepted}
use Rattle.dps_theory.specs.Evaluation.{EvaluateAll, Reduces, constructed, reduced, no_terms, a_term}
use Rattle.dps_theory.proofs.Evaluating.{plain_evaluates}
use Rattle.dps_theory.specs.Index.{has_root}
use Rattle.dps_symeval.specs.Cases.{Choices, IsNameOrVariable, is_destructor_kind, is_destructor_shape, is_destructor, rules_of, rule_from, fits_rule, reduced_by, applied, choices, all_choices}
use Rattle.dps_symeval.specs.Cases as Cases
use Rattle.dps_symeval.proofs.Listed.{all_left, all_right, contains_one, from_mapped, from_joined, from_filtered}

pub listed_again : (rs : List Tree) → list_of (trees rs) ≡ rs
listed_again [] = refl
listed_again (r ∷ rs) = ap (λ xs. r ∷ xs) (listed_again rs)

pub length_count : (ts : Trees) → length (list_of ts) ≡ count ts
length_count none = refl
length_count (more t ts) = omega (arith, length_count ts)

-- a rule for the symbol
pub root_there :
    (theory : Theory) (f : Sym) (l : Tree) → has_root f.number l ≡ true → HasDestructorRoot theory.shapes l
    → (ps : Trees) × (l ≡ app f ps) × HasShape theory.shapes Destructor f (count ps)
root_there theory f (leaf x) e h = absurd h
root_there theory f (app g ps) e h =
    let n : g.number ≡ f.number = eqb-true g.number f.number e in
    let same : g ≡ f = ap (λ k. record { number = k }) n in
    (ps, ap (λ s. app s ps) same, subst (λ s. HasShape theory.shapes Destructor s (count ps)) same h)

pub one_arity : (shapes : List Shape) (f : Sym) (kind : SymKind) (n m : ℕ) → HasShape shapes kind f n → HasShape shapes kind f m → n ≡ m
one_arity shapes f kind n m h k =
    let e : ◌≡◌ {A = Option ℕ} (Some n) (Some m) = ap (option_map (λ (s : Shape). s.arity)) (sym h ∙ k) in cc

pub is_destructor_there : (theory : Theory) (f : Sym) (kind : SymKind) (n : ℕ) → HasShape theory.shapes kind f n → is_destructor theory f ≡ is_destructor_kind kind
is_destructor_there theory f kind n h = ap is_destructor_shape h

module _ (theory : Theory) where
  pub name_or_variable : (y : ℕ → Tree) (x : Leaf) → IsNameOrVariable x → ((n : ℕ) → StandsIn (var n) (leaf x) → IsPlain theory.shapes (y n)) → IsPlain theory.shapes (variables_to y x)
  name_or_variable y (public n) b p = b
  name_or_variable y (private n) b p = b
  name_or_variable y (var n) b p = p n itself
  name_or_variable y (ax n) b p = b
  name_or_variable y (entry n) b p = b
  name_or_variable y (rigid n) b p = b

  joined_evaluate :
      (y : ℕ → Tree) (u : Tree) (us : Trees) (rs ss : List Tree)
      → EvaluateAll theory (more u none) (substitute_all y (trees rs)) → EvaluateAll theory us (substitute_all y (trees ss))
      → EvaluateAll theory (more u us) (substitute_all y (trees (rs ++ ss)))
  joined_evaluate y u us [] ss h k = elim h [ ]
  joined_evaluate y u us (r ∷ []) ss (a_term a no_terms) k = a_term a k
  joined_evaluate y u us (r ∷ q ∷ rs) ss (a_term a h) k = elim h [ ]

  module _ (accepted : IsAccepted theory) where
    -- a rule that fits the results
    pub reduces :
        (y : ℕ → Tree) (f : Sym) (next : ℕ) (r : Rule) (results : List Tree) → HasRule theory r
        → has_root f.number r.left ≡ true → ((ps : Trees) → r.left ≡ app f ps → length results ≡ count ps)
        → Unifies y (fits_rule results (rule_from next r))
        → Reduces theory f (substitute_all y (trees results)) (substitute y (raised next r.right))
    reduces y f next r results l e len u =
        let root = root_there theory f r.left e (accepted.root r l) in
        let by : ℕ → Tree = λ n. y (n + next) in
        let raise : ℕ → Tree = λ n. leaf (var (n + next)) in
        let left : raised next r.left ≡ app f (substitute_all raise root.0) = ap (raised next) root.1 in
        let u2 : Unifies y (zip (list_of (trees results)) (arguments (raised next r.left))) =
        subst (λ (rs : List Tree). Unifies y (zip rs (arguments (raised next r.left)))) (sym (listed_again results)) u in
        let u3 : Unifies y (zip (list_of (trees results)) (list_of (substitute_all raise root.0))) = subst (λ (t : Tree). Unifies y (zip (list_of (trees results)) (arguments t))) left u2 in
        let lengths : length (list_of (trees results)) ≡ length (list_of (substitute_all raise root.0)) =
        ap length (listed_again results) ∙ (len root.0 root.1 ∙ sym (length_count (substitute_all raise root.0) ∙ count-replace_all (variables_to raise) root.0)) in
        let equal : app f (substitute_all y (trees results)) ≡ substitute y (app f (substitute_all raise root.0)) =
        (unified_arguments y (app f (trees results)) (app f (substitute_all raise root.0)) (refl, lengths)).1 u3 in
        let turned : substitute y (app f (substitute_all raise root.0)) ≡ app f (substitute_all by root.0) = substitute_in_turn y raise (app f root.0) in
        let both : app f (substitute_all y (trees results)) ≡ app f (substitute_all by root.0) = equal ∙ turned in
        record {
          rule = r;
          listed = l;
          patterns = root.0;
          left = root.1;
          by = by;
          matched = (let k : substitute_all by root.0 ≡ substitute_all y (trees results) = cc in k);
          right = sym (substitute_in_turn y raise r.right);
        }

    pub count_evaluated_results : (y : ℕ → Tree) (us : Trees) (rs : List Tree) → EvaluateAll theory us (substitute_all y (trees rs)) → length rs ≡ count us
    count_evaluated_results y none [] h = refl
    count_evaluated_results y none (r ∷ rs) h = elim h [ ]
    count_evaluated_results y (more u us) [] h = elim h [ ]
    count_evaluated_results y (more u us) (r ∷ rs) (a_term a h) = omega (arith, count_evaluated_results y us rs h)

    sound_applied :
        (y : ℕ → Tree) (f : Sym) (ts : Trees) (d c : Choices) (kind : SymKind)
        → HasShape theory.shapes kind f (count ts)
        → (Unifies y d.equations → EvaluateAll theory (substitute_all y ts) (substitute_all y (trees d.results)))
        → Contains (cond (is_destructor_kind kind) (map (reduced_by d) (rules_of theory f)) (Cases.constructed f d)) c
        → Unifies y c.equations
        → EvaluateAll theory (more (substitute y (app f ts)) none) (substitute_all y (trees c.results))
    sound_applied y f ts d c Constructor shape ih k u =
        let one = contains_one (record { equations = d.equations; results = app f (trees d.results) ∷ []; next = d.next }) c k in
        let u2 : Unifies y d.equations = subst (λ (w : Choices). Unifies y w.equations) one u in
        subst (λ (w : Choices). EvaluateAll theory (more (substitute y (app f ts)) none) (substitute_all y (trees w.results))) (sym one)
        (a_term (constructed (subst (HasShape theory.shapes Constructor f) (sym (count-replace_all (variables_to y) ts)) shape) (ih u2)) no_terms)
    sound_applied y f ts d c Destructor shape ih k u =
        let m = from_mapped (reduced_by d) (rules_of theory f) c k in
        let r : Rule = m.0 in
        let l = from_filtered (λ (r : Rule). has_root f.number r.left) theory.rules r m.1 in
        let u2 : Unifies y (d.equations ++ fits_rule d.results (rule_from d.next r)) = subst (λ (w : Choices). Unifies y w.equations) m.2 u in
        let all = ih (all_left (λ p. substitute y p.0 ≡ substitute y p.1) d.equations (fits_rule d.results (rule_from d.next r)) u2) in
        let fits = all_right (λ p. substitute y p.0 ≡ substitute y p.1) d.equations (fits_rule d.results (rule_from d.next r)) u2 in
        let here : HasShape theory.shapes Destructor f (count (substitute_all y ts)) = subst (HasShape theory.shapes Destructor f) (sym (count-replace_all (variables_to y) ts)) shape in
        let len : (ps : Trees) → r.left ≡ app f ps → length d.results ≡ count ps =
        λ ps e.
        count_evaluated_results y (substitute_all y ts) d.results all
        ∙ one_arity theory.shapes f Destructor (count (substitute_all y ts)) (count ps) here (subst (λ t. HasDestructorRoot theory.shapes t) e (accepted.root r l.0)) in
        subst (λ (w : Choices). EvaluateAll theory (more (substitute y (app f ts)) none) (substitute_all y (trees w.results))) (sym m.2)
        (a_term (reduced (substitute_all y (trees d.results)) here all (reduces y f d.next r d.results l.0 l.1 len fits)) no_terms)

    mutual
      pub sound :
          (y : ℕ → Tree) (next : ℕ) (t : Tree) (c : Choices)
          → IsBuiltOf IsNameOrVariable (HasArity theory.shapes) t
          → ((n : ℕ) → StandsIn (var n) t → IsPlain theory.shapes (y n))
          → Contains (choices theory next t) c
          → Unifies y c.equations
          → EvaluateAll theory (more (substitute y t) none) (substitute_all y (trees c.results))
      sound y next (leaf x) c b p k u =
          let one = contains_one (record { equations = []; results = leaf x ∷ []; next = next }) c k in
          subst (λ (w : Choices). EvaluateAll theory (more (substitute y (leaf x)) none) (substitute_all y (trees w.results))) (sym one)
          (a_term (plain_evaluates theory (variables_to y x) (name_or_variable y x b p)) no_terms)
      sound y next (app f ts) c b p k u =
          let d = from_joined (applied theory f) (all_choices theory next ts) c k in
          let shape = b.0 in
          sound_applied y f ts d.0 c shape.0 shape.1 (λ v. sound_all y next ts d.0 b.1 (λ n h. p n (below h)) d.1 v)
          (subst (λ w. Contains (cond w (map (reduced_by d.0) (rules_of theory f)) (Cases.constructed f d.0)) c) (is_destructor_there theory f shape.0 (count ts) shape.1) d.2)
          u

      pub sound_all :
          (y : ℕ → Tree) (next : ℕ) (ts : Trees) (c : Choices)
          → AreBuiltOf IsNameOrVariable (HasArity theory.shapes) ts
          → ((n : ℕ) → IsAmong (leaf (var n)) ts → IsPlain theory.shapes (y n))
          → Contains (all_choices theory next ts) c
          → Unifies y c.equations
          → EvaluateAll theory (substitute_all y ts) (substitute_all y (trees c.results))
      sound_all y next none c b p k u =
          let one = contains_one (record { equations = []; results = []; next = next }) c k in
          subst (λ (w : Choices). EvaluateAll theory none (substitute_all y (trees w.results))) (sym one) no_terms
      sound_all y next (more t ts) c b p k u =
          let d = from_joined (λ c. map (Cases.joined c) (all_choices theory c.next ts)) (choices theory next t) c k in
          let m = from_mapped (Cases.joined d.0) (all_choices theory d.0.next ts) c d.2 in
          let u2 : Unifies y (d.0.equations ++ m.0.equations) = subst (λ (w : Choices). Unifies y w.equations) m.2 u in
          let first = sound y next t d.0 b.0 (λ n h. p n (in_first h)) d.1 (all_left (λ p. substitute y p.0 ≡ substitute y p.1) d.0.equations m.0.equations u2) in
          let rest = sound_all y d.0.next ts m.0 b.1 (λ n h. p n (in_rest h)) m.1 (all_right (λ p. substitute y p.0 ≡ substitute y p.1) d.0.equations m.0.equations u2) in
          subst (λ (w : Choices). EvaluateAll theory (more (substitute y t) (substitute_all y ts)) (substitute_all y (trees w.results))) (sym m.2)
          (joined_evaluate y (substitute y t) (substitute_all y ts) d.0.results m.0.results first rest)
