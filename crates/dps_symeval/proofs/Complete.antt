-- What a term evaluates to is the result of some case.
use Rattle.std.proofs.Common.{◌≡◌, ℕ, ◌+◌, ◌-◌, ◌<◌, ◌≤◌, List, [], ◌∷◌, ◌++◌, length, map, refl, sym, ◌∙◌, ap, subst, inl, inr, arith, true, cond}
use Rattle.std.specs.Prelude.{◌⊎◌, Contains, All, nat_lt}
use Rattle.std.specs.List.{zip}
use Rattle.std.proofs.lemmas.Bool.{cases_Bool, ltb-true, ltb-false, eq-eqb}
use Rattle.std.proofs.lemmas.List.Elements.{All-nil, All-cons, All-head, All-tail, All-append}
use Rattle.dps_terms.specs.declared.Sym.{Sym}
use Rattle.dps_signature.specs.declared.SymKind.{SymKind}
use Rattle.dps_signature.specs.declared.SymKind.TheVariants.{Constructor, Destructor}
use Rattle.dps_terms.specs.Tree.{Leaf, var, Tree, Trees, leaf, app, none, more, count, list_of, trees, StandsIn, IsAmong, below, in_first, in_rest}
use Rattle.dps_terms.specs.Replace.{substitute, substitute_all, variables_to}
use Rattle.dps_signature.specs.Signature.{HasShape, HasArity}
use Rattle.dps_terms.specs.Variables.{variables}
use Rattle.dps_terms.specs.Views.{arguments}
use Rattle.dps_terms.specs.Kinds.{IsBuiltOf, AreBuiltOf}
use Rattle.dps_signature.specs.Kinds.{IsPlain}
use Rattle.dps_terms.proofs.Building.{count-replace_all, closed_has_none}
use Rattle.dps_terms.proofs.Listing.{variables_are_those}
use Rattle.dps_terms.proofs.Subterms.{nested, strict_is_subterm}
use Rattle.dps_unify.specs.Unifier.{Unifies}
use Rattle.dps_unify.specs.Renaming.{raised}
use Rattle.dps_unify.proofs.Trees.{substitute_in_turn, substitute_agrees, unified_arguments, variable_of_instance, in_leaf}
use Rattle.dps_theory.specs.Theory.{Rule, Theory, IsBounded, IsAccepted}
use Rattle.dps_theory.specs.Overlaps.{room}
use Rattle.dps_theory.specs.Evaluation.{Evaluates, EvaluateAll, Reduces, constructed, reduced, no_terms, a_term}
use Rattle.dps_theory.proofs.Evaluating.{plain_alone, reduces_left}
use Rattle.dps_theory.proofs.Overlapping.{below_least}
use Rattle.dps_theory.specs.Index.{has_root}
use Rattle.dps_symeval.specs.Cases.{Choices, IsNameOrVariable, is_destructor_kind, is_destructor, rules_of, rule_from, fits_rule, reduced_by, applied, choices, all_choices}
use Rattle.dps_symeval.specs.Cases as Cases
use Rattle.dps_symeval.proofs.Listed.{contains_first, mapped, joined, filtered, all_weaker}
use Rattle.dps_symeval.proofs.Sound.{listed_again, length_count, name_or_variable, is_destructor_there}

-- variables with smaller numbers alone
abbrev pub Below : ℕ → Tree → Type 0
Below n t = (x : ℕ) → StandsIn (var x) t → x < n

abbrev pub PairBelow : ℕ → Tree × Tree → Type 0
PairBelow n p = Below n p.0 × Below n p.1

below_more : (n m : ℕ) → n ≤ m → (t : Tree) → Below n t → Below m t
below_more n m l t b x k = omega (arith, b x k, l)

pairs_more : (n m : ℕ) → n ≤ m → (p : Tree × Tree) → PairBelow n p → PairBelow m p
pairs_more n m l p b = (below_more n m l p.0 b.0, below_more n m l p.1 b.1)

-- what agrees below a number unifies what is below it
pub agreeing_unify : (y z : ℕ → Tree) (n : ℕ) (pairs : List (Tree × Tree)) → ((x : ℕ) → x < n → y x ≡ z x) → All (PairBelow n) pairs → Unifies z pairs → Unifies y pairs
agreeing_unify y z n [] h b u = All-nil (λ p. substitute y p.0 ≡ substitute y p.1)
agreeing_unify y z n (p ∷ ps) h b u =
    let q = All-head (PairBelow n) p ps b in
    All-cons (λ p. substitute y p.0 ≡ substitute y p.1) p ps
    (substitute_agrees y z p.0 (λ x k. h x (q.0 x k)) ∙ (All-head (λ p. substitute z p.0 ≡ substitute z p.1) p ps u ∙ sym (substitute_agrees y z p.1 (λ x k. h x (q.1 x k)))))
    (agreeing_unify y z n ps h (All-tail (PairBelow n) p ps b) (All-tail (λ p. substitute z p.0 ≡ substitute z p.1) p ps u))

pub agreeing_all : (y z : ℕ → Tree) (n : ℕ) (rs : List Tree) → ((x : ℕ) → x < n → y x ≡ z x) → All (Below n) rs → substitute_all y (trees rs) ≡ substitute_all z (trees rs)
agreeing_all y z n [] h b = refl
agreeing_all y z n (r ∷ rs) h b =
    let a = substitute_agrees y z r (λ x k. h x (All-head (Below n) r rs b x k)) in
    let c = agreeing_all y z n rs h (All-tail (Below n) r rs b) in
    λ i. more (a i) (c i)

pub agreeing_among : (y z : ℕ → Tree) (ts : Trees) → ((n : ℕ) → IsAmong (leaf (var n)) ts → y n ≡ z n) → substitute_all y ts ≡ substitute_all z ts
agreeing_among y z none h = refl
agreeing_among y z (more t ts) h =
    let a = substitute_agrees y z t (λ n k. h n (in_first k)) in
    let b = agreeing_among y z ts (λ n k. h n (in_rest k)) in
    λ i. more (a i) (b i)

-- the variables of a zip, of arguments, of a composed tree
zipped_below : (n : ℕ) (ts us : List Tree) → All (Below n) ts → All (Below n) us → All (PairBelow n) (zip ts us)
zipped_below n [] us h k = All-nil (PairBelow n)
zipped_below n (t ∷ ts) [] h k = All-nil (PairBelow n)
zipped_below n (t ∷ ts) (u ∷ us) h k =
    All-cons (PairBelow n) (t, u) (zip ts us) (All-head (Below n) t ts h, All-head (Below n) u us k) (zipped_below n ts us (All-tail (Below n) t ts h) (All-tail (Below n) u us k))

among_below : (n : ℕ) (ts : Trees) → ((x : ℕ) → IsAmong (leaf (var x)) ts → x < n) → All (Below n) (list_of ts)
among_below n none h = All-nil (Below n)
among_below n (more t ts) h = All-cons (Below n) t (list_of ts) (λ x k. h x (in_first k)) (among_below n ts (λ x k. h x (in_rest k)))

arguments_below : (n : ℕ) (t : Tree) → Below n t → All (Below n) (arguments t)
arguments_below n (leaf x) h = All-nil (Below n)
arguments_below n (app f ts) h = among_below n ts (λ x k. h x (below k))

in_listed : (n x : ℕ) (rs : List Tree) → All (Below n) rs → IsAmong (leaf (var x)) (trees rs) → x < n
in_listed n x [] h k = elim k [ ]
in_listed n x (r ∷ rs) h (in_first k) = All-head (Below n) r rs h x k
in_listed n x (r ∷ rs) h (in_rest k) = in_listed n x rs (All-tail (Below n) r rs h) k

composed_below : (n : ℕ) (f : Sym) (rs : List Tree) → All (Below n) rs → Below n (app f (trees rs))
composed_below n f rs h x (below k) = in_listed n x rs h k

one_below : (n : ℕ) (t : Tree) → Below n t → All (Below n) (t ∷ [])
one_below n t b = All-cons (Below n) t [] b (All-nil (Below n))

-- the variables of a rule
pub left_below : (r : Rule) (n : ℕ) → StandsIn (var n) r.left → n < room r
left_below r n k = below_least (variables r.left) n ((variables_are_those r.left n).1 k)

pub right_below : (r : Rule) → IsBounded r → (n : ℕ) → StandsIn (var n) r.right → n < room r
right_below r b n k =
    elim b [
      | inl s ↦ left_below r n (nested k (strict_is_subterm s))
      | inr c ↦ absurd ((closed_has_none r.right).0 c n k)
    ]

raised_below : (by k : ℕ) (t : Tree) → Below k t → Below (by + k) (raised by t)
raised_below by k t h x s =
    let d = variable_of_instance (λ n. leaf (var (n + by))) x t s in
    let e : leaf (var x) ≡ leaf (var (d.0 + by)) = in_leaf (var (d.0 + by)) (leaf (var x)) d.2 in
    let same : x ≡ d.0 + by = cc in
    omega (arith, same, h d.0 d.1)

-- one substitution below a number and another one from it on
module _ (by : ℕ) (y z : ℕ → Tree) where
  pub spliced : ℕ → Tree
  spliced n = cond (nat_lt n by) (y n) (z (n - by))

  pub spliced_low : (n : ℕ) → n < by → spliced n ≡ y n
  unfolding spliced
  spliced_low n h =
      elim (cases_Bool (nat_lt n by)) [
        | inl e ↦ ap (λ b. cond b (y n) (z (n - by))) e
        | inr e ↦ absurd (omega (arith, ltb-false n by e))
      ]

  spliced_high : (n : ℕ) → spliced (n + by) ≡ z n
  unfolding spliced
  spliced_high n =
      elim (cases_Bool (nat_lt (n + by) by)) [
        | inl e ↦ absurd (omega (arith, ltb-true (n + by) by e))
        | inr e ↦ ap (λ b. cond b (y (n + by)) (z (n + by - by))) e ∙ ap z (omega arith)
      ]

  pub high_instance : (t : Tree) → substitute spliced (raised by t) ≡ substitute z t
  high_instance t =
      substitute_in_turn spliced (λ n. leaf (var (n + by))) t ∙ substitute_agrees (λ n. spliced (n + by)) z t (λ n k. spliced_high n)

-- a case that gives these results
pub record Covered (next : ℕ) (z : ℕ → Tree) (list : List Choices) (vs : Trees) : Type 0 where
  pub used : Choices
  pub listed : Contains list used
  pub values : ℕ → Tree
  pub agree : (x : ℕ) → x < next → values x ≡ z x
  pub equations : Unifies values used.equations
  pub results : substitute_all values (trees used.results) ≡ vs
  pub grows : next ≤ used.next
  pub equations_below : All (PairBelow used.next) used.equations
  pub results_below : All (Below used.next) used.results

appended : (y : ℕ → Tree) (rs ss : List Tree) (v : Tree) (vs : Trees) → substitute_all y (trees rs) ≡ more v none → substitute_all y (trees ss) ≡ vs → substitute_all y (trees (rs ++ ss)) ≡ more v vs
appended y [] ss v vs e d = cc
appended y (r ∷ []) ss v vs e d = let a : substitute y r ≡ v = cc in λ i. more (a i) (d i)
appended y (r ∷ q ∷ rs) ss v vs e d = cc

module _ (theory : Theory) where
  -- how an application evaluates
  abbrev pub Composes : Sym → Trees → Tree → Type 0
  Composes f us v = (vs : Trees) × HasShape theory.shapes Constructor f (count us) × EvaluateAll theory us vs × (app f vs ≡ v)

  abbrev pub Computes : Sym → Trees → Tree → Type 0
  Computes f us v = (vs : Trees) × HasShape theory.shapes Destructor f (count us) × EvaluateAll theory us vs × Reduces theory f vs v

  pub inverted : (f : Sym) (us : Trees) (v : Tree) → Evaluates theory (app f us) v → Composes f us v ⊎ Computes f us v
  inverted f us v (constructed {vs} h a) = inl (vs, h, a, refl)
  inverted f us v (reduced vs h a r) = inr (vs, h, a, r)

  no_values : (vs : Trees) → EvaluateAll theory none vs → none ≡ vs
  no_values vs no_terms = refl

  split_values : (u : Tree) (us vs : Trees) → EvaluateAll theory (more u us) vs → (w : Tree) × (ws : Trees) × Evaluates theory u w × EvaluateAll theory us ws × (more w ws ≡ vs)
  split_values u us vs (a_term {v = w} {vs = ws} a r) = (w, ws, a, r, refl)

  complete_leaf :
      (next : ℕ) (z : ℕ → Tree) (x : Leaf) (v : Tree) → IsPlain theory.shapes (variables_to z x) → Below next (leaf x)
      → Evaluates theory (variables_to z x) v → Covered next z (choices theory next (leaf x)) (more v none)
  complete_leaf next z x v p b e = record {
    used = record { equations = []; results = leaf x ∷ []; next = next };
    listed = contains_first (record { equations = []; results = leaf x ∷ []; next = next }) [];
    values = z;
    agree = λ y l. refl;
    equations = All-nil (λ p. substitute z p.0 ≡ substitute z p.1);
    results = ap (λ t. more t none) (sym (plain_alone theory e p));
    grows = omega arith;
    equations_below = All-nil (PairBelow next);
    results_below = one_below next (leaf x) b;
  }

  complete_none : (next : ℕ) (z : ℕ → Tree) (vs : Trees) → none ≡ vs → Covered next z (all_choices theory next none) vs
  complete_none next z vs e = record {
    used = record { equations = []; results = []; next = next };
    listed = contains_first (record { equations = []; results = []; next = next }) [];
    values = z;
    agree = λ y l. refl;
    equations = All-nil (λ p. substitute z p.0 ≡ substitute z p.1);
    results = e;
    grows = omega arith;
    equations_below = All-nil (PairBelow next);
    results_below = All-nil (Below next);
  }

  complete_more :
      (next : ℕ) (z : ℕ → Tree) (t : Tree) (ts : Trees) (v : Tree) (vs : Trees) (a : Covered next z (choices theory next t) (more v none))
      → Covered a.used.next a.values (all_choices theory a.used.next ts) vs
      → Covered next z (all_choices theory next (more t ts)) (more v vs)
  complete_more next z t ts v vs a b =
      let both : Choices = Cases.joined a.used b.used in
      record {
        used = both;
        listed =
            joined (λ c. map (Cases.joined c) (all_choices theory c.next ts)) (choices theory next t) a.used both a.listed
            (mapped (Cases.joined a.used) (all_choices theory a.used.next ts) b.used b.listed);
        values = b.values;
        agree = λ x l. b.agree x (omega (arith, l, a.grows)) ∙ a.agree x l;
        equations =
            All-append (λ p. substitute b.values p.0 ≡ substitute b.values p.1) a.used.equations b.used.equations
            (agreeing_unify b.values a.values a.used.next a.used.equations b.agree a.equations_below a.equations) b.equations;
        results =
            appended b.values a.used.results b.used.results v vs
            (agreeing_all b.values a.values a.used.next a.used.results b.agree a.results_below ∙ a.results) b.results;
        grows = omega (arith, a.grows, b.grows);
        equations_below =
            All-append (PairBelow b.used.next) a.used.equations b.used.equations
            (all_weaker (PairBelow a.used.next) (PairBelow b.used.next) a.used.equations (pairs_more a.used.next b.used.next b.grows) a.equations_below) b.equations_below;
        results_below =
            All-append (Below b.used.next) a.used.results b.used.results
            (all_weaker (Below a.used.next) (Below b.used.next) a.used.results (below_more a.used.next b.used.next b.grows) a.results_below) b.results_below;
      }

  -- the case of the root is listed
  root_listed :
      (next : ℕ) (f : Sym) (ts : Trees) (kind : SymKind) (d c : Choices) → HasShape theory.shapes kind f (count ts)
      → Contains (all_choices theory next ts) d
      → Contains (cond (is_destructor_kind kind) (map (reduced_by d) (rules_of theory f)) (Cases.constructed f d)) c
      → Contains (choices theory next (app f ts)) c
  root_listed next f ts kind d c h l k =
      joined (applied theory f) (all_choices theory next ts) d c l
      (subst (λ w. Contains (cond w (map (reduced_by d) (rules_of theory f)) (Cases.constructed f d)) c) (sym (is_destructor_there theory f kind (count ts) h)) k)

  complete_composed :
      (next : ℕ) (z : ℕ → Tree) (f : Sym) (ts vs : Trees) (v : Tree) → HasShape theory.shapes Constructor f (count ts)
      → app f vs ≡ v → Covered next z (all_choices theory next ts) vs
      → Covered next z (choices theory next (app f ts)) (more v none)
  complete_composed next z f ts vs v h e a =
      let both : Choices = record { equations = a.used.equations; results = app f (trees a.used.results) ∷ []; next = a.used.next } in
      record {
        used = both;
        listed = root_listed next f ts Constructor a.used both h a.listed (contains_first both []);
        values = a.values;
        agree = a.agree;
        equations = a.equations;
        results = ap (λ ws. more (app f ws) none) a.results ∙ ap (λ w. more w none) e;
        grows = a.grows;
        equations_below = a.equations_below;
        results_below = one_below a.used.next (app f (trees a.used.results)) (composed_below a.used.next f a.used.results a.results_below);
      }

  pub root_found : (f : Sym) (l : Tree) (ps : Trees) → l ≡ app f ps → has_root f.number l ≡ true
  root_found f l ps e = ap (has_root f.number) e ∙ eq-eqb f.number f.number refl

  count_results : (y : ℕ → Tree) (rs : List Tree) (vs : Trees) → substitute_all y (trees rs) ≡ vs → length (list_of (trees rs)) ≡ count vs
  count_results y rs vs e = length_count (trees rs) ∙ (sym (count-replace_all (variables_to y) (trees rs)) ∙ ap count e)

  module _ (accepted : IsAccepted theory) where
    -- the results fit the rule
    pub fitting :
        (y : ℕ → Tree) (f : Sym) (next : ℕ) (rs : List Tree) (vs : Trees) (v : Tree) (r : Reduces theory f vs v)
        → substitute_all y (trees rs) ≡ vs → substitute y (raised next r.rule.left) ≡ substitute r.by r.rule.left
        → Unifies y (fits_rule rs (rule_from next r.rule))
    fitting y f next rs vs v r e d =
        let raise : ℕ → Tree = λ n. leaf (var (n + next)) in
        let left : raised next r.rule.left ≡ app f (substitute_all raise r.patterns) = ap (raised next) r.left in
        let lengths : length (list_of (trees rs)) ≡ length (list_of (substitute_all raise r.patterns)) =
        count_results y rs vs e
        ∙ (sym (sym (count-replace_all (variables_to r.by) r.patterns) ∙ ap count r.matched) ∙ sym (length_count (substitute_all raise r.patterns) ∙ count-replace_all (variables_to raise) r.patterns)) in
        let equal : substitute y (app f (trees rs)) ≡ substitute y (app f (substitute_all raise r.patterns)) =
        ap (app f) e ∙ (sym (reduces_left theory f vs v r) ∙ (sym d ∙ ap (substitute y) left)) in
        let u : Unifies y (zip (list_of (trees rs)) (list_of (substitute_all raise r.patterns))) =
        (unified_arguments y (app f (trees rs)) (app f (substitute_all raise r.patterns)) (refl, lengths)).0 equal in
        subst (λ (xs : List Tree). Unifies y (zip xs (arguments (raised next r.rule.left)))) (listed_again rs)
        (subst (λ (t : Tree). Unifies y (zip (list_of (trees rs)) (arguments t))) (sym left) u)

    complete_computed :
        (next : ℕ) (z : ℕ → Tree) (f : Sym) (ts vs : Trees) (v : Tree) → HasShape theory.shapes Destructor f (count ts)
        → Reduces theory f vs v → Covered next z (all_choices theory next ts) vs
        → Covered next z (choices theory next (app f ts)) (more v none)
    complete_computed next z f ts vs v h r a =
        let rule : Rule = r.rule in
        let from : ℕ = a.used.next in
        let both : Choices = reduced_by a.used rule in
        let y : ℕ → Tree = spliced from a.values r.by in
        let low : (x : ℕ) → x < from → y x ≡ a.values x = spliced_low from a.values r.by in
        let same : substitute_all y (trees a.used.results) ≡ vs = agreeing_all y a.values from a.used.results low a.results_below ∙ a.results in
        let more_room : from ≤ from + room rule = omega arith in
        record {
          used = both;
          listed =
              root_listed next f ts Destructor a.used both h a.listed
              (mapped (reduced_by a.used) (rules_of theory f) rule (filtered (λ (q : Rule). has_root f.number q.left) theory.rules rule r.listed (root_found f rule.left r.patterns r.left)));
          values = y;
          agree = λ x l. low x (omega (arith, l, a.grows)) ∙ a.agree x l;
          equations =
              All-append (λ p. substitute y p.0 ≡ substitute y p.1) a.used.equations (fits_rule a.used.results (rule_from from rule))
              (agreeing_unify y a.values from a.used.equations low a.equations_below a.equations)
              (fitting y f from a.used.results vs v r same (high_instance from a.values r.by rule.left));
          results = ap (λ t. more t none) (high_instance from a.values r.by rule.right ∙ r.right);
          grows = omega (arith, a.grows);
          equations_below =
              All-append (PairBelow (from + room rule)) a.used.equations (fits_rule a.used.results (rule_from from rule))
              (all_weaker (PairBelow from) (PairBelow (from + room rule)) a.used.equations (pairs_more from (from + room rule) more_room) a.equations_below)
              (zipped_below (from + room rule) a.used.results (arguments (raised from rule.left))
              (all_weaker (Below from) (Below (from + room rule)) a.used.results (below_more from (from + room rule) more_room) a.results_below)
              (arguments_below (from + room rule) (raised from rule.left) (raised_below from (room rule) rule.left (left_below rule))));
          results_below = one_below (from + room rule) (raised from rule.right) (raised_below from (room rule) rule.right (right_below rule (accepted.bounded rule r.listed)));
        }

    mutual
      pub complete :
          (z : ℕ → Tree) (next : ℕ) (t v : Tree)
          → IsBuiltOf IsNameOrVariable (HasArity theory.shapes) t
          → Below next t
          → ((n : ℕ) → StandsIn (var n) t → IsPlain theory.shapes (z n))
          → Evaluates theory (substitute z t) v
          → Covered next z (choices theory next t) (more v none)
      complete z next (leaf x) v b low p e = complete_leaf next z x v (name_or_variable theory z x b p) low e
      complete z next (app f ts) v b low p e =
          let back : (kind : SymKind) → HasShape theory.shapes kind f (count (substitute_all z ts)) → HasShape theory.shapes kind f (count ts) =
          λ kind h. subst (HasShape theory.shapes kind f) (count-replace_all (variables_to z) ts) h in
          elim (inverted f (substitute_all z ts) v e) [
            | inl d ↦ complete_composed next z f ts d.0 v (back Constructor d.1) d.3 (complete_all z next ts d.0 b.1 (λ n k. low n (below k)) (λ n k. p n (below k)) d.2)
            | inr d ↦ complete_computed next z f ts d.0 v (back Destructor d.1) d.3 (complete_all z next ts d.0 b.1 (λ n k. low n (below k)) (λ n k. p n (below k)) d.2)
          ]

      pub complete_all :
          (z : ℕ → Tree) (next : ℕ) (ts vs : Trees)
          → AreBuiltOf IsNameOrVariable (HasArity theory.shapes) ts
          → ((n : ℕ) → IsAmong (leaf (var n)) ts → n < next)
          → ((n : ℕ) → IsAmong (leaf (var n)) ts → IsPlain theory.shapes (z n))
          → EvaluateAll theory (substitute_all z ts) vs
          → Covered next z (all_choices theory next ts) vs
      complete_all z next none vs b low p e = complete_none next z vs (no_values vs e)
      complete_all z next (more t ts) vs b low p e =
          let d = split_values (substitute z t) (substitute_all z ts) vs e in
          let a : Covered next z (choices theory next t) (more d.0 none) = complete z next t d.0 b.0 (λ n k. low n (in_first k)) (λ n k. p n (in_first k)) d.2 in
          let same : (n : ℕ) → IsAmong (leaf (var n)) ts → a.values n ≡ z n = λ n k. a.agree n (low n (in_rest k)) in
          let rest : EvaluateAll theory (substitute_all a.values ts) d.1 = subst (λ us. EvaluateAll theory us d.1) (sym (agreeing_among a.values z ts same)) d.3 in
          let c : Covered a.used.next a.values (all_choices theory a.used.next ts) d.1 =
          complete_all a.values a.used.next ts d.1 b.1 (λ n k. omega (arith, low n (in_rest k), a.grows)) (λ n k. subst (IsPlain theory.shapes) (sym (same n k)) (p n (in_rest k))) rest in
          subst (Covered next z (all_choices theory next (more t ts))) d.4 (complete_more next z t ts d.0 d.1 a c)
