-- What the rules make of a node is determined, but for the kids of splits; their count is determined too.
use Rattle.std.proofs.Common.{◌≡◌, ℕ, ◌+◌, List, [], ◌∷◌, Bool, true, false, Option, Some, map, refl, sym, ◌∙◌, ap, subst, subst₂, is_some, length}
use Rattle.std.specs.List.{list_all, list_any}
use Rattle.dps_terms.specs.Tree.{ax, entry, Tree, leaf}
use Rattle.dps_theory.specs.Theory.{Rule, Theory}
use Rattle.dps_know.specs.declared.know.Entry.{Entry}
use Rattle.dps_solver.specs.Search.{GeneralSolution}
use Rattle.dps_node.specs.Node.{SymbolicConfig, Node, at_count, scene_of}
use Rattle.dps_node.specs.Questions.{Found, Answers, AnswersWhole, all_decided, divided}
use Rattle.dps_node.proofs.Once.{finds_all_once, answers_once, whole_once, asks_each_once}
use Rattle.dps_node.specs.Outcome.{Outcome, changed, kids, Pass, passes, ends, InTurn, through, next, stops}
use Rattle.dps_node.specs.Knowing.{pass_of_equal, Compares, compares, open_compare, Finding, unknown, known, splits, as_finding}
use Rattle.dps_node.specs.Knowing.{found_trees, found_values, Examines, is_new, is_compared, open_tree, after_handle, with_handle}
use Rattle.dps_node.specs.Knowing.{with_entry, with_own_name, with_composition, entry_value, each_tree_once, after_trees, HasComposition}
use Rattle.dps_node.specs.Knowing.{Composes, recorded_before, is_composed_of, open_composition, fact_of, after_item, UsesFact, never}
use Rattle.dps_node.specs.Knowing.{sometimes, always, open_success, last_message, UsesFound, fact, splits_on, Computes, computes}
use Rattle.dps_node.specs.Knowing.{each_rule, Knows, by_handle, by_composition, by_rule, by_closing, is_true}

-- the same, but for the kids of a split, of which the count is the same
abbrev pub SameOutcome : Outcome → Outcome → Type 0
SameOutcome (changed a) (changed b) = a ≡ b
SameOutcome (changed a) (kids m ls) = ⊥
SameOutcome (kids n ks) (changed b) = ⊥
SameOutcome (kids n ks) (kids m ls) = n ≡ m

abbrev pub SamePass : Pass → Pass → Type 0
SamePass (passes n) (passes m) = n ≡ m
SamePass (passes n) (ends p) = ⊥
SamePass (ends o) (passes m) = ⊥
SamePass (ends o) (ends p) = SameOutcome o p

abbrev SameFinding : Finding → Finding → Type 0
SameFinding (unknown n) (unknown m) = n ≡ m
SameFinding (unknown n) (known m u) = ⊥
SameFinding (unknown n) (splits p) = ⊥
SameFinding (known n t) (unknown m) = ⊥
SameFinding (known n t) (known m u) = (n ≡ m) × (t ≡ u)
SameFinding (known n t) (splits p) = ⊥
SameFinding (splits o) (unknown m) = ⊥
SameFinding (splits o) (known m u) = ⊥
SameFinding (splits o) (splits p) = SameOutcome o p

outcome_self : (o : Outcome) → SameOutcome o o
outcome_self (changed a) = refl
outcome_self (kids n ks) = refl

pass_self : (p : Pass) → SamePass p p
pass_self (passes n) = refl
pass_self (ends o) = outcome_self o

-- equal passes are the same, and so are those that are equal to the same
pass_equal : (p q : Pass) → p ≡ q → SamePass p q
pass_equal p q e = subst (λ r. SamePass p r) e (pass_self p)

pass_at : {p q r s : Pass} → p ≡ r → q ≡ s → SamePass r s → SamePass p q
pass_at {p} {q} {r} {s} e f h = subst₂ SamePass (sym e) (sym f) h

finding_at : {p q r s : Finding} → p ≡ r → q ≡ s → SameFinding r s → SameFinding p q
finding_at {p} {q} {r} {s} e f h = subst₂ SameFinding (sym e) (sym f) h

pub outcome_at : {p q r s : Outcome} → p ≡ r → q ≡ s → SameOutcome r s → SameOutcome p q
outcome_at {p} {q} {r} {s} e f h = subst₂ SameOutcome (sym e) (sym f) h

decided_same : (os ps : List (Option Found)) → all_decided os ≡ all_decided ps → os ≡ ps
decided_same os ps e = cc

never_both : (os : List (Option Found)) (s : GeneralSolution) → all_decided os ≡ divided s → ⊥
never_both os s e = cc

true_or_false : (b : Bool) → b ≡ true → b ≡ false → ⊥
true_or_false b e f = let d : true ≡ false = sym e ∙ f in cc

-- lists that are taken in turn
pub in_turn_once :
    {A : Type 0} (takes : A → ℕ → Pass → Type 0) → ((a : A) (n : ℕ) (p q : Pass) → takes a n p → takes a n q → SamePass p q)
    → {list : List A} {n : ℕ} {p q : Pass} → InTurn takes list n p → InTurn takes list n q → SamePass p q
in_turn_once takes once through through = refl
in_turn_once takes once {q = q} (next {a = a} {rest = rest} {n = n} {k = k} h t) (next {k = k'} h' t') =
    let e : k ≡ k' = once a n (passes k) (passes k') h h' in
    in_turn_once takes once t (subst (λ j. InTurn takes rest j q) (sym e) t')
in_turn_once takes once (next {a = a} {n = n} {k = k} h t) (stops {outcome = o} h') = absurd (once a n (passes k) (ends o) h h')
in_turn_once takes once (stops {a = a} {n = n} {outcome = o} h) (next {k = k} h' t') = absurd (once a n (ends o) (passes k) h h')
in_turn_once takes once (stops {a = a} {n = n} {outcome = o} h) (stops {outcome = p} h') = once a n (ends o) (ends p) h h'

module _ (node : Node) where
  pub compares_once : (values : List Tree) (t : Tree) (n : ℕ) (p q : Pass) → Compares node values t n p → Compares node values t n q → SamePass p q
  compares_once values t n p q (compares {os = os} {steps = k} h e) (compares {os = ps} {steps = m} h' e') =
      let a = asks_each_once Answers answers_once node h h' in
      let d : os ≡ ps = decided_same os ps a.0 in
      pass_equal p q (e ∙ (λ i. pass_of_equal node (d i) (n + a.1 i)) ∙ sym e')
  compares_once values t n p q (compares {os = os} h e) (open_compare {s = s} h' k' e') = absurd (never_both os s ((asks_each_once Answers answers_once node h h').0))
  compares_once values t n p q (open_compare {s = s} h k e) (compares {os = os} h' e') = absurd (never_both os s ((asks_each_once Answers answers_once node h' h).0))
  compares_once values t n p q (open_compare h k e) (open_compare h' k' e') = pass_at e e' (ap (λ m. n + m) ((asks_each_once Answers answers_once node h h').1))

  as_finding_same : (t : Tree) (p q : Pass) → SamePass p q → SameFinding (as_finding t p) (as_finding t q)
  as_finding_same t (passes n) (passes m) h = (h, refl)
  as_finding_same t (passes n) (ends o) h = absurd h
  as_finding_same t (ends o) (passes m) h = absurd h
  as_finding_same t (ends o) (ends p) h = h

  none_or_some : {os ps : List (Option Found)} {t : Tree} {ts : List Tree} → all_decided os ≡ all_decided ps → found_trees os ≡ [] → found_trees ps ≡ t ∷ ts → ⊥
  none_or_some {os} {ps} {t} {ts} e f g = let d : [] ≡ t ∷ ts = sym f ∙ ap found_trees (decided_same os ps e) ∙ g in cc

  pub examines_once : (values : List Tree) (n : ℕ) (p q : Finding) → Examines node values n p → Examines node values n q → SameFinding p q
  examines_once values n p q (is_new h e f) (is_new h' e' f') = finding_at f f' (ap (λ m. n + m) ((asks_each_once Answers answers_once node h h').1))
  examines_once values n p q (is_new h e f) (is_compared h' e' k' f') = absurd (none_or_some (asks_each_once Answers answers_once node h h').0 e e')
  examines_once values n p q (is_new {os = os} h e f) (open_tree {s = s} h' k' f') = absurd (never_both os s ((asks_each_once Answers answers_once node h h').0))
  examines_once values n p q (is_compared h e k f) (is_new h' e' f') = absurd (none_or_some (asks_each_once Answers answers_once node h' h).0 e' e)
  examines_once values n p q (is_compared {os = os} {steps = a} {t = t} {ts = ts} {pass = r} h e k f) (is_compared {os = ps} {steps = b} {t = u} {ts = us} {pass = s} h' e' k' f') =
      let w = asks_each_once Answers answers_once node h h' in
      let d : t ∷ ts ≡ u ∷ us = sym e ∙ ap found_trees (decided_same os ps w.0) ∙ e' in
      let same : u ≡ t = cc in
      let k2 : Compares node values t (n + a) s = subst₂ (λ v m. Compares node values v (n + m) s) same (sym w.1) k' in
      finding_at f (f' ∙ ap (λ v. as_finding v s) same) (as_finding_same t r s (compares_once values t (n + a) r s k k2))
  examines_once values n p q (is_compared {os = os} h e k f) (open_tree {s = s} h' k' f') = absurd (never_both os s ((asks_each_once Answers answers_once node h h').0))
  examines_once values n p q (open_tree {s = s} h k f) (is_new {os = os} h' e' f') = absurd (never_both os s ((asks_each_once Answers answers_once node h' h).0))
  examines_once values n p q (open_tree {s = s} h k f) (is_compared {os = os} h' e' k' f') = absurd (never_both os s ((asks_each_once Answers answers_once node h' h).0))
  examines_once values n p q (open_tree h k f) (open_tree h' k' f') = finding_at f f' (ap (λ m. n + m) ((asks_each_once Answers answers_once node h h').1))

  after_handle_same : (p q : Finding) → SameFinding p q → SameOutcome (after_handle node p) (after_handle node q)
  after_handle_same (unknown n) (unknown m) h =
      ap (λ k. at_count (with_handle (with_entry node (leaf (ax node.m)) (map (last_message node) (node.configs))) (leaf (entry (length (node.know.entries) + 1)))) k) h
  after_handle_same (unknown n) (known m u) h = absurd h
  after_handle_same (unknown n) (splits p) h = absurd h
  after_handle_same (known n t) (unknown m) h = absurd h
  after_handle_same (known n t) (known m u) h = λ i. at_count (with_handle node (h.1 i)) (h.0 i)
  after_handle_same (known n t) (splits p) h = absurd h
  after_handle_same (splits o) (unknown m) h = absurd h
  after_handle_same (splits o) (known m u) h = absurd h
  after_handle_same (splits o) (splits p) h = h

  after_item_same : (t : Tree) (values : List Tree) (p q : Finding) → SameFinding p q → SamePass (after_item node t values p) (after_item node t values q)
  after_item_same t values (unknown n) (unknown m) h = ap (λ k. at_count (with_entry node (with_own_name t) values) k) h
  after_item_same t values (unknown n) (known m u) h = absurd h
  after_item_same t values (unknown n) (splits p) h = absurd h
  after_item_same t values (known n v) (unknown m) h = absurd h
  after_item_same t values (known n v) (known m u) h = h.0
  after_item_same t values (known n v) (splits p) h = absurd h
  after_item_same t values (splits o) (unknown m) h = absurd h
  after_item_same t values (splits o) (known m u) h = absurd h
  after_item_same t values (splits o) (splits p) h = h

  after_trees_same : (e : ℕ) (ts : List Tree) (p q : Pass) → SamePass p q → SamePass (after_trees node e ts p) (after_trees node e ts q)
  after_trees_same e [] (passes n) (passes m) h = h
  after_trees_same e (t ∷ ts) (passes n) (passes m) h = ap (λ k. at_count (with_composition node e t) k) h
  after_trees_same e ts (passes n) (ends o) h = absurd h
  after_trees_same e ts (ends o) (passes m) h = absurd h
  after_trees_same e ts (ends o) (ends p) h = h

  composition_once : (e : ℕ) (b c : Bool) → HasComposition node e b → HasComposition node e c → b ≡ c
  composition_once e b c (x, f, g) (y, f', g') =
      let d : Some x ≡ Some y = sym f ∙ f' in
      let same : x ≡ y = cc in
      sym g ∙ ap (λ (z : Entry). is_some z.composition) same ∙ g'

  pub composes_once : (e n : ℕ) (p q : Pass) → Composes node e n p → Composes node e n q → SamePass p q
  composes_once e n p q (recorded_before c f) (recorded_before c' f') = pass_at f f' refl
  composes_once e n p q (recorded_before c f) (is_composed_of c' h' t' f') = absurd (true_or_false true refl (composition_once e true false c c'))
  composes_once e n p q (recorded_before c f) (open_composition c' h' k' f') = absurd (true_or_false true refl (composition_once e true false c c'))
  composes_once e n p q (is_composed_of c h t f) (recorded_before c' f') = absurd (true_or_false true refl (composition_once e true false c' c))
  composes_once e n p q (is_composed_of {os = os} {steps = k} {result = r} c h t f) (is_composed_of {os = ps} {steps = m} {result = s} c' h' t' f') =
      let a = asks_each_once AnswersWhole whole_once node h h' in
      let d : ps ≡ os = sym (decided_same os ps a.0) in
      let t2 : InTurn (Compares node (map (entry_value e) (node.configs))) (each_tree_once (found_trees os)) (n + k) s =
      subst₂ (λ l j. InTurn (Compares node (map (entry_value e) (node.configs))) (each_tree_once (found_trees l)) (n + j) s) d (sym a.1) t' in
      let same = in_turn_once (Compares node (map (entry_value e) (node.configs))) (compares_once (map (entry_value e) (node.configs))) t t2 in
      pass_at f (f' ∙ ap (λ l. after_trees node e (each_tree_once (found_trees l)) s) d) (after_trees_same e (each_tree_once (found_trees os)) r s same)
  composes_once e n p q (is_composed_of {os = os} c h t f) (open_composition {s = s} c' h' k' f') = absurd (never_both os s ((asks_each_once AnswersWhole whole_once node h h').0))
  composes_once e n p q (open_composition c h k f) (recorded_before c' f') = absurd (true_or_false true refl (composition_once e true false c' c))
  composes_once e n p q (open_composition {s = s} c h k f) (is_composed_of {os = os} c' h' t' f') = absurd (never_both os s ((asks_each_once AnswersWhole whole_once node h' h).0))
  composes_once e n p q (open_composition c h k f) (open_composition c' h' k' f') = pass_at f f' (ap (λ m. n + m) ((asks_each_once AnswersWhole whole_once node h h').1))

  module _ (theory : Theory) where
    pub fact_once : (t : Tree) (n : ℕ) (p q : Pass) → UsesFact theory node t n p → UsesFact theory node t n q → SamePass p q
    fact_once t n p q (never h a e) (never h' a' e') = pass_at e e' (ap (λ m. n + m) ((asks_each_once Answers answers_once node h h').1))
    fact_once t n p q (never {os = os} h a e) (sometimes {os = ps} h' a' b' e') =
        absurd (true_or_false (list_any is_true ps) a' (ap (list_any is_true) (sym (decided_same os ps (asks_each_once Answers answers_once node h h').0)) ∙ a))
    fact_once t n p q (never {os = os} h a e) (always {os = ps} h' a' b' x' e') =
        absurd (true_or_false (list_any is_true ps) a' (ap (list_any is_true) (sym (decided_same os ps (asks_each_once Answers answers_once node h h').0)) ∙ a))
    fact_once t n p q (never {os = os} h a e) (open_success {s = s} h' k' e') = absurd (never_both os s ((asks_each_once Answers answers_once node h h').0))
    fact_once t n p q (sometimes {os = ps} h' a' b' e') (never {os = os} h a e) =
        absurd (true_or_false (list_any is_true ps) a' (ap (list_any is_true) (sym (decided_same os ps (asks_each_once Answers answers_once node h h').0)) ∙ a))
    fact_once t n p q (sometimes h a b e) (sometimes h' a' b' e') = pass_at e e' (ap (λ m. n + m) ((asks_each_once Answers answers_once node h h').1))
    fact_once t n p q (sometimes {os = os} h a b e) (always {os = ps} h' a' b' x' e') =
        absurd (true_or_false (list_all is_true ps) b' (ap (list_all is_true) (sym (decided_same os ps (asks_each_once Answers answers_once node h h').0)) ∙ b))
    fact_once t n p q (sometimes {os = os} h a b e) (open_success {s = s} h' k' e') = absurd (never_both os s ((asks_each_once Answers answers_once node h h').0))
    fact_once t n p q (always {os = ps} h' a' b' x' e') (never {os = os} h a e) =
        absurd (true_or_false (list_any is_true ps) a' (ap (list_any is_true) (sym (decided_same os ps (asks_each_once Answers answers_once node h h').0)) ∙ a))
    fact_once t n p q (always {os = ps} h' a' b' x' e') (sometimes {os = os} h a b e) =
        absurd (true_or_false (list_all is_true ps) b' (ap (list_all is_true) (sym (decided_same os ps (asks_each_once Answers answers_once node h h').0)) ∙ b))
    fact_once t n p q (always {os = os} {steps = k} {finding = r} h a b x e) (always {os = ps} {steps = m} {finding = s} h' a' b' x' e') =
        let w = asks_each_once Answers answers_once node h h' in
        let d : ps ≡ os = sym (decided_same os ps w.0) in
        let x2 : Examines node (found_values os) (n + k) s = subst₂ (λ l j. Examines node (found_values l) (n + j) s) d (sym w.1) x' in
        pass_at e (e' ∙ ap (λ l. after_item node t (found_values l) s) d) (after_item_same t (found_values os) r s (examines_once (found_values os) (n + k) r s x x2))
    fact_once t n p q (always {os = os} h a b x e) (open_success {s = s} h' k' e') = absurd (never_both os s ((asks_each_once Answers answers_once node h h').0))
    fact_once t n p q (open_success {s = s} h k e) (never {os = os} h' a' e') = absurd (never_both os s ((asks_each_once Answers answers_once node h' h).0))
    fact_once t n p q (open_success {s = s} h k e) (sometimes {os = os} h' a' b' e') = absurd (never_both os s ((asks_each_once Answers answers_once node h' h).0))
    fact_once t n p q (open_success {s = s} h k e) (always {os = os} h' a' b' x' e') = absurd (never_both os s ((asks_each_once Answers answers_once node h' h).0))
    fact_once t n p q (open_success h k e) (open_success h' k' e') = pass_at e e' (ap (λ m. n + m) ((asks_each_once Answers answers_once node h h').1))

    pub found_once : (f : Found) (n : ℕ) (p q : Pass) → UsesFound theory node f n p → UsesFound theory node f n q → SamePass p q
    found_once f n p q (fact a h) (fact a' h') = fact_once (fact_of node f) n p q h h'
    found_once f n p q (fact a h) (splits_on a' k' e') = absurd (a' a)
    found_once f n p q (splits_on a k e) (fact a' h') = absurd (a a')
    found_once f n p q (splits_on a k e) (splits_on a' k' e') = pass_at e e' refl

    pub computes_once : (x : Rule × SymbolicConfig) (n : ℕ) (p q : Pass) → Computes theory node x n p → Computes theory node x n q → SamePass p q
    computes_once x n p q (computes {found = l} {moves = k} h t) (computes {found = j} {moves = m} h' t') =
        let a = finds_all_once (scene_of node x.1) h h' in
        in_turn_once (UsesFound theory node) found_once t (subst₂ (λ found moves. InTurn (UsesFound theory node) found (n + (1 + moves)) q) (sym a.0) (sym a.1) t')

    true_false : {b : Bool} → b ≡ true → b ≡ false → ⊥
    true_false {b} e f = true_or_false b e f

    in_composes_once : {n : ℕ} {p q : Pass} {list : List ℕ} → InTurn (Composes node) list n p → InTurn (Composes node) list n q → SamePass p q
    in_composes_once h k = in_turn_once (Composes node) composes_once h k

    in_computes_once : {n : ℕ} {p q : Pass} {list : List (Rule × SymbolicConfig)} → InTurn (Computes theory node) list n p → InTurn (Computes theory node) list n q → SamePass p q
    in_computes_once h k = in_turn_once (Computes theory node) computes_once h k

    pub knows_once : (p q : Outcome) → Knows theory node p → Knows theory node q → SameOutcome p q
    knows_once p q (by_handle {finding = r} x h e) (by_handle {finding = s} x' h' e') =
        outcome_at e e' (after_handle_same r s (examines_once (map (last_message node) (node.configs)) (node.count) r s h h'))
    knows_once p q (by_handle x h e) (by_composition x' h') = absurd (true_false x x')
    knows_once p q (by_handle x h e) (by_rule x' h' k') = absurd (true_false x x')
    knows_once p q (by_handle x h e) (by_closing x' h' k' e') = absurd (true_false x x')
    knows_once p q (by_composition x h) (by_handle x' h' e') = absurd (true_false x' x)
    knows_once p q (by_composition x h) (by_composition x' h') = in_composes_once h h'
    knows_once p q (by_composition x h) (by_rule x' h' k') = absurd (in_composes_once h h')
    knows_once p q (by_composition x h) (by_closing x' h' k' e') = absurd (in_composes_once h h')
    knows_once p q (by_rule x h k) (by_handle x' h' e') = absurd (true_false x' x)
    knows_once p q (by_rule x h k) (by_composition x' h') = absurd (in_composes_once h h')
    knows_once p q (by_rule x h k) (by_rule x' h' k') =
        in_computes_once k (subst (λ j. InTurn (Computes theory node) (each_rule theory node) j (ends q)) (sym (in_composes_once h h')) k')
    knows_once p q (by_rule x h k) (by_closing {n = m} x' h' k' e') =
        absurd (in_computes_once k (subst (λ j. InTurn (Computes theory node) (each_rule theory node) j (passes m)) (sym (in_composes_once h h')) k'))
    knows_once p q (by_closing x h k e) (by_handle x' h' e') = absurd (true_false x' x)
    knows_once p q (by_closing x h k e) (by_composition x' h') = absurd (in_composes_once h h')
    knows_once p q (by_closing x h k e) (by_rule x' h' k') =
        absurd (in_computes_once k (subst (λ j. InTurn (Computes theory node) (each_rule theory node) j (ends q)) (sym (in_composes_once h h')) k'))
    knows_once p q (by_closing {n = n} x h k e) (by_closing {n = m} x' h' k' e') =
        let same = in_computes_once k (subst (λ j. InTurn (Computes theory node) (each_rule theory node) j (passes m)) (sym (in_composes_once h h')) k') in
        outcome_at e e' (λ i. record node { closed = true; count = same i })
