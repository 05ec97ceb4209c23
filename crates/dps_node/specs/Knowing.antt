-- Rule 3: what the attacker comes to know.
use Rattle.std.specs.Prelude.{◌≡◌, ℕ, zero, suc, ◌+◌, Bool, true, false, not, if◌then◌else◌, is_some, List, [], ◌∷◌, ◌++◌, Option, Some, None, map, filter, length}
use Rattle.std.specs.List.{zip, range_with_len, flat_map, list_all, list_any}
use Rattle.dps_terms.specs.declared.PublicName.TheVariants.{At}
use Rattle.dps_terms.specs.Tree.{public, ax, entry, Tree, leaf, app}
use Rattle.dps_terms.specs.Replace.{replace, substitute, rigid_names_to, numbered, put_entries}
use Rattle.dps_terms.specs.Same.{same}
use Rattle.dps_terms.specs.Views.{arguments}
use Rattle.dps_theory.specs.Theory.{Rule, Theory}
use Rattle.dps_know.specs.Know.{entry_at}
use Rattle.dps_know.specs.declared.know.Entry.{Entry}
use Rattle.dps_solver.specs.Search.{GeneralSolution}
use Rattle.dps_renewal.specs.Numbering.{is_among, counted_as, as_rigid, variables_in}
use Rattle.dps_node.specs.Node.{SymbolicConfig, Node, variables_of, scene_of, at_count}
use Rattle.dps_node.specs.Splits.{IsSplit, partition}
use Rattle.dps_node.specs.Questions.{Question, Found, value_of, tree_of, equal, tree, composition, instance, success, FindsAll, IsPlainlyFound, Answers, AnswersWhole, all_decided, divided, AsksEach}
use Rattle.dps_node.specs.Outcome.{Outcome, changed, kids, Pass, passes, ends, InTurn}

-- a question in each configuration, for a term of each
abbrev pub in_each : Node → (SymbolicConfig → Tree → Question) → List Tree → List (SymbolicConfig × Question)
in_each node question values = map (λ p. (p.0, question p.0 p.1)) (zip node.configs values)

-- the value of a tree in a configuration; it may hold the node's variables
abbrev pub value_in : SymbolicConfig → Tree → Tree
value_in c t = put_entries c.values t

abbrev pub is_true : Option Found → Bool
is_true o = is_some o

-- Whether the values are those of the tree: `equal` in each configuration. The node is partitioned where they are in some
-- alone.
abbrev pub pass_of_equal : Node → List (Option Found) → ℕ → Pass
pass_of_equal node os n = if list_all is_true os then passes n else ends (kids n (partition (at_count node n) (map is_true os)))

pub data Compares (node : Node) (values : List Tree) (t : Tree) (n : ℕ) : Pass → Type 0 where
  compares :
      {os : List (Option Found)} {steps : ℕ} {pass : Pass}
      → AsksEach Answers node (in_each node (λ c v. equal v (value_in c t)) values) (all_decided os) steps
      → pass ≡ pass_of_equal node os (n + steps)
      → Compares node values t n pass
  open_compare :
      {s : GeneralSolution} {steps : ℕ} {split : List Node} {pass : Pass}
      → AsksEach Answers node (in_each node (λ c v. equal v (value_in c t)) values) (divided s) steps
      → IsSplit (at_count node (n + steps)) s.bindings split
      → pass ≡ ends (kids (n + steps) split)
      → Compares node values t n pass

-- What comes of an item with a value in each configuration: no tree has its values, or this one has them; or kids.
pub data Finding : Type 0 where
  unknown : ℕ → Finding
  known : ℕ → Tree → Finding
  splits : Outcome → Finding

abbrev pub as_finding : Tree → Pass → Finding
as_finding t (passes n) = known n t
as_finding t (ends outcome) = splits outcome

-- the trees that were found, in order
abbrev pub found_trees : List (Option Found) → List Tree
found_trees [] = []
found_trees (None ∷ os) = found_trees os
found_trees (Some f ∷ os) = tree_of f ∷ found_trees os

-- An item is examined: a tree with its value is asked for in each configuration, and the first that is found is compared
-- with it in all.
pub data Examines (node : Node) (values : List Tree) (n : ℕ) : Finding → Type 0 where
  is_new :
      {os : List (Option Found)} {steps : ℕ} {finding : Finding}
      → AsksEach Answers node (in_each node (λ c v. tree node v) values) (all_decided os) steps
      → found_trees os ≡ []
      → finding ≡ unknown (n + steps)
      → Examines node values n finding
  is_compared :
      {os : List (Option Found)} {steps : ℕ} {t : Tree} {ts : List Tree} {pass : Pass} {finding : Finding}
      → AsksEach Answers node (in_each node (λ c v. tree node v) values) (all_decided os) steps
      → found_trees os ≡ t ∷ ts
      → Compares node values t (n + steps) pass
      → finding ≡ as_finding t pass
      → Examines node values n finding
  open_tree :
      {s : GeneralSolution} {steps : ℕ} {split : List Node} {finding : Finding}
      → AsksEach Answers node (in_each node (λ c v. tree node v) values) (divided s) steps
      → IsSplit (at_count node (n + steps)) s.bindings split
      → finding ≡ splits (kids (n + steps) split)
      → Examines node values n finding

-- the node with one more entry, of level m, which has these values
abbrev pub add_values : List SymbolicConfig → List Tree → List SymbolicConfig
add_values cs vs = map (λ p. record (p.0) { values = p.0.values ++ p.1 ∷ [] }) (zip cs vs)

abbrev pub with_entry : Node → Tree → List Tree → Node
with_entry node recipe values =
    record node {
      know = record {
        entries = node.know.entries ++ record { recipe = recipe; level = node.m; composition = None } ∷ [];
        handles = node.know.handles;
      };
      configs = add_values node.configs values;
    }

-- the last handle has this tree
abbrev pub with_handle : Node → Tree → Node
with_handle node t =
    record node { know = record { entries = node.know.entries; handles = node.know.handles ++ t ∷ [] }; examine = false }

-- First the last handle is examined.
abbrev pub last_message : Node → SymbolicConfig → Tree
last_message node c = numbered c.frame node.m (leaf (ax node.m))

abbrev pub after_handle : Node → Finding → Outcome
after_handle node (known n t) = changed (at_count (with_handle node t) n)
after_handle node (unknown n) =
    changed
    (at_count
    (with_handle (with_entry node (leaf (ax node.m)) (map (last_message node) node.configs)) (leaf (entry (length node.know.entries + 1))))
    n)
after_handle node (splits outcome) = outcome

-- Then a composition with the value of an entry is recorded for it.
abbrev pub entry_value : ℕ → SymbolicConfig → Tree
entry_value e c = numbered c.values e (leaf (entry e))

-- the configurations in which a symbol stands at the root of the entry's value
abbrev pub is_composed : Tree → Bool
is_composed (leaf x) = false
is_composed (app f ts) = true

abbrev pub composing : Node → ℕ → List (SymbolicConfig × Question)
composing node e =
    map (λ c. (c, composition node (entry_value e c))) (filter (λ c. is_composed (entry_value e c)) node.configs)

-- each tree once, in order
abbrev pub each_tree_once : List Tree → List Tree
each_tree_once [] = []
each_tree_once (t ∷ ts) = t ∷ filter (λ u. not (same u t)) (each_tree_once ts)

abbrev pub record_at : ℕ → Tree → List Entry → List Entry
record_at i t [] = []
record_at zero t (e ∷ es) = e ∷ es
record_at (suc zero) t (e ∷ es) = record { recipe = e.recipe; level = e.level; composition = Some t } ∷ es
record_at (suc (suc i)) t (e ∷ es) = e ∷ record_at (suc i) t es

abbrev pub with_composition : Node → ℕ → Tree → Node
with_composition node e t =
    record node { know = record { entries = record_at e t node.know.entries; handles = node.know.handles } }

abbrev pub HasComposition : Node → ℕ → Bool → Type 0
HasComposition node e b = (x : Entry) × (entry_at node.know e ≡ Some x) × (is_some x.composition ≡ b)

-- Each of the trees is the entry's in all configurations: the first is recorded, where there is one.
abbrev pub after_trees : Node → ℕ → List Tree → Pass → Pass
after_trees node e ts (ends outcome) = ends outcome
after_trees node e [] (passes n) = passes n
after_trees node e (t ∷ ts) (passes n) = ends (changed (at_count (with_composition node e t) n))

-- For an entry without one, a composition is asked for in each configuration, and then each tree that was found is compared
-- with the entry in all.
pub data Composes (node : Node) (e : ℕ) (n : ℕ) : Pass → Type 0 where
  recorded_before : {pass : Pass} → HasComposition node e true → pass ≡ passes n → Composes node e n pass
  is_composed_of :
      {os : List (Option Found)} {steps : ℕ} {result pass : Pass}
      → HasComposition node e false
      → AsksEach AnswersWhole node (composing node e) (all_decided os) steps
      → InTurn (Compares node (map (entry_value e) node.configs)) (each_tree_once (found_trees os)) (n + steps) result
      → pass ≡ after_trees node e (each_tree_once (found_trees os)) result
      → Composes node e n pass
  open_composition :
      {s : GeneralSolution} {steps : ℕ} {split : List Node} {pass : Pass}
      → HasComposition node e false
      → AsksEach AnswersWhole node (composing node e) (divided s) steps
      → IsSplit (at_count node (n + steps)) s.bindings split
      → pass ≡ ends (kids (n + steps) split)
      → Composes node e n pass

-- Last, what destructors compute becomes known.

-- a fact: the destructor over the trees, with rigid names for the variables that are not the node's
abbrev pub fact_of : Node → Found → Tree
fact_of node f =
    substitute
    (counted_as as_rigid 0 (variables_in (λ y. not (is_among y (map (λ (p : ℕ × ℕ). p.0) (variables_of node)))) (tree_of f ∷ [])))
    (tree_of f)

-- the question of the fact's success, with the values of its trees in the configuration
abbrev pub succeeds : Theory → Node → Tree → SymbolicConfig → Question
succeeds theory node (leaf x) c = []
succeeds theory node (app g ts) c = success theory node g (map (value_in c) (arguments (app g ts)))

abbrev pub succeeding : Theory → Node → Tree → List (SymbolicConfig × Question)
succeeding theory node t = map (λ c. (c, succeeds theory node t c)) node.configs

abbrev pub found_values : List (Option Found) → List Tree
found_values [] = []
found_values (None ∷ os) = found_values os
found_values (Some f ∷ os) = value_of f ∷ found_values os

-- the recipe of a new entry: the fact, with the attacker's name `@0` for rigid names
abbrev pub with_own_name : Tree → Tree
with_own_name t = replace (rigid_names_to (λ k. leaf (public (At 0)))) t

abbrev pub after_item : Node → Tree → List Tree → Finding → Pass
after_item node t values (known n u) = passes n
after_item node t values (unknown n) = ends (changed (at_count (with_entry node (with_own_name t) values) n))
after_item node t values (splits outcome) = ends outcome

-- A fact's success is asked for in each configuration. Where it is true in all, what it computes is examined.
pub data UsesFact (theory : Theory) (node : Node) (t : Tree) (n : ℕ) : Pass → Type 0 where
  never :
      {os : List (Option Found)} {steps : ℕ} {pass : Pass}
      → AsksEach Answers node (succeeding theory node t) (all_decided os) steps
      → list_any is_true os ≡ false
      → pass ≡ passes (n + steps)
      → UsesFact theory node t n pass
  sometimes :
      {os : List (Option Found)} {steps : ℕ} {pass : Pass}
      → AsksEach Answers node (succeeding theory node t) (all_decided os) steps
      → list_any is_true os ≡ true
      → list_all is_true os ≡ false
      → pass ≡ ends (kids (n + steps) (partition (at_count node (n + steps)) (map is_true os)))
      → UsesFact theory node t n pass
  always :
      {os : List (Option Found)} {steps : ℕ} {finding : Finding} {pass : Pass}
      → AsksEach Answers node (succeeding theory node t) (all_decided os) steps
      → list_any is_true os ≡ true
      → list_all is_true os ≡ true
      → Examines node (found_values os) (n + steps) finding
      → pass ≡ after_item node t (found_values os) finding
      → UsesFact theory node t n pass
  open_success :
      {s : GeneralSolution} {steps : ℕ} {split : List Node} {pass : Pass}
      → AsksEach Answers node (succeeding theory node t) (divided s) steps
      → IsSplit (at_count node (n + steps)) s.bindings split
      → pass ≡ ends (kids (n + steps) split)
      → UsesFact theory node t n pass

-- a solution that is not plain divides, and a plain one is a fact
pub data UsesFound (theory : Theory) (node : Node) (f : Found) (n : ℕ) : Pass → Type 0 where
  fact : {pass : Pass} → IsPlainlyFound f → UsesFact theory node (fact_of node f) n pass → UsesFound theory node f n pass
  splits_on :
      {split : List Node} {pass : Pass}
      → ¬ IsPlainlyFound f → IsSplit (at_count node n) f.1.bindings split → pass ≡ ends (kids n split)
      → UsesFound theory node f n pass

-- the rule is asked for in the configuration, and what is found is gone through in order
pub data Computes (theory : Theory) (node : Node) (p : Rule × SymbolicConfig) (n : ℕ) : Pass → Type 0 where
  computes :
      {found : List Found} {moves : ℕ} {pass : Pass}
      → FindsAll (scene_of node p.1) (instance node p.0) found moves
      → InTurn (UsesFound theory node) found (n + (1 + moves)) pass
      → Computes theory node p n pass

abbrev pub each_rule : Theory → Node → List (Rule × SymbolicConfig)
each_rule theory node = flat_map (λ r. map (λ c. (r, c)) node.configs) theory.rules

-- Rule 3, for a node that is not closed: the last handle; then compositions, for the entries by number; then what destructors
-- compute, by the rules and for each in the configurations. Where all pass, the node is closed.
pub data Knows (theory : Theory) (node : Node) : Outcome → Type 0 where
  by_handle :
      {finding : Finding} {outcome : Outcome}
      → node.examine ≡ true
      → Examines node (map (last_message node) node.configs) node.count finding
      → outcome ≡ after_handle node finding
      → Knows theory node outcome
  by_composition :
      {outcome : Outcome}
      → node.examine ≡ false
      → InTurn (Composes node) (range_with_len 1 (length node.know.entries)) node.count (ends outcome)
      → Knows theory node outcome
  by_rule :
      {k : ℕ} {outcome : Outcome}
      → node.examine ≡ false
      → InTurn (Composes node) (range_with_len 1 (length node.know.entries)) node.count (passes k)
      → InTurn (Computes theory node) (each_rule theory node) k (ends outcome)
      → Knows theory node outcome
  by_closing :
      {k n : ℕ} {outcome : Outcome}
      → node.examine ≡ false
      → InTurn (Composes node) (range_with_len 1 (length node.know.entries)) node.count (passes k)
      → InTurn (Computes theory node) (each_rule theory node) k (passes n)
      → outcome ≡ changed (record node { closed = true; count = n })
      → Knows theory node outcome
