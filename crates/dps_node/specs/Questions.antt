-- Questions in a configuration of a node, their answers, and the steps that they take.
use Rattle.std.specs.Prelude.{◌≡◌, ℕ, ◌+◌, List, [], ◌∷◌, ◌++◌, Option, Some, None, map, length, All}
use Rattle.std.specs.List.{zip, range_with_len}
use Rattle.dps_terms.specs.declared.Sym.{Sym}
use Rattle.dps_terms.specs.Tree.{var, Tree, leaf}
use Rattle.dps_terms.specs.Replace.{substitute}
use Rattle.dps_terms.specs.Views.{arguments}
use Rattle.dps_terms.specs.Bindings.{image}
use Rattle.dps_theory.specs.Theory.{Rule, Theory}
use Rattle.dps_theory.specs.Overlaps.{room}
use Rattle.dps_solver.specs.Scene.{Scene, Ask}
use Rattle.dps_solver.specs.declared.scene.Target.{Target}
use Rattle.dps_solver.specs.Search.{GeneralSolution, IsPlain, root_over, argument_targets, Finds}
use Rattle.dps_symeval.specs.Cases.{Case, cases, equal_cases, rules_of, rule_from, fits_rule}
use Rattle.dps_node.specs.Node.{SymbolicConfig, Node, scene_of}

-- an ask, with the term whose value or tree is wanted
pub record Query : Type 0 where
  pub ask : Ask
  pub result : Tree

-- a question is a list of asks; what is found is their solutions in order
abbrev pub Question : Type 0
Question = List Query

abbrev pub Found : Type 0
Found = Query × GeneralSolution

-- the wanted term as a value, and as a tree
abbrev pub value_of : Found → Tree
value_of f = substitute f.1.theta f.0.result

abbrev pub tree_of : Found → Tree
tree_of f = substitute (image (zip (map (λ (z : Target). z.name) f.0.ask.targets) f.1.answers)) f.0.result

-- the first number that no variable of the node has; rule variables are counted from it, and the names of targets after
-- them
abbrev pub first_free : Node → ℕ
first_free node = length node.levels + 1

abbrev pub of_case : Case → Query
of_case c = record { ask = record { equations = c.equations; targets = [] }; result = c.result }

-- whether the terms evaluate to one value
abbrev pub test : Theory → Node → Tree → Tree → Question
test theory node u v = map of_case (equal_cases theory (first_free node) u v)

-- what the term evaluates to
abbrev pub eval : Theory → Node → Tree → Question
eval theory node u = map of_case (cases theory (first_free node) u)

-- whether the terms are equal
abbrev pub equal : Tree → Tree → Question
equal t u = record { ask = record { equations = (t, u) ∷ []; targets = [] }; result = t } ∷ []

-- a tree with this value
abbrev pub tree : Node → Tree → Question
tree node t =
    let z : ℕ = first_free node in
    record {
      ask = record { equations = []; targets = record { name = z; level = node.m; term = t } ∷ [] };
      result = leaf (var z);
    } ∷ []

-- a composed tree with this value
abbrev pub composition : Node → Tree → Question
composition node t =
    let numbers : List ℕ = range_with_len (first_free node) (length (arguments t)) in
    record {
      ask = record {
        equations = [];
        targets = argument_targets (record { name = 0; level = node.m; term = t }) numbers (arguments t);
      };
      result = root_over t numbers;
    } ∷ []

-- trees to which the rule of the destructor applies
abbrev pub instance : Node → Rule → Question
instance node rule =
    let r : Rule = rule_from (first_free node) rule in
    let numbers : List ℕ = range_with_len (first_free node + room rule) (length (arguments r.left)) in
    record {
      ask = record {
        equations = [];
        targets = argument_targets (record { name = 0; level = node.m; term = r.left }) numbers (arguments r.left);
      };
      result = root_over r.left numbers;
    } ∷ []

-- whether the destructor computes on the values
abbrev pub by_rule : Node → List Tree → Rule → Query
by_rule node values rule =
    let r : Rule = rule_from (first_free node) rule in
    record { ask = record { equations = fits_rule values r; targets = [] }; result = r.right }

abbrev pub success : Theory → Node → Sym → List Tree → Question
success theory node g values = map (by_rule node values) (rules_of theory g)

-- all solutions of the asks, in order, with the sum of the moves
pub data FindsAll (scene : Scene) : Question → List Found → ℕ → Type 0 where
  no_ask : FindsAll scene [] [] 0
  an_ask :
      {q : Query} {qs : Question} {here : List GeneralSolution} {others found : List Found} {first after moves : ℕ}
      → Finds scene q.ask here first
      → FindsAll scene qs others after
      → found ≡ map (λ s. (q, s)) here ++ others
      → moves ≡ first + after
      → FindsAll scene (q ∷ qs) found moves

-- a question is decided, with what is used where it is true, or open, and then a solution divides the node
pub data Answer : Type 0 where
  decided : Option Found → Answer
  undecided : GeneralSolution → Answer

abbrev pub IsPlainlyFound : Found → Type 0
IsPlainlyFound f = IsPlain f.1

-- A question is true where a plain solution is found, and the first one is used; it is false where none is found; else the
-- first one divides.
pub data Answers : List Found → Answer → Type 0 where
  holds :
      {found : List Found} {answer : Answer} (before after : List Found) (f : Found)
      → found ≡ before ++ (f ∷ after) → All (λ g. ¬ IsPlainlyFound g) before → IsPlainlyFound f → answer ≡ decided (Some f)
      → Answers found answer
  fails : {answer : Answer} → answer ≡ decided None → Answers [] answer
  open_at :
      {found : List Found} {f : Found} {answer : Answer}
      → All (λ g. ¬ IsPlainlyFound g) (f ∷ found) → answer ≡ undecided f.1
      → Answers (f ∷ found) answer

-- Read in whole, it is decided where all solutions are plain, and else the first that is not divides.
pub data AnswersWhole : List Found → Answer → Type 0 where
  holds_by_all :
      {found : List Found} {f : Found} {answer : Answer} → All IsPlainlyFound (f ∷ found) → answer ≡ decided (Some f) → AnswersWhole (f ∷ found) answer
  fails_by_all : {answer : Answer} → answer ≡ decided None → AnswersWhole [] answer
  open_in :
      {found : List Found} {answer : Answer} (before after : List Found) (f : Found)
      → found ≡ before ++ (f ∷ after) → All IsPlainlyFound before → ¬ IsPlainlyFound f → answer ≡ undecided f.1
      → AnswersWhole found answer

-- The question is asked in the scene: one step, and one for each move.
pub record AsksIn (reads : List Found → Answer → Type 0) (scene : Scene) (question : Question) (answer : Answer) (steps : ℕ) : Type 0 where
  pub found : List Found
  pub moves : ℕ
  pub finds : FindsAll scene question found moves
  pub answers : reads found answer
  pub counted : steps ≡ 1 + moves

-- and in a configuration of a node
abbrev pub Asks : (List Found → Answer → Type 0) → Node → SymbolicConfig → Question → Answer → ℕ → Type 0
Asks reads node c question answer steps = AsksIn reads (scene_of node c) question answer steps

-- what comes of several questions: the answers of all, or the first solution that divides
pub data Replies : Type 0 where
  all_decided : List (Option Found) → Replies
  divided : GeneralSolution → Replies

abbrev pub after_answer : Option Found → Replies → Replies
after_answer o (all_decided os) = all_decided (o ∷ os)
after_answer o (divided s) = divided s

-- questions in several configurations, in order, up to the first that is open
pub data AsksEach (reads : List Found → Answer → Type 0) (node : Node) : List (SymbolicConfig × Question) → Replies → ℕ → Type 0 where
  none_left : AsksEach reads node [] (all_decided []) 0
  one_decided :
      {c : SymbolicConfig} {question : Question} {others : List (SymbolicConfig × Question)}
      {o : Option Found} {rest replies : Replies} {first after steps : ℕ}
      → Asks reads node c question (decided o) first
      → AsksEach reads node others rest after
      → replies ≡ after_answer o rest
      → steps ≡ first + after
      → AsksEach reads node ((c, question) ∷ others) replies steps
  one_open :
      {c : SymbolicConfig} {question : Question} {others : List (SymbolicConfig × Question)} {s : GeneralSolution} {steps : ℕ}
      → Asks reads node c question (undecided s) steps
      → AsksEach reads node ((c, question) ∷ others) (divided s) steps
