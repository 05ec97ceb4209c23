-- What a true and what a false question say of each solution. The directions of the solver are premises.
use Rattle.std.specs.Prelude.{◌≡◌, ◌≢◌, ◌⊎◌, ℕ, List, map, length, All, Contains, Option, Some, None}
use Rattle.dps_terms.specs.declared.Sym.{Sym}
use Rattle.dps_signature.specs.declared.SymKind.TheVariants.{Destructor}
use Rattle.dps_terms.specs.Tree.{var, Tree, app, trees, StandsIn}
use Rattle.dps_terms.specs.Replace.{substitute, put_entries}
use Rattle.dps_signature.specs.Signature.{HasShape}
use Rattle.dps_signature.specs.Kinds.{IsPlain as IsMessageTerm}
use Rattle.dps_terms.specs.Views.{arguments}
use Rattle.dps_theory.specs.Theory.{Theory, IsAccepted}
use Rattle.dps_theory.specs.Evaluation.{Evaluates, AreEqual, IsMessage}
use Rattle.dps_unify.specs.Order.{level_of}
use Rattle.dps_solver.specs.Levels.{IsGroundUpTo, AnyRigidName}
use Rattle.dps_solver.specs.Scene.{Scene}
use Rattle.dps_solver.specs.Solutions.{IsSolution, valued, IsValuation, MeetsBy}
use Rattle.dps_solver.specs.Search.{GeneralSolution, IsPlain}
use Rattle.dps_directions.specs.Valid.{IsValid, Fits}
use Rattle.dps_directions.specs.Directions.{ListedMeet, MeetingAreListed}
use Rattle.dps_symeval.specs.Cases.{ClosesTerm}
use Rattle.dps_node.specs.Node.{SymbolicConfig, Node, variables_of, system_of, scene_of}
use Rattle.dps_node.specs.Questions.{Query, Question, Found, value_of, tree_of, first_free, test, eval, equal, success, tree, composition, decided, undecided, Answers, AnswersWhole, Asks}

-- the scene is valid, and each ask of the question fits it and has both directions
pub record IsSolved (names : ℕ → Type 0) (scene : Scene) (question : Question) : Type 0 where
  pub valid : IsValid names scene
  pub fits : (q : Query) → Contains question q → Fits scene q.ask
  pub meet : (q : Query) → Contains question q → ListedMeet names scene q.ask
  pub listed : (q : Query) → Contains question q → MeetingAreListed names scene q.ask

-- the solution, whose valuation is g, meets an ask of the question
pub record HoldsUnder (scene : Scene) (question : Question) (s : ℕ → Tree) (g : List Tree) : Type 0 where
  pub query : Query
  pub asked : Contains question query
  pub eta : ℕ → Tree
  pub trees : List Tree
  pub meets : MeetsBy scene query.ask s g eta trees

-- the question is decided so, read in either way
pub record IsDecided (node : Node) (c : SymbolicConfig) (question : Question) (o : Option Found) : Type 0 where
  pub steps : ℕ
  pub asks : Asks Answers node c question (decided o) steps ⊎ Asks AnswersWhole node c question (decided o) steps

-- s is a solution of the node whose valuation in the configuration is g
pub record IsUnder (names : ℕ → Type 0) (node : Node) (c : SymbolicConfig) (question : Question) (s : ℕ → Tree) (g : List Tree) : Type 0 where
  pub solved : IsSolved names (scene_of node c) question
  pub solution : IsSolution names (system_of node) s
  pub valuation : IsValuation (scene_of node c) s g

-- messages stand for the variables of the term, all of which are the node's
pub record IsTermUnder (theory : Theory) (node : Node) (z : ℕ → Tree) (u : Tree) : Type 0 where
  pub closes : ClosesTerm theory (first_free node) u z
  pub known : (x : ℕ) → StandsIn (var x) u → (l : ℕ) × (level_of (variables_of node) x ≡ Some l)

-- the term becomes a message without destructors, and its variables are the node's
pub record IsMessageUnder (theory : Theory) (node : Node) (z : ℕ → Tree) (u : Tree) : Type 0 where
  pub plain : IsMessageTerm theory.shapes (substitute z u)
  pub known : (x : ℕ) → StandsIn (var x) u → (l : ℕ) × (level_of (variables_of node) x ≡ Some l)

-- what holds where the question is true, and where it is false
abbrev pub Tells : Option Found → (Found → Type 0) → Type 0 → Type 0
Tells (Some used) whenever never = whenever used
Tells None whenever never = never

-- A true question holds under each solution, by the ask that is used; a false one under none; and an open one divides by a
-- solution that is not plain.
abbrev pub TrueHolds : (ℕ → Type 0) → Type 0
TrueHolds names =
    (node : Node) (c : SymbolicConfig) (question : Question) (used : Found) (s : ℕ → Tree) (g : List Tree)
    → IsUnder names node c question s g → IsDecided node c question (Some used)
    → (h : HoldsUnder (scene_of node c) question s g) × (h.query ≡ used.0)

abbrev pub FalseHoldsNever : (ℕ → Type 0) → Type 0
FalseHoldsNever names =
    (node : Node) (c : SymbolicConfig) (question : Question) (s : ℕ → Tree) (g : List Tree)
    → IsUnder names node c question s g → IsDecided node c question None
    → ¬ HoldsUnder (scene_of node c) question s g

abbrev pub OpenIsNotPlain : Type 0
OpenIsNotPlain =
    (node : Node) (c : SymbolicConfig) (question : Question) (divides : GeneralSolution) (steps : ℕ)
    → Asks Answers node c question (undecided divides) steps ⊎ Asks AnswersWhole node c question (undecided divides) steps
    → ¬ IsPlain divides

-- Where a test is true, the terms evaluate to one value under each solution; where it is false, under none.
abbrev pub TestTells : (ℕ → Type 0) → Type 0
TestTells names =
    (theory : Theory) (node : Node) (c : SymbolicConfig) (u v : Tree) (o : Option Found) (s : ℕ → Tree) (g : List Tree)
    → IsAccepted theory
    → IsUnder names node c (test theory node u v) s g → IsDecided node c (test theory node u v) o
    → IsTermUnder theory node (valued g s) u → IsTermUnder theory node (valued g s) v
    → Tells o (λ used. AreEqual theory (substitute (valued g s) u) (substitute (valued g s) v)) (¬ AreEqual theory (substitute (valued g s) u) (substitute (valued g s) v))

-- Where eval is true, the term evaluates to what is found, with the solution's values; where it is false, it is no message.
abbrev pub EvalTells : (ℕ → Type 0) → Type 0
EvalTells names =
    (theory : Theory) (node : Node) (c : SymbolicConfig) (u : Tree) (o : Option Found) (s : ℕ → Tree) (g : List Tree)
    → IsAccepted theory
    → IsUnder names node c (eval theory node u) s g → IsDecided node c (eval theory node u) o
    → IsTermUnder theory node (valued g s) u
    → Tells o (λ used. Evaluates theory (substitute (valued g s) u) (substitute (valued g s) (value_of used))) (¬ IsMessage theory (substitute (valued g s) u))

-- the terms are equal under each solution, or under none
abbrev pub EqualTells : (ℕ → Type 0) → Type 0
EqualTells names =
    (node : Node) (c : SymbolicConfig) (t u : Tree) (o : Option Found) (s : ℕ → Tree) (g : List Tree)
    → IsUnder names node c (equal t u) s g → IsDecided node c (equal t u) o
    → ((x : ℕ) → StandsIn (var x) t ⊎ StandsIn (var x) u → (l : ℕ) × (level_of (variables_of node) x ≡ Some l))
    → Tells o (λ used. substitute (valued g s) t ≡ substitute (valued g s) u) (substitute (valued g s) t ≢ substitute (valued g s) u)

-- The destructor computes on the values, what is found, or it does not.
abbrev pub SuccessTells : (ℕ → Type 0) → Type 0
SuccessTells names =
    (theory : Theory) (node : Node) (c : SymbolicConfig) (f : Sym) (values : List Tree) (o : Option Found) (s : ℕ → Tree) (g : List Tree)
    → IsAccepted theory
    → HasShape theory.shapes Destructor f (length values)
    → IsUnder names node c (success theory node f values) s g → IsDecided node c (success theory node f values) o
    → All (λ t. IsMessageUnder theory node (valued g s) t) values
    → Tells o
    (λ used. Evaluates theory (app f (trees (map (substitute (valued g s)) values))) (substitute (valued g s) (value_of used)))
    (¬ IsMessage theory (app f (trees (map (substitute (valued g s)) values))))

-- no ground tree has the value where `tree` is false
abbrev pub TreeFalse : (ℕ → Type 0) → Type 0
TreeFalse names =
    (node : Node) (c : SymbolicConfig) (t u : Tree) (s : ℕ → Tree) (g : List Tree)
    → IsUnder names node c (tree node t) s g → IsDecided node c (tree node t) None
    → IsGroundUpTo AnyRigidName node.m node.know node.m u
    → put_entries g u ≢ substitute (valued g s) t

-- no composed ground tree has the value where `composition` is false
abbrev pub CompositionFalse : (ℕ → Type 0) → Type 0
CompositionFalse names =
    (node : Node) (c : SymbolicConfig) (t : Tree) (us : List Tree) (s : ℕ → Tree) (g : List Tree)
    → IsUnder names node c (composition node t) s g → IsDecided node c (composition node t) None
    → All (λ u. IsGroundUpTo AnyRigidName node.m node.know node.m u) us
    → map (put_entries g) us ≢ map (substitute (valued g s)) (arguments t)

-- Where `tree` is true, the tree that is found is over the node's variables, its instance is of level at most m, and has the
-- term's value.
pub record IsTreeOf (node : Node) (s : ℕ → Tree) (g : List Tree) (t found : Tree) : Type 0 where
  pub known : (x : ℕ) → StandsIn (var x) found → (l : ℕ) × (level_of (variables_of node) x ≡ Some l)
  pub level : IsGroundUpTo AnyRigidName node.m node.know node.m (substitute s found)
  pub value : put_entries g (substitute s found) ≡ substitute (valued g s) t

abbrev pub TreeTrue : (ℕ → Type 0) → Type 0
TreeTrue names =
    (node : Node) (c : SymbolicConfig) (t : Tree) (used : Found) (s : ℕ → Tree) (g : List Tree)
    → IsUnder names node c (tree node t) s g → IsDecided node c (tree node t) (Some used)
    → ((x : ℕ) → StandsIn (var x) t → (l : ℕ) × (level_of (variables_of node) x ≡ Some l))
    → IsTreeOf node s g t (tree_of used)

-- what a true evaluation finds is over the node's variables, where the node has a solution
abbrev pub EvalIsKnown : (ℕ → Type 0) → Type 0
EvalIsKnown names =
    (theory : Theory) (node : Node) (c : SymbolicConfig) (u : Tree) (used : Found) (s : ℕ → Tree) (g : List Tree)
    → IsAccepted theory
    → IsUnder names node c (eval theory node u) s g → IsDecided node c (eval theory node u) (Some used)
    → IsTermUnder theory node (valued g s) u
    → (x : ℕ) → StandsIn (var x) (value_of used) → (l : ℕ) × (level_of (variables_of node) x ≡ Some l)
