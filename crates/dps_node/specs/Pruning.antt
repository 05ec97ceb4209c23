-- Questions of which asks are left out that nothing solves.
use Rattle.std.specs.Prelude.{◌↔◌, ℕ, List, [], ◌∷◌, map}
use Rattle.dps_unify.specs.Unifier.{IsNotUnifiable}
use Rattle.dps_symeval.specs.Cases.{Case, IsPruned}
use Rattle.dps_node.specs.Node.{SymbolicConfig, Node}
use Rattle.dps_node.specs.Questions.{Query, Question, of_case, Answer, Answers, AnswersWhole, Asks, Replies, AsksEach}

-- the asks in order, some of those left out whose equations nothing makes true
pub data IsThinned : Question → Question → Type 0 where
  all_asked : IsThinned [] []
  asks : {q : Query} {all kept : Question} → IsThinned all kept → IsThinned (q ∷ all) (q ∷ kept)
  passes : {q : Query} {all kept : Question} → IsNotUnifiable q.ask.equations → IsThinned all kept → IsThinned (q ∷ all) kept

-- the same questions in the same configurations, each thinned
pub data AreThinned : List (SymbolicConfig × Question) → List (SymbolicConfig × Question) → Type 0 where
  none_asked : AreThinned [] []
  next_asked :
      {c : SymbolicConfig} {all kept : Question} {others rest : List (SymbolicConfig × Question)}
      → IsThinned all kept → AreThinned others rest → AreThinned ((c, all) ∷ others) ((c, kept) ∷ rest)

-- a question and what is left of it have the same answers, with the same steps
abbrev pub HaveSameAnswers : Node → Question → Question → Type 0
HaveSameAnswers node all kept =
    (c : SymbolicConfig) (answer : Answer) (steps : ℕ)
    → (Asks Answers node c all answer steps ↔ Asks Answers node c kept answer steps)
    × (Asks AnswersWhole node c all answer steps ↔ Asks AnswersWhole node c kept answer steps)

-- What is left out never changes an answer or a count: of the code's lists of cases, of any question, and of questions in turn.
abbrev pub PrunedCasesAnswerAlike : Type 0
PrunedCasesAnswerAlike = (node : Node) (all kept : List Case) → IsPruned all kept → HaveSameAnswers node (map of_case all) (map of_case kept)

abbrev pub ThinnedAnswerAlike : Type 0
ThinnedAnswerAlike = (node : Node) (all kept : Question) → IsThinned all kept → HaveSameAnswers node all kept

abbrev pub ThinnedReplyAlike : Type 0
ThinnedReplyAlike =
    (node : Node) (all kept : List (SymbolicConfig × Question)) (replies : Replies) (steps : ℕ)
    → AreThinned all kept
    → (AsksEach Answers node all replies steps ↔ AsksEach Answers node kept replies steps)
    × (AsksEach AnswersWhole node all replies steps ↔ AsksEach AnswersWhole node kept replies steps)
