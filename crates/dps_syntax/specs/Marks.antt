-- Trees as marks, in the order in which they are read: the code's own form of them.
use Rattle.std.specs.Prelude.{◌≡◌, ℕ, ◌+◌, ◌-◌, true, false, List, [], ◌∷◌, ◌++◌}
use Rattle.dps_syntax.specs.declared.grammar.Word.{Word}
use Rattle.dps_syntax.specs.declared.grammar.Production.{Production}
use Rattle.dps_syntax.specs.declared.grammar.More.{More as Option_of}
use Rattle.dps_syntax.specs.declared.grammar.Symbol.{Symbol}
use Rattle.dps_syntax.specs.declared.grammar.Symbol.TheVariants.{Sign, Inner, More, Close}
use Rattle.dps_syntax.specs.declared.grammar.Mark.{Mark}
use Rattle.dps_syntax.specs.declared.grammar.Mark.TheVariants as mark
use Rattle.dps_syntax.specs.Tree.{Parts, none, token, inner as within, word_of}
use Rattle.dps_syntax.specs.Grammar.{alternatives, continuation, takes, goes_on, IsOneOf, file}
use Rattle.dps_syntax.specs.Depth.{own_depth, AreShallow}

-- the marks of some parts, and others behind them
abbrev pub marks : Parts → List Mark → List Mark
marks none ms = ms
marks (token lexeme parts) ms = mark.Token (word_of lexeme) ∷ marks parts ms
marks (within p inside parts) ms = mark.Open p ∷ marks inside (mark.Close p ∷ marks parts ms)

-- the words of some marks
abbrev pub mark_words : List Mark → List Word
mark_words [] = []
mark_words (mark.Open p ∷ ms) = mark_words ms
mark_words (mark.Token w ∷ ms) = w ∷ mark_words ms
mark_words (mark.Close p ∷ ms) = mark_words ms

-- The marks of what the symbols stand for, in order, by the rules of the grammar.
pub data Walks : List Symbol → List Mark → Type 0 where
  done : Walks [] []
  sign : {k w : Word} {ss : List Symbol} {ms : List Mark} → takes k w ≡ true → Walks ss ms → Walks (Sign k ∷ ss) (mark.Token w ∷ ms)
  inner : {p : Production} {ss : List Symbol} {ms : List Mark} (items : List Symbol) → IsOneOf (alternatives p) items → Walks (items ++ Close p ∷ ss) ms → Walks (Inner p ∷ ss) (mark.Open p ∷ ms)
  close : {p : Production} {ss : List Symbol} {ms : List Mark} → Walks ss ms → Walks (Close p ∷ ss) (mark.Close p ∷ ms)
  taken : {m : Option_of} {ss : List Symbol} {ms : List Mark} → Walks (continuation m ++ ss) ms → Walks (More m ∷ ss) ms
  left : {m : Option_of} {ss : List Symbol} {ms : List Mark} → goes_on m (mark_words ms) ≡ false → Walks ss ms → Walks (More m ∷ ss) ms

-- for each word, how many counted productions hold it, where `depth` of them are open already
abbrev pub mark_depths : ℕ → List Mark → List ℕ
mark_depths depth [] = []
mark_depths depth (mark.Open p ∷ ms) = mark_depths (depth + own_depth p) ms
mark_depths depth (mark.Token w ∷ ms) = depth ∷ mark_depths depth ms
mark_depths depth (mark.Close p ∷ ms) = mark_depths (depth - own_depth p) ms

-- These are the marks of a file with these words, and none is too deep.
pub record IsShallowWalk (text : List Word) (trees : List Mark) : Type 0 where
  pub walked : Walks file trees
  pub spelled : mark_words trees ≡ text
  pub shallow : AreShallow (mark_depths 0 trees)
