-- How deep words stand, and the first fault of a list of words.
use Rattle.std.specs.Prelude.{◌≡◌, ℕ, ◌+◌, ◌≤◌, ◌<◌, List, [], ◌∷◌, ◌++◌, Some, All, length, take, slice_get}
use Rattle.dps_lex.specs.declared.vocabulary.FaultKind.{FaultKind}
use Rattle.dps_lex.specs.declared.vocabulary.FaultKind.TheVariants.{UnexpectedToken, UnexpectedEnd, TooDeep}
use Rattle.dps_syntax.specs.declared.grammar.Word.{Word}
use Rattle.dps_syntax.specs.declared.grammar.Production.{Production}
use Rattle.dps_syntax.specs.declared.grammar.Production.TheVariants as production
use Rattle.dps_syntax.specs.Tree.{Parts, none, token, inner}
use Rattle.dps_syntax.specs.Grammar.{IsFile, IsFileOf}

-- The greatest depth.
abbrev pub deepest : ℕ
deepest = 200

-- The productions whose nesting is counted.
abbrev pub own_depth : Production → ℕ
own_depth production.Decl = 0
own_depth production.Ids = 0
own_depth production.Rule = 0
own_depth production.Query = 0
own_depth production.Par = 0
own_depth production.Sum = 0
own_depth production.Pre = 1
own_depth production.Pattern = 1
own_depth production.Term = 1

-- For each word, in order, how many counted productions hold it, where `depth` of them are open already.
abbrev pub depths : ℕ → Parts → List ℕ
depths depth none = []
depths depth (token lexeme parts) = depth ∷ depths depth parts
depths depth (inner p inside parts) = depths (depth + own_depth p) inside ++ depths depth parts

-- None of these is too deep.
abbrev pub AreShallow : List ℕ → Type 0
AreShallow ds = All (λ depth. depth ≤ deepest) ds

-- Some file begins with these words, and in it none of them is too deep.
pub record Begins (front : List Word) : Type 0 where
  pub more : List Word
  pub trees : Parts
  pub file : IsFileOf (front ++ more) trees
  pub shallow : AreShallow (take (length front) (depths 0 trees))

-- A file begins so, and none goes on with this word.
pub record IsUnexpected (front : List Word) (next : Word) : Type 0 where
  pub begins : Begins front
  pub stuck : (more : List Word) → IsFile (front ++ next ∷ more) → ⊥

-- A file begins so, and none ends so.
pub record IsCutShort (front : List Word) : Type 0 where
  pub begins : Begins front
  pub stuck : IsFile front → ⊥

-- A file begins so, and one goes on with this word, in which it is the first that is too deep. So a counted production
-- of depth `deepest` + 1 begins with it.
pub record IsTooDeep (front : List Word) (next : Word) : Type 0 where
  pub begins : Begins front
  pub more : List Word
  pub trees : Parts
  pub file : IsFileOf (front ++ next ∷ more) trees
  pub depth : ℕ
  pub stands : slice_get (depths 0 trees) (length front) ≡ Some depth
  pub deep : deepest < depth

-- The first fault of the words is of this kind, and stands at the word with this index, or behind the last one.
abbrev pub IsFaultAt : List Word → ℕ → FaultKind → Type 0
IsFaultAt text place UnexpectedToken = (next : Word) × (slice_get text place ≡ Some next) × IsUnexpected (take place text) next
IsFaultAt text place TooDeep = (next : Word) × (slice_get text place ≡ Some next) × IsTooDeep (take place text) next
IsFaultAt text place UnexpectedEnd = (place ≡ length text) × IsCutShort text
IsFaultAt text place _ = ⊥
