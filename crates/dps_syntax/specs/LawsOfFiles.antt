-- What a reader may expect of files and their faults. Each of these statements is the contract of a function of the crate.
use Rattle.std.specs.Prelude.{◌≡◌, ℕ, List, [], ◌⊎◌, None, All}
use Rattle.dps_lex.specs.Reading.{IsReading}
use Rattle.dps_lex.specs.declared.vocabulary.Token.{Token}
use Rattle.dps_lex.specs.declared.vocabulary.Fault.{Fault}
use Rattle.dps_lex.specs.declared.vocabulary.FaultKind.{FaultKind}
use Rattle.dps_syntax.specs.Files.{lexemes_at, trees_of, HasItsKeyword, IsFirstFault}
use Rattle.dps_syntax.specs.declared.grammar.Word.{Word}
use Rattle.dps_syntax.specs.declared.tree.Decl.{Decl}
use Rattle.dps_syntax.specs.Tree.{Parts, lexemes}
use Rattle.dps_syntax.specs.Grammar.{Derives, file, IsFileOf}
use Rattle.dps_syntax.specs.Depth.{AreShallow, depths, IsFaultAt}

-- Some tokens have at most one derivation tree: the grammar is not ambiguous.
abbrev pub NoTokensHaveTwoTrees : Type 0
NoTokensHaveTwoTrees = (trees others : Parts) → Derives file trees [] → Derives file others [] → lexemes trees ≡ lexemes others → trees ≡ others

-- These are the trees of a file with these words, within the depth.
pub record IsShallowFileOf (text : List Word) (trees : Parts) : Type 0 where
  pub file : IsFileOf text trees
  pub shallow : AreShallow (depths 0 trees)

-- No words have both a file within the depth and a first fault.
abbrev pub NoWordsHaveFileAndFault : Type 0
NoWordsHaveFileAndFault = (text : List Word) (trees : Parts) (place : ℕ) (kind : FaultKind) → IsShallowFileOf text trees → IsFaultAt text place kind → ⊥

-- Each list of words is that of a file within the depth, or has a first fault.
abbrev pub EachListHasFileOrFault : Type 0
EachListHasFileOrFault = (text : List Word) → ((trees : Parts) × IsShallowFileOf text trees) ⊎ ((place : ℕ) × ((kind : FaultKind) × IsFaultAt text place kind))

-- No words have two first faults.
abbrev pub NoWordsHaveTwoFaults : Type 0
NoWordsHaveTwoFaults = (text : List Word) (place other : ℕ) (kind second : FaultKind) → IsFaultAt text place kind → IsFaultAt text other second → (place ≡ other) × (kind ≡ second)

-- These are the trees of the text, within the depth.
pub record IsTreeOfText (bytes : List ℕ) (trees : Parts) : Type 0 where
  pub tokens : List Token
  pub reading : IsReading bytes tokens None
  pub derived : Derives file trees []
  pub spelled : lexemes trees ≡ lexemes_at bytes tokens
  pub shallow : AreShallow (depths 0 trees)

-- Each text is a file or has a first fault.
abbrev pub EachTextIsFileOrHasFault : Type 0
EachTextIsFileOrHasFault = (bytes : List ℕ) → ((trees : Parts) × IsTreeOfText bytes trees) ⊎ ((fault : Fault) × IsFirstFault bytes fault)

-- No text is a file and has a first fault.
abbrev pub NoTextIsFileAndHasFault : Type 0
NoTextIsFileAndHasFault = (bytes : List ℕ) (trees : Parts) (fault : Fault) → IsTreeOfText bytes trees → IsFirstFault bytes fault → ⊥

-- No text has two first faults.
abbrev pub NoTextHasTwoFaults : Type 0
NoTextHasTwoFaults = (bytes : List ℕ) (fault other : Fault) → IsFirstFault bytes fault → IsFirstFault bytes other → fault ≡ other

-- The trees are those of declarations that begin with their keywords.
pub record AreDeclared (trees : Parts) : Type 0 where
  pub decls : List Decl
  pub same : trees_of decls ≡ trees
  pub keywords : All HasItsKeyword decls

-- The trees of a text are those of declarations.
abbrev pub TreesAreDeclared : Type 0
TreesAreDeclared = (bytes : List ℕ) (trees : Parts) → IsTreeOfText bytes trees → AreDeclared trees
