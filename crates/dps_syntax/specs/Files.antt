-- Files as they are read from the tokens of a text.
use Rattle.std.specs.Prelude.{◌≡◌, ◌<◌, ℕ, List, [], ◌∷◌, ◌++◌, Option, Some, None, All, length, map, slice_get, slice_range, MatchOption}
use Rattle.dps_lex.specs.Reading.{IsReading, line_behind, column_behind}
use Rattle.dps_lex.specs.declared.vocabulary.TokenKind.{TokenKind}
use Rattle.dps_lex.specs.declared.vocabulary.TokenKind.TheVariants as keyword
use Rattle.dps_lex.specs.declared.vocabulary.Token.{Token}
use Rattle.dps_lex.specs.declared.vocabulary.Fault.{Fault}
use Rattle.dps_syntax.specs.declared.grammar.Word.{Word}
use Rattle.dps_syntax.specs.declared.tree.Decl.{Decl}
use Rattle.dps_syntax.specs.declared.tree.Decl.TheVariants.{Free, Const, Fun, Reduc, Define, Query}
use Rattle.dps_syntax.specs.declared.tree.File.{File}
use Rattle.dps_syntax.specs.declared.refusal.SyntaxRefusal.{SyntaxRefusal}
use Rattle.dps_syntax.specs.declared.refusal.SyntaxRefusal.TheVariants.{Fault as Faulty, Memory}
use Rattle.dps_syntax.specs.Tree.{Lexeme, Parts, none, token as leaf, inner, Derivation, lexemes, word_of}
use Rattle.dps_syntax.specs.Grammar.{Derives, file}
use Rattle.dps_syntax.specs.Depth.{AreShallow, depths, Begins, IsFaultAt}

-- A token of a text, with its bytes.
abbrev pub lexeme_at : List ℕ → Token → Lexeme
lexeme_at bytes token = record { kind = token.kind; text = slice_range bytes token.start token.end; line = token.line; column = token.column }

abbrev pub lexemes_at : List ℕ → List Token → List Lexeme
lexemes_at bytes tokens = map (lexeme_at bytes) tokens

-- What the grammar sees of some tokens.
abbrev pub words_at : List ℕ → List Token → List Word
words_at bytes tokens = map (λ token. word_of (lexeme_at bytes token)) tokens

-- These are the first tokens of the text, in order.
abbrev pub AreFirstTokens : List ℕ → List Token → Type 0
AreFirstTokens bytes tokens = (more : List Token) × ((stop : Option Fault) × IsReading bytes (tokens ++ more) stop)

-- The tree of a declaration, and the keyword that says which one it is.
abbrev pub tree_of : Decl → Derivation
tree_of (Free tree) = tree
tree_of (Const tree) = tree
tree_of (Fun tree) = tree
tree_of (Reduc tree) = tree
tree_of (Define tree) = tree
tree_of (Query tree) = tree

abbrev pub keyword_of : Decl → TokenKind
keyword_of (Free tree) = keyword.Free
keyword_of (Const tree) = keyword.Const
keyword_of (Fun tree) = keyword.Fun
keyword_of (Reduc tree) = keyword.Reduc
keyword_of (Define tree) = keyword.Let
keyword_of (Query tree) = keyword.Query

-- The kind of the first token, where a token is the first part.
abbrev pub first_kind : Parts → Option TokenKind
first_kind none = None
first_kind (leaf lexeme parts) = Some lexeme.kind
first_kind (inner p inside parts) = None

-- The declaration begins with its keyword.
abbrev pub HasItsKeyword : Decl → Type 0
HasItsKeyword decl = first_kind (tree_of decl).parts ≡ Some (keyword_of decl)

-- The trees of some declarations.
abbrev pub trees_of : List Decl → Parts
trees_of [] = none
trees_of (decl ∷ decls) = inner (tree_of decl).production (tree_of decl).parts (trees_of decls)

-- The file with these tokens: its derivation by the grammar, within the depth.
pub record IsFileOfTokens (tokens : List Lexeme) (found : File) : Type 0 where
  pub derived : Derives file (trees_of found.declarations.items) []
  pub spelled : lexemes (trees_of found.declarations.items) ≡ tokens
  pub shallow : AreShallow (depths 0 (trees_of found.declarations.items))
  pub keywords : All HasItsKeyword found.declarations.items

-- The fault stands at the token with this index, or at the end of the text where there is no such token.
abbrev pub StandsAt : List ℕ → List Token → ℕ → Fault → Type 0
StandsAt bytes tokens place fault =
    MatchOption (slice_get tokens place) ((fault.line ≡ line_behind bytes) × (fault.column ≡ column_behind bytes)) (λ token. (fault.line ≡ token.line) × (fault.column ≡ token.column))

-- The first fault of the tokens, at the token with this index or behind them.
pub record IsSyntaxFault (bytes : List ℕ) (tokens : List Token) (place : ℕ) (fault : Fault) : Type 0 where
  pub first : IsFaultAt (words_at bytes tokens) place fault.kind
  pub stands : StandsAt bytes tokens place fault

-- The tokens are refused by their first fault, or for want of memory.
abbrev pub AreRefused : List ℕ → List Token → SyntaxRefusal → Type 0
AreRefused bytes tokens (Faulty fault) = (place : ℕ) × IsSyntaxFault bytes tokens place fault
AreRefused bytes tokens Memory = Unit {0}

-- The text is this file.
pub record IsFileOfText (bytes : List ℕ) (found : File) : Type 0 where
  pub tokens : List Token
  pub reading : IsReading bytes tokens None
  pub file : IsFileOfTokens (lexemes_at bytes tokens) found

-- The first fault of a text. A fault of the syntax at a token is before any lexical fault, and a lexical fault is first
-- where some file begins with the tokens before it. Else it is the end that no file has there.
pub data IsFirstFault (bytes : List ℕ) (fault : Fault) : Type 0 where
  at_token : (tokens : List Token) (stop : Option Fault) (place : ℕ) → IsReading bytes tokens stop → place < length tokens → IsSyntaxFault bytes tokens place fault → IsFirstFault bytes fault
  lexical : (tokens : List Token) → IsReading bytes tokens (Some fault) → Begins (words_at bytes tokens) → IsFirstFault bytes fault
  at_end : (tokens : List Token) → IsReading bytes tokens None → IsSyntaxFault bytes tokens (length tokens) fault → IsFirstFault bytes fault

-- The text is refused by its first fault, or for want of memory.
abbrev pub IsRefused : List ℕ → SyntaxRefusal → Type 0
IsRefused bytes (Faulty fault) = IsFirstFault bytes fault
IsRefused bytes Memory = Unit {0}
