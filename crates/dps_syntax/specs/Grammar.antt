-- The grammar of protocol files, and the derivation trees of its files.
use Rattle.std.specs.Prelude.{◌≡◌, Bool, true, false, ◌||◌, if◌then◌else◌, List, [], ◌∷◌, ◌++◌, Option, Some, None, ◌⊎◌}
use Rattle.std.specs.List.{list_any}
use denote.Enum.Bare.{sameb}
use Rattle.dps_lex.specs.contracts.vocabulary.TokenKind.{the_type}
use Rattle.dps_lex.specs.declared.vocabulary.TokenKind.{TokenKind}
use Rattle.dps_lex.specs.declared.vocabulary.TokenKind.TheVariants as token
use Rattle.dps_syntax.specs.declared.grammar.Word.{Word}
use Rattle.dps_syntax.specs.declared.grammar.Word.TheVariants.{Of, Zero}
use Rattle.dps_syntax.specs.declared.grammar.Production.{Production}
use Rattle.dps_syntax.specs.declared.grammar.Production.TheVariants as production
use Rattle.dps_syntax.specs.declared.grammar.More.{More as Option_of}
use Rattle.dps_syntax.specs.declared.grammar.More.TheVariants as more
use Rattle.dps_syntax.specs.declared.grammar.Symbol.{Symbol}
use Rattle.dps_syntax.specs.declared.grammar.Symbol.TheVariants.{Sign, Inner, More, Close}
use Rattle.dps_syntax.specs.Tree.{Lexeme, Parts, none, token as leaf, inner as within, word_of, words}

-- A token of this kind, and the number `0`.
abbrev pub sign_of : TokenKind → Symbol
sign_of kind = Sign (Of kind)

abbrev pub zero_sign : Symbol
zero_sign = Sign Zero

-- The alternatives of each production. In the usual notation, with [ ] round an option and { } round a repetition:
--
--   File = { Decl } Query
--   Decl = "free" Ids [ "[" "private" "]" ] "." | "const" Ids [ "[" "private" "]" ] "."
--       | "fun" id "/" number { "," id "/" number } "." | "reduc" Rule { ";" Rule } "." | "let" id [ "(" Ids ")" ] "=" Par "."
--   Ids = id { "," id }
--   Rule = id "(" Term { "," Term } ")" "->" Term
--   Query = "query" "trace_equiv" "(" Par "," Par ")" "."
--   Par = Sum { "|" Sum }
--   Sum = Pre { "+" Pre }
--   Pre = "0" | "(" Par ")" | "!" "^" number Pre | "new" id ";" Pre
--       | "in" "(" id "," Pattern ")" [ ";" Pre ] | "out" "(" id "," Term ")" [ ";" Pre ]
--       | "if" Term "=" Term "then" Pre [ "else" Pre ] | "let" Pattern "=" Term "in" Pre [ "else" Pre ]
--       | id [ "(" Term { "," Term } ")" ]
--   Pattern = id | "=" Term | "(" Pattern "," Pattern { "," Pattern } ")"
--   Term = id [ "(" [ Term { "," Term } ] ")" ] | "(" Term { "," Term } ")"
--
-- A chain of "|" is one Par and a chain of "+" one Sum, so that long chains are flat.
abbrev pub alternatives : Production → List (List Symbol)
alternatives production.Decl =
    (sign_of token.Free ∷ Inner production.Ids ∷ More more.Private ∷ sign_of token.Dot ∷ []) ∷
    (sign_of token.Const ∷ Inner production.Ids ∷ More more.Private ∷ sign_of token.Dot ∷ []) ∷
    (sign_of token.Fun ∷ sign_of token.Identifier ∷ sign_of token.Slash ∷ sign_of token.Number ∷ More more.Functions ∷ sign_of token.Dot ∷ []) ∷
    (sign_of token.Reduc ∷ Inner production.Rule ∷ More more.Rules ∷ sign_of token.Dot ∷ []) ∷
    (sign_of token.Let ∷ sign_of token.Identifier ∷ More more.Parameters ∷ sign_of token.Equals ∷ Inner production.Par ∷ sign_of token.Dot ∷ []) ∷
    []
alternatives production.Ids =
    (sign_of token.Identifier ∷ More more.Names ∷ []) ∷
    []
alternatives production.Rule =
    (sign_of token.Identifier ∷ sign_of token.OpenParenthesis ∷ Inner production.Term ∷ More more.Terms ∷ sign_of token.CloseParenthesis ∷ sign_of token.Arrow ∷ Inner production.Term ∷ []) ∷
    []
alternatives production.Query =
    (sign_of token.Query ∷ sign_of token.TraceEquiv ∷ sign_of token.OpenParenthesis ∷ Inner production.Par ∷ sign_of token.Comma ∷ Inner production.Par ∷ sign_of token.CloseParenthesis ∷ sign_of
    token.Dot ∷ []) ∷
    []
alternatives production.Par =
    (Inner production.Sum ∷ More more.Parallel ∷ []) ∷
    []
alternatives production.Sum =
    (Inner production.Pre ∷ More more.Choice ∷ []) ∷
    []
alternatives production.Pre =
    (zero_sign ∷ []) ∷
    (sign_of token.OpenParenthesis ∷ Inner production.Par ∷ sign_of token.CloseParenthesis ∷ []) ∷
    (sign_of token.Bang ∷ sign_of token.Caret ∷ sign_of token.Number ∷ Inner production.Pre ∷ []) ∷
    (sign_of token.New ∷ sign_of token.Identifier ∷ sign_of token.Semicolon ∷ Inner production.Pre ∷ []) ∷
    (sign_of token.In ∷ sign_of token.OpenParenthesis ∷ sign_of token.Identifier ∷ sign_of token.Comma ∷ Inner production.Pattern ∷ sign_of token.CloseParenthesis ∷ More more.Then ∷ []) ∷
    (sign_of token.Out ∷ sign_of token.OpenParenthesis ∷ sign_of token.Identifier ∷ sign_of token.Comma ∷ Inner production.Term ∷ sign_of token.CloseParenthesis ∷ More more.Then ∷ []) ∷
    (sign_of token.If ∷ Inner production.Term ∷ sign_of token.Equals ∷ Inner production.Term ∷ sign_of token.Then ∷ Inner production.Pre ∷ More more.Else ∷ []) ∷
    (sign_of token.Let ∷ Inner production.Pattern ∷ sign_of token.Equals ∷ Inner production.Term ∷ sign_of token.In ∷ Inner production.Pre ∷ More more.Else ∷ []) ∷
    (sign_of token.Identifier ∷ More more.Arguments ∷ []) ∷
    []
alternatives production.Pattern =
    (sign_of token.Identifier ∷ []) ∷
    (sign_of token.Equals ∷ Inner production.Term ∷ []) ∷
    (sign_of token.OpenParenthesis ∷ Inner production.Pattern ∷ sign_of token.Comma ∷ Inner production.Pattern ∷ More more.Patterns ∷ sign_of token.CloseParenthesis ∷ []) ∷
    []
alternatives production.Term =
    (sign_of token.Identifier ∷ More more.Brackets ∷ []) ∷
    (sign_of token.OpenParenthesis ∷ Inner production.Term ∷ More more.Terms ∷ sign_of token.CloseParenthesis ∷ []) ∷
    []

-- What an option stands for, where it is not left out. A repetition is an option that ends with itself.
abbrev pub continuation : Option_of → List Symbol
continuation more.Declarations = Inner production.Decl ∷ More more.Declarations ∷ []
continuation more.Private = sign_of token.OpenBracket ∷ sign_of token.Private ∷ sign_of token.CloseBracket ∷ []
continuation more.Functions = sign_of token.Comma ∷ sign_of token.Identifier ∷ sign_of token.Slash ∷ sign_of token.Number ∷ More more.Functions ∷ []
continuation more.Rules = sign_of token.Semicolon ∷ Inner production.Rule ∷ More more.Rules ∷ []
continuation more.Parameters = sign_of token.OpenParenthesis ∷ Inner production.Ids ∷ sign_of token.CloseParenthesis ∷ []
continuation more.Names = sign_of token.Comma ∷ sign_of token.Identifier ∷ More more.Names ∷ []
continuation more.Terms = sign_of token.Comma ∷ Inner production.Term ∷ More more.Terms ∷ []
continuation more.Parallel = sign_of token.Bar ∷ Inner production.Sum ∷ More more.Parallel ∷ []
continuation more.Choice = sign_of token.Plus ∷ Inner production.Pre ∷ More more.Choice ∷ []
continuation more.Then = sign_of token.Semicolon ∷ Inner production.Pre ∷ []
continuation more.Else = sign_of token.Else ∷ Inner production.Pre ∷ []
continuation more.Arguments = sign_of token.OpenParenthesis ∷ Inner production.Term ∷ More more.Terms ∷ sign_of token.CloseParenthesis ∷ []
continuation more.Patterns = sign_of token.Comma ∷ Inner production.Pattern ∷ More more.Patterns ∷ []
continuation more.Brackets = sign_of token.OpenParenthesis ∷ More more.Filling ∷ sign_of token.CloseParenthesis ∷ []
continuation more.Filling = Inner production.Term ∷ More more.Terms ∷ []

-- The words that begin a production.
abbrev pub firsts : Production → List Word
firsts production.Decl = Of token.Free ∷ Of token.Const ∷ Of token.Fun ∷ Of token.Reduc ∷ Of token.Let ∷ []
firsts production.Ids = Of token.Identifier ∷ []
firsts production.Rule = Of token.Identifier ∷ []
firsts production.Query = Of token.Query ∷ []
firsts production.Par = Zero ∷ Of token.OpenParenthesis ∷ Of token.Bang ∷ Of token.New ∷ Of token.In ∷ Of token.Out ∷ Of token.If ∷ Of token.Let ∷ Of token.Identifier ∷ []
firsts production.Sum = Zero ∷ Of token.OpenParenthesis ∷ Of token.Bang ∷ Of token.New ∷ Of token.In ∷ Of token.Out ∷ Of token.If ∷ Of token.Let ∷ Of token.Identifier ∷ []
firsts production.Pre = Zero ∷ Of token.OpenParenthesis ∷ Of token.Bang ∷ Of token.New ∷ Of token.In ∷ Of token.Out ∷ Of token.If ∷ Of token.Let ∷ Of token.Identifier ∷ []
firsts production.Pattern = Of token.Identifier ∷ Of token.Equals ∷ Of token.OpenParenthesis ∷ []
firsts production.Term = Of token.Identifier ∷ Of token.OpenParenthesis ∷ []

abbrev pub is_same : Word → Word → Bool
is_same (Of a) (Of b) = sameb the_type a b
is_same (Of a) Zero = false
is_same Zero (Of b) = false
is_same Zero Zero = true

-- Whether this word may stand where the grammar has that sign: the same one, and where it has a number also `0`.
abbrev pub takes : Word → Word → Bool
takes sign next = is_same sign next || (if is_same sign (Of token.Number) then is_same Zero next else false)

-- Whether the word begins what the symbol stands for.
abbrev pub begins : Symbol → Word → Bool
begins (Sign word) next = takes word next
begins (Inner p) next = list_any (λ word. is_same word next) (firsts p)
begins (More m) next = false
begins (Close p) next = false

-- Whether it begins these symbols.
abbrev pub begins_all : List Symbol → Word → Bool
begins_all [] next = false
begins_all (s ∷ ss) next = begins s next

-- The first alternative that the word begins.
abbrev pub chosen : List (List Symbol) → Word → Option (List Symbol)
chosen [] next = None
chosen (items ∷ others) next = if begins_all items next then Some items else chosen others next

-- Whether an option goes on with these words: whether the next one begins it.
abbrev pub goes_on : Option_of → List Word → Bool
goes_on m [] = false
goes_on m (next ∷ _) = begins_all (continuation m) next

-- x is one of these.
abbrev pub IsOneOf : {X : Type 0} → List X → X → Type 0
IsOneOf [] x = ⊥
IsOneOf (y ∷ ys) x = (x ≡ y) ⊎ IsOneOf ys x

-- These parts are what the symbols stand for, in order, where the words `after` stand behind them. A production is one of
-- its alternatives. An option is left out, and a repetition ends, only where the next word does not begin it: so an
-- `else` belongs to the nearest `if` or `let` without one.
pub data Derives : List Symbol → Parts → List Word → Type 0 where
  done : {after : List Word} → Derives [] none after
  sign :
      {k : Word} {ss : List Symbol} {lexeme : Lexeme} {parts : Parts} {after : List Word} → takes k (word_of lexeme) ≡ true → Derives ss parts after
      → Derives (Sign k ∷ ss) (leaf lexeme parts) after
  inner :
      {p : Production} {ss : List Symbol} {inside parts : Parts} {after : List Word} (items : List Symbol) → IsOneOf (alternatives p) items
      → Derives items inside (words parts ++ after) → Derives ss parts after → Derives (Inner p ∷ ss) (within p inside parts) after
  taken : {m : Option_of} {ss : List Symbol} {parts : Parts} {after : List Word} → Derives (continuation m ++ ss) parts after → Derives (More m ∷ ss) parts after
  left : {m : Option_of} {ss : List Symbol} {parts : Parts} {after : List Word} → goes_on m (words parts ++ after) ≡ false → Derives ss parts after → Derives (More m ∷ ss) parts after

-- A file is declarations and a query.
abbrev pub file : List Symbol
file = More more.Declarations ∷ Inner production.Query ∷ []

-- These are the trees of a file with these words.
pub record IsFileOf (text : List Word) (trees : Parts) : Type 0 where
  pub derived : Derives file trees []
  pub spelled : words trees ≡ text

-- The words are those of a file, however deep.
abbrev pub IsFile : List Word → Type 0
IsFile text = (trees : Parts) × IsFileOf text trees
