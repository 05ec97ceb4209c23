-- What is expected next, and that it can come.
use Rattle.std.specs.Prelude.{ℕ, ◌+◌, Bool, true, not, ◌&&◌, List, [], ◌∷◌, Option, Some, None}
use Rattle.std.specs.List.{list_any}
use Rattle.dps_lex.specs.declared.vocabulary.TokenKind.TheVariants as token
use Rattle.dps_syntax.specs.declared.grammar.Word.{Word}
use Rattle.dps_syntax.specs.declared.grammar.Word.TheVariants.{Of, Zero}
use Rattle.dps_syntax.specs.declared.grammar.Production.{Production}
use Rattle.dps_syntax.specs.declared.grammar.Production.TheVariants as production
use Rattle.dps_syntax.specs.declared.grammar.More.{More as Option_of}
use Rattle.dps_syntax.specs.declared.grammar.More.TheVariants as more
use Rattle.dps_syntax.specs.declared.grammar.Symbol.{Symbol}
use Rattle.dps_syntax.specs.declared.grammar.Symbol.TheVariants.{Sign, Inner, More, Close}
use Rattle.dps_syntax.specs.Grammar.{is_same}
use Rattle.dps_syntax.specs.Depth.{own_depth}

abbrev pub among : List Word → Word → Bool
among words k = list_any (λ kind. is_same kind k) words

-- the tokens that may not stand behind a production
abbrev pub closed_to : Production → List Word
closed_to production.Decl = []
closed_to production.Query = []
closed_to production.Ids = Of token.Comma ∷ []
closed_to production.Rule = Of token.OpenParenthesis ∷ []
closed_to production.Par = Of token.Bar ∷ Of token.Plus ∷ Of token.Semicolon ∷ Of token.Else ∷ Of token.OpenParenthesis ∷ []
closed_to production.Sum = Of token.Plus ∷ Of token.Semicolon ∷ Of token.Else ∷ Of token.OpenParenthesis ∷ []
closed_to production.Pre = Of token.Semicolon ∷ Of token.Else ∷ Of token.OpenParenthesis ∷ []
closed_to production.Pattern = Of token.OpenParenthesis ∷ []
closed_to production.Term = Of token.OpenParenthesis ∷ []

-- the tokens that may not stand behind an option
abbrev pub closed_behind : Option_of → List Word
closed_behind more.Declarations = Of token.Free ∷ Of token.Const ∷ Of token.Fun ∷ Of token.Reduc ∷ Of token.Let ∷ []
closed_behind more.Private = Of token.OpenBracket ∷ []
closed_behind more.Functions = Of token.Comma ∷ []
closed_behind more.Rules = Of token.Semicolon ∷ Of token.OpenParenthesis ∷ []
closed_behind more.Parameters = Of token.OpenParenthesis ∷ []
closed_behind more.Names = Of token.Comma ∷ []
closed_behind more.Terms = Of token.Comma ∷ Of token.OpenParenthesis ∷ []
closed_behind more.Parallel = Of token.Bar ∷ Of token.Plus ∷ Of token.Semicolon ∷ Of token.Else ∷ Of token.OpenParenthesis ∷ []
closed_behind more.Choice = Of token.Plus ∷ Of token.Semicolon ∷ Of token.Else ∷ Of token.OpenParenthesis ∷ []
closed_behind more.Then = Of token.Semicolon ∷ Of token.Else ∷ Of token.OpenParenthesis ∷ []
closed_behind more.Else = Of token.Else ∷ Of token.Semicolon ∷ Of token.OpenParenthesis ∷ []
closed_behind more.Arguments = Of token.OpenParenthesis ∷ []
closed_behind more.Patterns = Of token.Comma ∷ Of token.OpenParenthesis ∷ []
closed_behind more.Brackets = Of token.OpenParenthesis ∷ []
closed_behind more.Filling = Of token.Identifier ∷ Of token.OpenParenthesis ∷ Of token.Comma ∷ []

abbrev pub forbidden : Symbol → List Word
forbidden (Sign k) = []
forbidden (Inner p) = closed_to p
forbidden (More m) = closed_behind m
forbidden (Close p) = []

-- the token that begins some word of a production
abbrev pub sample : Production → Word
sample production.Decl = Of token.Free
sample production.Ids = Of token.Identifier
sample production.Rule = Of token.Identifier
sample production.Query = Of token.Query
sample production.Par = Zero
sample production.Sum = Zero
sample production.Pre = Zero
sample production.Pattern = Of token.Identifier
sample production.Term = Of token.Identifier

-- the token that begins some word of these symbols, if it doesn't come behind them
abbrev pub lead : List Symbol → Option Word
lead [] = None
lead (Sign k ∷ ss) = Some k
lead (Inner p ∷ ss) = Some (sample p)
lead (More m ∷ ss) = lead ss
lead (Close p ∷ ss) = lead ss

abbrev pub outside : List Word → Option Word → Bool
outside words None = true
outside words (Some k) = not (among words k)

abbrev pub calm : List Symbol → Bool
calm [] = true
calm (s ∷ ss) = outside (forbidden s) (lead ss) && calm ss

-- how many counted productions are open
abbrev pub held : List Symbol → ℕ
held [] = 0
held (Sign k ∷ ss) = held ss
held (Inner p ∷ ss) = held ss
held (More m ∷ ss) = held ss
held (Close p ∷ ss) = held ss + own_depth p
