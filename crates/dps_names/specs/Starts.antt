-- What a process is, by the token that it begins with.
use Rattle.dps_lex.specs.declared.vocabulary.TokenKind.{TokenKind}
use Rattle.dps_lex.specs.declared.vocabulary.TokenKind.TheVariants as kinds
use Rattle.dps_names.specs.declared.shape.Start.{Start}
use Rattle.dps_names.specs.declared.shape.Start.TheVariants.{Call, Group, Copies, Name, Input, Output, Test, Match, Nothing}

abbrev pub start_of : TokenKind → Start
start_of kinds.Identifier = Call
start_of kinds.OpenParenthesis = Group
start_of kinds.Bang = Copies
start_of kinds.New = Name
start_of kinds.In = Input
start_of kinds.Out = Output
start_of kinds.If = Test
start_of kinds.Let = Match
start_of _ = Nothing

-- what is chosen by it: a call, a group, copies, a new name, an input, an output, a test, a match, or nothing
abbrev pub by_start : {A : Type 0} → Start → A → A → A → A → A → A → A → A → A → A
by_start Call a b c d e f g h i = a
by_start Group a b c d e f g h i = b
by_start Copies a b c d e f g h i = c
by_start Name a b c d e f g h i = d
by_start Input a b c d e f g h i = e
by_start Output a b c d e f g h i = f
by_start Test a b c d e f g h i = g
by_start Match a b c d e f g h i = h
by_start Nothing a b c d e f g h i = i
