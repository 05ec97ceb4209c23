-- The fixed texts: keywords, signs, and the printed words of a fault.
use Rattle.std.specs.Prelude.{ℕ, List, Option, Some, None, codes}
use Rattle.dps_lex.specs.declared.vocabulary.TokenKind.{TokenKind}
use Rattle.dps_lex.specs.declared.vocabulary.TokenKind.TheVariants.{Free, Const, Fun, Reduc, Let, In, Out, If, Then, Else, New, Query, TraceEquiv, Private}
use Rattle.dps_lex.specs.declared.vocabulary.TokenKind.TheVariants.{OpenParenthesis, CloseParenthesis, OpenBracket, CloseBracket, Comma, Semicolon, Dot, Slash, Equals, Bar, Plus, Bang, Caret, Arrow}
use Rattle.dps_lex.specs.declared.vocabulary.FaultKind.{FaultKind}
use Rattle.dps_lex.specs.declared.vocabulary.FaultKind.TheVariants.{BadByte, OpenComment, LongName, BadNumber, LargeNumber, UnexpectedToken, UnexpectedEnd, TooDeep}

-- the text of a keyword
abbrev pub keyword : TokenKind → Option (List ℕ)
keyword Free = Some (codes "free")
keyword Const = Some (codes "const")
keyword Fun = Some (codes "fun")
keyword Reduc = Some (codes "reduc")
keyword Let = Some (codes "let")
keyword In = Some (codes "in")
keyword Out = Some (codes "out")
keyword If = Some (codes "if")
keyword Then = Some (codes "then")
keyword Else = Some (codes "else")
keyword New = Some (codes "new")
keyword Query = Some (codes "query")
keyword TraceEquiv = Some (codes "trace_equiv")
keyword Private = Some (codes "private")
keyword _ = None

-- the text of a sign
abbrev pub sign : TokenKind → Option (List ℕ)
sign OpenParenthesis = Some (codes "(")
sign CloseParenthesis = Some (codes ")")
sign OpenBracket = Some (codes "[")
sign CloseBracket = Some (codes "]")
sign Comma = Some (codes ",")
sign Semicolon = Some (codes ";")
sign Dot = Some (codes ".")
sign Slash = Some (codes "/")
sign Equals = Some (codes "=")
sign Bar = Some (codes "|")
sign Plus = Some (codes "+")
sign Bang = Some (codes "!")
sign Caret = Some (codes "^")
sign Arrow = Some (codes "->")
sign _ = None

-- what is printed for a fault
abbrev pub fault_words : FaultKind → List ℕ
fault_words BadByte = codes "bad byte"
fault_words OpenComment = codes "open comment"
fault_words LongName = codes "long name"
fault_words BadNumber = codes "bad number"
fault_words LargeNumber = codes "large number"
fault_words UnexpectedToken = codes "unexpected token"
fault_words UnexpectedEnd = codes "unexpected end"
fault_words TooDeep = codes "too deep"
