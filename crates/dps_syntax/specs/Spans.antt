-- Tokens that lie in a text.
use Rattle.std.specs.Prelude.{◌≤◌, ℕ, List, Option, Some, length, slice_range}
use Rattle.dps_lex.specs.LexemeText.{IsToken}
use Rattle.dps_lex.specs.declared.vocabulary.TokenKind.{TokenKind}
use Rattle.dps_lex.specs.declared.vocabulary.TokenKind.TheVariants as keyword
use Rattle.dps_lex.specs.declared.vocabulary.Token.{Token}
use Rattle.dps_syntax.specs.Tree.{Parts, none, token as leaf, inner}
use Rattle.dps_syntax.specs.Files.{first_kind}

-- the token's span lies in the text, and holds a text of its kind
pub record IsSpan (bytes : List ℕ) (token : Token) : Type 0 where
  pub in_order : token.start ≤ token.end
  pub within : token.end ≤ length bytes
  pub text : IsToken token.kind (slice_range bytes token.start token.end)

-- the keywords that declarations and the query begin with
abbrev pub IsOpening : Option TokenKind → Type 0
IsOpening (Some keyword.Free) = Unit {0}
IsOpening (Some keyword.Const) = Unit {0}
IsOpening (Some keyword.Fun) = Unit {0}
IsOpening (Some keyword.Reduc) = Unit {0}
IsOpening (Some keyword.Let) = Unit {0}
IsOpening (Some keyword.Query) = Unit {0}
IsOpening _ = ⊥

-- the parts are declarations and queries
abbrev pub AreDeclarations : Parts → Type 0
AreDeclarations none = Unit {0}
AreDeclarations (leaf lexeme parts) = ⊥
AreDeclarations (inner p inside parts) = IsOpening (first_kind inside) × AreDeclarations parts
