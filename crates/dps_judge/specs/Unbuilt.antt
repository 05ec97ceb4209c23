-- What is read, and not judged yet.
use Rattle.std.specs.Prelude.{Bool, true, false, ◌&&◌, ◌||◌, if◌then◌else◌, List, Option, Some, None}
use Rattle.dps_lex.specs.declared.vocabulary.Place.{Place}
use Rattle.dps_lex.specs.declared.vocabulary.TokenKind.TheVariants as kinds
use Rattle.dps_syntax.specs.declared.grammar.Production.{Production}
use Rattle.dps_syntax.specs.declared.grammar.Production.TheVariants as production
use Rattle.dps_syntax.specs.declared.tree.Decl.{Decl}
use Rattle.dps_syntax.specs.Tree.{Lexeme, Derivation, Parts, none, token, inner}
use Rattle.dps_syntax.specs.Files.{trees_of}
use Rattle.dps_scopes.specs.Faults.{place_of}
use Rattle.dps_scopes.specs.Scopes.{begins_as_projection}
use Rattle.dps_scopes.specs.Terms.{is_kind}

-- `reduc`, the mark `private`, `+`, `in`, `if`, and an identifier that begins with `proj_`
abbrev pub is_unbuilt_word : Lexeme → Bool
is_unbuilt_word lexeme =
    is_kind kinds.Reduc lexeme || is_kind kinds.Private lexeme || is_kind kinds.Plus lexeme || is_kind kinds.In lexeme || is_kind kinds.If lexeme
    || (is_kind kinds.Identifier lexeme && begins_as_projection lexeme.text)

-- in a process `let` too
abbrev pub is_unbuilt : Production → Lexeme → Bool
is_unbuilt production.Pre lexeme = is_unbuilt_word lexeme || is_kind kinds.Let lexeme
is_unbuilt _ lexeme = is_unbuilt_word lexeme

-- the productions that may be tuples
abbrev pub may_be_tuple : Production → Bool
may_be_tuple production.Term = true
may_be_tuple production.Pattern = true
may_be_tuple _ = false

-- a comma stands between the parts
abbrev pub has_comma : Parts → Bool
has_comma none = false
has_comma (token lexeme parts) = is_kind kinds.Comma lexeme || has_comma parts
has_comma (inner p inside parts) = has_comma parts

-- where a tuple opens
abbrev pub opening : Production → Parts → Option Place
opening p (token lexeme parts) = if may_be_tuple p && is_kind kinds.OpenParenthesis lexeme && has_comma parts then Some (place_of lexeme) else None
opening p none = None
opening p (inner q inside parts) = None

abbrev pub or_else : Option Place → Option Place → Option Place
or_else (Some place) other = Some place
or_else None other = other

-- where the first token stands that begins one of these, among some parts of a production
abbrev pub first_among : Production → Parts → Option Place
first_among p none = None
first_among p (token lexeme parts) = if is_unbuilt p lexeme then Some (place_of lexeme) else first_among p parts
first_among p (inner q inside parts) = or_else (or_else (opening q inside) (first_among q inside)) (first_among p parts)

-- and in a production
abbrev pub first_of : Derivation → Option Place
first_of tree = or_else (opening tree.production tree.parts) (first_among tree.production tree.parts)

-- Where a file first uses what is not judged yet.
abbrev pub first_unbuilt : List Decl → Option Place
first_unbuilt decls = first_among production.Decl (trees_of decls)
