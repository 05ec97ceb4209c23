-- Where faults stand.
use Rattle.dps_lex.specs.declared.vocabulary.Place.{Place}
use Rattle.dps_syntax.specs.Tree.{Lexeme}

-- where a token stands
abbrev pub place_of : Lexeme → Place
place_of lexeme = record { line = lexeme.line; column = lexeme.column }
