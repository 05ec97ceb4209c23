-- Trees while they are built from their marks.
use Rattle.std.specs.Prelude.{◌≡◌, List, [], ◌∷◌}
use Rattle.dps_syntax.specs.declared.grammar.Production.{Production}
use Rattle.dps_syntax.specs.declared.grammar.Mark.{Mark}
use Rattle.dps_syntax.specs.declared.grammar.Mark.TheVariants as mark
use Rattle.dps_syntax.specs.declared.builder.Level.{Level}
use Rattle.dps_syntax.specs.declared.builder.Builder.{Builder}
use Rattle.dps_syntax.specs.Tree.{Lexeme, Parts, none, token, inner}
use Rattle.dps_syntax.specs.Parts.{parts_of}

-- a mark, with its whole token
pub data Piece : Type 0 where
  begin : Production → Piece
  one : Lexeme → Piece
  end : Production → Piece

-- the pieces of some parts, and others behind them
abbrev pub pieces : Parts → List Piece → List Piece
pieces none rest = rest
pieces (token lexeme parts) rest = one lexeme ∷ pieces parts rest
pieces (inner p inside parts) rest = begin p ∷ pieces inside (end p ∷ pieces parts rest)

-- marks with the tokens that they stand for
abbrev pub labelled : List Mark → List Lexeme → List Piece
labelled [] ls = []
labelled (mark.Open p ∷ ms) ls = begin p ∷ labelled ms ls
labelled (mark.Close p ∷ ms) ls = end p ∷ labelled ms ls
labelled (mark.Token w ∷ ms) [] = []
labelled (mark.Token w ∷ ms) (l ∷ ls) = one l ∷ labelled ms ls

-- each production that ends is the last one that is open, and each that is open ends
abbrev pub IsBalanced : List Mark → List Production → Type 0
IsBalanced [] [] = Unit {0}
IsBalanced [] (p ∷ ps) = ⊥
IsBalanced (mark.Open p ∷ ms) ps = IsBalanced ms (p ∷ ps)
IsBalanced (mark.Token w ∷ ms) ps = IsBalanced ms ps
IsBalanced (mark.Close q ∷ ms) [] = ⊥
IsBalanced (mark.Close q ∷ ms) (p ∷ ps) = (p ≡ q) × IsBalanced ms ps

-- what stands in open productions, the outermost first, and other pieces behind it
abbrev pub pieces_of : List Level → List Piece → List Piece
pieces_of [] rest = rest
pieces_of (level ∷ levels) rest = pieces (parts_of level.before.items) (begin level.production ∷ pieces_of levels rest)

-- what was built, and other pieces behind it
abbrev pub built : Builder → List Piece → List Piece
built builder rest = pieces_of builder.levels.items (pieces (parts_of builder.parts.items) rest)

-- the open productions, the innermost first
abbrev pub opened_onto : List Level → List Production → List Production
opened_onto [] ps = ps
opened_onto (level ∷ levels) ps = opened_onto levels (level.production ∷ ps)

abbrev pub opened : Builder → List Production
opened builder = opened_onto builder.levels.items []

-- this piece was added
pub record Adds (piece : Piece) (old new : Builder) : Type 0 where
  pub added : (rest : List Piece) → built new rest ≡ built old (piece ∷ rest)

-- the innermost open production was ended
pub record Ends (old new : Builder) : Type 0 where
  pub production : Production
  pub opened : opened old ≡ production ∷ opened new
  pub added : (rest : List Piece) → built new rest ≡ built old (end production ∷ rest)
