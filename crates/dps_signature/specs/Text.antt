-- How terms are written.
use Rattle.std.specs.Prelude.{ℕ, Bool, false, ◌==◌, List, [], ◌∷◌, ◌++◌, slice_get, unwrap_or, if◌then◌else◌, codes}
use Rattle.std.specs.Str.{byte}
use Rattle.std.specs.Option.{option_map}
use Rattle.std.specs.Fmt.{decimal}
use Rattle.dps_terms.specs.declared.Sym.{Sym}
use Rattle.dps_terms.specs.declared.PublicName.TheVariants.{Declared, At}
use Rattle.dps_terms.specs.Tree.{Leaf, public, private, var, ax, entry, rigid, Tree, Trees, leaf, app, none, more}
use Rattle.dps_signature.specs.Signature.{Signature}

-- the text of a symbol, and of a declared name
abbrev pub symbol_text : Signature → Sym → List ℕ
symbol_text signature f = unwrap_or (option_map (λ s. s.name) (slice_get signature.symbols f.number)) []

abbrev pub name_text : Signature → ℕ → List ℕ
name_text signature n = unwrap_or (option_map (λ a. a.name) (slice_get signature.names n)) []

-- A declared name by its text, and each other leaf by a mark and its number.
abbrev pub leaf_text : Signature → Leaf → List ℕ
leaf_text signature (public (Declared n)) = name_text signature n
leaf_text signature (public (At k)) = codes "@" ++ decimal k
leaf_text signature (private n) = codes "#" ++ decimal n
leaf_text signature (var n) = codes "?" ++ decimal n
leaf_text signature (ax n) = codes "ax" ++ decimal n
leaf_text signature (entry n) = codes "e" ++ decimal n
leaf_text signature (rigid n) = codes "!" ++ decimal n

-- the symbol of the tuples of some length: its text begins with a bracket
abbrev pub opens_bracket : List ℕ → Bool
opens_bracket [] = false
opens_bracket (b ∷ bs) = b == byte "("

-- what is written before the arguments: nothing for a tuple, and else the symbol's text
abbrev pub root_text : Signature → Sym → List ℕ
root_text signature f = if opens_bracket (symbol_text signature f) then [] else symbol_text signature f

-- texts, each behind a comma
abbrev pub after_commas : List (List ℕ) → List ℕ
after_commas [] = []
after_commas (text ∷ texts) = codes "," ++ (text ++ after_commas texts)

-- the arguments' texts in brackets with commas between them, and nothing where there are none
abbrev pub in_brackets : List (List ℕ) → List ℕ
in_brackets [] = []
in_brackets (text ∷ texts) = codes "(" ++ (text ++ (after_commas texts ++ codes ")"))

-- `f(t,u)`, `f` where there are no arguments, and `(t,u)` for a tuple, with leaves that are written in some way
abbrev mutual
  pub text_with : (Leaf → List ℕ) → Signature → Tree → List ℕ
  text_with leaves signature (leaf x) = leaves x
  text_with leaves signature (app f ts) = root_text signature f ++ in_brackets (texts_with leaves signature ts)

  pub texts_with : (Leaf → List ℕ) → Signature → Trees → List (List ℕ)
  texts_with leaves signature none = []
  texts_with leaves signature (more t ts) = text_with leaves signature t ∷ texts_with leaves signature ts

abbrev pub term_text : Signature → Tree → List ℕ
term_text signature t = text_with (leaf_text signature) signature t
