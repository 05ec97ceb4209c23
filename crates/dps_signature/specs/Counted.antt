-- Symbols and names as a signature keeps them.
use Rattle.std.specs.Prelude.{◌≡◌, ℕ, ◌+◌, List, [], ◌∷◌, map, string_bytes, if◌then◌else◌, ⊤}
use Rattle.std.specs.declared.string.String.{String}
use Rattle.dps_signature.specs.declared.signature.SymbolShape.{SymbolShape}
use Rattle.dps_signature.specs.declared.signature.NameShape.{NameShape}
use Rattle.dps_signature.specs.Signature.{Symbol, Name, privates_in}

abbrev pub symbol_of : {A : Type 0} → String A × SymbolShape → Symbol
symbol_of e = record { name = string_bytes e.0; kind = e.1.kind; arity = e.1.arity }

abbrev pub name_of : {A : Type 0} → String A × NameShape → Name
name_of e = record { name = string_bytes e.0; is_private = e.1.private }

-- with each name stands how many private ones come before it, where n of them come before the list
abbrev pub AreCountedFrom : {A : Type 0} → ℕ → List (String A × NameShape) → Type 0
AreCountedFrom n [] = ⊤
AreCountedFrom n (e ∷ es) = (e.1.private_before ≡ n) × AreCountedFrom (n + (if e.1.private then 1 else 0)) es

-- and so many are private in all
abbrev pub AreCounted : {A : Type 0} → List (String A × NameShape) → ℕ → Type 0
AreCounted es count = AreCountedFrom 0 es × (count ≡ privates_in (map name_of es))
