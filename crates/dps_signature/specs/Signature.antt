-- Signatures: the symbols and the names that a text declares.
use Rattle.std.specs.Prelude.{◌≡◌, ℕ, ◌+◌, Bool, true, false, List, [], ◌∷◌, map, take, slice_get, Some, if◌then◌else◌}
use Rattle.dps_terms.specs.declared.Sym.{Sym}
use Rattle.dps_signature.specs.declared.SymKind.{SymKind}

-- what evaluation asks of a symbol
pub record Shape : Type 0 where
  pub kind : SymKind
  pub arity : ℕ

-- a symbol with its name as bytes
pub record Symbol : Type 0 where
  pub name : List ℕ
  pub kind : SymKind
  pub arity : ℕ

-- a declared name, with its bytes; a private one is no name of the attacker's
pub record Name : Type 0 where
  pub name : List ℕ
  pub is_private : Bool

-- The symbols and the names, each numbered from 0 by its place. Public and private names are numbered together.
pub record Signature : Type 0 where
  pub symbols : List Symbol
  pub names : List Name

abbrev pub shape_of : Symbol → Shape
shape_of s = record { kind = s.kind; arity = s.arity }

abbrev pub shapes : Signature → List Shape
shapes signature = map shape_of signature.symbols

-- the symbol is there, of this kind, with this arity
abbrev pub HasShape : List Shape → SymKind → Sym → ℕ → Type 0
HasShape shapes kind f n = slice_get shapes f.number ≡ Some (record { kind = kind; arity = n })

-- the symbol is there, with this arity
abbrev pub HasArity : List Shape → Sym → ℕ → Type 0
HasArity shapes f n = (kind : SymKind) × HasShape shapes kind f n

-- the declared name is there, and it is private or not
abbrev pub IsNameThere : Signature → Bool → ℕ → Type 0
IsNameThere signature private n = (bytes : List ℕ) × (slice_get signature.names n ≡ Some (record { name = bytes; is_private = private }))

abbrev pub IsPublic : Signature → ℕ → Type 0
IsPublic signature n = IsNameThere signature false n

abbrev pub IsPrivate : Signature → ℕ → Type 0
IsPrivate signature n = IsNameThere signature true n

-- how many of the names are private
abbrev pub privates_in : List Name → ℕ
privates_in [] = 0
privates_in (n ∷ names) = (if n.is_private then 1 else 0) + privates_in names

-- The number of a declared private name among the private ones, counted from 0: the leaf `private` of this number is the
-- name with the number n in the signature.
abbrev pub private_number : Signature → ℕ → ℕ
private_number signature n = privates_in (take n signature.names)
