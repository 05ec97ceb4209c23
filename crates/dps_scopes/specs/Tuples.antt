-- Tuples in a signature that grows.
use Rattle.std.specs.Prelude.{◌≡◌, ◌++◌, ℕ, List, None}
use Rattle.dps_signature.specs.Signature.{Symbol, Signature}
use Rattle.dps_signature.specs.Names.{tuple_name, projection_name, symbol_named, IsDeclaredText}

-- nothing that is declared has the text of the symbol of the tuples of length n, or of one of their projections
pub record AreUndeclared (signature : Signature) (n : ℕ) : Type 0 where
  pub tuple : ¬ IsDeclaredText signature (tuple_name n)
  pub projections : (i : ℕ) → ¬ IsDeclaredText signature (projection_name i n)

-- the projections of tuples come with the tuples' symbol, and with nothing else
abbrev pub KeepsTuples : Signature → Type 0
KeepsTuples signature = (n : ℕ) → symbol_named signature (tuple_name n) ≡ None → AreUndeclared signature n

-- the symbols of the first come first in the second, and the names are the same
pub record HasSymbolsOf (signature after : Signature) : Type 0 where
  pub more : List Symbol
  pub symbols : after.symbols ≡ signature.symbols ++ more
  pub names : after.names ≡ signature.names
