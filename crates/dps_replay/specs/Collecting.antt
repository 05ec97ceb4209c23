-- Tests, each once.
use Rattle.std.specs.Prelude.{◌≡◌, ◌⊎◌, List, [], ◌∷◌, ◌++◌, Contains}
use Rattle.dps_static.specs.declared.Test.{Test}

-- the test stood in the list, or it was new and has come to the end
abbrev pub IsAdded : List Test → Test → List Test → Type 0
IsAdded old test new = (Contains old test × (new ≡ old)) ⊎ ((¬ Contains old test) × (new ≡ old ++ test ∷ []))
