-- The locals at a place as lists of texts, the innermost list first.
use Rattle.std.specs.Prelude.{ℕ, List, [], ◌∷◌}
use Rattle.dps_scopes.specs.declared.scope.Scope.{Scope, Outermost, Fresh', Block'}

abbrev pub blocks : Scope → List (List (List ℕ))
blocks Outermost = []
blocks (Fresh' text p outer) = (text.now ∷ []) ∷ blocks outer
blocks (Block' texts p outer) = texts.now ∷ blocks outer
