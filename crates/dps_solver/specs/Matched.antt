-- Disequations that exclude bindings.
use Rattle.std.specs.Prelude.{ℕ, Bool, List, Any, MatchBool}
use Rattle.dps_terms.specs.Tree.{Tree}
use Rattle.dps_terms.specs.Replace.{substitute}
use Rattle.dps_unify.specs.Matching.{Matched, Refused}
use Rattle.dps_solver.specs.Scene.{Disequation}
use Rattle.dps_solver.specs.Solutions.{IsMatchedUnder}

-- some disequation is matched, with z put in
abbrev pub IsExcluded : (ℕ → Tree) → List Disequation → Type 0
IsExcluded z ds = Any (λ d. IsMatchedUnder z d) ds

-- with z put in, s grew to q, which makes the pair's pattern its tree, or nothing that agrees with s does
abbrev pub AreMatched : Bool → (ℕ → Tree) → List ℕ → List (ℕ × Tree) → Tree × Tree → List (ℕ × Tree) → Type 0
AreMatched b z free s p q =
    MatchBool b (Matched free s (substitute z p.1) (substitute z p.0) q) (Refused free s (substitute z p.1) (substitute z p.0))
