-- How far the rules of a list were judged.
use Rattle.std.specs.Prelude.{◌≡◌, ◌<◌, ℕ, List, slice_get, Some, Option, None}
use Rattle.dps_terms.specs.declared.Sym.{Sym}
use Rattle.dps_signature.specs.Signature.{Shape}
use Rattle.dps_terms.specs.Tree.{Tree, leaf, app}
use Rattle.dps_theory.specs.Theory.{Rule, Agree}
use Rattle.dps_theory.specs.Overlaps.{IsOverlap}
use Rattle.dps_theory.specs.Checking.{HasForm}

-- the symbol at the root
abbrev pub root_of : Tree → Option Sym
root_of (leaf x) = None
root_of (app f ts) = Some f

-- the first rules have the form that is asked, and agree with one another
pub record AreJudged (shapes : List Shape) (rules : List Rule) (count : ℕ) : Type 0 where
  pub forms : (k : ℕ) (r : Rule) → k < count → slice_get rules k ≡ Some r → HasForm shapes r
  pub agreeing : (j k : ℕ) (r q : Rule) → j < k → k < count → slice_get rules j ≡ Some r → slice_get rules k ≡ Some q → Agree r q

-- the first rules agree with the rule
abbrev pub AgreeBefore : List Rule → ℕ → Rule → Type 0
AgreeBefore rules count q = (k : ℕ) (r : Rule) → k < count → slice_get rules k ≡ Some r → Agree r q

-- the rule at a place before overlaps with the rule, and those before it agree with it
pub record IsOverlapBefore (rules : List Rule) (place earlier : ℕ) (q : Rule) (unifier : List (ℕ × Tree)) : Type 0 where
  pub before : earlier < place
  pub agrees : AgreeBefore rules earlier q
  pub rule : Rule
  pub is : slice_get rules earlier ≡ Some rule
  pub overlap : IsOverlap rule q unifier
