-- What rules have to meet before they are checked. The rules of a file meet all of it.
use Rattle.std.specs.Prelude.{◌≢◌, ◌<◌, ◌^◌, List, length, All}
use Rattle.dps_signature.specs.Signature.{Signature}
use Rattle.dps_terms.specs.Kinds.{IsBuiltOf, AnySymbol}
use Rattle.dps_signature.specs.Kinds.{IsOver}
use Rattle.dps_theory.specs.Theory.{Rule, IsRuleLeaf}
use Rattle.dps_theory.specs.Overlaps.{HasSmallVariables}
use Rattle.dps_theory.specs.Projections.{projections, HasProjections}
use Rattle.dps_theory.specs.Judging.{root_of}

-- both sides are over the signature
abbrev pub IsRuleOver : Signature → Rule → Type 0
IsRuleOver signature r = IsOver signature r.left × IsOver signature r.right

-- both sides hold declared names and variables alone
abbrev pub IsPlainRule : Rule → Type 0
IsPlainRule r = IsBuiltOf IsRuleLeaf AnySymbol r.left × IsBuiltOf IsRuleLeaf AnySymbol r.right

-- no projection stands at the left root
abbrev pub HasNoProjection : Signature → Rule → Type 0
HasNoProjection signature r = All (λ p. root_of p.left ≢ root_of r.left) (projections signature)

pub record AreCheckable (signature : Signature) (rules : List Rule) : Type 0 where
  pub few : length rules < 2 ^ 24
  pub over : All (IsRuleOver signature) rules
  pub plain : All IsPlainRule rules
  pub small : All HasSmallVariables rules
  pub projections_there : HasProjections signature
  pub no_projection : All (HasNoProjection signature) rules
