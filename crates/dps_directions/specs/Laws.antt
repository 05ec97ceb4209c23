-- The laws, each over all scenes and asks, and for both readings of what the attacker may put for a variable.
use Rattle.std.specs.Prelude.{ℕ}
use Rattle.dps_terms.specs.Kinds.{NoRigidName}
use Rattle.dps_solver.specs.Levels.{AnyRigidName}
use Rattle.dps_solver.specs.Scene.{Scene, Ask}
use Rattle.dps_directions.specs.Values.{ValuationsAreOne, BindingsCommute}
use Rattle.dps_directions.specs.Directions.{ListedMeet, MeetingAreListed, EmptyIsNone, TreesAreListed}
use Rattle.dps_directions.specs.Fresh.{OwnNamesSolve}
use Rattle.dps_directions.specs.Heads.{FirstIsApart}
use Rattle.dps_directions.specs.Made.{NoneAreRigid, AllAreOver}
use Rattle.dps_directions.specs.Shapes.{PlainBindNothing, PlainAreIdentity, PlainAreOverScene, LowHoldNone, BindingsAreUpTo, PartsAreUpTo, NewAreLower, BindingsAreNotMatched}

-- it holds where the trees of variables may hold any rigid name, and where they may hold none
pub record ForBoth (P : (ℕ → Type 0) → Type 0) : Type 0 where
  pub wide : P AnyRigidName
  pub narrow : P NoRigidName

abbrev pub ValuationsAreThere : Type 0
ValuationsAreThere = ForBoth (λ names. (scene : Scene) → ValuationsAreOne names scene)

abbrev pub ScenesUnderBindings : Type 0
ScenesUnderBindings = ForBoth (λ names. (scene : Scene) → BindingsCommute names scene)

abbrev pub FirstDirection : Type 0
FirstDirection = ForBoth (λ names. (scene : Scene) (ask : Ask) → ListedMeet names scene ask)

abbrev pub SecondDirection : Type 0
SecondDirection = ForBoth (λ names. (scene : Scene) (ask : Ask) → MeetingAreListed names scene ask)

abbrev pub ThirdDirection : Type 0
ThirdDirection = ForBoth (λ names. (scene : Scene) (ask : Ask) → TreesAreListed names scene ask)

abbrev pub EmptyLists : Type 0
EmptyLists = ForBoth (λ names. (scene : Scene) (ask : Ask) → EmptyIsNone names scene ask)

abbrev pub OwnNames : Type 0
OwnNames = ForBoth (λ names. (scene : Scene) → OwnNamesSolve names scene)

abbrev pub PlainSolutions : Type 0
PlainSolutions = ForBoth (λ names. (scene : Scene) (ask : Ask) → PlainBindNothing names scene ask)

abbrev pub PlainIdentities : Type 0
PlainIdentities = ForBoth (λ names. (scene : Scene) (ask : Ask) → PlainAreIdentity names scene ask)

abbrev pub PlainTerms : Type 0
PlainTerms = ForBoth (λ names. (scene : Scene) (ask : Ask) → PlainAreOverScene names scene ask)

abbrev pub ExcludedBindings : Type 0
ExcludedBindings = ForBoth (λ names. (scene : Scene) (ask : Ask) → BindingsAreNotMatched names scene ask)

abbrev pub LowBindings : Type 0
LowBindings = ForBoth (λ names. (scene : Scene) (ask : Ask) → LowHoldNone names scene ask)

abbrev pub FirstAnswers : Type 0
FirstAnswers = ForBoth (λ names. (scene : Scene) (ask : Ask) → FirstIsApart names scene ask)

abbrev pub NoRigidNames : Type 0
NoRigidNames = ForBoth (λ names. (scene : Scene) (ask : Ask) → NoneAreRigid names scene ask)

abbrev pub OverSignatures : Type 0
OverSignatures = ForBoth (λ names. (scene : Scene) (ask : Ask) → AllAreOver names scene ask)

abbrev pub NewVariables : Type 0
NewVariables = ForBoth (λ names. (scene : Scene) (ask : Ask) → NewAreLower names scene ask)

abbrev pub BindingsOfLevels : Type 0
BindingsOfLevels = ForBoth (λ names. (scene : Scene) (ask : Ask) → BindingsAreUpTo names scene ask)

abbrev pub PartsOfChoices : Type 0
PartsOfChoices = ForBoth (λ names. (scene : Scene) → PartsAreUpTo names scene)
