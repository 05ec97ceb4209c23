-- What is known of listed solutions.
use Rattle.std.proofs.Common.{ℕ, arith}
use Rattle.dps_terms.specs.Kinds.{NoRigidName}
use Rattle.dps_solver.specs.Levels.{AnyRigidName}
use Rattle.dps_solver.specs.Scene.{Scene, Ask}
use Rattle.dps_solver.specs.Search.{GeneralSolution}
use Rattle.dps_directions.specs.Directions.{ListedMeet, EmptyIsNone}
use Rattle.dps_directions.specs.Shapes.{IsListedFor, PlainBindNothing, PlainAreIdentity, PlainAreOverScene, HasNoRuleVariable, LowHoldNone, BindingsAreUpTo, NewAreLower, BindingsAreNotMatched}
use Rattle.dps_directions.specs.Laws.{ValuationsAreThere, ScenesUnderBindings, FirstDirection, SecondDirection, ThirdDirection, EmptyLists, OwnNames}
use Rattle.dps_directions.specs.Laws.{PlainSolutions, PlainIdentities, PlainTerms, ExcludedBindings, FirstAnswers, LowBindings, NoRigidNames, OverSignatures, BindingsOfLevels, PartsOfChoices, NewVariables}
use Rattle.dps_directions.proofs.Steps.{IsOutcome, ListedAreOutcomes}
use Rattle.dps_directions.proofs.Valuations.{valuations_are_one, bindings_commute}
use Rattle.dps_directions.proofs.Outcomes.{plain_at, unbound_at, low_at, bindings_up_to, parts_are_up_to}
use Rattle.dps_directions.proofs.Beginning.{start_is_kept}
use Rattle.dps_directions.proofs.Ways.{ways_keep}
use Rattle.dps_directions.proofs.Reaching.{listed_have, listed_are_outcomes}
use Rattle.dps_directions.proofs.First.{listed_meet}
use Rattle.dps_directions.proofs.Following.{level_below_m}
use Rattle.dps_directions.proofs.Descending.{Descends, way_descends, start_descends}
use Rattle.dps_directions.proofs.Excluding.{plain, new_are_lower}
use Rattle.dps_directions.proofs.Made.{none_are_rigid, all_are_over}
use Rattle.dps_directions.proofs.HeadSearch.{first_is_apart}
use Rattle.dps_directions.proofs.PlainOver.{over_scene}
use Rattle.dps_directions.proofs.PlainStill.{StaysStill, way_still, start_still, binds_nothing, answers_over}
use Rattle.dps_directions.proofs.Listed.{meeting_are_listed, trees_are_listed}
use Rattle.dps_directions.proofs.Empty.{own_names_solve, empty_is_none}

pub all_are_outcomes : (names : ℕ → Type 0) (scene : Scene) (ask : Ask) → ListedAreOutcomes names scene ask
all_are_outcomes names scene ask = listed_are_outcomes names scene ask (start_is_kept names scene ask) (ways_keep names scene ask)

pub outcome_of :
    (names : ℕ → Type 0) (scene : Scene) (ask : Ask) (solution : GeneralSolution) → IsListedFor names scene ask solution
    → IsOutcome scene ask solution
outcome_of names scene ask solution h = all_are_outcomes names scene ask h.list h.moves solution h.valid h.fits h.finds h.listed

-- a listed solution under an assignment is a choice, and meets the ask
listed_meet_all : (names : ℕ → Type 0) (scene : Scene) (ask : Ask) → ListedMeet names scene ask
listed_meet_all names scene ask = listed_meet names scene ask (all_are_outcomes names scene ask)

pub first_direction : FirstDirection
first_direction = record { wide = listed_meet_all AnyRigidName; narrow = listed_meet_all NoRigidName }

pub second_direction : SecondDirection
second_direction = record { wide = meeting_are_listed AnyRigidName; narrow = meeting_are_listed NoRigidName }

pub third_direction : ThirdDirection
third_direction = record { wide = trees_are_listed AnyRigidName; narrow = trees_are_listed NoRigidName }

empty_none : (names : ℕ → Type 0) (scene : Scene) (ask : Ask) → EmptyIsNone names scene ask
empty_none names scene ask =
    empty_is_none names scene ask (all_are_outcomes names scene ask) (listed_meet_all names scene ask) (meeting_are_listed names scene ask)

pub empty_lists : EmptyLists
empty_lists = record { wide = empty_none AnyRigidName; narrow = empty_none NoRigidName }

pub own_names : OwnNames
own_names = record { wide = own_names_solve AnyRigidName; narrow = own_names_solve NoRigidName }

pub valuations_are_there : ValuationsAreThere
valuations_are_there = record { wide = valuations_are_one AnyRigidName; narrow = valuations_are_one NoRigidName }

pub scenes_under_bindings : ScenesUnderBindings
scenes_under_bindings = record { wide = bindings_commute AnyRigidName; narrow = bindings_commute NoRigidName }

plain_bind_nothing : (names : ℕ → Type 0) (scene : Scene) (ask : Ask) → PlainBindNothing names scene ask
plain_bind_nothing names scene ask = λ solution h.
    let o = outcome_of names scene ask solution h in
    (unbound_at scene ask solution o, λ k x. plain_at scene ask solution o x k)

pub plain_solutions : PlainSolutions
plain_solutions = record { wide = plain_bind_nothing AnyRigidName; narrow = plain_bind_nothing NoRigidName }

still_of :
    (names : ℕ → Type 0) (scene : Scene) (ask : Ask) (solution : GeneralSolution) → IsListedFor names scene ask solution
    → HasNoRuleVariable scene ask → (o : IsOutcome scene ask solution) × StaysStill scene o.last
still_of names scene ask solution h over =
    listed_have names scene ask h.valid h.fits (start_is_kept names scene ask) (ways_keep names scene ask) (StaysStill scene)
    (λ u ps mgu newly. start_still names scene ask h.valid h.fits over u ps mgu newly)
    (λ b c z rest w kept has is among leads. way_still names scene ask h.valid h.fits over b z rest kept is has c among leads)
    solution h.finds h.listed

plain_are_identity : (names : ℕ → Type 0) (scene : Scene) (ask : Ask) → PlainAreIdentity names scene ask
plain_are_identity names scene ask = λ solution h plain over.
    let o = still_of names scene ask solution h over in
    (binds_nothing scene ask solution o.0 o.1 plain, answers_over scene ask solution o.0 o.1 plain)

pub plain_identities : PlainIdentities
plain_identities = record { wide = plain_are_identity AnyRigidName; narrow = plain_are_identity NoRigidName }

plain_are_over : (names : ℕ → Type 0) (scene : Scene) (ask : Ask) → PlainAreOverScene names scene ask
plain_are_over names scene ask = λ solution h plain turn.
    over_scene scene ask solution (outcome_of names scene ask solution h) plain turn

pub plain_terms : PlainTerms
plain_terms = record { wide = plain_are_over AnyRigidName; narrow = plain_are_over NoRigidName }

descends_of :
    (names : ℕ → Type 0) (scene : Scene) (ask : Ask) (solution : GeneralSolution) → IsListedFor names scene ask solution
    → (o : IsOutcome scene ask solution) × Descends scene o.last
descends_of names scene ask solution h =
    listed_have names scene ask h.valid h.fits (start_is_kept names scene ask) (ways_keep names scene ask) (Descends scene)
    (λ u ps mgu newly. start_descends names scene ask h.valid h.fits u mgu ps newly)
    (λ b c z rest w kept has is among leads. way_descends scene ask b z rest kept is (level_below_m names scene h.valid) has c among leads)
    solution h.finds h.listed

bindings_not_matched : (names : ℕ → Type 0) (scene : Scene) (ask : Ask) → BindingsAreNotMatched names scene ask
bindings_not_matched names scene ask = λ solution d h bound excludes matched.
    let o = descends_of names scene ask solution h in
    bound (plain names scene ask h.valid h.fits solution o.0 o.1 d excludes matched)

pub excluded_bindings : ExcludedBindings
excluded_bindings = record { wide = bindings_not_matched AnyRigidName; narrow = bindings_not_matched NoRigidName }

pub first_answers : FirstAnswers
first_answers = record { wide = first_is_apart AnyRigidName; narrow = first_is_apart NoRigidName }

low_hold_none : (names : ℕ → Type 0) (scene : Scene) (ask : Ask) → LowHoldNone names scene ask
low_hold_none names scene ask = λ solution h low x l k e c.
    let high = low_at scene ask solution (outcome_of names scene ask solution h) x l k e c in omega (arith, high, low x l e)

pub low_bindings : LowBindings
low_bindings = record { wide = low_hold_none AnyRigidName; narrow = low_hold_none NoRigidName }

pub no_rigid_names : NoRigidNames
no_rigid_names = record { wide = none_are_rigid AnyRigidName; narrow = none_are_rigid NoRigidName }

pub over_signatures : OverSignatures
over_signatures = record { wide = all_are_over AnyRigidName; narrow = all_are_over NoRigidName }

new_lower : (names : ℕ → Type 0) (scene : Scene) (ask : Ask) → NewAreLower names scene ask
new_lower names scene ask = λ solution h x l y e bound new.
    let o = descends_of names scene ask solution h in
    new_are_lower names scene ask h.valid h.fits solution o.0 o.1 x l y e bound new

pub new_variables : NewVariables
new_variables = record { wide = new_lower AnyRigidName; narrow = new_lower NoRigidName }

bindings_are_up_to : (names : ℕ → Type 0) (scene : Scene) (ask : Ask) → BindingsAreUpTo names scene ask
bindings_are_up_to names scene ask = λ solution levels h holds low.
    bindings_up_to names scene ask solution (outcome_of names scene ask solution h) levels holds low

pub bindings_of_levels : BindingsOfLevels
bindings_of_levels = record { wide = bindings_are_up_to AnyRigidName; narrow = bindings_are_up_to NoRigidName }

pub parts_of_choices : PartsOfChoices
parts_of_choices = record { wide = parts_are_up_to AnyRigidName; narrow = parts_are_up_to NoRigidName }
