-- Small processes, over the signature and the theory of symmetric encryption.
use Rattle.std.specs.Prelude.{◌≡◌, ℕ, List, [], ◌∷◌}
use Rattle.dps_branch.specs.declared.Side.{Side}
use Rattle.dps_terms.specs.declared.PublicName.TheVariants.{Declared, At}
use Rattle.dps_terms.specs.Tree.{public, Tree, leaf, app, none, more}
use Rattle.dps_signature.specs.Signature.{shapes}
use Rattle.dps_theory.specs.Examples.{signature, theory, over, senc, sdec, a, b, k, n, x}
use Rattle.dps_process.specs.Models.{Model, Private}
use Rattle.dps_process.specs.Process.{Process, nil, parallel, choice, conditional, bind, input, output, put, term_sum}
use Rattle.dps_process.specs.Problem.{Problem, destructors}
use Rattle.dps_process.specs.Steps.{Action, Label, inputs, outputs, silent, PartSteps}
use Rattle.dps_process.specs.Traces.{IsEquivalent, IsAttack}
use Rattle.dps_examples.specs.declared.sides.Output.{Output}
use Rattle.dps_examples.specs.declared.sides.Output.TheVariants.{DeclaredName, PrivateName, FreeVariable, WrongArity, UndeclaredName, OwnName, UndeclaredChannel}
use Rattle.dps_examples.specs.declared.pairs.ProcessPair.{ProcessPair}
use Rattle.dps_examples.specs.declared.pairs.ProcessPair.TheVariants.{PublicNames, PrivateNames, PublicTest, PrivateTest, OneOfTwo, TwoChannels}
use Rattle.dps_examples.specs.declared.branches.Branching.{Branching}
use Rattle.dps_examples.specs.declared.branches.Branching.TheVariants.{SameNames, DifferentNames, SameFailure, SameValue, ValueOnTheRight, LeftFailure, RightFailure, BoundValue, BoundFailure}

-- the process with p as its first branch and q as its second
abbrev pub branching : Branching → Process → Process → Process
branching SameNames p q = conditional a a p q
branching DifferentNames p q = conditional a b p q
branching SameFailure p q = conditional (over sdec a b) (over sdec a b) p q
branching SameValue p q = conditional (over sdec (over senc a b) b) a p q
branching ValueOnTheRight p q = conditional a (over sdec (over senc a b) b) p q
branching LeftFailure p q = conditional (over sdec a b) a p q
branching RightFailure p q = conditional a (over sdec a b) p q
branching BoundValue p q = bind 1 (over sdec (over senc a b) b) p q
branching BoundFailure p q = bind 1 (over sdec a b) p q

-- what is run of the first branch: a binding puts its value there
abbrev pub first_branch : Branching → Process → Process
first_branch BoundValue p = put 1 a p
first_branch BoundFailure p = put 1 a p
first_branch t p = p

-- the process goes on silently as r, and in no other way
pub record GoesOnAs (frame : List Tree) (p r : Process) : Type 0 where
  pub goes : PartSteps signature theory frame p silent (r ∷ []) []
  pub alone : (action : Action) (become : List Process) (added : List Tree) → PartSteps signature theory frame p action become added → (action ≡ silent) × (become ≡ r ∷ []) × (added ≡ [])

-- whatever the branches are, the first is taken
abbrev pub TakesFirst : Branching → Type 0
TakesFirst t = (frame : List Tree) (p q : Process) → GoesOnAs frame (branching t p q) (first_branch t p)

-- whatever the branches are, the second is taken
abbrev pub TakesSecond : Branching → Type 0
TakesSecond t = (frame : List Tree) (p q : Process) → GoesOnAs frame (branching t p q) q

-- `out(a,t)`
abbrev pub tells : Tree → Process
tells t = output 0 t nil

-- `in(a,x); if x = t then out(a,a) else out(a,b)`
abbrev pub tests : Tree → Process
tests t = input 0 1 (conditional x t (tells a) (tells b))

abbrev pub against : Model → Process → Process → Problem
against model p q = record { signature = signature; theory = theory; model = model; left = p; right = q }

abbrev pub problem_of : Model → ProcessPair → Problem
problem_of model PublicNames = against model (tells a) (tells b)
problem_of model PrivateNames = against model (tells k) (tells n)
problem_of model PublicTest = against model (tests a) (input 0 1 (tells b))
problem_of model PrivateTest = against model (tests k) (input 0 1 (tells b))
problem_of model OneOfTwo = against model (tells a) (choice (tells a) (tells b))
problem_of model TwoChannels = against model (tells a) (output 1 a nil)

-- the labels of an attack, where there is one
abbrev pub attack_of : ProcessPair → List Label
attack_of PublicTest = inputs 0 a ∷ outputs 0 1 ∷ []
attack_of pair = outputs 0 1 ∷ []

-- in each model the sides are equivalent, or the side has the attack
abbrev pub AreEquivalent : ProcessPair → Type 0
AreEquivalent pair = (model : Model) → IsEquivalent (problem_of model pair)

abbrev pub IsAttacked : ProcessPair → Side → Type 0
IsAttacked pair side = (model : Model) → IsAttack (problem_of model pair) side (attack_of pair)

-- one output
abbrev pub output_of : Output → Process
output_of DeclaredName = tells a
output_of PrivateName = tells k
output_of FreeVariable = tells x
output_of WrongArity = tells (app senc (more a none))
output_of UndeclaredName = tells (leaf (public (Declared 2)))
output_of OwnName = tells (leaf (public (At 0)))
output_of UndeclaredChannel = output 2 a nil

-- against `out(a,b)`
abbrev pub with_output : Output → Problem
with_output o = against Private (output_of o) (tells b)

-- each form of process: `(0 + out(a,a)) | in(a,x); if x = senc(a,b) then let y = sdec(x,b) in 0 else P else 0`, where P is
-- `out(a,senc(sdec(a,b),sdec(sdec(a,b),b)))`
abbrev pub each_form : Process
each_form =
    parallel
    (choice nil (tells a))
    (input 0 1 (conditional x (over senc a b) (bind 2 (over sdec x b) nil (tells (over senc (over sdec a b) (over sdec (over sdec a b) b)))) nil))

-- how many destructors stand in its terms
abbrev pub each_destructor : ℕ
each_destructor = term_sum (destructors (shapes signature)) each_form
