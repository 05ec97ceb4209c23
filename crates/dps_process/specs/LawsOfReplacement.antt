-- What a reader expects of replacements in processes, of binders and of names that are added, each stated as one fact.
use Rattle.std.specs.Prelude.{◌≡◌, ◌≢◌, ℕ, Bool, IsTrue, List, All}
use Rattle.dps_terms.specs.Tree.{Leaf, var, Tree, StandsIn}
use Rattle.dps_terms.specs.Replace.{replace}
use Rattle.dps_signature.specs.Signature.{Signature, Name}
use Rattle.dps_signature.specs.Names.{with_name}
use Rattle.dps_theory.specs.Theory.{Theory}
use Rattle.dps_process.specs.Models.{Model}
use Rattle.dps_process.specs.Process.{Process, but_for, replace_in, put, EachBinder}
use Rattle.dps_process.specs.Problem.{Problem, IsLawful}
use Rattle.dps_process.specs.Steps.{Config, Label, Action, Step}
use Rattle.dps_process.specs.Traces.{Runs}
use Rattle.dps_process.specs.Lawful.{IsLawfulConfig}

-- the variable stands in nothing that is put for another leaf
abbrev pub IsFreshFor : (Leaf → Tree) → ℕ → Type 0
IsFreshFor f y = (l : Leaf) → l ≢ var y → ¬ StandsIn (var y) (f l)

-- so it is with each variable that the process binds, so that no binder captures what is put below it
abbrev pub IsFreeFor : (Leaf → Tree) → Process → Type 0
IsFreeFor f p = EachBinder (IsFreshFor f) p

-- a replacement and then another one are one replacement
abbrev pub ReplacementsInTurn : Type 0
ReplacementsInTurn =
    (f g : Leaf → Tree) (p : Process)
    → IsFreeFor f p
    → replace_in g (replace_in f p) ≡ replace_in (λ l. replace g (f l)) p

-- a replacement may be made before a term is put for a variable, or after
abbrev pub ReplacementCommutesWithPut : Type 0
ReplacementCommutesWithPut =
    (f : Leaf → Tree) (x : ℕ) (t : Tree) (p : Process)
    → IsFreeFor f p
    → IsFreshFor f x
    → EachBinder (λ y. ¬ StandsIn (var y) t) p
    → replace_in f (put x t p) ≡ put x (replace f t) (replace_in (but_for x f) p)

-- what holds of each variable that the parts bind holds after a step, and after a run
abbrev pub BindAs : (ℕ → Bool) → Config → Type 0
BindAs holds c = All (EachBinder (λ x. IsTrue (holds x))) c.parts

abbrev pub StepsKeepBinders : Type 0
StepsKeepBinders =
    (holds : ℕ → Bool) (model : Model) (signature : Signature) (theory : Theory) (c d : Config) (action : Action)
    → Step model signature theory c action d
    → BindAs holds c
    → BindAs holds d

abbrev pub RunsKeepBinders : Type 0
RunsKeepBinders =
    (holds : ℕ → Bool) (model : Model) (signature : Signature) (theory : Theory) (c d : Config) (word : List Label)
    → Runs model signature theory c word d
    → BindAs holds c
    → BindAs holds d

-- what is lawful stays lawful where the signature gets one more name
abbrev pub MoreNamesStayLawful : Type 0
MoreNamesStayLawful =
    (problem : Problem) (name : Name)
    → IsLawful problem
    → IsLawful (record {
      signature = with_name problem.signature name;
      theory = problem.theory;
      model = problem.model;
      left = problem.left;
      right = problem.right;
    })

abbrev pub MoreNamesKeepConfigs : Type 0
MoreNamesKeepConfigs = (signature : Signature) (name : Name) (c : Config) → IsLawfulConfig signature c → IsLawfulConfig (with_name signature name) c
