-- What silent steps reach, and lists of configurations, each in some order of its parts.
use Rattle.std.specs.Prelude.{◌↔◌, List, [], All, Contains, ⊤}
use Rattle.dps_signature.specs.Signature.{Signature}
use Rattle.dps_theory.specs.Theory.{Theory}
use Rattle.dps_process.specs.Process.{Process, input, output}
use Rattle.dps_process.specs.Models.{Model}
use Rattle.dps_process.specs.Problem.{Problem}
use Rattle.dps_process.specs.Steps.{Config, Label, shows, Step, AreOneBag}
use Rattle.dps_process.specs.Traces.{Runs}
use Rattle.dps_bags.specs.Apart.{AreApart}

-- an input or an output
abbrev pub IsPrefix : Process → Type 0
IsPrefix (input c x p) = ⊤
IsPrefix (output c u p) = ⊤
IsPrefix p = ⊥

-- only inputs and outputs stand
abbrev pub IsSettled : Config → Type 0
IsSettled c = All IsPrefix c.parts

-- silent steps lead from c to d, and only inputs and outputs stand there
pub record SettlesTo (model : Model) (signature : Signature) (theory : Theory) (c d : Config) : Type 0 where
  pub run : Runs model signature theory c [] d
  pub settled : IsSettled d

-- one of the list, with its parts in some order
abbrev pub IsOneOf : List Config → Config → Type 0
IsOneOf configs k = (c : Config) × Contains configs c × AreOneBag c k

-- no two of the list are the same up to the order of their parts
abbrev pub EachStandsOnce : List Config → Type 0
EachStandsOnce configs = AreApart AreOneBag (record { parts = []; frame = [] }) configs

-- one of those for which P holds, with its parts in some order
abbrev pub IsInSomeOrder : (Config → Type 0) → Config → Type 0
IsInSomeOrder P k = (d : Config) × P d × AreOneBag d k

-- the list has just the configurations for which P holds, each in some order of its parts
abbrev pub AreJust : (Config → Type 0) → List Config → Type 0
AreJust P configs = (k : Config) → IsOneOf configs k ↔ IsInSomeOrder P k

-- just the configurations to which this one settles
abbrev pub AreSettlings : Problem → Config → List Config → Type 0
AreSettlings problem c configs = AreJust (SettlesTo problem.model problem.signature problem.theory c) configs

-- just the configurations to which this one comes by a step that shows the label
abbrev pub AreNext : Problem → Config → Label → List Config → Type 0
AreNext problem c label configs = AreJust (λ d. Step problem.model problem.signature problem.theory c (shows label) d) configs
