-- Programs that hold together: each term is over the signature and the locals in scope, and each call has as many
-- arguments as its definition has parameters.
use Rattle.std.specs.Prelude.{◌≡◌, ℕ, ◌+◌, ◌<◌, List, [], ◌∷◌, length, take, slice_get, Some, All, ⊤}
use Rattle.dps_terms.specs.Tree.{Leaf, public, private, var, ax, entry, rigid, Tree}
use Rattle.dps_signature.specs.Signature.{Signature, HasArity, shapes}
use Rattle.dps_terms.specs.Kinds.{IsBuiltOf}
use Rattle.dps_signature.specs.Kinds.{IsSourceName}
use Rattle.dps_scopes.specs.declared.body.Step.{Step}
use Rattle.dps_scopes.specs.declared.body.Step.TheVariants.{Project, Test}
use Rattle.dps_names.specs.Program.{Body, Bodies, nil, parallel, choice, copies, fresh, input, output, conditional, bind, call, none, more, Definition, Program}

-- a term as a file writes it, whose variables are the first n locals
abbrev pub IsWrittenLeaf : Signature → ℕ → Leaf → Type 0
IsWrittenLeaf signature n (public a) = IsSourceName signature a
IsWrittenLeaf signature n (private i) = ⊤
IsWrittenLeaf signature n (var i) = i < n
IsWrittenLeaf signature n (ax j) = ⊥
IsWrittenLeaf signature n (entry i) = ⊥
IsWrittenLeaf signature n (rigid k) = ⊥

abbrev pub IsTermOver : Signature → ℕ → Tree → Type 0
IsTermOver signature n t = IsBuiltOf (IsWrittenLeaf signature n) (HasArity (shapes signature)) t

-- the definition with this number is there, and has so many parameters
abbrev pub TakesArguments : List Definition → ℕ → ℕ → Type 0
TakesArguments definitions k count = (d : Definition) × (slice_get definitions k ≡ Some d) × (d.parameters ≡ count)

-- how many locals there are behind the steps of a pattern: each projection makes one
abbrev pub locals_behind : ℕ → List Step → ℕ
locals_behind n [] = n
locals_behind n (Project f i ∷ steps) = locals_behind (n + 1) steps
locals_behind n (Test i w ∷ steps) = locals_behind n steps

module _ (signature : Signature) where
  -- the steps look at locals that are there, by symbols of one argument
  abbrev pub AreStepsOver : ℕ → List Step → Type 0
  AreStepsOver n [] = ⊤
  AreStepsOver n (Project f i ∷ steps) = HasArity (shapes signature) f 1 × (i < n) × AreStepsOver (n + 1) steps
  AreStepsOver n (Test i w ∷ steps) = (i < n) × IsTermOver signature n w.tree × AreStepsOver n steps

  module _ (definitions : List Definition) where
    abbrev mutual
      -- the process is over n locals, and calls these definitions
      pub IsBodyOver : ℕ → Body → Type 0
      IsBodyOver n nil = ⊤
      IsBodyOver n (parallel ps) = AreBodiesOver n ps
      IsBodyOver n (choice ps) = AreBodiesOver n ps
      IsBodyOver n (copies m p) = IsBodyOver n p
      IsBodyOver n (fresh p) = IsBodyOver (n + 1) p
      IsBodyOver n (input c steps p) = IsTermOver signature n c.tree × AreStepsOver (n + 1) steps × IsBodyOver (locals_behind (n + 1) steps) p
      IsBodyOver n (output c u p) = IsTermOver signature n c.tree × IsTermOver signature n u.tree × IsBodyOver n p
      IsBodyOver n (conditional u v p q) = IsTermOver signature n u.tree × IsTermOver signature n v.tree × IsBodyOver n p × IsBodyOver n q
      IsBodyOver n (bind u steps p q) = IsTermOver signature n u.tree × AreStepsOver (n + 1) steps × IsBodyOver (locals_behind (n + 1) steps) p × IsBodyOver n q
      IsBodyOver n (call k arguments) = All (λ w. IsTermOver signature n w.tree) arguments × TakesArguments definitions k (length arguments)

      pub AreBodiesOver : ℕ → Bodies → Type 0
      AreBodiesOver n none = ⊤
      AreBodiesOver n (more p ps) = IsBodyOver n p × AreBodiesOver n ps

-- each definition is over its parameters and calls those before it, and both sides are without locals
pub record IsWellFormed (program : Program) : Type 0 where
  pub definitions :
      (k : ℕ) (d : Definition) → slice_get program.definitions k ≡ Some d
      → IsBodyOver program.signature (take k program.definitions) d.parameters d.body
  pub left : IsBodyOver program.signature program.definitions 0 program.left.body
  pub right : IsBodyOver program.signature program.definitions 0 program.right.body
