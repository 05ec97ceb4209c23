-- Which labels a line of a trace may be, and which of them may follow others.
use Rattle.std.specs.Prelude.{◌≡◌, ◌<◌, ◌≤◌, ◌^◌, ℕ, ◌+◌, List, [], ◌∷◌, ⊤}
use Rattle.dps_terms.specs.declared.Sym.{Sym}
use Rattle.dps_terms.specs.declared.PublicName.TheVariants.{Declared, At}
use Rattle.dps_terms.specs.declared.borrowed.TermView.{TermView}
use Rattle.dps_terms.specs.declared.borrowed.TermView.TheVariants.{Ax}
use Rattle.dps_terms.specs.Tree.{Leaf, public, private, var, ax, entry, rigid, Tree}
use Rattle.dps_signature.specs.Signature.{Signature, HasArity, IsPublic, shapes}
use Rattle.dps_terms.specs.Kinds.{IsBuiltOf, AnySymbol}
use Rattle.dps_process.specs.Steps.{Label, inputs, outputs, overhears}

-- a public name, or a handle; the numbers are at least 1 behind `ax`, and below the bounds of their texts
abbrev pub IsWrittenLeaf : Signature → Leaf → Type 0
IsWrittenLeaf signature (public (Declared n)) = IsPublic signature n
IsWrittenLeaf signature (public (At k)) = k < 2 ^ 64
IsWrittenLeaf signature (ax j) = (1 ≤ j) × (j < 2 ^ 32)
IsWrittenLeaf signature (private n) = ⊥
IsWrittenLeaf signature (var n) = ⊥
IsWrittenLeaf signature (entry n) = ⊥
IsWrittenLeaf signature (rigid n) = ⊥

-- a symbol over as many arguments as its arity says, at most eight
abbrev pub IsWrittenSymbol : Signature → Sym → ℕ → Type 0
IsWrittenSymbol signature f n = HasArity (shapes signature) f n × (n ≤ 8)

-- a recipe over some frame
abbrev pub IsWrittenRecipe : Signature → Tree → Type 0
IsWrittenRecipe signature r = IsBuiltOf (IsWrittenLeaf signature) (IsWrittenSymbol signature) r

-- a label over the signature: its channel is public, and an input's recipe is over some frame
abbrev pub IsWrittenLabel : Signature → Label → Type 0
IsWrittenLabel signature (inputs c r) = IsPublic signature c × IsWrittenRecipe signature r
IsWrittenLabel signature (outputs c j) = IsPublic signature c × (1 ≤ j) × (j < 2 ^ 32)
IsWrittenLabel signature (overhears c j) = ⊥

-- the handles in a recipe are among the first m
abbrev pub IsHandleUpTo : ℕ → Leaf → Type 0
IsHandleUpTo m (ax j) = j ≤ m
IsHandleUpTo m x = ⊤

-- the same of what stands at a root
abbrev pub ShowsHandleUpTo : ℕ → TermView → Type 0
ShowsHandleUpTo m (Ax j) = j ≤ m
ShowsHandleUpTo m view = ⊤

-- behind m outputs: an output has the next handle, and an input's recipe has those of the outputs so far
abbrev pub IsInTurn : ℕ → Label → Type 0
IsInTurn m (inputs c r) = IsBuiltOf (IsHandleUpTo m) AnySymbol r
IsInTurn m (outputs c j) = j ≡ m + 1
IsInTurn m (overhears c j) = j ≡ m + 1

-- how many outputs there are behind the label, where there were m
abbrev pub outputs_behind : ℕ → Label → ℕ
outputs_behind m (inputs c r) = m
outputs_behind m (outputs c j) = m + 1
outputs_behind m (overhears c j) = m + 1

-- how many outputs there are behind the labels
abbrev pub outputs_after : ℕ → List Label → ℕ
outputs_after m [] = m
outputs_after m (label ∷ labels) = outputs_after (outputs_behind m label) labels

-- labels that may stand behind m outputs: each is over the signature, and in turn
abbrev pub AreWritten : Signature → ℕ → List Label → Type 0
AreWritten signature m [] = ⊤
AreWritten signature m (label ∷ labels) = IsWrittenLabel signature label × IsInTurn m label × AreWritten signature (outputs_behind m label) labels
