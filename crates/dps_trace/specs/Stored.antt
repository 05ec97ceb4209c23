-- How a proof stores traces: as nested pairs of numbers and trees.
use Rattle.std.specs.Prelude.{◌≡◌, ℕ, Bool, true, false, List, Option, Some, None, refl}
use Rattle.std.proofs.Common.{zero, suc}
use Rattle.std.specs.Coded.{Coded, code_by, coded×, coded_list, coded_ℕ, coded_bool}
use Rattle.dps_branch.specs.declared.Side.{Side}
use Rattle.dps_branch.specs.declared.Side.TheVariants.{Left, Right}
use Rattle.dps_terms.specs.Tree.{Tree, leaf, var}
use Rattle.dps_terms.specs.Stored.{tree_code}
use Rattle.dps_process.specs.Steps.{Label, inputs, outputs, overhears}
use Rattle.dps_trace.specs.declared.model.ModelName.{ModelName}
use Rattle.dps_trace.specs.declared.model.ModelName.TheVariants.{Private, Classic, Eavesdrop}
use Rattle.dps_trace.specs.Traces.{Trace}

-- the number of the form, the channel, the handle and the recipe
abbrev pub label_parts : Label → (ℕ × ℕ) × (ℕ × Tree)
label_parts (inputs c r) = ((0, c), (0, r))
label_parts (outputs c j) = ((1, c), (j, leaf (var 0)))
label_parts (overhears c j) = ((2, c), (j, leaf (var 0)))

abbrev pub of_form : ℕ → ℕ → ℕ → Tree → Label
of_form zero c j r = inputs c r
of_form (suc zero) c j r = outputs c j
of_form (suc (suc n)) c j r = overhears c j

abbrev pub label_of_parts : (ℕ × ℕ) × (ℕ × Tree) → Label
label_of_parts p = of_form p.0.0 p.0.1 p.1.0 p.1.1

pub label_of_parts-label_parts : (label : Label) → label_of_parts (label_parts label) ≡ label
label_of_parts-label_parts (inputs c r) = refl
label_of_parts-label_parts (outputs c j) = refl
label_of_parts-label_parts (overhears c j) = refl

abbrev pub label_code : Coded Label
label_code = code_by ((ℕ × ℕ) × (ℕ × Tree)) (coded× (coded× coded_ℕ coded_ℕ) (coded× coded_ℕ tree_code)) label_parts label_of_parts label_of_parts-label_parts

abbrev pub model_number : Option ModelName → ℕ
model_number None = 0
model_number (Some Private) = 1
model_number (Some Classic) = 2
model_number (Some Eavesdrop) = 3

abbrev pub numbered_model : ℕ → Option ModelName
numbered_model zero = None
numbered_model (suc zero) = Some Private
numbered_model (suc (suc zero)) = Some Classic
numbered_model (suc (suc (suc n))) = Some Eavesdrop

pub numbered_model-model_number : (model : Option ModelName) → numbered_model (model_number model) ≡ model
numbered_model-model_number None = refl
numbered_model-model_number (Some Private) = refl
numbered_model-model_number (Some Classic) = refl
numbered_model-model_number (Some Eavesdrop) = refl

abbrev pub is_left : Side → Bool
is_left Left = true
is_left Right = false

abbrev pub side_if : Bool → Side
side_if true = Left
side_if false = Right

pub side_if-is_left : (side : Side) → side_if (is_left side) ≡ side
side_if-is_left Left = refl
side_if-is_left Right = refl

abbrev pub model_code : Coded (Option ModelName)
model_code = code_by ℕ coded_ℕ model_number numbered_model numbered_model-model_number

abbrev pub side_code : Coded Side
side_code = code_by Bool coded_bool is_left side_if side_if-is_left

abbrev pub trace_code : Coded Trace
trace_code =
    code_by
    (Option ModelName × (Side × List Label))
    (coded× model_code (coded× side_code (coded_list label_code)))
    (λ t. (t.model, (t.side, t.labels)))
    (λ p. record { model = p.0; side = p.1.0; labels = p.1.1 })
    (λ _. refl)
