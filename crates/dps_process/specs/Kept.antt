-- Problems in memory: how a proof stores them, and what holds of each.
use Rattle.std.specs.Prelude.{◌≡◌, ℕ, refl}
use Rattle.std.proofs.Common.{zero, suc}
use Rattle.std.specs.Coded.{Coded, code_by, coded×, coded_ℕ}
use Rattle.dps_signature.specs.Signature.{Signature}
use Rattle.dps_signature.specs.StoredSignature.{signature_code}
use Rattle.dps_theory.specs.Theory.{Theory}
use Rattle.dps_theory.specs.Stored.{theory_code}
use Rattle.dps_process.specs.Models.{Model, Private, Classic, Eavesdrop}
use Rattle.dps_process.specs.Process.{Process}
use Rattle.dps_process.specs.Problem.{Problem, IsLawful, HasHighBinders}
use Rattle.dps_process.specs.Stored.{process_code}

abbrev pub model_number : Model → ℕ
model_number Private = 0
model_number Classic = 1
model_number Eavesdrop = 2

abbrev pub numbered_model : ℕ → Model
numbered_model zero = Private
numbered_model (suc zero) = Classic
numbered_model (suc (suc n)) = Eavesdrop

pub numbered_model-model_number : (model : Model) → numbered_model (model_number model) ≡ model
numbered_model-model_number Private = refl
numbered_model-model_number Classic = refl
numbered_model-model_number Eavesdrop = refl

abbrev pub model_code : Coded Model
model_code = code_by ℕ coded_ℕ model_number numbered_model numbered_model-model_number

abbrev pub problem_code : Coded Problem
problem_code =
    code_by
    ((Signature × Theory) × (Model × (Process × Process)))
    (coded× (coded× signature_code theory_code) (coded× model_code (coded× process_code process_code)))
    (λ problem. ((problem.signature, problem.theory), (problem.model, (problem.left, problem.right))))
    (λ p. record { signature = p.0.0; theory = p.0.1; model = p.1.0; left = p.1.1.0; right = p.1.1.1 })
    (λ _. refl)

-- a file may mean the problem, and its binders bind no variable that is put for what the attacker sends
pub record IsKept (problem : Problem) : Type 0 where
  pub lawful : IsLawful problem
  pub binders : HasHighBinders problem
