-- Problems without inputs, tests, bindings, choices, rules and private channels.
use Rattle.std.specs.Prelude.{◌≡◌, [], ⊤, All}
use Rattle.dps_signature.specs.declared.SymKind.TheVariants.{Constructor}
use Rattle.dps_signature.specs.Signature.{Signature, IsPublic}
use Rattle.dps_process.specs.Process.{Process, nil, parallel, choice, conditional, bind, input, output}
use Rattle.dps_process.specs.Problem.{Problem}

-- of `0`, `|` and outputs on public channels alone
abbrev pub HasOutputsAlone : Signature → Process → Type 0
HasOutputsAlone signature nil = ⊤
HasOutputsAlone signature (parallel p q) = HasOutputsAlone signature p × HasOutputsAlone signature q
HasOutputsAlone signature (choice p q) = ⊥
HasOutputsAlone signature (conditional u v p q) = ⊥
HasOutputsAlone signature (bind x u p q) = ⊥
HasOutputsAlone signature (input c x p) = ⊥
HasOutputsAlone signature (output c u p) = IsPublic signature c × HasOutputsAlone signature p

-- constructors alone, no rules, and sides of outputs
pub record IsPlain (problem : Problem) : Type 0 where
  pub constructors : All (λ s. s.kind ≡ Constructor) problem.signature.symbols
  pub no_rules : problem.theory.rules ≡ []
  pub left : HasOutputsAlone problem.signature problem.left
  pub right : HasOutputsAlone problem.signature problem.right
