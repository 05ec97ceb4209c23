-- What the attacker does not overhear.
use Rattle.std.proofs.Common.{ℕ, List, refl}
use Rattle.std.specs.Prelude.{◌≢◌, All}
use Rattle.std.proofs.lemmas.List.Elements.{All-nil, All-cons}
use Rattle.dps_terms.specs.Tree.{Tree}
use Rattle.dps_signature.specs.Signature.{Signature}
use Rattle.dps_theory.specs.Theory.{Theory}
use Rattle.dps_process.specs.Models.{Model, Private, Classic, Eavesdrop, IsOverheard}
use Rattle.dps_process.specs.Process.{Process}
use Rattle.dps_process.specs.Steps.{Config, Label, shows, PartSteps, receives, sends, Communicates, overheard, Step, alone, together}
use Rattle.dps_process.specs.Traces.{Runs, done, silently, visibly}
use Rattle.dps_process.specs.Laws.{IsUnheard, OnlyEavesdropOverhears}

pub nothing_overheard : (model : Model) (signature : Signature) (c : ℕ) → model ≢ Eavesdrop → ¬ IsOverheard model signature c
nothing_overheard Private signature c h k = k
nothing_overheard Classic signature c h k = k
nothing_overheard Eavesdrop signature c h k = h refl

module _ (model : Model) (signature : Signature) (theory : Theory) (other : model ≢ Eavesdrop) where
  by_itself : {frame added : List Tree} {part : Process} {label : Label} {become : List Process} → PartSteps signature theory frame part (shows label) become added → IsUnheard label
  by_itself (receives c r v) = tt
  by_itself (sends c v j) = tt

  with_another :
      {frame added : List Tree} {sender receiver sent received : Process} {label : Label}
      → Communicates model signature theory frame sender receiver (shows label) sent received added → IsUnheard label
  with_another (overheard {c} o e j) = absurd (nothing_overheard model signature c other o)

  step_unheard : {c d : Config} {label : Label} → Step model signature theory c (shows label) d → IsUnheard label
  step_unheard (alone t m p f) = by_itself m
  step_unheard (together t u m p f) = with_another m

  pub run_unheard : {c d : Config} {word : List Label} → Runs model signature theory c word d → All IsUnheard word
  run_unheard done = All-nil IsUnheard
  run_unheard (silently s r) = run_unheard r
  run_unheard (visibly {label = label} {word} s r) = All-cons IsUnheard label word (step_unheard s) (run_unheard r)

pub only_eavesdrop_overhears : OnlyEavesdropOverhears
only_eavesdrop_overhears model signature theory p word frame other t = run_unheard model signature theory other t.1
