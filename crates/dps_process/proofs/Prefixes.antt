-- A run with more labels begins as a run with fewer.
use Rattle.std.proofs.Common.{◌≡◌, List, [], ◌∷◌, ◌++◌, refl, sym, ◌∙◌, subst}
use Rattle.dps_signature.specs.Signature.{Signature}
use Rattle.dps_theory.specs.Theory.{Theory}
use Rattle.dps_process.specs.Models.{Model}
use Rattle.dps_process.specs.Steps.{Config, Label}
use Rattle.dps_process.specs.Traces.{Runs, done, silently, visibly}
use Rattle.dps_process.specs.Laws.{PrefixesAreTraces}
use Rattle.dps_process.proofs.StepSizes.{frame_grows}

module _ (model : Model) (signature : Signature) (theory : Theory) where
  -- a run through a configuration between
  abbrev RunsThrough : Config → List Label → List Label → Config → Type 0
  RunsThrough c word more d = (e : Config) × Runs model signature theory c word e × Runs model signature theory e more d

  pub cut : (word more : List Label) {c d : Config} {all : List Label} → Runs model signature theory c all d → all ≡ word ++ more → RunsThrough c word more d
  cut [] more {c} {d} r e = (c, done, subst (λ (w : List Label). Runs model signature theory c w d) e r)
  cut (label ∷ word) more done e = absurd (cc)
  cut (label ∷ word) more (silently s r) e = let k = cut (label ∷ word) more r e in (k.0, silently s k.1, k.2)
  cut (label ∷ word) more {c} (visibly {label = shown} {word = rest} s r) e =
      let first : shown ≡ label = cc in
      let later : rest ≡ word ++ more = cc in
      let k = cut word more r later in
      (k.0, subst (λ (l : Label). Runs model signature theory c (l ∷ word) k.0) first (visibly s k.1), k.2)

pub prefixes_are_traces : PrefixesAreTraces
prefixes_are_traces model signature theory p word more frame t =
    let k = cut model signature theory word more t.1 refl in
    let g = frame_grows model signature theory k.2 in
    ((k.0).frame, g.0, (k.0, k.1, refl), sym t.2 ∙ g.1)
