-- The labels of a run, from the length of its first frame to that of its last.
use Rattle.std.proofs.Common.{◌≡◌, ℕ, ◌+◌, List, [], ◌∷◌, ◌++◌, length, refl, sym, ◌∙◌, ap, subst, append-nil, length-append}
use Rattle.dps_terms.specs.Tree.{Tree}
use Rattle.dps_signature.specs.Signature.{Signature, IsPublic}
use Rattle.dps_signature.specs.Kinds.{IsRecipe}
use Rattle.dps_theory.specs.Theory.{Theory}
use Rattle.dps_process.specs.Models.{Model, Private, Classic, Eavesdrop, IsOverheard}
use Rattle.dps_process.specs.Process.{Process}
use Rattle.dps_process.specs.Steps.{Config, Label, inputs, outputs, overhears, silent, shows, PartSteps, ends, splits, first, second}
use Rattle.dps_process.specs.Steps.{passes, fails, binds, binds_not, receives, sends, Communicates, meets, overheard, Step, alone, together}
use Rattle.dps_process.specs.Traces.{Runs, done, silently, visibly, IsTrace}
use Rattle.dps_process.specs.Lawful.{AreLawfulLabels}

-- what is overheard stands on a public channel
pub overheard_is_public : (model : Model) (signature : Signature) (c : ℕ) → IsOverheard model signature c → IsPublic signature c
overheard_is_public Private signature c h = absurd h
overheard_is_public Classic signature c h = absurd h
overheard_is_public Eavesdrop signature c h = h

module _ (signature : Signature) where
  -- one label, from a frame of m messages to one of n
  abbrev IsLawfulLabel : ℕ → Label → ℕ → Type 0
  IsLawfulLabel m (inputs c r) n = IsPublic signature c × IsRecipe signature m r × (n ≡ m)
  IsLawfulLabel m (outputs c j) n = IsPublic signature c × (j ≡ m + 1) × (n ≡ m + 1)
  IsLawfulLabel m (overhears c j) n = IsPublic signature c × (j ≡ m + 1) × (n ≡ m + 1)

  label_first : (m k n : ℕ) (label : Label) (word : List Label) → IsLawfulLabel m label k → AreLawfulLabels signature k word n → AreLawfulLabels signature m (label ∷ word) n
  label_first m k n (inputs c r) word h all = (h.0, h.1, subst (λ (l : ℕ). AreLawfulLabels signature l word n) h.2 all)
  label_first m k n (outputs c j) word h all = (h.0, h.1, subst (λ (l : ℕ). AreLawfulLabels signature l word n) h.2 all)
  label_first m k n (overhears c j) word h all = (h.0, h.1, subst (λ (l : ℕ). AreLawfulLabels signature l word n) h.2 all)

  module _ (model : Model) (theory : Theory) where
    adds_nothing : {frame added : List Tree} {part : Process} {become : List Process} → PartSteps signature theory frame part silent become added → added ≡ []
    adds_nothing ends = refl
    adds_nothing splits = refl
    adds_nothing first = refl
    adds_nothing second = refl
    adds_nothing (passes h) = refl
    adds_nothing (fails h) = refl
    adds_nothing (binds h) = refl
    adds_nothing (binds_not h) = refl

    label_of_move :
        {frame added : List Tree} {part : Process} {label : Label} {become : List Process}
        → PartSteps signature theory frame part (shows label) become added
        → IsLawfulLabel (length frame) label (length (frame ++ added))
    label_of_move {frame} (receives c r v) = (c, r, ap length (append-nil frame))
    label_of_move {frame} (sends {t = t} c v j) = (c, j, length-append frame (t ∷ []))

    meeting_adds_nothing : {frame added : List Tree} {sender receiver sent received : Process} → Communicates model signature theory frame sender receiver silent sent received added → added ≡ []
    meeting_adds_nothing (meets d e) = refl

    label_of_meeting :
        {frame added : List Tree} {label : Label} {sender receiver sent received : Process}
        → Communicates model signature theory frame sender receiver (shows label) sent received added
        → IsLawfulLabel (length frame) label (length (frame ++ added))
    label_of_meeting {frame} (overheard {c} {t = t} o e j) = (overheard_is_public model signature c o, j, length-append frame (t ∷ []))

    same_frame : {c d : Config} → Step model signature theory c silent d → d.frame ≡ c.frame
    same_frame {c} (alone t m p f) = f ∙ (ap (λ added. c.frame ++ added) (adds_nothing m) ∙ append-nil c.frame)
    same_frame {c} (together t u m p f) = f ∙ (ap (λ added. c.frame ++ added) (meeting_adds_nothing m) ∙ append-nil c.frame)

    label_of_step : {c d : Config} {label : Label} → Step model signature theory c (shows label) d → IsLawfulLabel (length c.frame) label (length d.frame)
    label_of_step {c} {label = label} (alone t m p f) = subst (λ (frame : List Tree). IsLawfulLabel (length c.frame) label (length frame)) (sym f) (label_of_move m)
    label_of_step {c} {label = label} (together t u m p f) = subst (λ (frame : List Tree). IsLawfulLabel (length c.frame) label (length frame)) (sym f) (label_of_meeting m)

    pub labels_of_run : {c d : Config} {word : List Label} → Runs model signature theory c word d → AreLawfulLabels signature (length c.frame) word (length d.frame)
    labels_of_run done = refl
    labels_of_run {d = e} {word} (silently {d = d} s r) =
        subst (λ (frame : List Tree). AreLawfulLabels signature (length frame) word (length e.frame)) (same_frame s) (labels_of_run r)
    labels_of_run {c} {d = e} (visibly {d = d} {label = label} {word} s r) =
        label_first (length c.frame) (length d.frame) (length e.frame) label word (label_of_step s) (labels_of_run r)

pub traces_have_lawful_labels :
    (model : Model) (signature : Signature) (theory : Theory) (p : Process) (word : List Label) (frame : List Tree)
    → IsTrace model signature theory p word frame → AreLawfulLabels signature 0 word (length frame)
traces_have_lawful_labels model signature theory p word frame t =
    subst (λ (last : List Tree). AreLawfulLabels signature 0 word (length last)) t.2 (labels_of_run signature model theory t.1)
