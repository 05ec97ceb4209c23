-- How a run of one part, or of two, begins, by the forms of these parts.
use Rattle.std.proofs.Common.{◌≡◌, ◌+◌, List, [], ◌∷◌, ◌++◌, length, refl, subst, inl, inr, append-nil}
use Rattle.std.specs.Prelude.{◌⊎◌}
use Rattle.dps_terms.specs.Tree.{Tree}
use Rattle.dps_signature.specs.Signature.{Signature, IsPublic}
use Rattle.dps_signature.specs.Kinds.{IsRecipe}
use Rattle.dps_theory.specs.Theory.{Theory}
use Rattle.dps_theory.specs.Evaluation.{Evaluates, IsMessage, AreEqual}
use Rattle.dps_theory.specs.Frames.{HasValue}
use Rattle.dps_process.specs.Models.{Model, MayMeet, IsOverheard}
use Rattle.dps_process.specs.Process.{Process, nil, parallel, choice, conditional, bind, input, output, put}
use Rattle.dps_process.specs.Steps.{Config, Label, inputs, outputs, overhears, Action, silent, shows, Removes, here, there, PartSteps, ends, splits}
use Rattle.dps_process.specs.Steps.{first, second, passes, fails, binds, binds_not, receives, sends, Communicates, meets, overheard, Step, alone, together}
use Rattle.dps_process.specs.Traces.{Runs, done, silently, visibly}

abbrev pub config : List Process → List Tree → Config
config parts frame = record { parts = parts; frame = frame }

pub no_taking : {part : Process} {rest : List Process} → Removes part [] rest → ⊥
no_taking h = elim h [ ]

-- the only part of a list, and either of two
of_one : {p part : Process} {others : List Process} (P : Process → List Process → Type 0) → P p [] → Removes part (p ∷ []) others → P part others
of_one P h here = h
of_one P h (there k) = absurd (no_taking k)

of_two : {p q part : Process} {others : List Process} (P : Process → List Process → Type 0) → P p (q ∷ []) → P q (p ∷ []) → Removes part (p ∷ q ∷ []) others → P part others
of_two P h k here = h
of_two P h k (there here) = k
of_two P h k (there (there l)) = absurd (no_taking l)

-- two parts of a list of two
of_both :
    {p q sender receiver : Process} {others rest : List Process} (P : Process → Process → List Process → Type 0) → P p q []
    → P q p [] → Removes sender (p ∷ q ∷ []) others → Removes receiver others rest → P sender receiver rest
of_both {p} P h k here v = of_one (P p) h v
of_both {q = q} P h k (there here) v = of_one (P q) k v
of_both P h k (there (there l)) v = absurd (no_taking l)

module _ (model : Model) (signature : Signature) (theory : Theory) where
  -- the part goes on silently, and what it becomes meets K
  abbrev pub GoesOn : Process → (List Process → Type 0) → Type 0
  GoesOn nil K = K []
  GoesOn (parallel p q) K = K (p ∷ q ∷ [])
  GoesOn (choice p q) K = K (p ∷ []) ⊎ K (q ∷ [])
  GoesOn (conditional u v p q) K = (AreEqual theory u v × K (p ∷ [])) ⊎ ((¬ AreEqual theory u v) × K (q ∷ []))
  GoesOn (bind x u p q) K = ((t : Tree) × Evaluates theory u t × K (put x t p ∷ [])) ⊎ ((¬ IsMessage theory u) × K (q ∷ []))
  GoesOn (input c x p) K = ⊥
  GoesOn (output c u p) K = ⊥

  -- the part shows the label, and what it becomes and adds to the frame meets K
  abbrev pub Shows : List Tree → Process → Label → (List Process → List Tree → Type 0) → Type 0
  Shows frame (input c x p) (inputs e r) K =
      (t : Tree) × (e ≡ c) × IsPublic signature c × IsRecipe signature (length frame) r × HasValue theory frame r t × K (put x t p ∷ []) []
  Shows frame (output c u p) (outputs e j) K =
      (t : Tree) × (e ≡ c) × IsPublic signature c × Evaluates theory u t × (j ≡ length frame + 1) × K (p ∷ []) (t ∷ [])
  Shows frame p label K = ⊥

  -- the two communicate unseen, and what they become meets K
  abbrev pub Exchange : Process → Process → (Process → Process → Type 0) → Type 0
  Exchange (output d u p) (input e x q) K = (t : Tree) × (e ≡ d) × MayMeet model signature d × Evaluates theory u t × K p (put x t q)
  Exchange sender receiver K = ⊥

  -- the two are overheard, and what they become and add to the frame meets K
  abbrev pub Overhears : List Tree → Process → Process → Label → (Process → Process → List Tree → Type 0) → Type 0
  Overhears frame (output c u p) (input e x q) (overhears f j) K =
      (t : Tree) × (e ≡ c) × (f ≡ c) × IsOverheard model signature c × Evaluates theory u t × (j ≡ length frame + 1) × K p (put x t q) (t ∷ [])
  Overhears frame sender receiver label K = ⊥

  goes_on :
      {frame added : List Tree} {p : Process} {become : List Process} (K : List Process → List Tree → Type 0)
      → PartSteps signature theory frame p silent become added → K become added → GoesOn p (λ b. K b [])
  goes_on K ends k = k
  goes_on K splits k = k
  goes_on K first k = inl k
  goes_on K second k = inr k
  goes_on K (passes h) k = inl (h, k)
  goes_on K (fails h) k = inr (h, k)
  goes_on K (binds {t = t} h) k = inl (t, h, k)
  goes_on K (binds_not h) k = inr (h, k)

  shows_it :
      {frame added : List Tree} {p : Process} {label : Label} {become : List Process} (K : List Process → List Tree → Type 0)
      → PartSteps signature theory frame p (shows label) become added → K become added → Shows frame p label K
  shows_it K (receives {t = t} c r v) k = (t, refl, c, r, v, k)
  shows_it K (sends {t = t} c v j) k = (t, refl, c, v, j, k)

  exchange :
      {frame added : List Tree} {sender receiver sent received : Process} (K : Process → Process → List Tree → Type 0)
      → Communicates model signature theory frame sender receiver silent sent received added → K sent received added
      → Exchange sender receiver (λ s r. K s r [])
  exchange K (meets {t = t} d v) k = (t, refl, d, v, k)

  overhears_it :
      {frame added : List Tree} {label : Label} {sender receiver sent received : Process} (K : Process → Process → List Tree → Type 0)
      → Communicates model signature theory frame sender receiver (shows label) sent received added → K sent received added
      → Overhears frame sender receiver label K
  overhears_it K (overheard {t = t} o v j) k = (t, refl, refl, o, v, j, k)

  -- a step that begins a run, to parts and a frame that are written out
  run_from :
      {c d : Config} {word : List Label} (parts : List Process) (frame : List Tree) → c.parts ≡ parts → c.frame ≡ frame
      → Runs model signature theory c word d → Runs model signature theory (config parts frame) word d
  run_from {d = d} {word} parts frame e f r = subst (λ (c : Config). Runs model signature theory c word d) (λ i. config (e i) (f i)) r

  -- no part runs no further
  abbrev pub IsStill : List Tree → List Label → Config → Type 0
  IsStill frame word d = (word ≡ []) × (d.frame ≡ frame)

  no_step : {frame : List Tree} {action : Action} {d : Config} → Step model signature theory (config [] frame) action d → ⊥
  no_step (alone t m p f) = no_taking t
  no_step (together t u m p f) = no_taking t

  pub none_run : {frame : List Tree} {word : List Label} {d : Config} → Runs model signature theory (config [] frame) word d → IsStill frame word d
  none_run done = (refl, refl)
  none_run (silently s r) = absurd (no_step s)
  none_run (visibly s r) = absurd (no_step s)

  -- the part p goes on silently beside the others, and the run continues
  abbrev pub RunsSilently : Process → List Process → List Tree → List Label → Config → Type 0
  RunsSilently p others frame word d = GoesOn p (λ b. Runs model signature theory (config (b ++ others) frame) word d)

  -- it shows the label, and the run continues with the word
  abbrev pub RunsVisibly : Process → List Process → List Tree → Label → List Label → Config → Type 0
  RunsVisibly p others frame label word d = Shows frame p label (λ b added. Runs model signature theory (config (b ++ others) (frame ++ added)) word d)

  -- either of these
  abbrev pub RunsAlone : Process → List Process → List Tree → Label → List Label → Config → Type 0
  RunsAlone p others frame label word d = RunsSilently p others frame (label ∷ word) d ⊎ RunsVisibly p others frame label word d

  -- p and q communicate unseen, and the run continues
  abbrev pub RunsTogether : Process → Process → List Tree → List Label → Config → Type 0
  RunsTogether p q frame word d = Exchange p q (λ s r. Runs model signature theory (config (s ∷ r ∷ []) frame) word d)

  -- they are overheard, and the run continues with the word
  abbrev pub RunsOverheard : Process → Process → List Tree → Label → List Label → Config → Type 0
  RunsOverheard p q frame label word d = Overhears frame p q label (λ s r added. Runs model signature theory (config (s ∷ r ∷ []) (frame ++ added)) word d)

  silent_step :
      {p : Process} {frame added : List Tree} {become : List Process} (others : List Process) {c d : Config} {word : List Label}
      → PartSteps signature theory frame p silent become added → c.parts ≡ become ++ others → c.frame ≡ frame ++ added
      → Runs model signature theory c word d → RunsSilently p others frame word d
  silent_step {p} {frame} {added} {become} others {d = d} {word} m e f r =
      subst (λ (g : List Tree). RunsSilently p others g word d) (append-nil frame)
      (goes_on (λ b t. Runs model signature theory (config (b ++ others) (frame ++ t)) word d) m (run_from (become ++ others) (frame ++ added) e f r))

  visible_step :
      {p : Process} {frame added : List Tree} {become : List Process} (others : List Process) {c d : Config} {label : Label} {word : List Label}
      → PartSteps signature theory frame p (shows label) become added → c.parts ≡ become ++ others → c.frame ≡ frame ++ added
      → Runs model signature theory c word d → RunsVisibly p others frame label word d
  visible_step {frame = frame} {added} {become} others {d = d} {word = word} m e f r =
      shows_it (λ b t. Runs model signature theory (config (b ++ others) (frame ++ t)) word d) m (run_from (become ++ others) (frame ++ added) e f r)

  together_step :
      {p q sent received : Process} {frame added : List Tree} {c d : Config} {word : List Label}
      → Communicates model signature theory frame p q silent sent received added → c.parts ≡ sent ∷ received ∷ []
      → c.frame ≡ frame ++ added → Runs model signature theory c word d → RunsTogether p q frame word d
  together_step {p} {q} {sent} {received} {frame} {added} {d = d} {word} m e f r =
      subst (λ (g : List Tree). RunsTogether p q g word d) (append-nil frame)
      (exchange (λ s t a. Runs model signature theory (config (s ∷ t ∷ []) (frame ++ a)) word d) m (run_from (sent ∷ received ∷ []) (frame ++ added) e f r))

  overheard_step :
      {p q sent received : Process} {frame added : List Tree} {c d : Config} {label : Label} {word : List Label}
      → Communicates model signature theory frame p q (shows label) sent received added → c.parts ≡ sent ∷ received ∷ []
      → c.frame ≡ frame ++ added → Runs model signature theory c word d → RunsOverheard p q frame label word d
  overheard_step {sent = sent} {received} {frame} {added} {d = d} {word = word} m e f r =
      overhears_it (λ s t a. Runs model signature theory (config (s ∷ t ∷ []) (frame ++ a)) word d) m (run_from (sent ∷ received ∷ []) (frame ++ added) e f r)

  no_two : {p sender receiver : Process} {others rest : List Process} → Removes sender (p ∷ []) others → Removes receiver others rest → ⊥
  no_two here k = no_taking k
  no_two (there h) k = no_taking h

  -- how a run of one part begins: for no label, and for a label and more
  abbrev pub EndsAlone : Process → List Tree → Config → Type 0
  EndsAlone p frame d = (d.frame ≡ frame) ⊎ RunsSilently p [] frame [] d

  pub one_part_ends : {p : Process} {frame : List Tree} {d : Config} → Runs model signature theory (config (p ∷ []) frame) [] d → EndsAlone p frame d
  one_part_ends done = inl refl
  one_part_ends {p} {frame} {d} (silently {d = c} (alone {become = become} {added = added} t m e f) r) =
      inr (of_one (λ part others. PartSteps signature theory frame part silent become added → c.parts ≡ become ++ others → RunsSilently p [] frame [] d) (λ n g. silent_step [] n g f r) t m e)
  one_part_ends (silently (together t u m e f) r) = absurd (no_two t u)

  pub one_part :
      {p : Process} {frame : List Tree} {label : Label} {word : List Label} {d : Config}
      → Runs model signature theory (config (p ∷ []) frame) (label ∷ word) d → RunsAlone p [] frame label word d
  one_part {p} {frame} {label} {word} {d} (silently {d = c} (alone {become = become} {added = added} t m e f) r) =
      inl (of_one (λ part others. PartSteps signature theory frame part silent become added → c.parts ≡ become ++ others → RunsSilently p [] frame (label ∷ word) d)
      (λ n g. silent_step [] n g f r) t m e)
  one_part (silently (together t u m e f) r) = absurd (no_two t u)
  one_part (visibly (together t u m e f) r) = absurd (no_two t u)
  one_part {p} {frame} {label} {word} {d} (visibly {d = c} (alone {become = become} {added = added} t m e f) r) =
      inr (of_one (λ part others. PartSteps signature theory frame part (shows label) become added → c.parts ≡ become ++ others → RunsVisibly p [] frame label word d)
      (λ n g. visible_step [] n g f r) t m e)

  -- how a run of two parts begins, for a label and more
  abbrev pub RunsBeside : Process → Process → List Tree → Label → List Label → Config → Type 0
  RunsBeside p q frame label word d =
      (RunsAlone p (q ∷ []) frame label word d ⊎ RunsAlone q (p ∷ []) frame label word d)
      ⊎ ((RunsTogether p q frame (label ∷ word) d ⊎ RunsTogether q p frame (label ∷ word) d)
      ⊎ (RunsOverheard p q frame label word d ⊎ RunsOverheard q p frame label word d))

  pub two_parts :
      {p q : Process} {frame : List Tree} {label : Label} {word : List Label} {d : Config}
      → Runs model signature theory (config (p ∷ q ∷ []) frame) (label ∷ word) d → RunsBeside p q frame label word d
  two_parts {p} {q} {frame} {label} {word} {d} (silently {d = c} (alone {become = become} {added = added} t m e f) r) =
      inl (of_two (λ part others. PartSteps signature theory frame part silent become added → c.parts ≡ become ++ others → RunsAlone p
      (q ∷ []) frame label word d ⊎ RunsAlone q (p ∷ []) frame label word d)
      (λ n g. inl (inl (silent_step (q ∷ []) n g f r))) (λ n g. inr (inl (silent_step (p ∷ []) n g f r))) t m e)
  two_parts {p} {q} {frame} {label} {word} {d} (silently {d = c} (together {sent = sent} {received} {added = added} t u m e f) r) =
      inr (inl (of_both
      (λ sender receiver rest. Communicates model signature theory frame sender receiver silent sent received added → c.parts ≡ sent ∷ received ∷ rest
      → RunsTogether p q frame (label ∷ word) d ⊎ RunsTogether q p frame (label ∷ word) d)
      (λ n g. inl (together_step n g f r)) (λ n g. inr (together_step n g f r)) t u m e))
  two_parts {p} {q} {frame} {label} {word} {d} (visibly {d = c} (alone {become = become} {added = added} t m e f) r) =
      inl (of_two (λ part others. PartSteps signature theory frame part (shows label) become added → c.parts ≡ become ++ others → RunsAlone p
      (q ∷ []) frame label word d ⊎ RunsAlone q (p ∷ []) frame label word d)
      (λ n g. inl (inr (visible_step (q ∷ []) n g f r))) (λ n g. inr (inr (visible_step (p ∷ []) n g f r))) t m e)
  two_parts {p} {q} {frame} {label} {word} {d} (visibly {d = c} (together {sent = sent} {received} {added = added} t u m e f) r) =
      inr (inr (of_both (λ sender receiver rest. Communicates model signature theory frame sender receiver
      (shows label) sent received added → c.parts ≡ sent ∷ received ∷ rest → RunsOverheard p q frame label word d ⊎ RunsOverheard q p frame label word d)
      (λ n g. inl (overheard_step n g f r)) (λ n g. inr (overheard_step n g f r)) t u m e))
