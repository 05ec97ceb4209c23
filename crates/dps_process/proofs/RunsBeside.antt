-- Runs beside a part that goes on silently, and runs with a part in the place of another.
use Rattle.std.proofs.Common.{◌≡◌, List, [], ◌∷◌, ◌++◌, refl, sym, ◌∙◌, ap, subst, inl, inr, append-nil}
use Rattle.std.specs.Prelude.{◌⊎◌}
use Rattle.dps_terms.specs.Tree.{Tree}
use Rattle.dps_signature.specs.Signature.{Signature}
use Rattle.dps_theory.specs.Theory.{Theory}
use Rattle.dps_process.specs.Process.{Process}
use Rattle.dps_process.specs.Models.{Model}
use Rattle.dps_process.specs.Steps.{Config, Label, Action, silent, shows, Removes, here, there, PartSteps, Communicates, Step, alone, together, IsReordered, a_part, AreOneBag}
use Rattle.dps_process.specs.Forms.{IsOutput, IsInput}
use Rattle.dps_process.specs.Traces.{Runs, done, silently, visibly, Ends}
use Rattle.dps_process.proofs.Bags.{reordered_refl, ends_reordered}
use Rattle.dps_process.proofs.StepForms.{two_forms}
use Rattle.dps_process.proofs.RunBeginnings.{config}

-- Two takings are one, or each leaves the other's part.
abbrev AreOneTaking : Process → Process → List Process → List Process → Type 0
AreOneTaking p q others rest = (p ≡ q) × (others ≡ rest)

abbrev AreApart : Process → Process → List Process → List Process → Type 0
AreApart p q others rest = (left : List Process) × Removes q others left × Removes p rest left

abbrev pub TwoTakings : Process → Process → List Process → List Process → Type 0
TwoTakings p q others rest = AreOneTaking p q others rest ⊎ AreApart p q others rest

takings_below : (z p q : Process) (others rest : List Process) → TwoTakings p q others rest → TwoTakings p q (z ∷ others) (z ∷ rest)
takings_below z p q others rest (inl e) = inl (e.0, ap (λ (ps : List Process). z ∷ ps) e.1)
takings_below z p q others rest (inr k) = inr (z ∷ k.0, there k.1, there k.2)

pub two_takings : {p q : Process} {ps others rest : List Process} → Removes p ps others → Removes q ps rest → TwoTakings p q others rest
two_takings here here = inl (refl, refl)
two_takings here (there {rest = rest} k) = inr (rest, k, here)
two_takings (there {rest = others} h) here = inr (others, here, h)
two_takings {p} {q} (there {q = z} {rest = others} h) (there {rest = rest} k) = takings_below z p q others rest (two_takings h k)

-- a part taken behind others
pub taken_behind : {p : Process} (bs : List Process) {ps rest : List Process} → Removes p ps rest → Removes p (bs ++ ps) (bs ++ rest)
taken_behind [] t = t
taken_behind (b ∷ bs) t = there (taken_behind bs t)

-- two fronts change places
pub fronts_swap : (bs cs ps : List Process) → IsReordered (bs ++ (cs ++ ps)) (cs ++ (bs ++ ps))
fronts_swap [] cs ps = reordered_refl (cs ++ ps)
fronts_swap (b ∷ bs) cs ps = a_part (taken_behind cs here) (fronts_swap bs cs ps)

-- the labels of a step, and then a word
abbrev pub shown : Action → List Label → List Label
shown silent word = word
shown (shows label) word = label ∷ word

module _ (model : Model) (signature : Signature) (theory : Theory) where
  pub meeting_parts :
      {frame added : List Tree} {action : Action} {sender receiver sent received : Process}
      → Communicates model signature theory frame sender receiver action sent received added → IsOutput sender × IsInput receiver
  meeting_parts {frame} m = two_forms model signature theory frame m

  abbrev pub EndsWith : List Process → List Tree → List Label → List Tree → Type 0
  EndsWith ps frame word last = Ends model signature theory (config ps frame) word last

  pub step_first :
      {c d : Config} {word : List Label} {last : List Tree} (action : Action) → Step model signature theory c action d
      → Ends model signature theory d word last → Ends model signature theory c (shown action word) last
  step_first silent s e = (e.0, silently s e.1, e.2)
  step_first (shows label) s e = (e.0, visibly s e.1, e.2)

  -- the same parts and the same frame, where they are written otherwise
  rewritten :
      {d : Config} {word : List Label} {last : List Tree} (parts : List Process) (frame : List Tree) → d.parts ≡ parts
      → d.frame ≡ frame → Ends model signature theory d word last → EndsWith parts frame word last
  rewritten {word = word} {last} parts frame e f r = subst (λ (c : Config). Ends model signature theory c word last) (λ i. config (e i) (f i)) r

  reordered : {word : List Label} {last frame other : List Tree} {ps qs : List Process} → IsReordered ps qs → frame ≡ other → EndsWith ps frame word last → EndsWith qs other word last
  reordered {word} {last} {frame} {other} {ps} {qs} r e k = ends_reordered model signature theory (config ps frame) (config qs other) word last (record { parts = r; frame = e }) k

  moves_as :
      {p q : Process} {frame added : List Tree} {action : Action} {become : List Process} → p ≡ q
      → PartSteps signature theory frame q action become added → PartSteps signature theory frame p action become added
  moves_as {frame = frame} {added} {action} {become} e m = subst (λ (x : Process). PartSteps signature theory frame x action become added) (sym e) m

  sends_as :
      {frame added : List Tree} {action : Action} {p q receiver sent received : Process} → p ≡ q
      → Communicates model signature theory frame q receiver action sent received added
      → Communicates model signature theory frame p receiver action sent received added
  sends_as {frame} {added} {action} {receiver = receiver} {sent} {received} e m = subst (λ (x : Process). Communicates model signature theory frame x receiver action sent received added) (sym e) m

  gets_as :
      {frame added : List Tree} {action : Action} {p q sender sent received : Process} → p ≡ q
      → Communicates model signature theory frame sender q action sent received added
      → Communicates model signature theory frame sender p action sent received added
  gets_as {frame} {added} {action} {sender = sender} {sent} {received} e m = subst (λ (x : Process). Communicates model signature theory frame sender x action sent received added) (sym e) m

  -- the part sends nothing to another, and gets nothing from one
  abbrev pub NeverSends : Process → Type 0
  NeverSends p = (frame added : List Tree) (action : Action) (receiver sent received : Process) → Communicates model signature theory frame p receiver action sent received added → ⊥

  abbrev pub NeverReceives : Process → Type 0
  NeverReceives p = (frame added : List Tree) (action : Action) (sender sent received : Process) → Communicates model signature theory frame sender p action sent received added → ⊥

  -- A part that does nothing but go on silently, as one of these, and there is one.
  pub record GoesOnAsOne (p : Process) (R : List Process → Type 0) : Type 0 where
    pub some : List Process
    pub is_one : R some
    pub moves : (frame added : List Tree) (action : Action) (become : List Process) → PartSteps signature theory frame p action become added → (action ≡ silent) × R become × (added ≡ [])
    pub no_sender : NeverSends p
    pub no_receiver : NeverReceives p

  -- the runs of one of these, in the place of the part
  abbrev pub OneEndsWith : (List Process → Type 0) → List Process → List Tree → List Label → List Tree → Type 0
  OneEndsWith R others frame word last = (b : List Process) × R b × EndsWith (b ++ others) frame word last

  module _ (p : Process) (R : List Process → Type 0) (h : GoesOnAsOne p R) where
    by_itself : {frame added : List Tree} {action : Action} {become others : List Process} {word : List Label} {last : List Tree} {d : Config}
        → (action ≡ silent) × R become × (added ≡ [])
        → d.parts ≡ become ++ others
        → d.frame ≡ frame ++ added
        → Ends model signature theory d word last
        → OneEndsWith R others frame (shown action word) last
    by_itself {frame} {become = become} {others} {word} {last} k pe fe r =
        let run = rewritten (become ++ others) frame pe (fe ∙ (ap (λ a. frame ++ a) k.2 ∙ append-nil frame)) r in
        (become, k.1, subst (λ (a : Action). EndsWith (become ++ others) frame (shown a word) last) (sym k.0) run)

    step_beside : {c d : Config} {action : Action} {word : List Label} {others : List Process} {last : List Tree}
        → Step model signature theory c action d
        → Removes p c.parts others
        → ((left : List Process) → Removes p d.parts left → OneEndsWith R left d.frame word last)
        → Ends model signature theory d word last
        → OneEndsWith R others c.frame (shown action word) last
    step_beside {c} {d} {action} {word} {others} {last} (alone {part = part} {become} {others = rest} {added} t m pe fe) taken rec run =
        elim (two_takings taken t) [
          | inl e ↦ by_itself (h.moves c.frame added action become (moves_as e.0 m)) (pe ∙ ap (λ ps. become ++ ps) (sym e.1)) fe run
          | inr k ↦
              let k2 = rec (become ++ k.0) (subst (λ (ps : List Process). Removes p ps (become ++ k.0)) (sym pe) (taken_behind become k.2)) in
              let next : Config = config (become ++ (k2.0 ++ k.0)) (c.frame ++ added) in
              let step : Step model signature theory (config (k2.0 ++ others) c.frame) action next = alone (taken_behind k2.0 k.1) m refl refl in
              (k2.0, k2.1, step_first action step (reordered (fronts_swap k2.0 become k.0) fe k2.2))
        ]
    step_beside {c} {d} {action} {word} {others} {last} (together {sender = sender} {receiver} {sent} {received} {others = others2} {rest} {added} t u m pe fe) taken rec run =
        elim (two_takings taken t) [
          | inl e ↦ absurd (h.no_sender c.frame added action receiver sent received (sends_as e.0 m))
          | inr k ↦ elim (two_takings k.2 u) [
            | inl e ↦ absurd (h.no_receiver c.frame added action sender sent received (gets_as e.0 m))
            | inr l ↦
                let k2 = rec (sent ∷ received ∷ l.0) (subst (λ (ps : List Process). Removes p ps (sent ∷ received ∷ l.0)) (sym pe) (there (there l.2))) in
                let next : Config = config (sent ∷ received ∷ (k2.0 ++ l.0)) (c.frame ++ added) in
                let step : Step model signature theory (config (k2.0 ++ others) c.frame) action next = together (taken_behind k2.0 k.1) (taken_behind k2.0 l.1) m refl refl in
                (k2.0, k2.1, step_first action step (reordered (fronts_swap k2.0 (sent ∷ received ∷ []) l.0) fe k2.2))
          ]
        ]

    pub run_beside : {c d : Config} {word : List Label} {others : List Process} → Runs model signature theory c word d → Removes p c.parts others → OneEndsWith R others c.frame word d.frame
    run_beside {c} {others = others} done taken = (h.some, h.is_one, (config (h.some ++ others) c.frame, done, refl))
    run_beside {d = e} (silently s r) taken = step_beside s taken (λ left t. run_beside r t) (e, r, refl)
    run_beside {d = e} (visibly s r) taken = step_beside s taken (λ left t. run_beside r t) (e, r, refl)

  -- what one part does, the other does too
  pub record DoesAll (p q : Process) : Type 0 where
    pub moves : (frame added : List Tree) (action : Action) (become : List Process) → PartSteps signature theory frame p action become added → PartSteps signature theory frame q action become added
    pub sender :
        (frame added : List Tree) (action : Action) (receiver sent received : Process)
        → Communicates model signature theory frame p receiver action sent received added
        → Communicates model signature theory frame q receiver action sent received added
    pub receiver :
        (frame added : List Tree) (action : Action) (sender sent received : Process)
        → Communicates model signature theory frame sender p action sent received added
        → Communicates model signature theory frame sender q action sent received added

  module _ (p q : Process) (h : DoesAll p q) where
    step_in_place : {c d : Config} {action : Action} {word : List Label} {others : List Process} {last : List Tree}
        → Step model signature theory c action d
        → Removes p c.parts others
        → ((left : List Process) → Removes p d.parts left → EndsWith (q ∷ left) d.frame word last)
        → Ends model signature theory d word last
        → EndsWith (q ∷ others) c.frame (shown action word) last
    step_in_place {c} {d} {action} {word} {others} {last} (alone {part = part} {become} {others = rest} {added} t m pe fe) taken rec run =
        elim (two_takings taken t) [
          | inl e ↦
              let step : Step model signature theory (config (q ∷ others) c.frame) action (config (become ++ others) (c.frame ++ added)) =
              alone here (h.moves c.frame added action become (moves_as e.0 m)) refl refl in
              step_first action step (rewritten (become ++ others) (c.frame ++ added) (pe ∙ ap (λ ps. become ++ ps) (sym e.1)) fe run)
          | inr k ↦
              let k2 = rec (become ++ k.0) (subst (λ (ps : List Process). Removes p ps (become ++ k.0)) (sym pe) (taken_behind become k.2)) in
              let next : Config = config (become ++ (q ∷ k.0)) (c.frame ++ added) in
              let step : Step model signature theory (config (q ∷ others) c.frame) action next = alone (there k.1) m refl refl in
              step_first action step (reordered (fronts_swap (q ∷ []) become k.0) fe k2)
        ]
    step_in_place {c} {d} {action} {word} {others} {last} (together {sender = sender} {receiver} {sent} {received} {others = others2} {rest} {added} t u m pe fe) taken rec run =
        elim (two_takings taken t) [
          | inl e ↦
              let step : Step model signature theory (config (q ∷ others) c.frame) action (config (sent ∷ received ∷ rest) (c.frame ++ added)) =
              together here (subst (λ (ps : List Process). Removes receiver ps rest) (sym e.1) u) (h.sender c.frame added action receiver sent received (sends_as e.0 m)) refl refl in
              step_first action step (rewritten (sent ∷ received ∷ rest) (c.frame ++ added) pe fe run)
          | inr k ↦ elim (two_takings k.2 u) [
            | inl e ↦
                let step : Step model signature theory (config (q ∷ others) c.frame) action (config (sent ∷ received ∷ k.0) (c.frame ++ added)) =
                together (there k.1) here (h.receiver c.frame added action sender sent received (gets_as e.0 m)) refl refl in
                step_first action step (rewritten (sent ∷ received ∷ k.0) (c.frame ++ added) (pe ∙ ap (λ ps. sent ∷ received ∷ ps) (sym e.1)) fe run)
            | inr l ↦
                let k2 = rec (sent ∷ received ∷ l.0) (subst (λ (ps : List Process). Removes p ps (sent ∷ received ∷ l.0)) (sym pe) (there (there l.2))) in
                let next : Config = config (sent ∷ received ∷ (q ∷ l.0)) (c.frame ++ added) in
                let step : Step model signature theory (config (q ∷ others) c.frame) action next = together (there k.1) (there l.1) m refl refl in
                step_first action step (reordered (fronts_swap (q ∷ []) (sent ∷ received ∷ []) l.0) fe k2)
          ]
        ]

    pub run_in_place : {c d : Config} {word : List Label} {others : List Process} → Runs model signature theory c word d → Removes p c.parts others → EndsWith (q ∷ others) c.frame word d.frame
    run_in_place {c} {others = others} done taken = (config (q ∷ others) c.frame, done, refl)
    run_in_place {d = e} (silently s r) taken = step_in_place s taken (λ left t. run_in_place r t) (e, r, refl)
    run_in_place {d = e} (visibly s r) taken = step_in_place s taken (λ left t. run_in_place r t) (e, r, refl)

  -- a step of some parts beside others
  abbrev StepsBeside : List Process → Config → Action → Config → Type 0
  StepsBeside ps c action d = (next : Config) × Step model signature theory (config (ps ++ c.parts) c.frame) action next × AreOneBag (config (ps ++ d.parts) d.frame) next

  step_with_more : (ps : List Process) {c d : Config} {action : Action} → Step model signature theory c action d → StepsBeside ps c action d
  step_with_more ps {c} {d} (alone {become = become} {others} {added} t m pe fe) =
      let next : Config = config (become ++ (ps ++ others)) (c.frame ++ added) in (
        next,
        alone (taken_behind ps t) m refl refl,
        record { parts = subst (λ (qs : List Process). IsReordered (ps ++ qs) (become ++ (ps ++ others))) (sym pe) (fronts_swap ps become others); frame = fe },
      )
  step_with_more ps {c} {d} (together {sent = sent} {received} {others} {rest} {added} t u m pe fe) =
      let next : Config = config (sent ∷ received ∷ (ps ++ rest)) (c.frame ++ added) in (
        next,
        together (taken_behind ps t) (taken_behind ps u) m refl refl,
        record { parts = subst (λ (qs : List Process). IsReordered (ps ++ qs) (sent ∷ received ∷ (ps ++ rest))) (sym pe) (fronts_swap ps (sent ∷ received ∷ []) rest); frame = fe },
      )

  step_beside_more :
      (ps : List Process) {c d : Config} {word : List Label} {last : List Tree} (action : Action)
      → Step model signature theory c action d → EndsWith (ps ++ d.parts) d.frame word last
      → EndsWith (ps ++ c.parts) c.frame (shown action word) last
  step_beside_more ps {c} {d} {word} {last} action s e =
      let k = step_with_more ps s in
      step_first action k.1 (ends_reordered model signature theory (config (ps ++ d.parts) d.frame) k.0 word last k.2 e)

  pub run_with_more : (ps : List Process) {c d : Config} {word : List Label} → Runs model signature theory c word d → EndsWith (ps ++ c.parts) c.frame word d.frame
  run_with_more ps {c} done = (config (ps ++ c.parts) c.frame, done, refl)
  run_with_more ps (silently s r) = step_beside_more ps silent s (run_with_more ps r)
  run_with_more ps (visibly {label = label} s r) = step_beside_more ps (shows label) s (run_with_more ps r)
