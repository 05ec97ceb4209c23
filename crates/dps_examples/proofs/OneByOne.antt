-- Two parts side by side, and one after the other: only who overhears tells them apart.
use Rattle.std.proofs.Common.{◌≡◌, ◌≤◌, List, [], ◌∷◌, length, refl, sym, subst, inl, inr, arith}
use Rattle.std.specs.Prelude.{◌≢◌, codes}
use Rattle.dps_branch.specs.declared.Side.TheVariants.{Left}
use Rattle.dps_terms.specs.Tree.{Tree}
use Rattle.dps_theory.specs.Evaluation.{named}
use Rattle.dps_theory.specs.Examples.{signature, theory, a}
use Rattle.dps_process.specs.Models.{Model, Eavesdrop}
use Rattle.dps_process.specs.Process.{Process, nil, input, output}
use Rattle.dps_process.specs.Steps.{Config, start, Label, inputs, outputs, overhears, here, there, splits, first, second, receives, sends, overheard, alone, together}
use Rattle.dps_process.specs.Traces.{Runs, done, silently, visibly, Ends, IsTrace, IsEquivalent, IsAttack}
use Rattle.dps_process.proofs.RunBeginnings.{config, one_part, two_parts}
use Rattle.dps_process.proofs.LabelsInOrder.{traces_have_lawful_labels}
use Rattle.dps_process.proofs.SilentParts.{choice_is_either, nil_is_unseen, more_parts_stand}
use Rattle.dps_process.proofs.TraceEquivalence.{same_traces}
use Rattle.dps_process.proofs.Unheard.{nothing_overheard}
use Rattle.dps_examples.specs.Differences.{side_by_side, one_by_one, differing, telling}
use Rattle.dps_examples.specs.declared.models.Difference.TheVariants.{OneByOne}
use Rattle.dps_examples.proofs.Counting.{run_shows}

abbrev sender : Process
sender = output 0 a nil

abbrev receiver : Process
receiver = input 0 1 nil

-- the attacker overhears the two side by side
heard : IsTrace Eavesdrop signature theory side_by_side (overhears 0 1 ∷ []) (a ∷ [])
heard = (config (nil ∷ nil ∷ []) (a ∷ []), silently (alone here splits refl refl) (visibly (together here here (overheard (codes "a", refl) (named tt) refl) refl refl) done), refl)

-- and nothing where one comes after the other
not_heard : (frame : List Tree) → ¬ IsTrace Eavesdrop signature theory one_by_one (overhears 0 1 ∷ []) frame
not_heard frame t = elim (one_part Eavesdrop signature theory t.1) [
  | inl (inl h) ↦ elim (one_part Eavesdrop signature theory h) [ inl k ↦ k | inr k ↦ k ]
  | inl (inr h) ↦ elim (one_part Eavesdrop signature theory h) [ inl k ↦ k | inr k ↦ k ]
  | inr h ↦ h
]

pub overheard_attack : IsAttack (differing Eavesdrop OneByOne) Left (telling OneByOne)
overheard_attack = record { frame = a ∷ []; trace = heard; unmatched = λ m. not_heard m.other m.trace }

-- in the other models each has the other's traces
module _ (M : Model) (apart : M ≢ Eavesdrop) where
  abbrev EndsAs : List Process → List Tree → List Label → List Tree → Type 0
  EndsAs ps frame word last = Ends M signature theory (config ps frame) word last

  no_label : (p : Process) (frame : List Tree) → IsTrace M signature theory p [] frame → frame ≡ []
  no_label p [] t = refl
  no_label p (m ∷ ms) t = absurd (let e : length (m ∷ ms) ≡ 0 = traces_have_lawful_labels M signature theory p [] (m ∷ ms) t in omega arith)

  begun : (p : Process) (frame : List Tree) → frame ≡ [] → IsTrace M signature theory p [] frame
  begun p frame e = (start p, done, sym e)

  -- a part more that is gone already
  behind_nil : (p : Process) (frame : List Tree) (word : List Label) (last : List Tree) → EndsAs (p ∷ []) frame word last → EndsAs (nil ∷ p ∷ []) frame word last
  behind_nil p frame word last e = more_parts_stand M signature theory (nil ∷ []) (config (p ∷ []) frame) word last e

  without_nil : (p : Process) (frame : List Tree) (word : List Label) (last : List Tree) → EndsAs (nil ∷ p ∷ []) frame word last → EndsAs (p ∷ []) frame word last
  without_nil p frame word last e = ((nil_is_unseen M signature theory (config (p ∷ []) frame)).same word last).0 e

  -- from the parts side by side
  split : (word : List Label) (last : List Tree) → EndsAs (sender ∷ receiver ∷ []) [] word last → IsTrace M signature theory side_by_side word last
  split word last e = (e.0, silently (alone here splits refl refl) e.1, e.2)

  sender_first :
      (word : List Label) (last : List Tree) (d : Config) → d.frame ≡ last
      → Runs M signature theory (config (output 0 a receiver ∷ []) []) word d → IsTrace M signature theory side_by_side word last
  sender_first [] last d e r = begun side_by_side last (no_label (output 0 a receiver) last (d, r, e))
  sender_first (inputs c m ∷ word) last d e r = elim (one_part M signature theory r) [ inl h ↦ absurd h | inr h ↦ absurd h ]
  sender_first (overhears c j ∷ word) last d e r = elim (one_part M signature theory r) [ inl h ↦ absurd h | inr h ↦ absurd h ]
  sender_first (outputs c j ∷ word) last d e r = elim (one_part M signature theory r) [
    | inl h ↦ absurd h
    | inr h ↦
        let later = behind_nil receiver (h.0 ∷ []) word last (d, h.5, e) in
        let run : EndsAs (sender ∷ receiver ∷ []) [] (outputs 0 1 ∷ word) last = (later.0, visibly (alone here (sends (codes "a", refl) h.3 refl) refl refl) later.1, later.2) in
        split (outputs c j ∷ word) last (subst (λ (l : Label). EndsAs (sender ∷ receiver ∷ []) [] (l ∷ word) last) (sym (λ i. outputs (h.1 i) (h.4 i))) run)
  ]

  receiver_first :
      (word : List Label) (last : List Tree) (d : Config) → d.frame ≡ last
      → Runs M signature theory (config (input 0 1 sender ∷ []) []) word d → IsTrace M signature theory side_by_side word last
  receiver_first [] last d e r = begun side_by_side last (no_label (input 0 1 sender) last (d, r, e))
  receiver_first (outputs c j ∷ word) last d e r = elim (one_part M signature theory r) [ inl h ↦ absurd h | inr h ↦ absurd h ]
  receiver_first (overhears c j ∷ word) last d e r = elim (one_part M signature theory r) [ inl h ↦ absurd h | inr h ↦ absurd h ]
  receiver_first (inputs c m ∷ word) last d e r = elim (one_part M signature theory r) [
    | inl h ↦ absurd h
    | inr h ↦
        let later = behind_nil sender [] word last (d, h.5, e) in
        let run : EndsAs (sender ∷ receiver ∷ []) [] (inputs 0 m ∷ word) last = (later.0, visibly (alone (there here) (receives (codes "a", refl) h.3 h.4) refl refl) later.1, later.2) in
        split (inputs c m ∷ word) last (subst (λ (n : Label). EndsAs (sender ∷ receiver ∷ []) [] (n ∷ word) last) (sym (λ i. inputs (h.1 i) m)) run)
  ]

  back : (word : List Label) (frame : List Tree) → IsTrace M signature theory one_by_one word frame → IsTrace M signature theory side_by_side word frame
  back word frame t =
      elim (((choice_is_either M signature theory (output 0 a receiver) (input 0 1 sender) (record { parts = []; frame = [] })).same word frame).0 t) [
        | inl e ↦ sender_first word frame e.0 e.2 e.1
        | inr e ↦ receiver_first word frame e.0 e.2 e.1
      ]

  -- and back
  chosen_first : (word : List Label) (last : List Tree) → EndsAs (output 0 a receiver ∷ []) [] word last → IsTrace M signature theory one_by_one word last
  chosen_first word last e = (e.0, silently (alone here first refl refl) e.1, e.2)

  chosen_second : (word : List Label) (last : List Tree) → EndsAs (input 0 1 sender ∷ []) [] word last → IsTrace M signature theory one_by_one word last
  chosen_second word last e = (e.0, silently (alone here second refl refl) e.1, e.2)

  -- after a communication that is unseen nothing is left to be shown
  none_left : (label : Label) (word : List Label) (d : Config) → Runs M signature theory (config (nil ∷ nil ∷ []) []) (label ∷ word) d → ⊥
  none_left label word d r = let l : length (label ∷ word) ≤ 0 = run_shows M signature theory r in omega arith

  from_parts :
      (label : Label) (word : List Label) (last : List Tree) (d : Config) → d.frame ≡ last
      → Runs M signature theory (config (sender ∷ receiver ∷ []) []) (label ∷ word) d
      → IsTrace M signature theory one_by_one (label ∷ word) last
  from_parts (inputs c m) word last d e r = elim (two_parts M signature theory r) [
    | inl (inl (inl h)) ↦ absurd h
    | inl (inl (inr h)) ↦ absurd h
    | inl (inr (inl h)) ↦ absurd h
    | inl (inr (inr h)) ↦
        let later = without_nil sender [] word last (d, h.5, e) in
        let run : EndsAs (input 0 1 sender ∷ []) [] (inputs 0 m ∷ word) last = (later.0, visibly (alone here (receives (codes "a", refl) h.3 h.4) refl refl) later.1, later.2) in
        chosen_second (inputs c m ∷ word) last (subst (λ (n : Label). EndsAs (input 0 1 sender ∷ []) [] (n ∷ word) last) (sym (λ i. inputs (h.1 i) m)) run)
    | inr (inl (inl h)) ↦ absurd (none_left (inputs c m) word d h.4)
    | inr (inl (inr h)) ↦ absurd h
    | inr (inr (inl h)) ↦ absurd h
    | inr (inr (inr h)) ↦ absurd h
  ]
  from_parts (outputs c j) word last d e r = elim (two_parts M signature theory r) [
    | inl (inl (inl h)) ↦ absurd h
    | inl (inl (inr h)) ↦
        let later = without_nil receiver (h.0 ∷ []) word last (d, h.5, e) in
        let run : EndsAs (output 0 a receiver ∷ []) [] (outputs 0 1 ∷ word) last = (later.0, visibly (alone here (sends (codes "a", refl) h.3 refl) refl refl) later.1, later.2) in
        chosen_first (outputs c j ∷ word) last (subst (λ (l : Label). EndsAs (output 0 a receiver ∷ []) [] (l ∷ word) last) (sym (λ i. outputs (h.1 i) (h.4 i))) run)
    | inl (inr (inl h)) ↦ absurd h
    | inl (inr (inr h)) ↦ absurd h
    | inr (inl (inl h)) ↦ absurd (none_left (outputs c j) word d h.4)
    | inr (inl (inr h)) ↦ absurd h
    | inr (inr (inl h)) ↦ absurd h
    | inr (inr (inr h)) ↦ absurd h
  ]
  from_parts (overhears c j) word last d e r = elim (two_parts M signature theory r) [
    | inl (inl (inl h)) ↦ absurd h
    | inl (inl (inr h)) ↦ absurd h
    | inl (inr (inl h)) ↦ absurd h
    | inl (inr (inr h)) ↦ absurd h
    | inr (inl (inl h)) ↦ absurd (none_left (overhears c j) word d h.4)
    | inr (inl (inr h)) ↦ absurd h
    | inr (inr (inl h)) ↦ absurd (nothing_overheard M signature 0 apart h.3)
    | inr (inr (inr h)) ↦ absurd h
  ]

  forth : (word : List Label) (frame : List Tree) → IsTrace M signature theory side_by_side word frame → IsTrace M signature theory one_by_one word frame
  forth [] frame t = begun one_by_one frame (no_label side_by_side frame t)
  forth (label ∷ word) frame t = elim (one_part M signature theory t.1) [
    | inl h ↦ from_parts label word frame t.0 t.2 h
    | inr h ↦ absurd h
  ]

  pub sequences_alike : IsEquivalent (differing M OneByOne)
  sequences_alike = record {
    forth = same_traces M signature theory side_by_side one_by_one forth;
    back = same_traces M signature theory one_by_one side_by_side back;
  }
