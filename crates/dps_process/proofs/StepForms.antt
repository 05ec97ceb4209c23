-- The forms of processes, and what they do.
use Rattle.std.proofs.Common.{◌≡◌, ℕ, ◌+◌, List, [], ◌∷◌, length, refl, sym, subst, inl, inr, ap}
use Rattle.std.specs.Prelude.{◌⊎◌}
use Rattle.dps_terms.specs.Tree.{Tree}
use Rattle.dps_signature.specs.Signature.{Signature, IsPublic}
use Rattle.dps_signature.specs.Kinds.{IsRecipe}
use Rattle.dps_theory.specs.Theory.{Theory}
use Rattle.dps_theory.specs.Evaluation.{Evaluates, IsMessage, AreEqual}
use Rattle.dps_theory.specs.Frames.{HasValue}
use Rattle.dps_process.specs.Models.{Model}
use Rattle.dps_process.specs.Process.{Process, nil, parallel, choice, conditional, bind, input, output, put}
use Rattle.dps_process.specs.Steps.{Config, inputs, outputs, overhears, Action, silent, shows, PartSteps, ends, splits, first, second}
use Rattle.dps_process.specs.Steps.{passes, fails, binds, binds_not, receives, sends, Communicates, meets, overheard, Step, alone, together}
use Rattle.dps_process.specs.Forms.{IsSilentTo, NilEnds, ParallelSplits, ChoiceChooses, TestBranches, BindingBranches, InputReceives, OutputSends}
use Rattle.dps_process.specs.Forms.{IsOutput, IsInput, OutputsMeetInputs, IsUnseenOrOverheard, MessageIsPassed, OneMoves, TwoCommunicate, OneOrTwoMove}

module _ (signature : Signature) (theory : Theory) (frame : List Tree) where
  -- a step of a part, to what it is equal to
  moved :
      (part : Process) {action other : Action} {become bs : List Process} {added ts : List Tree} → action ≡ other → become ≡ bs
      → added ≡ ts → PartSteps signature theory frame part other bs ts → PartSteps signature theory frame part action become added
  moved part e f g m = subst (λ (k : Action × (List Process × List Tree)). PartSteps signature theory frame part k.0 k.1.0 k.1.1) (sym (λ i. (e i, (f i, g i)))) m

  silently_moved :
      (part : Process) {ps : List Process} {action : Action} {become : List Process} {added : List Tree}
      → PartSteps signature theory frame part silent ps [] → IsSilentTo ps action become added
      → PartSteps signature theory frame part action become added
  silently_moved part m k = moved part k.0 k.1 k.2 m

  nil_does : {action : Action} {become : List Process} {added : List Tree} → PartSteps signature theory frame nil action become added → IsSilentTo [] action become added
  nil_does ends = (refl, refl, refl)

  parallel_does :
      {p q : Process} {action : Action} {become : List Process} {added : List Tree}
      → PartSteps signature theory frame (parallel p q) action become added → IsSilentTo (p ∷ q ∷ []) action become added
  parallel_does splits = (refl, refl, refl)

  abbrev Chosen : Process → Process → Action → List Process → List Tree → Type 0
  Chosen p q action become added = IsSilentTo (p ∷ []) action become added ⊎ IsSilentTo (q ∷ []) action become added

  choice_does : {p q : Process} {action : Action} {become : List Process} {added : List Tree} → PartSteps signature theory frame (choice p q) action become added → Chosen p q action become added
  choice_does first = inl (refl, refl, refl)
  choice_does second = inr (refl, refl, refl)

  abbrev Tested : Tree → Tree → Process → Process → Action → List Process → List Tree → Type 0
  Tested u v p q action become added =
      (AreEqual theory u v × IsSilentTo (p ∷ []) action become added) ⊎ ((¬ AreEqual theory u v) × IsSilentTo (q ∷ []) action become added)

  test_does :
      {u v : Tree} {p q : Process} {action : Action} {become : List Process} {added : List Tree}
      → PartSteps signature theory frame (conditional u v p q) action become added → Tested u v p q action become added
  test_does (passes e) = inl (e, (refl, refl, refl))
  test_does (fails e) = inr (e, (refl, refl, refl))

  abbrev Bound : ℕ → Tree → Process → Process → Action → List Process → List Tree → Type 0
  Bound x u p q action become added =
      ((t : Tree) × Evaluates theory u t × IsSilentTo (put x t p ∷ []) action become added) ⊎ ((¬ IsMessage theory u) × IsSilentTo (q ∷ []) action become added)

  binding_does :
      {x : ℕ} {u : Tree} {p q : Process} {action : Action} {become : List Process} {added : List Tree}
      → PartSteps signature theory frame (bind x u p q) action become added → Bound x u p q action become added
  binding_does (binds {t = t} e) = inl (t, e, (refl, refl, refl))
  binding_does (binds_not e) = inr (e, (refl, refl, refl))

  abbrev Received : ℕ → ℕ → Process → Action → List Process → List Tree → Type 0
  Received c x p action become added =
      (r : Tree) × (t : Tree) × IsPublic signature c × IsRecipe signature (length frame) r × HasValue theory frame r t
      × (action ≡ shows (inputs c r)) × (become ≡ put x t p ∷ []) × (added ≡ [])

  input_does :
      {c x : ℕ} {p : Process} {action : Action} {become : List Process} {added : List Tree}
      → PartSteps signature theory frame (input c x p) action become added → Received c x p action become added
  input_does (receives {r = r} {t} i j v) = (r, t, i, j, v, refl, refl, refl)

  abbrev Sent : ℕ → Tree → Process → Action → List Process → List Tree → Type 0
  Sent c u p action become added =
      (t : Tree) × IsPublic signature c × Evaluates theory u t × (action ≡ shows (outputs c (length frame + 1))) × (become ≡ p ∷ []) × (added ≡ t ∷ [])

  output_does :
      {c : ℕ} {u : Tree} {p : Process} {action : Action} {become : List Process} {added : List Tree}
      → PartSteps signature theory frame (output c u p) action become added → Sent c u p action become added
  output_does {c} (sends {t = t} i v e) = (t, i, v, ap (λ j. shows (outputs c j)) e, refl, refl)

pub nil_ends : NilEnds
nil_ends signature theory frame action become added = (λ m. nil_does signature theory frame m, λ k. silently_moved signature theory frame nil ends k)

pub parallel_splits : ParallelSplits
parallel_splits signature theory frame p q action become added =
    (λ m. parallel_does signature theory frame m, λ k. silently_moved signature theory frame (parallel p q) splits k)

pub choice_chooses : ChoiceChooses
choice_chooses signature theory frame p q action become added = (
  λ m. choice_does signature theory frame m,
  λ k. elim k [ inl h ↦ silently_moved signature theory frame (choice p q) first h | inr h ↦ silently_moved signature theory frame (choice p q) second h ],
)

pub test_branches : TestBranches
test_branches signature theory frame u v p q action become added = (
  λ m. test_does signature theory frame m,
  λ k. elim k [
    | inl h ↦ silently_moved signature theory frame (conditional u v p q) (passes h.0) h.1
    | inr h ↦ silently_moved signature theory frame (conditional u v p q) (fails h.0) h.1
  ],
)

pub binding_branches : BindingBranches
binding_branches signature theory frame x u p q action become added = (
  λ m. binding_does signature theory frame m,
  λ k. elim k [
    | inl h ↦ silently_moved signature theory frame (bind x u p q) (binds h.1) h.2
    | inr h ↦ silently_moved signature theory frame (bind x u p q) (binds_not h.0) h.1
  ],
)

pub input_receives : InputReceives
input_receives signature theory frame c x p action become added = (
  λ m. input_does signature theory frame m,
  λ k. moved signature theory frame (input c x p) k.5 k.6 k.7 (receives k.2 k.3 k.4),
)

pub output_sends : OutputSends
output_sends signature theory frame c u p action become added = (
  λ m. output_does signature theory frame m,
  λ k. moved signature theory frame (output c u p) k.3 k.4 k.5 (sends k.1 k.2 refl),
)

module _ (model : Model) (signature : Signature) (theory : Theory) (frame : List Tree) where
  pub two_forms :
      {sender receiver sent received : Process} {action : Action} {added : List Tree}
      → Communicates model signature theory frame sender receiver action sent received added → IsOutput sender × IsInput receiver
  two_forms (meets i e) = (tt, tt)
  two_forms (overheard i e j) = (tt, tt)

  abbrev IsPassed : ℕ → ℕ → ℕ → Tree → Process → Process → Process → Process → Action → List Tree → Type 0
  IsPassed c d x u p q sent received action added =
      (t : Tree) × (d ≡ c) × Evaluates theory u t × (sent ≡ p) × (received ≡ put x t q) × IsUnseenOrOverheard model signature frame c t action added

  passed :
      {c d x : ℕ} {u : Tree} {p q sent received : Process} {action : Action} {added : List Tree}
      → Communicates model signature theory frame (output c u p) (input d x q) action sent received added
      → IsPassed c d x u p q sent received action added
  passed (meets {t = t} i e) = (t, refl, e, refl, refl, inl (i, refl, refl))
  passed (overheard {c} {t = t} i e j) = (t, refl, e, refl, refl, inr (i, ap (λ n. shows (overhears c n)) j, refl))

  exchanged :
      (c x : ℕ) (u t : Tree) (p q : Process) {action : Action} {added : List Tree} → Evaluates theory u t
      → IsUnseenOrOverheard model signature frame c t action added
      → Communicates model signature theory frame (output c u p) (input c x q) action p (put x t q) added
  exchanged c x u t p q e (inl h) = subst (λ (k : Action × List Tree). Communicates model signature theory frame (output c u p) (input c x q) k.0 p (put x t q) k.1)
      (sym (λ i. (h.1 i, h.2 i))) (meets h.0 e)
  exchanged c x u t p q e (inr h) = subst (λ (k : Action × List Tree). Communicates model signature theory frame (output c u p) (input c x q) k.0 p (put x t q) k.1)
      (sym (λ i. (h.1 i, h.2 i))) (overheard h.0 e refl)

  communicates :
      (c d x : ℕ) (u : Tree) (p q sent received : Process) (action : Action) (added : List Tree)
      → IsPassed c d x u p q sent received action added
      → Communicates model signature theory frame (output c u p) (input d x q) action sent received added
  communicates c d x u p q sent received action added k =
      subst (λ (s : ℕ × (Process × Process)). Communicates model signature theory frame (output c u p) (input s.0 x q) action s.1.0 s.1.1 added)
      (sym (λ i. (k.1 i, (k.3 i, k.4 i)))) (exchanged c x u k.0 p q k.2 k.5)

pub outputs_meet_inputs : OutputsMeetInputs
outputs_meet_inputs model signature theory frame sender receiver sent received action added m = two_forms model signature theory frame m

pub message_is_passed : MessageIsPassed
message_is_passed model signature theory frame c d x u p q sent received action added =
    (λ m. passed model signature theory frame m, communicates model signature theory frame c d x u p q sent received action added)

pub one_or_two_move : OneOrTwoMove
one_or_two_move model signature theory c d action = (λ s. taken s, λ k. elim k [ inl h ↦ one h | inr h ↦ two h ])
  where
    taken : {e : Config} → Step model signature theory c action e → OneMoves signature theory c action e ⊎ TwoCommunicate model signature theory c action e
    taken (alone {part = part} {become} {others} {added} t m p f) = inl (part, others, become, added, t, m, λ i. record { parts = p i; frame = f i })
    taken (together {sender = sender} {receiver} {sent} {received} {others} {rest} {added} t u m p f) =
        inr (sender, receiver, others, rest, sent, received, added, t, u, m, λ i. record { parts = p i; frame = f i })

    one : OneMoves signature theory c action d → Step model signature theory c action d
    one h = alone h.4 h.5 (ap (λ (e : Config). e.parts) h.6) (ap (λ (e : Config). e.frame) h.6)

    two : TwoCommunicate model signature theory c action d → Step model signature theory c action d
    two h = together h.7 h.8 h.9 (ap (λ (e : Config). e.parts) h.10) (ap (λ (e : Config). e.frame) h.10)
