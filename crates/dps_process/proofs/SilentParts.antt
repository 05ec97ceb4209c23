-- Silent parts commute with all else.
use Rattle.std.proofs.Common.{◌≡◌, ℕ, List, [], ◌∷◌, refl, sym, ap, subst, inl, inr, append-nil}
use Rattle.std.specs.Prelude.{◌⊎◌}
use Rattle.dps_terms.specs.Tree.{Tree}
use Rattle.dps_signature.specs.Signature.{Signature}
use Rattle.dps_theory.specs.Theory.{Theory, IsAccepted, HasPlainRules}
use Rattle.dps_theory.specs.Evaluation.{Evaluates, IsMessage, AreEqual}
use Rattle.dps_theory.proofs.Evaluating.{evaluates_once, value_plain, plain_evaluates, plain_alone}
use Rattle.dps_process.specs.Process.{Process, nil, parallel, choice, conditional, bind, output, put}
use Rattle.dps_process.specs.Models.{Model}
use Rattle.dps_process.specs.Steps.{Config, Label, Action, silent, here, PartSteps, ends, splits, first, second, passes, fails, binds, binds_not, sends, Communicates, meets, overheard, alone}
use Rattle.dps_process.specs.Traces.{silently, Ends}
use Rattle.dps_process.specs.Silence.{beside, HaveSameEnds, HasEndsOfBoth}
use Rattle.dps_process.proofs.RunsBeside.{meeting_parts, NeverSends, NeverReceives, GoesOnAsOne, OneEndsWith, run_beside, DoesAll, run_in_place, run_with_more}

module _ (model : Model) (signature : Signature) (theory : Theory) where
  abbrev IsOnly : List Process → List Process → Type 0
  IsOnly bs become = become ≡ bs

  abbrev IsEither : List Process → List Process → List Process → Type 0
  IsEither bs cs become = (become ≡ bs) ⊎ (become ≡ cs)

  abbrev MovesSilently : (List Process → Type 0) → Action → List Process → List Tree → Type 0
  MovesSilently R action become added = (action ≡ silent) × R become × (added ≡ [])

  abbrev EndsBeside : List Process → Config → List Label → List Tree → Type 0
  EndsBeside ps c word frame = Ends model signature theory (beside ps c) word frame

  ends_as : (c : Config) (word : List Label) (last frame : List Tree) {bs cs : List Process} → bs ≡ cs → last ≡ frame → EndsBeside bs c word last → EndsBeside cs c word frame
  ends_as c word last frame {bs} {cs} e f k = subst (λ (g : List Tree). EndsBeside cs c word g) f (subst (λ (ps : List Process). EndsBeside ps c word last) e k)

  moves_first :
      (p : Process) (bs : List Process) (c : Config) (word : List Label) (frame : List Tree)
      → PartSteps signature theory c.frame p silent bs [] → EndsBeside bs c word frame → EndsBeside (p ∷ []) c word frame
  moves_first p bs c word frame m e = (e.0, silently (alone here m refl (sym (append-nil c.frame))) e.1, e.2)

  -- where the part only goes on so, the runs are those of what it becomes
  same_ends :
      (p : Process) (bs : List Process) (c : Config) → GoesOnAsOne model signature theory p (IsOnly bs)
      → PartSteps signature theory c.frame p silent bs [] → HaveSameEnds model signature theory (beside (p ∷ []) c) (beside bs c)
  same_ends p bs c h m = record {
    same = λ word frame. (
      λ e. (let k = run_beside model signature theory p (IsOnly bs) h e.1 here in ends_as c word (e.0).frame frame k.1 e.2 k.2),
      λ e. moves_first p bs c word frame m e,
    );
  }

  either_ends :
      (bs cs : List Process) (c : Config) (word : List Label) (last frame : List Tree) → last ≡ frame
      → OneEndsWith model signature theory (IsEither bs cs) c.parts c.frame word last
      → EndsBeside bs c word frame ⊎ EndsBeside cs c word frame
  either_ends bs cs c word last frame f k = elim k.1 [
    | inl e ↦ inl (ends_as c word last frame e f k.2)
    | inr e ↦ inr (ends_as c word last frame e f k.2)
  ]

  -- a part that is no output is in no meeting as a sender, and so on
  abbrev NoMeeting : Process → Type 0
  NoMeeting p = NeverSends model signature theory p × NeverReceives model signature theory p

  goes_on_as : (p : Process) (bs : List Process)
      → NoMeeting p
      → ((frame added : List Tree) (action : Action) (become : List Process) → PartSteps signature theory frame p action become added → MovesSilently (IsOnly bs) action become added)
      → GoesOnAsOne model signature theory p (IsOnly bs)
  goes_on_as p bs n m = record { some = bs; is_one = refl; moves = m; no_sender = n.0; no_receiver = n.1 }

  nil_moves : {frame added : List Tree} {action : Action} {become : List Process} → PartSteps signature theory frame nil action become added → MovesSilently (IsOnly []) action become added
  nil_moves ends = (refl, refl, refl)

  parallel_moves :
      {p q : Process} {frame added : List Tree} {action : Action} {become : List Process}
      → PartSteps signature theory frame (parallel p q) action become added
      → MovesSilently (IsOnly (p ∷ q ∷ [])) action become added
  parallel_moves splits = (refl, refl, refl)

  choice_moves :
      {p q : Process} {frame added : List Tree} {action : Action} {become : List Process}
      → PartSteps signature theory frame (choice p q) action become added
      → MovesSilently (IsEither (p ∷ []) (q ∷ [])) action become added
  choice_moves first = (refl, inl refl, refl)
  choice_moves second = (refl, inr refl, refl)

  test_passes :
      {u v : Tree} {p q : Process} {frame added : List Tree} {action : Action} {become : List Process} → AreEqual theory u v
      → PartSteps signature theory frame (conditional u v p q) action become added
      → MovesSilently (IsOnly (p ∷ [])) action become added
  test_passes h (passes k) = (refl, refl, refl)
  test_passes h (fails k) = absurd (k h)

  test_fails :
      {u v : Tree} {p q : Process} {frame added : List Tree} {action : Action} {become : List Process} → ¬ AreEqual theory u v
      → PartSteps signature theory frame (conditional u v p q) action become added
      → MovesSilently (IsOnly (q ∷ [])) action become added
  test_fails h (passes k) = absurd (h k)
  test_fails h (fails k) = (refl, refl, refl)

  binding_binds :
      IsAccepted theory → {x : ℕ} {u t : Tree} {p q : Process} {frame added : List Tree} {action : Action} {become : List Process}
      → Evaluates theory u t → PartSteps signature theory frame (bind x u p q) action become added
      → MovesSilently (IsOnly (put x t p ∷ [])) action become added
  binding_binds accepted {x} {p = p} h (binds k) = (refl, ap (λ (s : Tree). put x s p ∷ []) (evaluates_once theory accepted k h), refl)
  binding_binds accepted {t = t} h (binds_not k) = absurd (k (t, h))

  binding_fails :
      {x : ℕ} {u : Tree} {p q : Process} {frame added : List Tree} {action : Action} {become : List Process}
      → ¬ IsMessage theory u → PartSteps signature theory frame (bind x u p q) action become added
      → MovesSilently (IsOnly (q ∷ [])) action become added
  binding_fails h (binds {t = t} k) = absurd (h (t, k))
  binding_fails h (binds_not k) = (refl, refl, refl)

  pub nil_is_unseen : (c : Config) → HaveSameEnds model signature theory (beside (nil ∷ []) c) c
  nil_is_unseen c =
      same_ends nil [] c
      (goes_on_as nil [] (
        λ frame added action r s t m. (meeting_parts model signature theory m).0,
        λ frame added action r s t m.
            (meeting_parts model signature theory m).1,
      ) (λ frame added action become m. nil_moves m))
      ends

  pub parallel_is_two_parts : (p q : Process) (c : Config) → HaveSameEnds model signature theory (beside (parallel p q ∷ []) c) (beside (p ∷ q ∷ []) c)
  parallel_is_two_parts p q c =
      same_ends (parallel p q) (p ∷ q ∷ []) c
      (goes_on_as (parallel p q) (p ∷ q ∷ []) (
        λ frame added action r s t m. (meeting_parts model signature theory m).0,
        λ frame added action r s t m.
            (meeting_parts model signature theory m).1,
      ) (λ frame added action become m. parallel_moves m))
      splits

  choice_goes_on : (p q : Process) → GoesOnAsOne model signature theory (choice p q) (IsEither (p ∷ []) (q ∷ []))
  choice_goes_on p q = record {
    some = p ∷ [];
    is_one = inl refl;
    moves = λ frame added action become m. choice_moves m;
    no_sender = λ frame added action r s t m. (meeting_parts model signature theory m).0;
    no_receiver = λ frame added action r s t m. (meeting_parts model signature theory m).1;
  }

  pub choice_is_either : (p q : Process) (c : Config) → HasEndsOfBoth model signature theory (beside (choice p q ∷ []) c) (beside (p ∷ []) c) (beside (q ∷ []) c)
  choice_is_either p q c = record {
    same = λ word frame. (
      λ e. either_ends (p ∷ []) (q ∷ []) c word (e.0).frame frame e.2 (run_beside model signature theory (choice p q) (IsEither (p ∷ []) (q ∷ [])) (choice_goes_on p q) e.1 here),
      elim [ inl e ↦ moves_first (choice p q) (p ∷ []) c word frame first e | inr e ↦ moves_first (choice p q) (q ∷ []) c word frame second e ],
    );
  }

  pub test_is_its_branch : (u v : Tree) (p q : Process) (c : Config)
      → (AreEqual theory u v → HaveSameEnds model signature theory (beside (conditional u v p q ∷ []) c) (beside (p ∷ []) c))
      × ((¬ AreEqual theory u v) → HaveSameEnds model signature theory (beside (conditional u v p q ∷ []) c) (beside (q ∷ []) c))
  test_is_its_branch u v p q c =
      let none : NoMeeting (conditional u v p q) =
      (λ frame added action r s t m. (meeting_parts model signature theory m).0, λ frame added action r s t m. (meeting_parts model signature theory m).1) in (
        λ h. same_ends (conditional u v p q) (p ∷ []) c (goes_on_as (conditional u v p q) (p ∷ []) none (λ frame added action become m. test_passes h m)) (passes h),
        λ h. same_ends (conditional u v p q) (q ∷ []) c (goes_on_as (conditional u v p q) (q ∷ []) none (λ frame added action become m. test_fails h m)) (fails h),
      )

  pub binding_is_its_branch : (x : ℕ) (u : Tree) (p q : Process) (c : Config)
      → IsAccepted theory
      → ((t : Tree) → Evaluates theory u t → HaveSameEnds model signature theory (beside (bind x u p q ∷ []) c) (beside (put x t p ∷ []) c))
      × ((¬ IsMessage theory u) → HaveSameEnds model signature theory (beside (bind x u p q ∷ []) c) (beside (q ∷ []) c))
  binding_is_its_branch x u p q c accepted =
      let none : NoMeeting (bind x u p q) = (λ frame added action r s t m. (meeting_parts model signature theory m).0, λ frame added action r s t m. (meeting_parts model signature theory m).1) in (
        λ t h. same_ends (bind x u p q) (put x t p ∷ []) c (goes_on_as (bind x u p q) (put x t p ∷ []) none (λ frame added action become m. binding_binds accepted h m)) (binds h),
        λ h. same_ends (bind x u p q) (q ∷ []) c (goes_on_as (bind x u p q) (q ∷ []) none (λ frame added action become m. binding_fails h m)) (binds_not h),
      )

  -- an output by what its term evaluates to
  output_moves_as :
      (v : Tree) {d : ℕ} {u : Tree} {p : Process} {frame added : List Tree} {action : Action} {become : List Process}
      → ((t : Tree) → Evaluates theory u t → Evaluates theory v t)
      → PartSteps signature theory frame (output d u p) action become added
      → PartSteps signature theory frame (output d v p) action become added
  output_moves_as v h (sends {t = t} c e j) = sends c (h t e) j

  output_meets_as :
      (v : Tree) {d : ℕ} {u : Tree} {frame added : List Tree} {action : Action} {p receiver sent received : Process}
      → ((t : Tree) → Evaluates theory u t → Evaluates theory v t)
      → Communicates model signature theory frame (output d u p) receiver action sent received added
      → Communicates model signature theory frame (output d v p) receiver action sent received added
  output_meets_as v h (meets {t = t} i e) = meets i (h t e)
  output_meets_as v h (overheard {t = t} i e j) = overheard i (h t e) j

  output_does : (d : ℕ) (u v : Tree) (p : Process) → ((t : Tree) → Evaluates theory u t → Evaluates theory v t) → DoesAll model signature theory (output d u p) (output d v p)
  output_does d u v p h = record {
    moves = λ frame added action become m. output_moves_as v h m;
    sender = λ frame added action r s t m. output_meets_as v h m;
    receiver = λ frame added action r s t m. absurd ((meeting_parts model signature theory m).1);
  }

  output_ends :
      (d : ℕ) (u v : Tree) (p : Process) (c : Config) (word : List Label) (frame : List Tree)
      → ((t : Tree) → Evaluates theory u t → Evaluates theory v t) → EndsBeside (output d u p ∷ []) c word frame
      → EndsBeside (output d v p ∷ []) c word frame
  output_ends d u v p c word frame h e =
      ends_as c word (e.0).frame frame {bs = output d v p ∷ []} refl e.2 (run_in_place model signature theory (output d u p) (output d v p) (output_does d u v p h) e.1 here)

  pub output_is_of_its_value :
      (d : ℕ) (u t : Tree) (p : Process) (c : Config) → IsAccepted theory → HasPlainRules theory → Evaluates theory u t
      → HaveSameEnds model signature theory (beside (output d u p ∷ []) c) (beside (output d t p ∷ []) c)
  output_is_of_its_value d u t p c accepted plain h =
      let is_plain = value_plain theory accepted plain h in
      record {
        same = λ word frame. (
          output_ends d u t p c word frame (λ s e. subst (λ (v : Tree). Evaluates theory t v) (evaluates_once theory accepted h e) (plain_evaluates theory t is_plain)),
          output_ends d t u p c word frame (λ s e. subst (λ (v : Tree). Evaluates theory u v) (sym (plain_alone theory e is_plain)) h),
        );
      }

  failed_moves :
      {d : ℕ} {u : Tree} {p : Process} {frame added : List Tree} {action : Action} {become : List Process} → ¬ IsMessage theory u
      → PartSteps signature theory frame (output d u p) action become added → ⊥
  failed_moves h (sends {t = t} c e j) = h (t, e)

  failed_meets :
      {d : ℕ} {u : Tree} {frame added : List Tree} {action : Action} {p receiver sent received : Process} → ¬ IsMessage theory u
      → Communicates model signature theory frame (output d u p) receiver action sent received added → ⊥
  failed_meets h (meets {t = t} i e) = h (t, e)
  failed_meets h (overheard {t = t} i e j) = h (t, e)

  failed_goes_on : (d : ℕ) (u : Tree) (p : Process) → ¬ IsMessage theory u → GoesOnAsOne model signature theory (output d u p) (IsOnly [])
  failed_goes_on d u p h = record {
    some = [];
    is_one = refl;
    moves = λ frame added action become m. absurd (failed_moves h m);
    no_sender = λ frame added action r s t m. failed_meets h m;
    no_receiver = λ frame added action r s t m. (meeting_parts model signature theory m).1;
  }

  pub more_parts_stand : (ps : List Process) (c : Config) (word : List Label) (frame : List Tree) → Ends model signature theory c word frame → EndsBeside ps c word frame
  more_parts_stand ps c word frame e = ends_as c word (e.0).frame frame {bs = ps} refl e.2 (run_with_more model signature theory ps e.1)

  pub failed_output_is_unseen : (d : ℕ) (u : Tree) (p : Process) (c : Config) → (¬ IsMessage theory u) → HaveSameEnds model signature theory (beside (output d u p ∷ []) c) c
  failed_output_is_unseen d u p c h = record {
    same = λ word frame. (
      λ e. (let k = run_beside model signature theory (output d u p) (IsOnly []) (failed_goes_on d u p h) e.1 here in ends_as c word (e.0).frame frame k.1 e.2 k.2),
      more_parts_stand (output d u p ∷ []) c word frame,
    );
  }
