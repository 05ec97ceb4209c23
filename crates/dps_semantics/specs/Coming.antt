-- What parts come to by themselves, and by communications.
use Rattle.std.specs.Prelude.{◌≡◌, ℕ, List, [], ◌∷◌, ◌++◌}
use Rattle.dps_terms.specs.Tree.{Tree}
use Rattle.dps_signature.specs.Signature.{Signature}
use Rattle.dps_theory.specs.Theory.{Theory}
use Rattle.dps_theory.specs.Evaluation.{Evaluates, IsMessage, AreEqual}
use Rattle.dps_process.specs.Process.{Process, nil, parallel, choice, conditional, bind, input, output, put}
use Rattle.dps_process.specs.Models.{Model, MayMeet}
use Rattle.dps_process.specs.Steps.{Label, shows, Removes, PartSteps, Communicates, IsReordered}

-- The process comes by itself, silently, to these inputs and outputs.
pub data ComesTo (theory : Theory) : Process → List Process → Type 0 where
  gone : ComesTo theory nil []
  both : {p q : Process} {ps qs rs : List Process} → ComesTo theory p ps → ComesTo theory q qs → rs ≡ ps ++ qs → ComesTo theory (parallel p q) rs
  by_first : {p q : Process} {ps : List Process} → ComesTo theory p ps → ComesTo theory (choice p q) ps
  by_second : {p q : Process} {ps : List Process} → ComesTo theory q ps → ComesTo theory (choice p q) ps
  by_passing : {u v : Tree} {p q : Process} {ps : List Process} → AreEqual theory u v → ComesTo theory p ps → ComesTo theory (conditional u v p q) ps
  by_failing : {u v : Tree} {p q : Process} {ps : List Process} → ¬ AreEqual theory u v → ComesTo theory q ps → ComesTo theory (conditional u v p q) ps
  by_binding : {x : ℕ} {u t : Tree} {p q : Process} {ps : List Process} → Evaluates theory u t → ComesTo theory (put x t p) ps → ComesTo theory (bind x u p q) ps
  without_binding : {x : ℕ} {u : Tree} {p q : Process} {ps : List Process} → ¬ IsMessage theory u → ComesTo theory q ps → ComesTo theory (bind x u p q) ps
  an_input : {c x : ℕ} {p : Process} → ComesTo theory (input c x p) (input c x p ∷ [])
  an_output : {c : ℕ} {u : Tree} {p : Process} → ComesTo theory (output c u p) (output c u p ∷ [])

-- each of the parts does so
pub data AllComeTo (theory : Theory) : List Process → List Process → Type 0 where
  no_parts_come : AllComeTo theory [] []
  a_part_comes : {p : Process} {ps bs cs ds : List Process} → ComesTo theory p bs → AllComeTo theory ps cs → ds ≡ bs ++ cs → AllComeTo theory (p ∷ ps) ds

-- two parts communicate unseen: what the sender and the receiver become
pub data Meets (model : Model) (signature : Signature) (theory : Theory) : Process → Process → Process → Process → Type 0 where
  meet :
      {d x : ℕ} {u t : Tree} {p q : Process}
      → MayMeet model signature d
      → Evaluates theory u t
      → Meets model signature theory (output d u p) (input d x q) p (put x t q)

-- two of the inputs and outputs communicate unseen, and what they become comes to others
pub record ComesByMeeting (model : Model) (signature : Signature) (theory : Theory) (ps qs : List Process) : Type 0 where
  pub sender : Process
  pub receiver : Process
  pub sent : Process
  pub received : Process
  pub others : List Process
  pub rest : List Process
  pub from_sender : List Process
  pub from_receiver : List Process
  pub removes_sender : Removes sender ps others
  pub removes_receiver : Removes receiver others rest
  pub meeting : Meets model signature theory sender receiver sent received
  pub sender_comes : ComesTo theory sent from_sender
  pub receiver_comes : ComesTo theory received from_receiver
  pub become : qs ≡ from_sender ++ (from_receiver ++ rest)

-- any number of communications, one after the other, up to the order of parts
pub data ComesByMeetings (model : Model) (signature : Signature) (theory : Theory) : List Process → List Process → Type 0 where
  no_meeting : {ps qs : List Process} → IsReordered ps qs → ComesByMeetings model signature theory ps qs
  a_meeting : {ps qs rs : List Process} → ComesByMeeting model signature theory ps qs → ComesByMeetings model signature theory qs rs → ComesByMeetings model signature theory ps rs

-- What a search finds of parts with a frame, for a word: they come to inputs and outputs by themselves and by
-- communications; one of these shows the first label, or two communicate and the attacker overhears them, and so on. At the
-- end the inputs and outputs stand, with the last frame.
pub data Finds (model : Model) (signature : Signature) (theory : Theory) : List Process → List Tree → List Label → List Process → List Tree → Type 0 where
  at_end :
      {ps bs es : List Process} {frame : List Tree}
      → AllComeTo theory ps bs
      → ComesByMeetings model signature theory bs es
      → Finds model signature theory ps frame [] es frame
  at_label :
      {ps bs es rest become next ds : List Process} {frame added longer last : List Tree} {p : Process} {label : Label} {word : List Label}
      → AllComeTo theory ps bs
      → ComesByMeetings model signature theory bs es
      → Removes p es rest
      → PartSteps signature theory frame p (shows label) become added
      → next ≡ become ++ rest
      → longer ≡ frame ++ added
      → Finds model signature theory next longer word ds last
      → Finds model signature theory ps frame (label ∷ word) ds last
  at_overhearing :
      {ps bs es others rest next ds : List Process} {frame added longer last : List Tree} {p q sent received : Process} {label : Label} {word : List Label}
      → AllComeTo theory ps bs
      → ComesByMeetings model signature theory bs es
      → Removes p es others
      → Removes q others rest
      → Communicates model signature theory frame p q (shows label) sent received added
      → next ≡ sent ∷ received ∷ rest
      → longer ≡ frame ++ added
      → Finds model signature theory next longer word ds last
      → Finds model signature theory ps frame (label ∷ word) ds last
