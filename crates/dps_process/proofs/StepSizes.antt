-- Steps use up process nodes, and runs only add to the frame.
use Rattle.std.proofs.Common.{◌≡◌, ℕ, ◌+◌, ◌<◌, List, [], ◌∷◌, ◌++◌, refl, sym, ◌∙◌, ap, arith, append_assoc, append-nil}
use Rattle.dps_terms.specs.Tree.{Tree}
use Rattle.dps_terms.specs.Replace.{variables_to}
use Rattle.dps_signature.specs.Signature.{Signature}
use Rattle.dps_theory.specs.Theory.{Theory}
use Rattle.dps_process.specs.Models.{Model}
use Rattle.dps_process.specs.Process.{Process, process_nodes, part_nodes, put, only}
use Rattle.dps_process.specs.Steps.{Config, Label, Action, Removes, here, there, PartSteps, ends, splits, first, second}
use Rattle.dps_process.specs.Steps.{passes, fails, binds, binds_not, receives, sends, Communicates, meets, overheard, Step, alone, together}
use Rattle.dps_process.specs.Traces.{Runs, done, silently, visibly}
use Rattle.dps_process.proofs.Replacements.{process_nodes-replace_in}

process_nodes-put : (x : ℕ) (t : Tree) (p : Process) → process_nodes (put x t p) ≡ process_nodes p
process_nodes-put x t p = process_nodes-replace_in (variables_to (only x t)) p

part_nodes-append : (ps qs : List Process) → part_nodes (ps ++ qs) ≡ part_nodes ps + part_nodes qs
part_nodes-append [] qs = omega arith
part_nodes-append (p ∷ ps) qs = omega (arith, part_nodes-append ps qs)

part_nodes-taken : {p : Process} {ps rest : List Process} → Removes p ps rest → part_nodes ps ≡ process_nodes p + part_nodes rest
part_nodes-taken here = refl
part_nodes-taken (there h) = let e = part_nodes-taken h in omega arith

module _ (signature : Signature) (theory : Theory) where
  moves_use_up :
      {frame added : List Tree} {part : Process} {action : Action} {become : List Process}
      → PartSteps signature theory frame part action become added → part_nodes become < process_nodes part
  moves_use_up ends = omega arith
  moves_use_up splits = omega arith
  moves_use_up first = omega arith
  moves_use_up second = omega arith
  moves_use_up (passes h) = omega arith
  moves_use_up (fails h) = omega arith
  moves_use_up (binds {x} {t = t} {p} h) = omega (arith, process_nodes-put x t p)
  moves_use_up (binds_not h) = omega arith
  moves_use_up (receives {x = x} {p} {t = t} h i j) = omega (arith, process_nodes-put x t p)
  moves_use_up (sends h i j) = omega arith

module _ (model : Model) (signature : Signature) (theory : Theory) where
  meeting_uses_up :
      {frame added : List Tree} {action : Action} {sender receiver sent received : Process}
      → Communicates model signature theory frame sender receiver action sent received added
      → process_nodes sent + process_nodes received < process_nodes sender + process_nodes receiver
  meeting_uses_up (meets {x = x} {t = t} {q = q} h i) = omega (arith, process_nodes-put x t q)
  meeting_uses_up (overheard {x = x} {t = t} {q = q} h i j) = omega (arith, process_nodes-put x t q)

  pub step_uses_up : {c d : Config} {action : Action} → Step model signature theory c action d → part_nodes d.parts < part_nodes c.parts
  step_uses_up {c} {d} (alone {become = become} {others} t m p f) =
      let l = moves_use_up signature theory m in
      let before = part_nodes-taken t in
      let after : part_nodes d.parts ≡ part_nodes become + part_nodes others = ap part_nodes p ∙ part_nodes-append become others in
      omega arith
  step_uses_up {c} {d} (together t u m p f) =
      let l = meeting_uses_up m in
      let one = part_nodes-taken t in
      let two = part_nodes-taken u in
      let after = ap part_nodes p in
      omega arith

  abbrev Grows : List Tree → List Tree → Type 0
  Grows frame last = (added : List Tree) × (last ≡ frame ++ added)

  step_grows : {c d : Config} {action : Action} → Step model signature theory c action d → Grows c.frame d.frame
  step_grows (alone {added = added} t m p f) = (added, f)
  step_grows (together {added = added} t u m p f) = (added, f)

  grows_on : (one two three : List Tree) → Grows one two → Grows two three → Grows one three
  grows_on one two three g h = (g.0 ++ h.0, h.1 ∙ (ap (λ f. f ++ h.0) g.1 ∙ append_assoc one g.0 h.0))

  pub frame_grows : {c d : Config} {word : List Label} → Runs model signature theory c word d → Grows c.frame d.frame
  frame_grows {c} done = ([], sym (append-nil c.frame))
  frame_grows {c} {d = e} (silently {d = d} s r) = grows_on c.frame d.frame e.frame (step_grows s) (frame_grows r)
  frame_grows {c} {d = e} (visibly {d = d} s r) = grows_on c.frame d.frame e.frame (step_grows s) (frame_grows r)
