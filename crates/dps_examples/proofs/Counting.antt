-- A run shows no more labels than inputs and outputs stand in its parts.
use Rattle.std.proofs.Common.{◌≡◌, ℕ, ◌+◌, ◌≤◌, List, [], ◌∷◌, ◌++◌, length, refl, ◌∙◌, ap, arith}
use Rattle.dps_terms.specs.Tree.{Leaf, Tree}
use Rattle.dps_terms.specs.Replace.{variables_to}
use Rattle.dps_signature.specs.Signature.{Signature}
use Rattle.dps_theory.specs.Theory.{Theory}
use Rattle.dps_process.specs.Models.{Model}
use Rattle.dps_process.specs.Process.{Process, nil, parallel, choice, conditional, bind, input, output, but_for, replace_in, only, put}
use Rattle.dps_process.specs.Steps.{Config, Label, Action, silent, shows, Removes, here, there, PartSteps, ends, splits, first}
use Rattle.dps_process.specs.Steps.{second, passes, fails, binds, binds_not, receives, sends, Communicates, meets, overheard, Step, alone, together}
use Rattle.dps_process.specs.Traces.{Runs, done, silently, visibly}

-- the number of inputs and outputs
abbrev pub prefixes : Process → ℕ
prefixes nil = 0
prefixes (parallel p q) = prefixes p + prefixes q
prefixes (choice p q) = prefixes p + prefixes q
prefixes (conditional u v p q) = prefixes p + prefixes q
prefixes (bind x u p q) = prefixes p + prefixes q
prefixes (input c x p) = 1 + prefixes p
prefixes (output c u p) = 1 + prefixes p

abbrev pub part_prefixes : List Process → ℕ
part_prefixes [] = 0
part_prefixes (p ∷ ps) = prefixes p + part_prefixes ps

prefixes-replace_in : (f : Leaf → Tree) (p : Process) → prefixes (replace_in f p) ≡ prefixes p
prefixes-replace_in f nil = refl
prefixes-replace_in f (parallel p q) = λ i. prefixes-replace_in f p i + prefixes-replace_in f q i
prefixes-replace_in f (choice p q) = λ i. prefixes-replace_in f p i + prefixes-replace_in f q i
prefixes-replace_in f (conditional u v p q) = λ i. prefixes-replace_in f p i + prefixes-replace_in f q i
prefixes-replace_in f (bind x u p q) = λ i. prefixes-replace_in (but_for x f) p i + prefixes-replace_in f q i
prefixes-replace_in f (input c x p) = λ i. 1 + prefixes-replace_in (but_for x f) p i
prefixes-replace_in f (output c u p) = λ i. 1 + prefixes-replace_in f p i

prefixes-put : (x : ℕ) (t : Tree) (p : Process) → prefixes (put x t p) ≡ prefixes p
prefixes-put x t p = prefixes-replace_in (variables_to (only x t)) p

part_prefixes-append : (ps qs : List Process) → part_prefixes (ps ++ qs) ≡ part_prefixes ps + part_prefixes qs
part_prefixes-append [] qs = omega arith
part_prefixes-append (p ∷ ps) qs = omega (arith, part_prefixes-append ps qs)

part_prefixes-taken : {p : Process} {ps rest : List Process} → Removes p ps rest → part_prefixes ps ≡ prefixes p + part_prefixes rest
part_prefixes-taken here = refl
part_prefixes-taken (there h) = let e = part_prefixes-taken h in omega arith

-- how many labels an action shows
abbrev shown : Action → ℕ
shown silent = 0
shown (shows label) = 1

module _ (model : Model) (signature : Signature) (theory : Theory) where
  move_shows :
      {frame added : List Tree} {part : Process} {action : Action} {become : List Process}
      → PartSteps signature theory frame part action become added → shown action + part_prefixes become ≤ prefixes part
  move_shows ends = omega arith
  move_shows splits = omega arith
  move_shows first = omega arith
  move_shows second = omega arith
  move_shows (passes h) = omega arith
  move_shows (fails h) = omega arith
  move_shows (binds {x} {t = t} {p} h) = omega (arith, prefixes-put x t p)
  move_shows (binds_not h) = omega arith
  move_shows (receives {x = x} {p} {t = t} h i j) = omega (arith, prefixes-put x t p)
  move_shows (sends h i j) = omega arith

  meeting_shows :
      {frame added : List Tree} {action : Action} {sender receiver sent received : Process}
      → Communicates model signature theory frame sender receiver action sent received added
      → shown action + prefixes sent + prefixes received ≤ prefixes sender + prefixes receiver
  meeting_shows (meets {x = x} {t = t} {q = q} h i) = omega (arith, prefixes-put x t q)
  meeting_shows (overheard {x = x} {t = t} {q = q} h i j) = omega (arith, prefixes-put x t q)

  step_shows : {c d : Config} {action : Action} → Step model signature theory c action d → shown action + part_prefixes d.parts ≤ part_prefixes c.parts
  step_shows {c} {d} (alone {become = become} {others} t m p f) =
      let l = move_shows m in
      let before = part_prefixes-taken t in
      let after : part_prefixes d.parts ≡ part_prefixes become + part_prefixes others = ap part_prefixes p ∙ part_prefixes-append become others in
      omega arith
  step_shows {c} {d} (together t u m p f) =
      let l = meeting_shows m in
      let one = part_prefixes-taken t in
      let two = part_prefixes-taken u in
      let after = ap part_prefixes p in
      omega arith

  pub run_shows : {c d : Config} {word : List Label} → Runs model signature theory c word d → length word ≤ part_prefixes c.parts
  run_shows done = omega arith
  run_shows (silently s r) = let l = step_shows s in let m = run_shows r in omega arith
  run_shows (visibly s r) = let l = step_shows s in let m = run_shows r in omega arith
