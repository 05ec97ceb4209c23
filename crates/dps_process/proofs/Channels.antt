-- The labels of a run name channels of its parts.
use Rattle.std.proofs.Common.{ℕ, zero, suc, List, [], ◌∷◌, ◌++◌, sym, subst, arith}
use Rattle.std.specs.Prelude.{⊤, All}
use Rattle.dps_terms.specs.Tree.{Leaf, Tree}
use Rattle.dps_terms.specs.Replace.{variables_to}
use Rattle.dps_signature.specs.Signature.{Signature}
use Rattle.dps_theory.specs.Theory.{Theory}
use Rattle.dps_process.specs.Models.{Model}
use Rattle.dps_process.specs.Process.{Process, nil, parallel, choice, conditional, bind, input, output, but_for, replace_in, only, put, EachChannel}
use Rattle.dps_process.specs.Steps.{Config, Label, Action, silent, shows, Removes, here, there, PartSteps, ends, splits, first}
use Rattle.dps_process.specs.Steps.{second, passes, fails, binds, binds_not, receives, sends, Communicates, meets, overheard, Step, alone, together}
use Rattle.dps_process.specs.Traces.{Runs, done, silently, visibly, IsTrace}
use Rattle.dps_process.specs.Laws.{channel_of}

module _ (P : ℕ → Type 0) where
  abbrev AllParts : List Process → Type 0
  AllParts [] = ⊤
  AllParts (p ∷ ps) = EachChannel P p × AllParts ps

  channels-replace_in : (f : Leaf → Tree) (p : Process) → EachChannel P p → EachChannel P (replace_in f p)
  channels-replace_in f nil h = tt
  channels-replace_in f (parallel p q) h = (channels-replace_in f p h.0, channels-replace_in f q h.1)
  channels-replace_in f (choice p q) h = (channels-replace_in f p h.0, channels-replace_in f q h.1)
  channels-replace_in f (conditional u v p q) h = (channels-replace_in f p h.0, channels-replace_in f q h.1)
  channels-replace_in f (bind x u p q) h = (channels-replace_in (but_for x f) p h.0, channels-replace_in f q h.1)
  channels-replace_in f (input c x p) h = (h.0, channels-replace_in (but_for x f) p h.1)
  channels-replace_in f (output c u p) h = (h.0, channels-replace_in f p h.1)

  pub channels-put : (x : ℕ) (t : Tree) (p : Process) → EachChannel P p → EachChannel P (put x t p)
  channels-put x t p h = channels-replace_in (variables_to (only x t)) p h

  both_parts : (ps qs : List Process) → AllParts ps → AllParts qs → AllParts (ps ++ qs)
  both_parts [] qs h k = k
  both_parts (p ∷ ps) qs h k = (h.0, both_parts ps qs h.1 k)

  taken_part : {p : Process} {ps rest : List Process} → Removes p ps rest → AllParts ps → EachChannel P p × AllParts rest
  taken_part here h = h
  taken_part (there t) h = let k = taken_part t h.1 in (k.0, (h.0, k.1))

  -- the channel of what an action shows
  abbrev ShowsIt : Action → Type 0
  ShowsIt silent = ⊤
  ShowsIt (shows label) = P (channel_of label)

  all_more : (label : Label) (word : List Label) → P (channel_of label) → All (λ l. P (channel_of l)) word → All (λ l. P (channel_of l)) (label ∷ word)
  all_more label word p h zero d l = p
  all_more label word p h (suc i) d l = h i d (omega arith)

  module _ (model : Model) (signature : Signature) (theory : Theory) where
    moved :
        {frame added : List Tree} {part : Process} {action : Action} {become : List Process}
        → PartSteps signature theory frame part action become added → EachChannel P part → AllParts become × ShowsIt action
    moved ends h = (tt, tt)
    moved splits h = ((h.0, (h.1, tt)), tt)
    moved first h = ((h.0, tt), tt)
    moved second h = ((h.1, tt), tt)
    moved (passes k) h = ((h.0, tt), tt)
    moved (fails k) h = ((h.1, tt), tt)
    moved (binds {x} {t = t} {p} k) h = ((channels-put x t p h.0, tt), tt)
    moved (binds_not k) h = ((h.1, tt), tt)
    moved (receives {x = x} {p} {t = t} i j k) h = ((channels-put x t p h.1, tt), h.0)
    moved (sends i j k) h = ((h.1, tt), h.0)

    met :
        {frame added : List Tree} {action : Action} {sender receiver sent received : Process}
        → Communicates model signature theory frame sender receiver action sent received added → EachChannel P sender
        → EachChannel P receiver → EachChannel P sent × EachChannel P received × ShowsIt action
    met (meets {x = x} {t = t} {q = q} i j) h k = (h.1, channels-put x t q k.1, tt)
    met (overheard {x = x} {t = t} {q = q} i j l) h k = (h.1, channels-put x t q k.1, h.0)

    stepped : {c d : Config} {action : Action} → Step model signature theory c action d → AllParts c.parts → AllParts d.parts × ShowsIt action
    stepped (alone {become = become} {others} t m p f) h =
        let k = taken_part t h in
        let l = moved m k.0 in
        (subst AllParts (sym p) (both_parts become others l.0 k.1), l.1)
    stepped (together t u m p f) h =
        let k = taken_part t h in
        let l = taken_part u k.1 in
        let n = met m k.0 l.0 in
        (subst AllParts (sym p) (n.0, (n.1, l.1)), n.2)

    labels_of_run : {c d : Config} {word : List Label} → Runs model signature theory c word d → AllParts c.parts → All (λ l. P (channel_of l)) word
    labels_of_run done h = λ i d l. absurd (omega arith)
    labels_of_run (silently s r) h = labels_of_run r (stepped s h).0
    labels_of_run (visibly {label = label} {word} s r) h = let k = stepped s h in all_more label word k.1 (labels_of_run r k.0)

    pub labels_name_channels : (p : Process) (word : List Label) (frame : List Tree) → EachChannel P p → IsTrace model signature theory p word frame → All (λ l. P (channel_of l)) word
    labels_name_channels p word frame h t = labels_of_run t.1 (h, tt)
