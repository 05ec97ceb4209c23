-- Steps bind no other variables.
use Rattle.std.proofs.Common.{ℕ, List, [], ◌∷◌, sym, subst}
use Rattle.std.specs.Prelude.{IsTrue, All}
use Rattle.std.proofs.lemmas.List.Elements.{All-nil, All-cons, All-head, All-tail, All-append}
use Rattle.dps_terms.specs.Tree.{Leaf, Tree}
use Rattle.dps_terms.specs.Replace.{variables_to}
use Rattle.dps_signature.specs.Signature.{Signature}
use Rattle.dps_theory.specs.Theory.{Theory}
use Rattle.dps_process.specs.Models.{Model}
use Rattle.dps_process.specs.Process.{Process, nil, parallel, choice, conditional, bind, input, output, but_for, replace_in, only, put, EachBinder}
use Rattle.dps_process.specs.Steps.{Config, Label, Action, Removes, here, there, PartSteps, ends, splits, first, second}
use Rattle.dps_process.specs.Steps.{passes, fails, binds, binds_not, receives, sends, Communicates, meets, overheard, Step, alone, together}
use Rattle.dps_process.specs.Traces.{Runs, done, silently, visibly}
use Rattle.dps_process.specs.LawsOfReplacement.{StepsKeepBinders, RunsKeepBinders}

module _ (P : ℕ → Type 0) where
  binders-replace_in : (f : Leaf → Tree) (p : Process) → EachBinder P p → EachBinder P (replace_in f p)
  binders-replace_in f nil h = tt
  binders-replace_in f (parallel p q) h = (binders-replace_in f p h.0, binders-replace_in f q h.1)
  binders-replace_in f (choice p q) h = (binders-replace_in f p h.0, binders-replace_in f q h.1)
  binders-replace_in f (conditional u v p q) h = (binders-replace_in f p h.0, binders-replace_in f q h.1)
  binders-replace_in f (bind x u p q) h = (h.0, binders-replace_in (but_for x f) p h.1, binders-replace_in f q h.2)
  binders-replace_in f (input c x p) h = (h.0, binders-replace_in (but_for x f) p h.1)
  binders-replace_in f (output c u p) h = binders-replace_in f p h

  binders-put : (x : ℕ) (t : Tree) (p : Process) → EachBinder P p → EachBinder P (put x t p)
  binders-put x t p h = binders-replace_in (variables_to (only x t)) p h

  abbrev BindAll : List Process → Type 0
  BindAll ps = All (EachBinder P) ps

  none : BindAll []
  none = All-nil (EachBinder P)

  one : (p : Process) → EachBinder P p → BindAll (p ∷ [])
  one p h = All-cons (EachBinder P) p [] h none

  taken : {p : Process} {ps rest : List Process} → Removes p ps rest → BindAll ps → EachBinder P p × BindAll rest
  taken {p} {rest = rest} here h = (All-head (EachBinder P) p rest h, All-tail (EachBinder P) p rest h)
  taken (there {q} {ps} {rest} t) h =
      let k = taken t (All-tail (EachBinder P) q ps h) in
      (k.0, All-cons (EachBinder P) q rest (All-head (EachBinder P) q ps h) k.1)

  module _ (model : Model) (signature : Signature) (theory : Theory) where
    moved : {frame added : List Tree} {part : Process} {action : Action} {become : List Process} → PartSteps signature theory frame part action become added → EachBinder P part → BindAll become
    moved ends h = none
    moved (splits {p} {q}) h = All-cons (EachBinder P) p (q ∷ []) h.0 (one q h.1)
    moved (first {p}) h = one p h.0
    moved (second {q = q}) h = one q h.1
    moved (passes {p = p} k) h = one p h.0
    moved (fails {q = q} k) h = one q h.1
    moved (binds {x} {t = t} {p} e) h = one (put x t p) (binders-put x t p h.1)
    moved (binds_not {q = q} k) h = one q h.2
    moved (receives {x = x} {p} {t = t} i r v) h = one (put x t p) (binders-put x t p h.1)
    moved (sends {p = p} i v j) h = one p h

    met :
        {frame added : List Tree} {action : Action} {sender receiver sent received : Process}
        → Communicates model signature theory frame sender receiver action sent received added → EachBinder P sender
        → EachBinder P receiver → EachBinder P sent × EachBinder P received
    met (meets {x = x} {t = t} {q = q} i e) h k = (h, binders-put x t q k.1)
    met (overheard {x = x} {t = t} {q = q} i e j) h k = (h, binders-put x t q k.1)

    step_binds : {c d : Config} {action : Action} → Step model signature theory c action d → BindAll c.parts → BindAll d.parts
    step_binds (alone {become = become} {others} t m p f) h =
        let k = taken t h in subst BindAll (sym p) (All-append (EachBinder P) become others (moved m k.0) k.1)
    step_binds (together {sent = sent} {received} {rest = rest} t u m p f) h =
        let k = taken t h in
        let l = taken u k.1 in
        let n = met m k.0 l.0 in
        subst BindAll (sym p) (All-cons (EachBinder P) sent (received ∷ rest) n.0 (All-cons (EachBinder P) received rest n.1 l.1))

    run_binds : {c d : Config} {word : List Label} → Runs model signature theory c word d → BindAll c.parts → BindAll d.parts
    run_binds done h = h
    run_binds (silently s r) h = run_binds r (step_binds s h)
    run_binds (visibly s r) h = run_binds r (step_binds s h)

pub steps_keep_binders : StepsKeepBinders
steps_keep_binders holds model signature theory c d action s h = step_binds (λ x. IsTrue (holds x)) model signature theory s h

pub runs_keep_binders : RunsKeepBinders
runs_keep_binders holds model signature theory c d word r h = run_binds (λ x. IsTrue (holds x)) model signature theory r h
