-- Bags of parts: reordering is an equivalence, and steps do not see it.
use Rattle.std.proofs.Common.{List, [], ◌∷◌, ◌++◌, refl, sym, ◌∙◌, ap, subst}
use Rattle.dps_terms.specs.Tree.{Tree}
use Rattle.dps_signature.specs.Signature.{Signature}
use Rattle.dps_theory.specs.Theory.{Theory}
use Rattle.dps_process.specs.Models.{Model}
use Rattle.dps_process.specs.Process.{Process}
use Rattle.dps_process.specs.Steps.{Config, Label, Action, Removes, here, there, PartSteps, Communicates, Step, alone, together, IsReordered, no_parts, a_part, AreOneBag}
use Rattle.dps_process.specs.Traces.{Runs, done, silently, visibly, Ends}

pub reordered_refl : (ps : List Process) → IsReordered ps ps
reordered_refl [] = no_parts
reordered_refl (p ∷ ps) = a_part here (reordered_refl ps)

-- what is left of a list after two takings, in the other order
abbrev Exchanged : Process → Process → List Process → List Process → Type 0
Exchanged p q ps rest = (left : List Process) × Removes p ps left × Removes q left rest

exchanged : {p q : Process} {ps qs rest : List Process} → Removes q ps qs → Removes p qs rest → Exchanged p q ps rest
exchanged {p} {q} {ps} {qs} {rest} here k = (q ∷ rest, there k, here)
exchanged (there {q = z} {ps} h) here = (ps, here, h)
exchanged (there {q = z} h) (there k) = let e = exchanged h k in (z ∷ e.0, there e.1, there e.2)

-- the same part taken from the reordered list
abbrev TakenFrom : Process → List Process → List Process → Type 0
TakenFrom p ps rest = (left : List Process) × Removes p ps left × IsReordered rest left

from_exchanged : (p q : Process) (ys rest left : List Process) → Exchanged p q ys left → IsReordered rest left → TakenFrom p ys (q ∷ rest)
from_exchanged p q ys rest left e r = (e.0, e.1, a_part e.2 r)

pub taken_reordered : {p : Process} {xs rest ys : List Process} → Removes p xs rest → IsReordered xs ys → TakenFrom p ys rest
taken_reordered here (a_part {rest = left} t r) = (left, t, r)
taken_reordered {p} {ys = ys} (there {q} {rest = rest} h) (a_part t r) =
    let e = taken_reordered h r in from_exchanged p q ys rest e.0 (exchanged t e.1) e.2

pub reordered_trans : {xs ys zs : List Process} → IsReordered xs ys → IsReordered ys zs → IsReordered xs zs
reordered_trans no_parts r = r
reordered_trans (a_part t q) r = let e = taken_reordered t r in a_part e.1 (reordered_trans q e.2)

-- a part put back at the place that it was taken from
pub put_back : {p : Process} {qs rest ps : List Process} → Removes p qs rest → IsReordered rest ps → IsReordered qs (p ∷ ps)
put_back here r = a_part here r
put_back (there h) (a_part t r) = a_part (there t) (put_back h r)

pub reordered_sym : {xs ys : List Process} → IsReordered xs ys → IsReordered ys xs
reordered_sym no_parts = no_parts
reordered_sym (a_part t r) = put_back t (reordered_sym r)

pub before_reordered : (ps : List Process) {xs ys : List Process} → IsReordered xs ys → IsReordered (ps ++ xs) (ps ++ ys)
before_reordered [] r = r
before_reordered (p ∷ ps) r = a_part here (before_reordered ps r)

pub neighbours_swap :
    (before after : List Process) (p q : Process) (frame : List Tree)
    → AreOneBag (record { parts = before ++ (p ∷ q ∷ after); frame = frame }) (record { parts = before ++ (q ∷ p ∷ after); frame = frame })
neighbours_swap before after p q frame = record { parts = before_reordered before (a_part (there here) (a_part here (reordered_refl after))); frame = refl }

pub bags_refl : (c : Config) → AreOneBag c c
bags_refl c = record { parts = reordered_refl c.parts; frame = refl }

pub bags_sym : (c d : Config) → AreOneBag c d → AreOneBag d c
bags_sym c d b = record { parts = reordered_sym b.parts; frame = sym b.frame }

pub bags_trans : (c d e : Config) → AreOneBag c d → AreOneBag d e → AreOneBag c e
bags_trans c d e a b = record { parts = reordered_trans a.parts b.parts; frame = a.frame ∙ b.frame }

module _ (model : Model) (signature : Signature) (theory : Theory) where
  -- the same step of the reordered configuration
  abbrev pub StepsTo : Config → Action → Config → Type 0
  StepsTo d action e = (f : Config) × Step model signature theory d action f × AreOneBag e f

  pub step_reordered : {c d e : Config} {action : Action} → AreOneBag c d → Step model signature theory c action e → StepsTo d action e
  step_reordered {c} {d} {e} {action} b (alone {part = part} {become} {others} {added} t m p f) =
      let k = taken_reordered t b.parts in
      let next : Config = record { parts = become ++ k.0; frame = d.frame ++ added } in (
        next,
        alone k.1 (subst (λ (g : List Tree). PartSteps signature theory g part action become added) b.frame m) refl refl,
        record { parts = subst (λ (ps : List Process). IsReordered ps (become ++ k.0)) (sym p) (before_reordered become k.2); frame = f ∙ ap (λ g. g ++ added) b.frame },
      )
  step_reordered {c} {d} {e} {action} b (together {sender = sender} {receiver} {sent} {received} {others} {rest} {added} t u m p f) =
      let k = taken_reordered t b.parts in
      let l = taken_reordered u k.2 in
      let next : Config = record { parts = sent ∷ received ∷ l.0; frame = d.frame ++ added } in (
        next,
        together k.1 l.1 (subst (λ (g : List Tree). Communicates model signature theory g sender receiver action sent received added) b.frame m) refl refl,
        record { parts = subst (λ (ps : List Process). IsReordered ps (sent ∷ received ∷ l.0)) (sym p) (a_part here (a_part here l.2)); frame = f ∙ ap (λ g. g ++ added) b.frame },
      )

  abbrev pub RunsTo : Config → List Label → Config → Type 0
  RunsTo d word e = (f : Config) × Runs model signature theory d word f × AreOneBag e f

  pub run_reordered : {c d e : Config} {word : List Label} → Runs model signature theory c word e → AreOneBag c d → RunsTo d word e
  run_reordered {d = d} done b = (d, done, b)
  run_reordered (silently s r) b =
      let k = step_reordered b s in let l = run_reordered r k.2 in (l.0, silently k.1 l.1, l.2)
  run_reordered (visibly s r) b =
      let k = step_reordered b s in let l = run_reordered r k.2 in (l.0, visibly k.1 l.1, l.2)

  pub ends_reordered : (c d : Config) (word : List Label) (frame : List Tree) → AreOneBag c d → Ends model signature theory c word frame → Ends model signature theory d word frame
  ends_reordered c d word frame b e =
      let k = run_reordered e.1 b in (k.0, k.1, sym k.2.frame ∙ e.2)
