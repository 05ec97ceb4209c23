-- The runs of a lawful configuration stay lawful.
use Rattle.std.proofs.Common.{ℕ, ◌<◌, List, [], ◌∷◌, length, sym, subst, inl, inr}
use Rattle.std.specs.Prelude.{◌≢◌, Bool, true, false, cond, All}
use Rattle.std.proofs.Math.Dec.{eqb}
use Rattle.std.proofs.lemmas.List.Elements.{All-nil, All-cons, All-head, All-tail, All-append}
use Rattle.dps_branch.specs.declared.Side.{Side}
use Rattle.dps_branch.specs.declared.Side.TheVariants.{Left, Right}
use Rattle.dps_terms.specs.Tree.{Leaf, public, private, var, ax, entry, rigid, Tree, leaf}
use Rattle.dps_terms.specs.Replace.{replace, variables_to}
use Rattle.dps_signature.specs.Signature.{Signature, HasArity, shapes}
use Rattle.dps_signature.specs.Kinds.{IsSourceName, IsSourceLeaf, IsSourceTerm, IsDeclared, IsPartLeaf, IsPartTerm}
use Rattle.dps_terms.specs.declared.PublicName.{PublicName}
use Rattle.dps_terms.specs.declared.PublicName.TheVariants.{Declared, At}
use Rattle.dps_terms.proofs.Building.{built_instance, built_weaker}
use Rattle.dps_theory.specs.Theory.{Theory}
use Rattle.dps_theory.specs.Frames.{IsFrame}
use Rattle.dps_process.specs.Models.{Model}
use Rattle.dps_process.specs.Process.{Process, nil, parallel, choice, conditional, bind, input, output, but_for, replace_in, only, put, IsFree, EachTerm}
use Rattle.dps_process.specs.Problem.{Problem, side_of, IsLawful, IsLawfulSide, IsLawfulTheory}
use Rattle.dps_process.specs.Steps.{Config, start, Label, Action, Removes, here, there, PartSteps, ends, splits, first, second}
use Rattle.dps_process.specs.Steps.{passes, fails, binds, binds_not, receives, sends, Communicates, meets, overheard, Step, alone, together}
use Rattle.dps_process.specs.Traces.{Runs, done, silently, visibly, IsTraceOf}
use Rattle.dps_process.specs.Lawful.{IsLawfulPart, IsLawfulConfig}
use Rattle.dps_process.proofs.Channels.{channels-put}
use Rattle.dps_process.proofs.FreeVariables.{free_after_put}
use Rattle.dps_process.proofs.Values.{IsMessageOver, message_closed, message_of_part, value_over, recipe_value}

-- the terms of a process that weaken
pub each_weaker : (P Q : Tree → Type 0) → ((t : Tree) → P t → Q t) → (p : Process) → EachTerm P p → EachTerm Q p
each_weaker P Q f nil h = tt
each_weaker P Q f (parallel p q) h = (each_weaker P Q f p h.0, each_weaker P Q f q h.1)
each_weaker P Q f (choice p q) h = (each_weaker P Q f p h.0, each_weaker P Q f q h.1)
each_weaker P Q f (conditional u v p q) h = (f u h.0, f v h.1, each_weaker P Q f p h.2, each_weaker P Q f q h.3)
each_weaker P Q f (bind x u p q) h = (f u h.0, each_weaker P Q f p h.1, each_weaker P Q f q h.2)
each_weaker P Q f (input c x p) h = each_weaker P Q f p h
each_weaker P Q f (output c u p) h = (f u h.0, each_weaker P Q f p h.1)

module _ (signature : Signature) where
  source_name : (n : PublicName) → IsSourceName signature n → IsDeclared signature n
  source_name (Declared n) h = h
  source_name (At k) h = absurd h

  source_leaf : (x : Leaf) → IsSourceLeaf signature x → IsPartLeaf signature x
  source_leaf (public n) h = source_name n h
  source_leaf (private n) h = tt
  source_leaf (var n) h = tt
  source_leaf (ax n) h = h
  source_leaf (entry n) h = h
  source_leaf (rigid n) h = h

  -- a term of a file is a term of a part
  pub source_term : (t : Tree) → IsSourceTerm signature t → IsPartTerm signature t
  source_term t h = built_weaker (IsSourceLeaf signature) (HasArity (shapes signature)) (IsPartLeaf signature) t h source_leaf

  -- a replacement that puts terms of parts for the leaves of such
  abbrev KeepsParts : (Leaf → Tree) → Type 0
  KeepsParts f = (x : Leaf) → IsPartLeaf signature x → IsPartTerm signature (f x)

  but_for_keeps : (x : ℕ) (f : Leaf → Tree) → KeepsParts f → KeepsParts (but_for x f)
  but_for_keeps x f k (public n) h = k (public n) h
  but_for_keeps x f k (private n) h = k (private n) h
  but_for_keeps x f k (var n) h = at_variable (eqb n x)
    where
      at_variable : (b : Bool) → IsPartTerm signature (cond b (leaf (var n)) (f (var n)))
      at_variable true = tt
      at_variable false = k (var n) h
  but_for_keeps x f k (ax n) h = k (ax n) h
  but_for_keeps x f k (entry n) h = k (entry n) h
  but_for_keeps x f k (rigid n) h = k (rigid n) h

  only_keeps : (x : ℕ) (t : Tree) → IsPartTerm signature t → KeepsParts (variables_to (only x t))
  only_keeps x t k (public n) h = h
  only_keeps x t k (private n) h = tt
  only_keeps x t k (var n) h = at_variable (eqb n x)
    where
      at_variable : (b : Bool) → IsPartTerm signature (cond b t (leaf (var n)))
      at_variable true = k
      at_variable false = tt
  only_keeps x t k (ax n) h = h
  only_keeps x t k (entry n) h = h
  only_keeps x t k (rigid n) h = h

  part_replaced : (f : Leaf → Tree) (t : Tree) → KeepsParts f → IsPartTerm signature t → IsPartTerm signature (replace f t)
  part_replaced f t k h = built_instance (IsPartLeaf signature) (HasArity (shapes signature)) (IsPartLeaf signature) f t h (λ x s. k x)

  terms-replace_in : (f : Leaf → Tree) (p : Process) → KeepsParts f → EachTerm (IsPartTerm signature) p → EachTerm (IsPartTerm signature) (replace_in f p)
  terms-replace_in f nil k h = tt
  terms-replace_in f (parallel p q) k h = (terms-replace_in f p k h.0, terms-replace_in f q k h.1)
  terms-replace_in f (choice p q) k h = (terms-replace_in f p k h.0, terms-replace_in f q k h.1)
  terms-replace_in f (conditional u v p q) k h = (part_replaced f u k h.0, part_replaced f v k h.1, terms-replace_in f p k h.2, terms-replace_in f q k h.3)
  terms-replace_in f (bind x u p q) k h = (part_replaced f u k h.0, terms-replace_in (but_for x f) p (but_for_keeps x f k) h.1, terms-replace_in f q k h.2)
  terms-replace_in f (input c x p) k h = terms-replace_in (but_for x f) p (but_for_keeps x f k) h
  terms-replace_in f (output c u p) k h = (part_replaced f u k h.0, terms-replace_in f p k h.1)

  pub terms-put : (x : ℕ) (t : Tree) (p : Process) → IsPartTerm signature t → EachTerm (IsPartTerm signature) p → EachTerm (IsPartTerm signature) (put x t p)
  terms-put x t p k h = terms-replace_in (variables_to (only x t)) p (only_keeps x t k) h

  abbrev AreParts : List Process → Type 0
  AreParts ps = All (IsLawfulPart signature) ps

  no_parts : AreParts []
  no_parts = All-nil (IsLawfulPart signature)

  more_parts : (p : Process) (ps : List Process) → IsLawfulPart signature p → AreParts ps → AreParts (p ∷ ps)
  more_parts p ps h k = All-cons (IsLawfulPart signature) p ps h k

  one_part : (p : Process) → IsLawfulPart signature p → AreParts (p ∷ [])
  one_part p h = more_parts p [] h no_parts

  taken_part : {p : Process} {ps rest : List Process} → Removes p ps rest → AreParts ps → IsLawfulPart signature p × AreParts rest
  taken_part {p} {rest = rest} here h = (All-head (IsLawfulPart signature) p rest h, All-tail (IsLawfulPart signature) p rest h)
  taken_part (there {q} {ps} {rest} t) h =
      let k = taken_part t (All-tail (IsLawfulPart signature) q ps h) in
      (k.0, more_parts q rest (All-head (IsLawfulPart signature) q ps h) k.1)

  -- what a part becomes where a message takes the place of the variable that it binds
  bound_closed : (x : ℕ) (t : Tree) (p : Process) → IsMessageOver signature t → (y : ℕ) → ((y ≢ x) → ¬ IsFree y p) → ¬ IsFree y (put x t p)
  bound_closed x t p m y h free = let k = (free_after_put x t p (message_closed signature t m) y).0 free in h k.1 k.0

  input_taken : (c x : ℕ) (t : Tree) (p : Process) → IsMessageOver signature t → IsLawfulPart signature (input c x p) → IsLawfulPart signature (put x t p)
  input_taken c x t p m h = record {
    closed = λ y. bound_closed x t p m y (λ d free. h.closed y (d, free));
    channels = channels-put (λ n. n < length signature.names) x t p h.channels.1;
    terms = terms-put x t p (message_of_part signature t m) h.terms;
  }

  bind_taken : (x : ℕ) (u t : Tree) (p q : Process) → IsMessageOver signature t → IsLawfulPart signature (bind x u p q) → IsLawfulPart signature (put x t p)
  bind_taken x u t p q m h = record {
    closed = λ y. bound_closed x t p m y (λ d free. h.closed y (inr (inl (d, free))));
    channels = channels-put (λ n. n < length signature.names) x t p h.channels.0;
    terms = terms-put x t p (message_of_part signature t m) h.terms.1;
  }

  output_gone : (c : ℕ) (u : Tree) (p : Process) → IsLawfulPart signature (output c u p) → IsLawfulPart signature p
  output_gone c u p h = record { closed = λ y free. h.closed y (inr free); channels = h.channels.1; terms = h.terms.1 }

  no_messages : IsFrame signature []
  no_messages = All-nil (IsMessageOver signature)

  module _ (model : Model) (theory : Theory) (lawful : IsLawfulTheory signature theory) where
    moved :
        {frame added : List Tree} {part : Process} {action : Action} {become : List Process}
        → PartSteps signature theory frame part action become added → IsFrame signature frame → IsLawfulPart signature part
        → AreParts become × IsFrame signature added
    moved ends all h = (no_parts, no_messages)
    moved (splits {p} {q}) all h = (
      more_parts p (q ∷ []) (record { closed = λ y f. h.closed y (inl f); channels = h.channels.0; terms = h.terms.0 })
          (one_part q (record { closed = λ y f. h.closed y (inr f); channels = h.channels.1; terms = h.terms.1 })),
      no_messages,
    )
    moved (first {p} {q}) all h = (one_part p (record { closed = λ y f. h.closed y (inl f); channels = h.channels.0; terms = h.terms.0 }), no_messages)
    moved (second {p} {q}) all h = (one_part q (record { closed = λ y f. h.closed y (inr f); channels = h.channels.1; terms = h.terms.1 }), no_messages)
    moved (passes {u} {v} {p} {q} k) all h = (one_part p (record { closed = λ y f. h.closed y (inr (inl f)); channels = h.channels.0; terms = h.terms.2 }), no_messages)
    moved (fails {u} {v} {p} {q} k) all h = (one_part q (record { closed = λ y f. h.closed y (inr (inr f)); channels = h.channels.1; terms = h.terms.3 }), no_messages)
    moved (binds {x} {u} {t} {p} {q} e) all h = (one_part (put x t p) (bind_taken x u t p q (value_over signature theory lawful h.terms.0 e) h), no_messages)
    moved (binds_not {x} {u} {p} {q} k) all h = (one_part q (record { closed = λ y f. h.closed y (inr (inr f)); channels = h.channels.1; terms = h.terms.2 }), no_messages)
    moved (receives {c} {x} {p} {r} {t} i recipe e) all h = (one_part (put x t p) (input_taken c x t p (recipe_value signature theory lawful _ r t all recipe e) h), no_messages)
    moved (sends {c} {j} {u} {t} {p} i e k) all h = (one_part p (output_gone c u p h), All-cons (IsMessageOver signature) t [] (value_over signature theory lawful h.terms.0 e) no_messages)

    met :
        {frame added : List Tree} {action : Action} {sender receiver sent received : Process}
        → Communicates model signature theory frame sender receiver action sent received added → IsLawfulPart signature sender
        → IsLawfulPart signature receiver
        → IsLawfulPart signature sent × IsLawfulPart signature received × IsFrame signature added
    met (meets {d} {x} {u} {t} {p} {q} i e) h k = (output_gone d u p h, input_taken d x t q (value_over signature theory lawful h.terms.0 e) k, no_messages)
    met (overheard {c} {x} {u = u} {t} {p} {q} i e j) h k =
        let v = value_over signature theory lawful h.terms.0 e in
        (output_gone c u p h, input_taken c x t q v k, All-cons (IsMessageOver signature) t [] v no_messages)

    pub step_lawful : {c d : Config} {action : Action} → Step model signature theory c action d → IsLawfulConfig signature c → IsLawfulConfig signature d
    step_lawful {c} {d} (alone {become = become} {others} {added} t m p f) h =
        let k = taken_part t h.parts in
        let l = moved m h.frame k.0 in
        record {
          parts = subst AreParts (sym p) (All-append (IsLawfulPart signature) become others l.0 k.1);
          frame = subst (IsFrame signature) (sym f) (All-append (IsMessageOver signature) c.frame added h.frame l.1);
        }
    step_lawful {c} (together {sent = sent} {received} {rest = rest} {added} t u m p f) h =
        let k = taken_part t h.parts in
        let l = taken_part u k.1 in
        let n = met m k.0 l.0 in
        record {
          parts = subst AreParts (sym p) (more_parts sent (received ∷ rest) n.0 (more_parts received rest n.1 l.1));
          frame = subst (IsFrame signature) (sym f) (All-append (IsMessageOver signature) c.frame added h.frame n.2);
        }

    pub run_lawful : {c d : Config} {word : List Label} → Runs model signature theory c word d → IsLawfulConfig signature c → IsLawfulConfig signature d
    run_lawful done h = h
    run_lawful (silently s r) h = run_lawful r (step_lawful s h)
    run_lawful (visibly s r) h = run_lawful r (step_lawful s h)

pub steps_stay_lawful :
    (model : Model) (signature : Signature) (theory : Theory) (c d : Config) (action : Action) → IsLawfulTheory signature theory
    → IsLawfulConfig signature c → Step model signature theory c action d → IsLawfulConfig signature d
steps_stay_lawful model signature theory c d action lawful h s = step_lawful signature model theory lawful s h

pub runs_stay_lawful :
    (model : Model) (signature : Signature) (theory : Theory) (c d : Config) (word : List Label) → IsLawfulTheory signature theory
    → IsLawfulConfig signature c → Runs model signature theory c word d → IsLawfulConfig signature d
runs_stay_lawful model signature theory c d word lawful h r = run_lawful signature model theory lawful r h

lawful_start : (signature : Signature) (p : Process) → IsLawfulSide signature p → IsLawfulConfig signature (start p)
lawful_start signature p h = record {
  parts = one_part signature p (record { closed = h.closed; channels = h.channels; terms = each_weaker (IsSourceTerm signature) (IsPartTerm signature) (source_term signature) p h.terms });
  frame = no_messages signature;
}

lawful_side : (problem : Problem) (side : Side) → IsLawful problem → IsLawfulSide problem.signature (side_of problem side)
lawful_side problem Left h = h.left
lawful_side problem Right h = h.right

pub sides_start_lawful : (problem : Problem) (side : Side) → IsLawful problem → IsLawfulConfig problem.signature (start (side_of problem side))
sides_start_lawful problem side h = lawful_start problem.signature (side_of problem side) (lawful_side problem side h)

pub traces_end_in_frames : (problem : Problem) (side : Side) (word : List Label) (frame : List Tree) → IsLawful problem → IsTraceOf problem side word frame → IsFrame problem.signature frame
traces_end_in_frames problem side word frame h t =
    subst (IsFrame problem.signature) t.2 (run_lawful problem.signature problem.model problem.theory h.theory t.1 (sides_start_lawful problem side h)).frame
