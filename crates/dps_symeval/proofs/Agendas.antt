-- What becomes of an agenda.
use Rattle.std.proofs.Common.{◌≡◌, ℕ, zero, suc, ◌+◌, ◌*◌, ◌<◌, ◌≤◌, List, [], ◌∷◌, ◌++◌, length, map, drop, reverse, slice_get, Some, refl, sym, ◌∙◌, ap, subst, arith, Bool, true, false}
use Rattle.std.specs.Prelude.{All}
use Rattle.std.specs.List.{flat_map}
use Rattle.std.proofs.lemmas.List.{reverse-append}
use Rattle.std.proofs.lemmas.List.Elements.{All-nil, All-cons}
use Rattle.dps_terms.specs.Tree.{Tree, Trees, leaf, public, private, var, ax, entry, rigid, app, none, more, list_of, node_count, node_counts}
use Rattle.dps_terms.specs.Replace.{substitute}
use Rattle.dps_terms.specs.declared.Sym.{Sym}
use Rattle.dps_terms.specs.declared.TermView.TheVariants.{App}
use Rattle.dps_terms.specs.Views.{view_of, arguments}
use Rattle.dps_terms.specs.Seen.{seen}
use Rattle.dps_terms.specs.declared.borrowed.TermRef.{TermRef}
use Rattle.dps_theory.specs.Theory.{Theory}
use Rattle.dps_symeval.specs.Cases.{Choices, choices, is_destructor}
use Rattle.dps_symeval.specs.Cases as Cases
use Rattle.dps_symeval.specs.declared.agenda.Task.{Task}
use Rattle.dps_symeval.specs.declared.agenda.Task.TheVariants.{Evaluate, Apply}
use Rattle.dps_symeval.specs.Agenda.{no_terms, with_result, root_applied, applied_last, constructed_last, narrowed_last, all_done, weight}
use Rattle.dps_symeval.specs.Agenda.{weights, IsThinned, IsOpen, AreOpen, GoesOn, IsFree, AreEvaluations, IsBegun}
use Rattle.dps_symeval.proofs.Mapping.{joined_same, all_mapped_within}
use Rattle.dps_symeval.proofs.Thinning.{unchanged, in_turn, all_done_thinned}
use Rattle.dps_symeval.proofs.Tasks.{with_all, free_done, construct_done, narrow_done, evaluate_root, evaluations_done, trees_again}

pub task_in_front : (items popped : List Task) (task : Task) → items ≡ popped ++ task ∷ [] → reverse items ≡ task ∷ reverse popped
task_in_front items popped task e = ap reverse e ∙ reverse-append popped (task ∷ [])

pub start_is_open : (first : ℕ) (cs : List Choices) → cs ≡ no_terms first ∷ [] → All IsOpen cs
start_is_open first cs e =
    subst (All IsOpen) (sym e) (All-cons IsOpen (no_terms first) [] ((λ n. leaf (var n)), All-nil (λ p. substitute (λ n. leaf (var n)) p.0 ≡ substitute (λ n. leaf (var n)) p.1)) (All-nil IsOpen))

module _ (theory : Theory) where
  pub goes_on_popped :
      (tasks : List Task) (before cs ds : List Choices) (items popped left : List Task) (task : Task)
      → items ≡ popped ++ task ∷ [] → GoesOn theory tasks before (reverse items) cs
      → GoesOn theory (task ∷ reverse popped) cs left ds → GoesOn theory tasks before left ds
  goes_on_popped tasks before cs ds items popped left task e h k =
      in_turn (subst (λ ts. GoesOn theory tasks before ts cs) (task_in_front items popped task e) h) k

  pub weight_falls : (items popped left : List Task) (task : Task) → items ≡ popped ++ task ∷ [] → weights left < weight task + weights (reverse popped) → weights left < weights (reverse items)
  weight_falls items popped left task e h = subst (λ ts. weights left < weights ts) (sym (task_in_front items popped task e)) h

  pub nothing_left : (tasks items : List Task) (before cs : List Choices) → items ≡ [] → GoesOn theory tasks before (reverse items) cs → All IsOpen cs → AreOpen (all_done theory tasks before) cs
  nothing_left tasks items before cs e h k = record { thinned = subst (λ ts. GoesOn theory tasks before (reverse ts) cs) e h; unifiable = k }

  pub apply_goes_on : (r : TermRef) (tasks : List Task) (cs ds : List Choices) → IsThinned (flat_map (root_applied theory (seen r)) cs) ds → GoesOn theory (Apply r ∷ tasks) cs tasks ds
  apply_goes_on r tasks cs ds h = all_done_thinned theory tasks h

  -- a term without destructors
  pub free_goes_on : (r : TermRef) (tasks : List Task) (cs ds : List Choices) → IsFree theory (seen r) → ds ≡ map (λ c. with_result c (seen r)) cs → GoesOn theory (Evaluate r ∷ tasks) cs tasks ds
  free_goes_on r tasks cs ds h e =
      subst (λ es. IsThinned (all_done theory tasks es) (all_done theory tasks ds)) (e ∙ sym (free_done theory (seen r) cs h)) (unchanged (all_done theory tasks ds))

  pub still_open : (t : Tree) (cs ds : List Choices) → ds ≡ map (λ c. with_result c t) cs → All IsOpen cs → All IsOpen ds
  still_open t cs ds e h = subst (All IsOpen) (sym e) (all_mapped_within IsOpen IsOpen (λ c. with_result c t) cs h (λ c k. k))

  -- a root with its arguments before it
  begun_done :
      (t : Tree) (r : TermRef) (tasks rest : List Task) (cs : List Choices) → ¬ IsFree theory t → seen r ≡ t
      → AreEvaluations tasks (arguments t)
      → all_done theory (tasks ++ (Apply r ∷ rest)) cs ≡ all_done theory rest (flat_map (λ (c : Choices). map (Cases.joined c) (choices theory c.next t)) cs)
  begun_done (leaf x) r tasks rest cs n e h = absurd (n tt)
  begun_done (app f ts) r tasks rest cs n e h =
      evaluations_done theory tasks (Apply r ∷ rest) (list_of ts) cs h
      ∙ (ap (λ us. all_done theory (Apply r ∷ rest) (flat_map (with_all theory us) cs)) (trees_again theory ts)
      ∙ (ap (λ u. all_done theory rest (flat_map (root_applied theory u) (flat_map (with_all theory ts) cs))) e
      ∙ ap (all_done theory rest) (sym (evaluate_root theory f ts cs))))

  pub begun_goes_on : (r : TermRef) (old new : List Task) (cs : List Choices) → ¬ IsFree theory (seen r) → IsBegun (seen r) 0 old new → GoesOn theory (Evaluate r ∷ reverse old) cs (reverse new) cs
  begun_goes_on r old new cs n b =
      let same : all_done theory (reverse new) cs ≡ all_done theory (Evaluate r ∷ reverse old) cs =
      ap (λ ts. all_done theory ts cs) b.agenda ∙ begun_done (seen r) b.root b.tasks (reverse old) cs n b.same b.evaluations in
      subst (λ es. IsThinned es (all_done theory (reverse new) cs)) same (unchanged (all_done theory (reverse new) cs))

  weights_of : (tasks rest : List Task) (ts : Trees) → AreEvaluations tasks (list_of ts) → weights (tasks ++ rest) ≡ 2 * node_counts ts + weights rest
  weights_of [] rest none h = omega arith
  weights_of [] rest (more t ts) h = absurd h
  weights_of (Evaluate r ∷ tasks) rest none h = absurd h
  weights_of (Evaluate r ∷ tasks) rest (more t ts) h = omega (arith, ap node_count h.0, weights_of tasks rest ts h.1)
  weights_of (Apply r ∷ tasks) rest ts h = absurd h

  begun_weight : (t : Tree) (r : TermRef) (tasks rest : List Task) → ¬ IsFree theory t → AreEvaluations tasks (arguments t) → weights (tasks ++ (Apply r ∷ rest)) < 2 * node_count t + weights rest
  begun_weight (leaf x) r tasks rest n h = absurd (n tt)
  begun_weight (app f ts) r tasks rest n h =
      let w : weights (tasks ++ (Apply r ∷ rest)) ≡ 2 * node_counts ts + (1 + weights rest) = weights_of tasks (Apply r ∷ rest) ts h in
      omega (arith, w)

  pub begun_is_smaller : (t : Tree) (old new : List Task) → ¬ IsFree theory t → IsBegun t 0 old new → weights (reverse new) < 2 * node_count t + weights (reverse old)
  begun_is_smaller t old new n b = subst (λ ts. weights ts < 2 * node_count t + weights (reverse old)) (sym b.agenda) (begun_weight t b.root b.tasks (reverse old) n b.evaluations)

pub one_node : (t : Tree) → 1 ≤ node_count t
one_node (leaf x) = omega arith
one_node (app f ts) = omega arith

dropped_all : (ts : List Tree) → drop (length ts) ts ≡ []
dropped_all [] = refl
dropped_all (t ∷ ts) = dropped_all ts

pub begun_root : (r : TermRef) (left : ℕ) (old new : List Task) → left ≡ length (arguments (seen r)) → new ≡ old ++ Apply r ∷ [] → IsBegun (seen r) left old new
begun_root r left old new n e = record {
  root = r;
  same = refl;
  tasks = [];
  evaluations = subst (AreEvaluations []) (sym (ap (λ k. drop k (arguments (seen r))) n ∙ dropped_all (arguments (seen r)))) tt;
  agenda = ap reverse e ∙ reverse-append old (Apply r ∷ []);
}

pub drop_there : (ts : List Tree) (k : ℕ) (t : Tree) → slice_get ts k ≡ Some t → drop k ts ≡ t ∷ drop (suc k) ts
drop_there [] k t e = cc
drop_there (u ∷ ts) zero t e = let same : u ≡ t = cc in ap (λ w. w ∷ ts) same
drop_there (u ∷ ts) (suc k) t e = drop_there ts k t e

pub begun_more :
    (t : Tree) (left k : ℕ) (old new after : List Task) (r : TermRef) → suc k ≡ left → slice_get (arguments t) k ≡ Some (seen r)
    → after ≡ new ++ Evaluate r ∷ [] → IsBegun t left old new → IsBegun t k old after
begun_more t left k old new after r s e n b = record {
  root = b.root;
  same = b.same;
  tasks = Evaluate r ∷ b.tasks;
  evaluations =
      subst (AreEvaluations (Evaluate r ∷ b.tasks)) (sym (drop_there (arguments t) k (seen r) e))
      (refl, subst (λ j. AreEvaluations b.tasks (drop j (arguments t))) (sym s) b.evaluations);
  agenda = (ap reverse n ∙ reverse-append new (Evaluate r ∷ [])) ∙ ap (λ ts. Evaluate r ∷ ts) b.agenda;
}

pub no_task : (ts : List Task) → length ts ≡ 0 → ts ≡ []
no_task [] e = refl
no_task (t ∷ ts) e = absurd (omega (arith, e))

module _ (theory : Theory) (cs : List Choices) where
  -- the root over the last results
  pub root_thinned :
      (t : Tree) (f : Sym) (n : ℕ) (ds : List Choices) → App f ≡ view_of t → n ≡ length (arguments t)
      → IsThinned (flat_map (applied_last theory f n) cs) ds → IsThinned (flat_map (root_applied theory t) cs) ds
  root_thinned (app g ts) f n ds e k h =
      let same : f ≡ g = cc in
      subst (λ (s : Sym). IsThinned (flat_map (applied_last theory s (length (list_of ts))) cs) ds) same
      (subst (λ m. IsThinned (flat_map (applied_last theory f m) cs) ds) k h)
  root_thinned (leaf (public n)) f m ds e k h = absurd cc
  root_thinned (leaf (private n)) f m ds e k h = absurd cc
  root_thinned (leaf (var n)) f m ds e k h = absurd cc
  root_thinned (leaf (ax n)) f m ds e k h = absurd cc
  root_thinned (leaf (entry n)) f m ds e k h = absurd cc
  root_thinned (leaf (rigid n)) f m ds e k h = absurd cc

  pub leaf_thinned : (t : Tree) → ((f : Sym) → view_of t ≡ App f → ⊥) → IsThinned (flat_map (root_applied theory t) cs) cs
  leaf_thinned (app g ts) h = absurd (h g refl)
  leaf_thinned (leaf x) h = subst (λ ds. IsThinned ds cs) (sym (joined_same (root_applied theory (leaf x)) cs (λ c. refl))) (unchanged cs)

  pub narrowed_thinned :
      (f : Sym) (n : ℕ) (b : Bool) (ds : List Choices) → b ≡ true → b ≡ is_destructor theory f
      → AreOpen (flat_map (narrowed_last theory f n) cs) ds → IsThinned (flat_map (applied_last theory f n) cs) ds
  narrowed_thinned f n b ds e k h = subst (λ xs. IsThinned xs ds) (sym (narrow_done theory f n cs (sym k ∙ e))) h.thinned

  pub constructed_thinned :
      (f : Sym) (n : ℕ) (b : Bool) (ds : List Choices) → b ≡ false → b ≡ is_destructor theory f
      → ds ≡ map (constructed_last f n) cs → IsThinned (flat_map (applied_last theory f n) cs) ds
  constructed_thinned f n b ds e k h = subst (λ xs. IsThinned xs ds) (h ∙ sym (construct_done theory f n cs (sym k ∙ e))) (unchanged ds)

  pub constructed_open : (f : Sym) (n : ℕ) (ds : List Choices) → ds ≡ map (constructed_last f n) cs → All IsOpen cs → All IsOpen ds
  constructed_open f n ds e h = subst (All IsOpen) (sym e) (all_mapped_within IsOpen IsOpen (constructed_last f n) cs h (λ c k. k))
