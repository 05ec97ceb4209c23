-- The choices of rules for terms, by a list of what is still to be done.
use Rattle.std.specs.Prelude.{◌≡◌, ◌⊎◌, ◌+◌, ◌-◌, ◌*◌, ℕ, false, List, [], ◌∷◌, ◌++◌, map, length, take, drop, reverse, slice_get, All, ⊤}
use Rattle.std.specs.List.{flat_map, filter_map}
use Rattle.dps_terms.specs.declared.Sym.{Sym}
use Rattle.dps_terms.specs.Tree.{Tree, leaf, app, trees, list_of, node_count}
use Rattle.dps_terms.specs.Views.{arguments}
use Rattle.dps_terms.specs.Kinds.{IsBuiltOf, AnyLeaf}
use Rattle.dps_terms.specs.Seen.{seen}
use Rattle.dps_terms.specs.declared.borrowed.TermRef.{TermRef}
use Rattle.dps_unify.specs.Unifier.{IsNotUnifiable}
use Rattle.dps_theory.specs.Theory.{Rule, Theory}
use Rattle.dps_symeval.specs.Cases.{Case, Choices, IsUnifiable, is_destructor, choices, joined, applied, reduced_by, rules_of, result_of}
use Rattle.dps_symeval.specs.declared.agenda.Task.{Task}
use Rattle.dps_symeval.specs.declared.agenda.Task.TheVariants.{Evaluate, Apply}

-- the last n of a list, or all where there are fewer, and what stands before them
abbrev pub last : ℕ → List Tree → List Tree
last n rs = drop (length rs - n) rs

abbrev pub before_last : ℕ → List Tree → List Tree
before_last n rs = take (length rs - n) rs

-- the one choice for no terms
abbrev pub no_terms : ℕ → Choices
no_terms first = record { equations = []; results = []; next = first }

abbrev pub with_result : Choices → Tree → Choices
with_result c t = record c { results = c.results ++ t ∷ [] }

-- the choices for the last n terms alone, and what comes of them among those for the others
abbrev pub only_last : ℕ → Choices → Choices
only_last n c = record c { results = last n c.results }

abbrev pub among_others : ℕ → Choices → Choices → Choices
among_others n c d = record d { results = before_last n c.results ++ d.results }

-- the symbol over the last n terms
abbrev pub applied_last : Theory → Sym → ℕ → Choices → List Choices
applied_last theory f n c = map (among_others n c) (applied theory f (only_last n c))

abbrev pub constructed_last : Sym → ℕ → Choices → Choices
constructed_last f n c = record c { results = before_last n c.results ++ app f (trees (last n c.results)) ∷ [] }

abbrev pub reduced_last : ℕ → Choices → Rule → Choices
reduced_last n c r = among_others n c (reduced_by (only_last n c) r)

abbrev pub narrowed_last : Theory → Sym → ℕ → Choices → List Choices
narrowed_last theory f n c = map (reduced_last n c) (rules_of theory f)

-- the root of a term over the results of its arguments, which are the last
abbrev pub root_applied : Theory → Tree → Choices → List Choices
root_applied theory (leaf x) c = c ∷ []
root_applied theory (app f ts) c = applied_last theory f (length (list_of ts)) c

-- what a task makes of choices for the terms before it
abbrev pub done : Theory → Task → Choices → List Choices
done theory (Evaluate t) c = map (joined c) (choices theory c.next (seen t))
done theory (Apply t) c = root_applied theory (seen t) c

abbrev pub all_done : Theory → List Task → List Choices → List Choices
all_done theory [] cs = cs
all_done theory (task ∷ tasks) cs = all_done theory tasks (flat_map (done theory task) cs)

-- how much there is to do
abbrev pub weight : Task → ℕ
weight (Evaluate t) = 2 * node_count (seen t)
weight (Apply t) = 1

abbrev pub weights : List Task → ℕ
weights [] = 0
weights (task ∷ tasks) = weight task + weights tasks

-- the choices in order, some of those left out whose equations nothing makes true
pub data IsThinned : List Choices → List Choices → Type 0 where
  none_left : IsThinned [] []
  stays : {c : Choices} {all kept : List Choices} → IsThinned all kept → IsThinned (c ∷ all) (c ∷ kept)
  goes : {c : Choices} {all kept : List Choices} → IsNotUnifiable c.equations → IsThinned all kept → IsThinned (c ∷ all) kept

abbrev pub IsOpen : Choices → Type 0
IsOpen c = IsUnifiable c.equations

-- just those left out
pub record AreOpen (all kept : List Choices) : Type 0 where
  pub thinned : IsThinned all kept
  pub unifiable : All IsOpen kept

-- just the open ones of these were added
pub record AddsOpen (all old new : List Choices) : Type 0 where
  pub added : List Choices
  pub are_open : AreOpen all added
  pub behind : new ≡ old ++ added

-- what comes of what is left is what comes of the agenda before, but for what nothing makes true
abbrev pub GoesOn : Theory → List Task → List Choices → List Task → List Choices → Type 0
GoesOn theory tasks cs left ds = IsThinned (all_done theory tasks cs) (all_done theory left ds)

-- no destructor stands in the term
abbrev pub NoDestructor : Theory → Sym → ℕ → Type 0
NoDestructor theory f n = is_destructor theory f ≡ false

abbrev pub IsFree : Theory → Tree → Type 0
IsFree theory t = IsBuiltOf AnyLeaf (NoDestructor theory) t

abbrev pub AreFree : Theory → List Tree → Type 0
AreFree theory [] = ⊤
AreFree theory (t ∷ ts) = IsFree theory t × AreFree theory ts

abbrev pub IsRootFree : Theory → Tree → Type 0
IsRootFree theory (leaf x) = ⊤
IsRootFree theory (app f ts) = is_destructor theory f ≡ false

-- the tasks evaluate these terms
abbrev pub AreEvaluations : List Task → List Tree → Type 0
AreEvaluations [] [] = ⊤
AreEvaluations [] (t ∷ ts) = ⊥
AreEvaluations (Evaluate r ∷ tasks) [] = ⊥
AreEvaluations (Evaluate r ∷ tasks) (t ∷ ts) = (seen r ≡ t) × AreEvaluations tasks ts
AreEvaluations (Apply r ∷ tasks) ts = ⊥

-- the arguments from a place on are on the agenda, the first of them first, and then the root
pub record IsBegun (t : Tree) (from : ℕ) (old new : List Task) : Type 0 where
  pub root : TermRef
  pub same : seen root ≡ t
  pub tasks : List Task
  pub evaluations : AreEvaluations tasks (drop from (arguments t))
  pub agenda : reverse new ≡ tasks ++ (Apply root ∷ reverse old)

-- the rules at these places
abbrev pub at_places : List Rule → List ℕ → List Rule
at_places rules places = filter_map (slice_get rules) places

-- the joined case of choices for two terms
abbrev pub second_of : List Tree → Tree → Tree
second_of [] u = u
second_of (r ∷ rs) u = result_of rs u

abbrev pub as_equal_case : Tree → Tree → Choices → Case
as_equal_case t u c =
    record {
      equations = c.equations ++ (result_of c.results t, second_of c.results u) ∷ [];
      result = result_of c.results t;
    }

-- the case was added, unless nothing makes its equations true
abbrev pub AddsPossible : Case → List Case → List Case → Type 0
AddsPossible c old new = (IsUnifiable c.equations × (new ≡ old ++ c ∷ [])) ⊎ (IsNotUnifiable c.equations × (new ≡ old))
