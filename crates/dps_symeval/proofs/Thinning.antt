-- Choices of which some that nothing makes true are left out.
use Rattle.std.proofs.Common.{◌≡◌, ℕ, List, [], ◌∷◌, ◌++◌, length, map, refl, ap, Bool, true, false, cond}
use Rattle.std.specs.Prelude.{All}
use Rattle.std.specs.List.{flat_map}
use Rattle.std.proofs.lemmas.List.Elements.{All-nil, All-cons, All-head, All-tail}
use Rattle.dps_terms.specs.declared.Sym.{Sym}
use Rattle.dps_terms.specs.Tree.{Tree, leaf, app, trees, list_of}
use Rattle.dps_terms.specs.Replace.{substitute}
use Rattle.dps_terms.specs.Seen.{seen}
use Rattle.dps_unify.specs.Unifier.{IsNotUnifiable}
use Rattle.dps_theory.specs.Theory.{Theory}
use Rattle.dps_symeval.specs.Cases.{Case, Choices, IsUnifiable, IsPruned, all_seen, keeps, leaves_out, as_case, is_destructor, reduced_by}
use Rattle.dps_symeval.specs.Cases.{rules_of, applied, constructed, choices, fits_rule, rule_from, ArePossible}
use Rattle.dps_symeval.specs.Cases as Cases
use Rattle.dps_symeval.specs.declared.agenda.Task.{Task}
use Rattle.dps_symeval.specs.declared.agenda.Task.TheVariants.{Evaluate, Apply}
use Rattle.dps_symeval.specs.Agenda.{IsThinned, none_left, stays, goes, IsOpen, AreOpen, among_others, only_last, applied_last, root_applied, done, all_done}
use Rattle.dps_symeval.proofs.Listed.{all_left}
use Rattle.dps_symeval.proofs.Mapping.{all_mapped, all_mapped_within}

abbrev pub IsShut : Choices → Type 0
IsShut c = IsNotUnifiable c.equations

pub unchanged : (cs : List Choices) → IsThinned cs cs
unchanged [] = none_left
unchanged (c ∷ cs) = stays (unchanged cs)

pub in_turn : {all kept fewer : List Choices} → IsThinned all kept → IsThinned kept fewer → IsThinned all fewer
in_turn none_left h = h
in_turn (stays a) (stays h) = stays (in_turn a h)
in_turn (stays a) (goes n h) = goes n (in_turn a h)
in_turn (goes n a) h = goes n (in_turn a h)

pub beside : {all kept more added : List Choices} → IsThinned all kept → IsThinned more added → IsThinned (all ++ more) (kept ++ added)
beside none_left h = h
beside (stays a) h = stays (beside a h)
beside (goes n a) h = goes n (beside a h)

pub shut_before : (cs : List Choices) {all kept : List Choices} → All IsShut cs → IsThinned all kept → IsThinned (cs ++ all) kept
shut_before [] k h = h
shut_before (c ∷ cs) k h = goes (All-head IsShut c cs k) (shut_before cs (All-tail IsShut c cs k) h)

pub joined_thinned : (f : Choices → List Choices) → ((c : Choices) → IsShut c → All IsShut (f c)) → {all kept : List Choices} → IsThinned all kept → IsThinned (flat_map f all) (flat_map f kept)
joined_thinned f e none_left = none_left
joined_thinned f e (stays {c} a) = beside (unchanged (f c)) (joined_thinned f e a)
joined_thinned f e (goes {c} n a) = shut_before (f c) (e c n) (joined_thinned f e a)

-- what has more equations
pub shut_longer : (first second : List (Tree × Tree)) → IsNotUnifiable first → IsNotUnifiable (first ++ second)
shut_longer first second n = λ r u. n r (all_left (λ p. substitute r p.0 ≡ substitute r p.1) first second u)

shut_applied_by : (theory : Theory) (f : Sym) (c : Choices) (b : Bool) → IsShut c → All IsShut (cond b (map (reduced_by c) (rules_of theory f)) (constructed f c))
shut_applied_by theory f c true n = all_mapped IsShut (reduced_by c) (rules_of theory f) (λ r. shut_longer c.equations (fits_rule c.results (rule_from c.next r)) n)
shut_applied_by theory f c false n =
    All-cons IsShut (record { equations = c.equations; results = app f (trees c.results) ∷ []; next = c.next }) [] n (All-nil IsShut)

shut_last : (theory : Theory) (f : Sym) (n : ℕ) (c : Choices) → IsShut c → All IsShut (applied_last theory f n c)
shut_last theory f n c k =
    all_mapped_within IsShut IsShut (among_others n c) (applied theory f (only_last n c)) (shut_applied_by theory f (only_last n c) (is_destructor theory f) k) (λ d h. h)

shut_root : (theory : Theory) (t : Tree) (c : Choices) → IsShut c → All IsShut (root_applied theory t c)
shut_root theory (leaf x) c k = All-cons IsShut c [] k (All-nil IsShut)
shut_root theory (app f ts) c k = shut_last theory f (length (list_of ts)) c k

pub shut_done : (theory : Theory) (task : Task) (c : Choices) → IsShut c → All IsShut (done theory task c)
shut_done theory (Evaluate t) c k =
    all_mapped IsShut (Cases.joined c) (choices theory c.next (seen t)) (λ d. shut_longer c.equations d.equations k)
shut_done theory (Apply t) c k = shut_root theory (seen t) c k

pub all_done_thinned : (theory : Theory) (tasks : List Task) {all kept : List Choices} → IsThinned all kept → IsThinned (all_done theory tasks all) (all_done theory tasks kept)
all_done_thinned theory [] h = h
all_done_thinned theory (task ∷ tasks) h = all_done_thinned theory tasks (joined_thinned (done theory task) (shut_done theory task) h)

-- the same of cases
pub pruned_as : (f : Choices → Case) → ((c : Choices) → IsShut c → IsNotUnifiable ((f c).equations)) → {all kept : List Choices} → IsThinned all kept → IsPruned (map f all) (map f kept)
pruned_as f e none_left = all_seen
pruned_as f e (stays a) = keeps (pruned_as f e a)
pruned_as f e (goes {c} n a) = leaves_out (e c n) (pruned_as f e a)

pub pruned_in_turn : {all kept fewer : List Case} → IsPruned all kept → IsPruned kept fewer → IsPruned all fewer
pruned_in_turn all_seen h = h
pruned_in_turn (keeps a) (keeps h) = keeps (pruned_in_turn a h)
pruned_in_turn (keeps a) (leaves_out n h) = leaves_out n (pruned_in_turn a h)
pruned_in_turn (leaves_out n a) h = leaves_out n (pruned_in_turn a h)

pub possible_cases : (t : Tree) {all kept : List Choices} → AreOpen all kept → ArePossible (map (as_case t) all) (map (as_case t) kept)
possible_cases t {all} {kept} h = record {
  pruned = pruned_as (as_case t) (λ c n. n) h.thinned;
  possible = all_mapped_within IsOpen (λ (c : Case). IsUnifiable c.equations) (as_case t) kept h.unifiable (λ c u. u);
}

-- there is one list of possible cases
pruned_alike :
    {all kept others : List Case} → IsPruned all kept → All (λ (c : Case). IsUnifiable c.equations) kept → IsPruned all others
    → All (λ (c : Case). IsUnifiable c.equations) others → kept ≡ others
pruned_alike all_seen a all_seen b = refl
pruned_alike (keeps {c} {kept} p) a (keeps {kept = others} q) b =
    let P : Case → Type 0 = λ c. IsUnifiable c.equations in
    ap (λ (cs : List Case). c ∷ cs) (pruned_alike p (All-tail P c kept a) q (All-tail P c others b))
pruned_alike (keeps {c} {kept} p) a (leaves_out n q) b =
    let P : Case → Type 0 = λ c. IsUnifiable c.equations in
    let u = All-head P c kept a in
    absurd (n u.0 u.1)
pruned_alike (leaves_out n p) a (keeps {c} {kept = others} q) b =
    let P : Case → Type 0 = λ c. IsUnifiable c.equations in
    let u = All-head P c others b in
    absurd (n u.0 u.1)
pruned_alike (leaves_out n p) a (leaves_out m q) b = pruned_alike p a q b

pub one_possible : (all kept others : List Case) → ArePossible all kept → ArePossible all others → kept ≡ others
one_possible all kept others h k = pruned_alike h.pruned h.possible k.pruned k.possible
