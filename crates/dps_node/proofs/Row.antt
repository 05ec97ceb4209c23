-- The tree of `out(c,a)` against `out(c,b)`, down to the attack.
use Rattle.std.proofs.Common.{◌≡◌, ℕ, List, [], ◌∷◌, inl, inr, Bool, true, false, if◌then◌else◌, is_some, Some, None, refl, ap, arith, subst, All, Any, Option}
use Rattle.std.proofs.lemmas.List.Elements.{All-nil, All-cons, All-head, All-tail}
use Rattle.dps_branch.specs.declared.Side.{Side}
use Rattle.dps_branch.specs.declared.Side.TheVariants.{Left, Right}
use Rattle.dps_terms.specs.declared.PublicName.TheVariants.{Declared}
use Rattle.dps_terms.specs.Tree.{public, var, Tree, leaf}
use Rattle.dps_terms.specs.Bindings.{bound, image}
use Rattle.dps_unify.specs.Order.{level_of}
use Rattle.dps_unify.specs.Unifier.{IsMgu, IsNotUnifiable}
use Rattle.dps_unify.proofs.Pairs.{unifies_one, any_none, any_cases}
use Rattle.dps_process.specs.Process.{Process, nil, output}
use Rattle.dps_process.specs.Problem.{destructors}
use Rattle.dps_process.specs.Steps.{outputs}
use Rattle.dps_solver.specs.Scene.{Scene, Ask}
use Rattle.dps_solver.specs.Solutions.{identity, Respects}
use Rattle.dps_solver.specs.Search.{GeneralSolution, IsPlain, Branch, solution_of, AreNewlyBound, with_bound, composed, composes, gives, goes_on, no_way, leads, unbound, Finds, unsolvable, starts}
use Rattle.dps_solver.proofs.Bindings.{binds_none}
use Rattle.dps_solver.proofs.Rows.{newly_none}
use Rattle.dps_node.specs.Node.{SymbolicConfig, Node, root, scene_of, system_of, with_configs, at_count}
use Rattle.dps_node.specs.Splits.{partition}
use Rattle.dps_node.specs.Questions.{Found, equal, tree, no_ask, an_ask, decided, Answers, holds, fails, Asks, all_decided, AsksEach, none_left, one_decided}
use Rattle.dps_node.specs.Outcome.{changed, kids}
use Rattle.dps_node.specs.Settling.{IsReady, AreReady, IsSettled, unfolds}
use Rattle.dps_node.specs.Settling.{ends as gone}
use Rattle.dps_node.specs.Knowing.{in_each, value_in, compares, Examines, is_compared, by_handle, splits}
use Rattle.dps_node.specs.Mixing.{adds, mixes, AreMixed, unmixed}
use Rattle.dps_node.specs.Mixing.{none_left as added_all}
use Rattle.dps_node.specs.Showing.{shown, Keeps, keeps, leaves_out}
use Rattle.dps_node.specs.Showing.{none_left as kept_all}
use Rattle.dps_node.specs.Expansion.{Acts, settles, knows, Expands, changes, divides, shows, branches, Looks, attacks, is_spent, expands, at_root, at_kid}
use Rattle.dps_node.specs.Expansion.{mixes as mixes_next}
use Rattle.dps_node.specs.Examples.{a, b, signature, two_names, AttackIsFound, BudgetIsSpent}
use Rattle.dps_node.proofs.Rules.{expands_once}

one : {X : Type 0} (P : X → Type 0) (x : X) → P x → All P (x ∷ [])
one P x h = All-cons P x [] h (All-nil P)

two : {X : Type 0} (P : X → Type 0) (x y : X) → P x → P y → All P (x ∷ y ∷ [])
two P x y h k = All-cons P x (y ∷ []) h (one P y k)

-- the configurations
abbrev config : Side → List Process → List Tree → SymbolicConfig
config side parts frame = record { side = side; parts = parts; frame = frame; values = []; mixed = false }

abbrev marked : SymbolicConfig → SymbolicConfig
marked c = record c { mixed = true }

abbrev l0 : SymbolicConfig
l0 = config Left (output 0 a nil ∷ []) []

abbrev r0 : SymbolicConfig
r0 = config Right (output 0 b nil ∷ []) []

abbrev n0 : Node
n0 = root two_names

abbrev n1 : Node
n1 = with_configs n0 (marked l0 ∷ r0 ∷ [])

abbrev n2 : Node
n2 = with_configs n0 (marked l0 ∷ marked r0 ∷ [])

not_both_sides : (side : Side) (c d : SymbolicConfig) → c.side ≡ Left → d.side ≡ Right → ¬ All (λ (k : SymbolicConfig). k.side ≡ side) (c ∷ d ∷ [])
not_both_sides side c d e f h =
    let left = All-head (λ (k : SymbolicConfig). k.side ≡ side) c (d ∷ []) h in
    let right = All-head (λ (k : SymbolicConfig). k.side ≡ side) d [] (All-tail (λ (k : SymbolicConfig). k.side ≡ side) c (d ∷ []) h) in
    cc

settled : (c d : SymbolicConfig) → AreReady (two_names.theory) c → AreReady (two_names.theory) d → All (AreReady (two_names.theory)) (c ∷ d ∷ [])
settled c d h k = two (AreReady (two_names.theory)) c d h k

ready_output : (t : Tree) (x : ℕ) → t ≡ leaf (public (Declared x)) → All (IsReady (two_names.theory)) (output 0 t nil ∷ [])
ready_output t x e = one (IsReady (two_names.theory)) (output 0 t nil) (ap (destructors []) e)

settled0 : (x y : Bool) → All (AreReady (two_names.theory)) (record l0 { mixed = x } ∷ record r0 { mixed = y } ∷ [])
settled0 x y = settled (record l0 { mixed = x }) (record r0 { mixed = y }) (ready_output a 1 refl) (ready_output b 2 refl)

unmarked_left : ¬ AreMixed n0
unmarked_left h = let e : false ≡ true = All-head (λ (c : SymbolicConfig). c.mixed ≡ true) l0 (r0 ∷ []) h in cc

unmarked_right : ¬ AreMixed n1
unmarked_right h =
    let e : false ≡ true = All-head (λ (c : SymbolicConfig). c.mixed ≡ true) r0 [] (All-tail (λ (c : SymbolicConfig). c.mixed ≡ true) (marked l0) (r0 ∷ []) h) in
    cc

act0 : Acts two_names n0 (changed n1)
act0 = mixes_next (settled0 false false) refl unmarked_left (mixes [] (r0 ∷ []) l0 refl (All-nil (λ (d : SymbolicConfig). d.mixed ≡ true)) refl added_all refl)

act1 : Acts two_names n1 (changed n2)
act1 =
    mixes_next (settled0 true false) refl unmarked_right
    (mixes (marked l0 ∷ []) [] r0 refl (one (λ (d : SymbolicConfig). d.mixed ≡ true) (marked l0) refl) refl added_all refl)

-- the kid by the output
abbrev l1 : SymbolicConfig
l1 = config Left (nil ∷ []) (a ∷ [])

abbrev r1 : SymbolicConfig
r1 = config Right (nil ∷ []) (b ∷ [])

abbrev k0 : Node
k0 =
    record n0 {
      labels = outputs 0 1 ∷ [];
      configs = l1 ∷ r1 ∷ [];
      m = 1;
      closed = false;
      examine = true;
      count = 0;
    }

other_sides : ¬ Any (λ d. unmixed d ≡ unmixed r1) (l1 ∷ [])
other_sides h =
    elim (any_cases (λ d. unmixed d ≡ unmixed r1) l1 [] h) [
      | inl e ↦ let s : Left ≡ Right = ap (λ (c : SymbolicConfig). c.side) e in cc
      | inr n ↦ any_none (λ d. unmixed d ≡ unmixed r1) n
    ]

kept : Keeps (shown signature n2) (k0 ∷ [])
kept =
    keeps (λ e. cc) (adds (any_none (λ d. unmixed d ≡ unmixed l1)) refl (adds other_sides refl added_all)) refl
    (leaves_out refl (leaves_out refl (leaves_out refl (leaves_out refl (leaves_out refl kept_all)))))

expands0 : Expands two_names n0 0 (k0 ∷ [])
expands0 =
    changes act0
    (changes act1 (shows (record { settled = settled0 true true; closed = refl; mixed = two (λ (c : SymbolicConfig). c.mixed ≡ true) (marked l0) (marked r0) refl refl }) kept refl))

looks0 : Looks two_names 6 n0 (branches (k0 ∷ []))
looks0 = expands (λ side. not_both_sides side l0 r0 refl refl) expands0 (omega arith) refl

-- there the parts `0` go
abbrev l2 : SymbolicConfig
l2 = config Left [] (a ∷ [])

abbrev r2 : SymbolicConfig
r2 = config Right [] (b ∷ [])

abbrev k1 : Node
k1 = with_configs k0 (l2 ∷ r1 ∷ [])

abbrev k2 : Node
k2 = with_configs k0 (l2 ∷ r2 ∷ [])

unready : (c : SymbolicConfig) (rest : List SymbolicConfig) → c.parts ≡ nil ∷ [] → ¬ All (AreReady (two_names.theory)) (c ∷ rest)
unready c rest e h =
    All-head (IsReady (two_names.theory)) nil [] (subst (All (IsReady (two_names.theory))) e (All-head (AreReady (two_names.theory)) c rest h))

no_part : AreReady (two_names.theory) l2
no_part = All-nil (IsReady (two_names.theory))

act2 : Acts two_names k0 (changed k1)
act2 =
    settles (unready l1 (r1 ∷ []) refl)
    (unfolds
    (record {
      before = [];
      config = l1;
      after = r1 ∷ [];
      front = [];
      back = [];
      configs = refl;
      parts = refl;
      ready_before = All-nil (AreReady (two_names.theory));
      ready_front = All-nil (IsReady (two_names.theory));
      unready = λ h. h;
    })
    gone refl)

act3 : Acts two_names k1 (changed k2)
act3 =
    settles (λ h. unready r1 [] refl (All-tail (AreReady (two_names.theory)) l2 (r1 ∷ []) h))
    (unfolds
    (record {
      before = l2 ∷ [];
      config = r1;
      after = [];
      front = [];
      back = [];
      configs = refl;
      parts = refl;
      ready_before = one (AreReady (two_names.theory)) l2 no_part;
      ready_front = All-nil (IsReady (two_names.theory));
      unready = λ h. h;
    })
    gone refl)

-- the questions
respects_none : (z : ℕ → Tree) → Respects (system_of k2) z
respects_none z = record {
  labels = λ i d l. absurd (omega (arith, l));
  disequations = λ i d l. absurd (omega (arith, l));
}

no_equation : IsMgu [] [] []
no_equation = record {
  unifies = λ i d l. absurd (omega (arith, l));
  general = λ r h n. refl;
  idempotent = λ n. refl;
  least = λ n y e. absurd (nothing n (leaf (var y)) e);
  binds = λ n u e. absurd (nothing n u e);
  holds = λ n u e m k. absurd (nothing n u e);
}
  where
    nothing : (n : ℕ) (u : Tree) → bound [] n ≡ Some u → ⊥
    nothing n u e = cc

newly : (after : ℕ → Tree) → AreNewlyBound [] identity after []
newly after = newly_none [] identity after (λ y m e. let q : None ≡ Some m = e in cc)

plain : (scene : Scene) (ask : Ask) (branch : Branch) → scene.system.levels ≡ [] → IsPlain (solution_of scene ask branch)
plain scene ask branch e x = ap (λ levels. if is_some (level_of levels x) then branch.trees x else leaf (var x)) e

-- a tree with the value of a public name
abbrev tree_ask : ℕ → Ask
tree_ask n = record { equations = []; targets = record { name = 1; level = 1; term = leaf (public (Declared n)) } ∷ [] }

module _ (c : SymbolicConfig) (n : ℕ) where
  abbrev t : Tree
  t = leaf (public (Declared n))

  abbrev b0 : Branch
  b0 = with_bound [] (record (unbound (scene_of k2 c) (tree_ask n)) { theta = image [] })

  abbrev b1 : Branch
  b1 = composed b0 (record { name = 1; level = 1; term = t }) [] t

  abbrev sol : GeneralSolution
  sol = solution_of (scene_of k2 c) (tree_ask n) b1

  tree_found : Finds (scene_of k2 c) (tree_ask n) (sol ∷ []) 1
  tree_found =
      starts no_equation refl (newly (image [])) refl
      (goes_on {z = record { name = 1; level = 1; term = t }} {rest = []} refl (leads (composes refl) (gives refl (respects_none _) refl refl) no_way refl refl))

  abbrev found_tree : Found
  found_tree = (record { ask = tree_ask n; result = leaf (var 1) }, sol)

  asks_tree : Asks Answers k2 c (tree k2 t) (decided (Some found_tree)) 2
  asks_tree = record {
    found = found_tree ∷ [];
    moves = 1;
    finds = an_ask tree_found no_ask refl refl;
    answers = holds [] [] found_tree refl (All-nil (λ g. ¬ IsPlain g.1)) (plain (scene_of k2 c) (tree_ask n) b1 refl) refl;
    counted = refl;
  }

abbrev trees_found : List (Option Found)
trees_found = Some (found_tree l2 1) ∷ Some (found_tree r2 2) ∷ []

trees_asked : AsksEach Answers k2 (in_each k2 (λ c v. tree k2 v) (a ∷ b ∷ [])) (all_decided trees_found) 4
trees_asked = one_decided (asks_tree l2 1) (one_decided (asks_tree r2 2) none_left refl refl) refl refl

-- a is a, and b is not
abbrev equal_ask : Tree → Tree → Ask
equal_ask t u = record { equations = (t, u) ∷ []; targets = [] }

abbrev d0 : Branch
d0 = with_bound [] (record (unbound (scene_of k2 l2) (equal_ask a a)) { theta = image [] })

abbrev equal_solution : GeneralSolution
equal_solution = solution_of (scene_of k2 l2) (equal_ask a a) d0

equal_found : Finds (scene_of k2 l2) (equal_ask a a) (equal_solution ∷ []) 0
equal_found = starts (binds_none [] a) refl (newly (image [])) refl (gives refl (respects_none _) refl refl)

abbrev found_equal : Found
found_equal = (record { ask = equal_ask a a; result = a }, equal_solution)

asks_equal : Asks Answers k2 l2 (equal a a) (decided (Some found_equal)) 1
asks_equal = record {
  found = found_equal ∷ [];
  moves = 0;
  finds = an_ask equal_found no_ask refl refl;
  answers = holds [] [] found_equal refl (All-nil (λ g. ¬ IsPlain g.1)) (plain (scene_of k2 l2) (equal_ask a a) d0 refl) refl;
  counted = refl;
}

apart : IsNotUnifiable ((b, a) ∷ [])
apart r u = names_differ ((unifies_one r (b, a)).0 u)
  where
    names_differ : b ≡ a → ⊥
    names_differ e = omega (arith, number 2 1 e)
      where
        number : (m n : ℕ) → leaf (public (Declared m)) ≡ leaf (public (Declared n)) → m ≡ n
        number m n d = cc

asks_unequal : Asks Answers k2 r2 (equal b a) (decided None) 1
asks_unequal = record {
  found = [];
  moves = 0;
  finds = an_ask (unsolvable apart refl) no_ask refl refl;
  answers = fails refl;
  counted = refl;
}

compared : AsksEach Answers k2 (in_each k2 (λ c v. equal v (value_in c a)) (a ∷ b ∷ [])) (all_decided (Some found_equal ∷ None ∷ [])) 2
compared = one_decided asks_equal (one_decided asks_unequal none_left refl refl) refl refl

-- so the node is partitioned, with six steps
abbrev parts : List Node
parts = partition (at_count k2 6) (true ∷ false ∷ [])

examined : Examines k2 (a ∷ b ∷ []) 0 (splits (kids 6 parts))
examined = is_compared trees_asked refl (compares compared refl) refl

settled2 : IsSettled (two_names.theory) k2
settled2 = settled l2 r2 no_part no_part

act4 : Acts two_names k2 (kids 6 parts)
act4 = knows settled2 refl (by_handle refl examined refl)

expands1 : Expands two_names k0 6 parts
expands1 = changes act2 (changes act3 (divides act4))

looks1 : Looks two_names 6 k0 (branches parts)
looks1 = expands (λ side. not_both_sides side l1 r1 refl refl) expands1 (omega arith) refl

abbrev left_node : Node
left_node = with_configs (at_count k2 6) (l2 ∷ [])

pub attack_is_found : AttackIsFound
attack_is_found = record {
  node = left_node;
  place = at_kid 0 (at_kid 0 (at_root refl) looks0 refl refl) looks1 refl refl;
  looks = attacks (one (λ (c : SymbolicConfig). c.side ≡ Left) l2 refl) refl;
  word = refl;
}

-- with a budget of 5
looks0_small : Looks two_names 5 n0 (branches (k0 ∷ []))
looks0_small = expands (λ side. not_both_sides side l0 r0 refl refl) expands0 (omega arith) refl

pub budget_is_spent : BudgetIsSpent
budget_is_spent = record {
  node = k0;
  place = at_kid 0 (at_root refl) looks0_small refl refl;
  looks = is_spent (λ side. not_both_sides side l1 r1 refl refl) (λ n ks h. omega (arith, expands_once two_names h expands1)) refl;
}
