-- The test of an input, and the kids of its split.
use Rattle.std.proofs.Common.{◌≡◌, ℕ, List, [], ◌∷◌, Some, None, refl, arith}
use Rattle.std.proofs.lemmas.List.Elements.{All-nil, All-cons}
use Rattle.dps_terms.specs.declared.PublicName.TheVariants.{Declared}
use Rattle.dps_terms.specs.Tree.{public, var, Tree, leaf, StandsIn}
use Rattle.dps_terms.specs.Replace.{substitute}
use Rattle.dps_terms.specs.Bindings.{image}
use Rattle.dps_unify.specs.Unifier.{IsMgu}
use Rattle.dps_unify.proofs.Bound.{single}
use Rattle.dps_unify.proofs.Trees.{in_leaf}
use Rattle.dps_process.specs.Process.{output, nil}
use Rattle.dps_solver.specs.Scene.{Ask}
use Rattle.dps_solver.specs.Solutions.{identity, IsMatchedUnder, Respects}
use Rattle.dps_solver.specs.Search.{GeneralSolution, IsPlain, Branch, bindings_of, solution_of, AreNewlyBound, with_bound, composed}
use Rattle.dps_solver.specs.Search.{composes, gives, drops, goes_on, no_way, leads, unbound, Finds, starts}
use Rattle.dps_solver.proofs.Bindings.{binds_left, binds_none}
use Rattle.dps_solver.proofs.Rows.{newly_one, newly_none}
use Rattle.dps_node.specs.Node.{SymbolicConfig, Node, scene_of, system_of, at_count}
use Rattle.dps_node.specs.Splits.{Applies, IsSplit}
use Rattle.dps_node.specs.Questions.{Found, test, no_ask, an_ask, decided, undecided, Answers, holds, fails, open_at, Asks}
use Rattle.dps_node.specs.Settling.{IsReady, AreReady, FirstUnready, tests, decides, divides}
use Rattle.dps_node.specs.Examples.{a, b, nothing_known, in_config, tests_input, after_one_input, first_kid, second_kid, InputIsDivided}
use Rattle.dps_branch.specs.declared.Side.TheVariants.{Left, Right}

-- the part that is settled
abbrev first_of : (t : Tree) (node : Node) → node.configs ≡ in_config Left (tests_input t) ∷ in_config Right (output 0 b nil) ∷ [] → FirstUnready nothing_known node (tests_input t)
first_of t node e = record {
  before = [];
  config = in_config Left (tests_input t);
  after = in_config Right (output 0 b nil) ∷ [];
  front = [];
  back = [];
  configs = e;
  parts = refl;
  ready_before = All-nil (AreReady nothing_known);
  ready_front = All-nil (IsReady nothing_known);
  unready = λ h. h;
}

-- variable 1 is to be a
abbrev is_a : Tree → Ask
is_a t = record { equations = (t, a) ∷ []; targets = [] }

abbrev bind_a : List (ℕ × Tree)
bind_a = single 1 a

not_in_a : ¬ StandsIn (var 1) a
not_in_a s = let e : leaf (var 1) ≡ a = in_leaf (public (Declared 1)) (leaf (var 1)) s in cc

a_for_one : IsMgu ((1, 0) ∷ []) ((leaf (var 1), a) ∷ []) bind_a
a_for_one = binds_left ((1, 0) ∷ []) 1 a not_in_a (λ y e. cc)

abbrev input_of : Node → SymbolicConfig
input_of node = in_config Left (tests_input (leaf (var 1)))

abbrev begun : Node → Branch
begun node = with_bound ((1, 0) ∷ []) (record (unbound (scene_of node (input_of node)) (is_a (leaf (var 1)))) { theta = image bind_a })

abbrev built : Node → Branch
built node = composed (begun node) (record { name = 1; level = 0; term = a }) [] a

abbrev bound_to_a : GeneralSolution
bound_to_a = solution_of (scene_of after_one_input (input_of after_one_input)) (is_a (leaf (var 1))) (built after_one_input)

newly_a : AreNewlyBound ((1, 0) ∷ []) identity (image bind_a) ((1, 0) ∷ [])
newly_a = newly_one 1 0 (image bind_a) (λ (e : a ≡ leaf (var 1)). cc)

respects_none : (z : ℕ → Tree) → Respects (system_of after_one_input) z
respects_none z = record {
  labels = λ i d l r c. absurd (omega (arith, c.1));
  disequations = λ i d l. absurd (omega (arith, l));
}

found_a : Finds (scene_of after_one_input (input_of after_one_input)) (is_a (leaf (var 1))) (bound_to_a ∷ []) 1
found_a =
    starts a_for_one refl newly_a refl
    (goes_on {z = record { name = 1; level = 0; term = a }} {rest = []} refl (leads (composes refl) (gives refl (respects_none _) refl refl) no_way refl refl))

not_plain : ¬ IsPlain bound_to_a
not_plain h = let e : a ≡ leaf (var 1) = h 1 in cc

abbrev found_one : Found
found_one = (record { ask = is_a (leaf (var 1)); result = leaf (var 1) }, bound_to_a)

asks_a : Asks Answers after_one_input (input_of after_one_input) (test nothing_known after_one_input (leaf (var 1)) a) (undecided bound_to_a) 2
asks_a = record {
  found = found_one ∷ [];
  moves = 1;
  finds = an_ask found_a no_ask refl refl;
  answers = open_at (All-cons (λ (g : Found). ¬ IsPlain g.1) found_one [] not_plain (All-nil (λ (g : Found). ¬ IsPlain g.1))) refl;
  counted = refl;
}

applies : Applies (at_count after_one_input 2) bound_to_a.bindings first_kid
applies = record {
  labels = refl;
  levels = refl;
  know = refl;
  disequations = refl;
  configs = (record { side = refl; values = refl; frame = refl; parts = refl; mixed = refl }, (record { side = refl; values = refl; frame = refl; parts = refl; mixed = refl }, tt));
  m = refl;
  closed = refl;
  examine = refl;
  count = refl;
}

split : IsSplit (at_count after_one_input 2) bound_to_a.bindings (first_kid ∷ second_kid ∷ [])
split = (first_kid, applies, refl)

-- in the first kid a is a
abbrev same_names : GeneralSolution
same_names =
    solution_of (scene_of first_kid (in_config Left (tests_input a))) (is_a a)
    (with_bound [] (record (unbound (scene_of first_kid (in_config Left (tests_input a))) (is_a a)) { theta = image [] }))

respects_first : (z : ℕ → Tree) → Respects (system_of first_kid) z
respects_first z = record {
  labels = λ i d l r c. absurd (omega (arith, c.1));
  disequations = λ i d l. absurd (omega (arith, l));
}

found_same : Finds (scene_of first_kid (in_config Left (tests_input a))) (is_a a) (same_names ∷ []) 0
found_same =
    starts (binds_none [] a) refl (newly_none [] identity (image []) (λ y m e. let q : None ≡ Some m = e in cc)) refl
    (gives refl (respects_first _) refl refl)

abbrev found_two : Found
found_two = (record { ask = is_a a; result = a }, same_names)

asks_same : Asks Answers first_kid (in_config Left (tests_input a)) (test nothing_known first_kid a a) (decided (Some found_two)) 1
asks_same = record {
  found = found_two ∷ [];
  moves = 0;
  finds = an_ask found_same no_ask refl refl;
  answers = holds [] [] found_two refl (All-nil (λ (g : Found). ¬ IsPlain g.1)) (λ x. refl) refl;
  counted = refl;
}

-- in the second kid the only solution is dropped
dropped : ¬ Respects (system_of second_kid) (bindings_of (scene_of second_kid (input_of second_kid)) (built second_kid))
dropped h = h.disequations 0 (record { free = []; pairs = (leaf (var 1), a) ∷ [] }) (omega arith) matched
  where
    matched : IsMatchedUnder (bindings_of (scene_of second_kid (input_of second_kid)) (built second_kid)) (record { free = []; pairs = (leaf (var 1), a) ∷ [] })
    matched = (identity, λ x n. refl, All-cons (λ (p : Tree × Tree). substitute identity p.1 ≡ p.0) (a, a) [] refl (All-nil (λ (p : Tree × Tree). substitute identity p.1 ≡ p.0)))

found_none : Finds (scene_of second_kid (input_of second_kid)) (is_a (leaf (var 1))) [] 1
found_none =
    starts a_for_one refl newly_a refl
    (goes_on {z = record { name = 1; level = 0; term = a }} {rest = []} refl (leads (composes refl) (drops refl dropped refl refl) no_way refl refl))

asks_none : Asks Answers second_kid (input_of second_kid) (test nothing_known second_kid (leaf (var 1)) a) (decided None) 2
asks_none = record {
  found = [];
  moves = 1;
  finds = an_ask found_none no_ask refl refl;
  answers = fails refl;
  counted = refl;
}

pub input_is_divided : InputIsDivided
input_is_divided = record {
  divided = divides (first_of (leaf (var 1)) after_one_input refl) tests asks_a split refl;
  true_in_first = decides (first_of a first_kid refl) tests asks_same refl;
  false_in_second = decides (first_of (leaf (var 1)) second_kid refl) tests asks_none refl;
}
