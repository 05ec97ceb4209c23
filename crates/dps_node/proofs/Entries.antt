-- A message that becomes an entry, and the closing of its node.
use Rattle.std.proofs.Common.{◌≡◌, ℕ, List, [], ◌∷◌, Option, Some, None, refl, arith}
use Rattle.dps_branch.specs.declared.Side.{Side}
use Rattle.dps_branch.specs.declared.Side.TheVariants.{Left, Right}
use Rattle.dps_terms.specs.Tree.{private, var, ax, Tree, leaf}
use Rattle.dps_terms.specs.Bindings.{bound, image}
use Rattle.dps_unify.specs.Unifier.{IsMgu, IsNotUnifiable}
use Rattle.dps_unify.proofs.Pairs.{unifies_one}
use Rattle.dps_solver.specs.declared.scene.Target.{Target}
use Rattle.dps_solver.specs.Solutions.{identity}
use Rattle.dps_solver.specs.Search.{AreNewlyBound, composes, goes_on, no_way, leads, ends, Finds, starts}
use Rattle.dps_solver.proofs.Rows.{newly_none}
use Rattle.dps_node.specs.Node.{SymbolicConfig, scene_of}
use Rattle.dps_node.specs.Questions.{Found, tree, composition, no_ask, an_ask, decided, Answers, fails, AnswersWhole, fails_by_all, Asks, all_decided, AsksEach, none_left, one_decided}
use Rattle.dps_node.specs.Outcome.{passes, through, next}
use Rattle.dps_node.specs.Knowing.{in_each, Examines, is_new, unknown, composing, Composes, is_composed_of, by_handle, by_closing}
use Rattle.dps_node.specs.Examples.{a, ciphertext, told, one_message, one_entry, EntryIsFound}

pub no_equation : IsMgu [] [] []
no_equation = record {
  unifies = λ i d l. absurd (omega (arith, l));
  general = λ r h n. refl;
  idempotent = λ n. refl;
  least = λ n y e. absurd (nothing n (leaf (var y)) e);
  binds = λ n u e. absurd (nothing n u e);
  holds = λ n u e m k. absurd (nothing n u e);
}
  where
    nothing : (n : ℕ) (u : Tree) → bound [] n ≡ Some u → ⊥
    nothing n u e = cc

pub newly : (after : ℕ → Tree) → AreNewlyBound [] identity after []
newly after = newly_none [] identity after (λ y m e. let q : None ≡ Some m = e in cc)

abbrev at_one : ℕ → Tree → Target
at_one z t = record { name = z; level = 1; term = t }

module _ (side : Side) (x : ℕ) where
  -- no tree has the ciphertext as its value
  abbrev old_config : SymbolicConfig
  old_config = told side x []

  no_tree : Finds (scene_of one_message old_config) (record { equations = []; targets = at_one 1 (ciphertext x) ∷ [] }) [] 2
  no_tree =
      starts no_equation refl (newly (image [])) refl
      (goes_on {z = at_one 1 (ciphertext x)} {rest = []} refl
      (leads (composes refl)
      (goes_on {z = at_one 2 a} {rest = at_one 3 (leaf (private x)) ∷ []} refl
      (leads (composes refl) (goes_on {z = at_one 3 (leaf (private x))} {rest = []} refl no_way) no_way refl refl))
      no_way refl refl))

  asks_tree : Asks Answers one_message old_config (tree one_message (ciphertext x)) (decided None) 3
  asks_tree = record { found = []; moves = 2; finds = an_ask no_tree no_ask refl refl; answers = fails refl; counted = refl }

  -- nor has a composition, which might use the entry
  abbrev new_config : SymbolicConfig
  new_config = told side x (ciphertext x ∷ [])

  not_a : IsNotUnifiable ((ciphertext x, a) ∷ [])
  not_a r u = let e : ciphertext x ≡ a = (unifies_one r (ciphertext x, a)).0 u in cc

  not_key : IsNotUnifiable ((ciphertext x, leaf (private x)) ∷ [])
  not_key r u = let e : ciphertext x ≡ leaf (private x) = (unifies_one r (ciphertext x, leaf (private x))).0 u in cc

  none_composed : Finds (scene_of one_entry new_config) (record { equations = []; targets = at_one 1 a ∷ at_one 2 (leaf (private x)) ∷ [] }) [] 3
  none_composed =
      starts no_equation refl (newly (image [])) refl
      (goes_on {z = at_one 1 a} {rest = at_one 2 (leaf (private x)) ∷ []} refl
      (ends not_a
      (leads (composes refl) (goes_on {z = at_one 2 (leaf (private x))} {rest = []} refl (ends not_key no_way refl)) no_way refl refl)
      refl))

  asks_composition : Asks AnswersWhole one_entry new_config (composition one_entry (ciphertext x)) (decided None) 4
  asks_composition = record { found = []; moves = 3; finds = an_ask none_composed no_ask refl refl; answers = fails_by_all refl; counted = refl }

abbrev nothing_twice : List (Option Found)
nothing_twice = None ∷ None ∷ []

trees_asked : AsksEach Answers one_message (in_each one_message (λ c v. tree one_message v) (ciphertext 0 ∷ ciphertext 1 ∷ [])) (all_decided nothing_twice) 6
trees_asked = one_decided (asks_tree Left 0) (one_decided (asks_tree Right 1) none_left refl refl) refl refl

compositions_asked : AsksEach AnswersWhole one_entry (composing one_entry 1) (all_decided nothing_twice) 8
compositions_asked = one_decided (asks_composition Left 0) (one_decided (asks_composition Right 1) none_left refl refl) refl refl

examined : Examines one_message (ciphertext 0 ∷ ciphertext 1 ∷ []) 0 (unknown 6)
examined = is_new trees_asked refl refl

composed_none : Composes one_entry 1 6 (passes 14)
composed_none = is_composed_of {result = passes 14} (record { recipe = leaf (ax 1); level = 1; composition = None }, refl, refl) compositions_asked through refl

pub entry_is_found : EntryIsFound
entry_is_found = record {
  found = by_handle refl examined refl;
  closes = by_closing {k = 14} {n = 14} refl (next composed_none through) through refl;
}
