-- What a destructor computes becomes an entry.
use Rattle.std.proofs.Common.{◌≡◌, ℕ, List, [], ◌∷◌, ◌⊎◌, inl, inr, Bool, true, false, cond, nat_eq, Option, Some, None, refl, sym, ◌∙◌, ap, arith, subst, unwrap_or}
use Rattle.std.proofs.lemmas.Bool.{cases_Bool, eqb-true}
use Rattle.std.proofs.lemmas.List.Elements.{All-nil}
use Rattle.dps_branch.specs.declared.Side.{Side}
use Rattle.dps_branch.specs.declared.Side.TheVariants.{Left, Right}
use Rattle.dps_terms.specs.Tree.{private, var, ax, entry, Tree, leaf, StandsIn, itself, below, in_first, in_rest}
use Rattle.dps_terms.specs.Replace.{substitute}
use Rattle.dps_terms.specs.Bindings.{bound, image}
use Rattle.dps_unify.specs.Unifier.{Unifies, IsMgu, IsNotUnifiable}
use Rattle.dps_unify.proofs.Pairs.{unifies_one, any_first}
use Rattle.dps_unify.proofs.Trees.{in_leaf}
use Rattle.dps_theory.specs.Theory.{Rule}
use Rattle.dps_solver.specs.Scene.{Ask}
use Rattle.dps_solver.specs.declared.scene.Target.{Target}
use Rattle.dps_solver.specs.Solutions.{Respects}
use Rattle.dps_solver.specs.Search.{GeneralSolution, IsPlain, Branch, solution_of, with_tree, with_bound, lowered, lowers, composed}
use Rattle.dps_solver.specs.Search.{composes, uses, AreNewlyBound, gives, goes_on, no_way, leads, ends, unbound, Finds, starts}
use Rattle.dps_solver.proofs.Rows.{newly_none}
use Rattle.dps_node.specs.Node.{SymbolicConfig, scene_of, system_of}
use Rattle.dps_node.specs.Questions.{Query, Found, tree, composition, instance, success, FindsAll, no_ask, an_ask, decided, Answers, holds}
use Rattle.dps_node.specs.Questions.{fails, AnswersWhole, fails_by_all, Asks, all_decided, AsksEach, none_left, one_decided}
use Rattle.dps_node.specs.Outcome.{changed, passes, ends as has_outcome, through, next, stops}
use Rattle.dps_node.specs.Knowing.{in_each, Examines, is_new, unknown, composing, Composes, is_composed_of, succeeding, UsesFact, always, UsesFound, fact, Computes, computes, by_rule}
use Rattle.dps_node.proofs.Entries.{no_equation, newly}
use Rattle.dps_node.specs.Examples.{senc, opens, opening, secret, one_secret, opened_secret, SecretIsOpened}

abbrev at_one : ℕ → Tree → Target
at_one z t = record { name = z; level = 1; term = t }

abbrev rule : Rule
rule = record { left = opens (senc (leaf (var 0)) (leaf (var 1))); right = leaf (var 0) }

respects_none : (z : ℕ → Tree) → Respects (system_of one_secret) z
respects_none z = record {
  labels = λ i d l. absurd (omega (arith, l));
  disequations = λ i d l. absurd (omega (arith, l));
}

-- a ciphertext of two private names, and one of the variables 1 and 2
module _ (p q : ℕ) where
  abbrev value : Tree
  value = senc (leaf (private p)) (leaf (private q))

  abbrev pattern : Tree
  pattern = senc (leaf (var 1)) (leaf (var 2))

  abbrev pairs : List (Tree × Tree)
  pairs = (value, pattern) ∷ []

  abbrev unifier : List (ℕ × Tree)
  unifier = (1, leaf (private p)) ∷ (2, leaf (private q)) ∷ []

  at_cond :
      (b c : Bool) (n : ℕ)
      → unwrap_or (cond b (Some (leaf (private p))) (cond c (Some (leaf (private q))) None)) (leaf (var n)) ≡ cond b (leaf (private p)) (cond c (leaf (private q)) (leaf (var n)))
  at_cond true c n = refl
  at_cond false true n = refl
  at_cond false false n = refl

  -- what each variable becomes
  becomes : (n : ℕ) → ((n ≡ 1) × (image unifier n ≡ leaf (private p))) ⊎ (((n ≡ 2) × (image unifier n ≡ leaf (private q))) ⊎ (image unifier n ≡ leaf (var n)))
  becomes n =
      elim (cases_Bool (nat_eq n 1)) [
        | inl d ↦ inl (eqb-true n 1 d, at_cond (nat_eq n 1) (nat_eq n 2) n ∙ ap (λ b. cond b (leaf (private p)) (cond (nat_eq n 2) (leaf (private q)) (leaf (var n)))) d)
        | inr d ↦ elim (cases_Bool (nat_eq n 2)) [
          | inl e ↦ inr (inl (eqb-true n 2 e, at_cond (nat_eq n 1) (nat_eq n 2) n ∙ (λ i. cond (d i) (leaf (private p)) (cond (e i) (leaf (private q)) (leaf (var n))))))
          | inr e ↦ inr (inr (at_cond (nat_eq n 1) (nat_eq n 2) n ∙ (λ i. cond (d i) (leaf (private p)) (cond (e i) (leaf (private q)) (leaf (var n))))))
        ]
      ]

  bound_cond :
      (b c : Bool) (t : Tree) → cond b (Some (leaf (private p))) (cond c (Some (leaf (private q))) None) ≡ Some t
      → ((b ≡ true) × (t ≡ leaf (private p))) ⊎ ((c ≡ true) × (t ≡ leaf (private q)))
  bound_cond true c t e = inl (refl, cc)
  bound_cond false true t e = inr (refl, cc)
  bound_cond false false t e = cc

  bound_to : (n : ℕ) (t : Tree) → bound unifier n ≡ Some t → ((n ≡ 1) × (t ≡ leaf (private p))) ⊎ ((n ≡ 2) × (t ≡ leaf (private q)))
  bound_to n t e =
      elim (bound_cond (nat_eq n 1) (nat_eq n 2) t e) [
        | inl d ↦ inl (eqb-true n 1 d.0, d.1)
        | inr d ↦ inr (eqb-true n 2 d.0, d.1)
      ]

  parts : (r : ℕ → Tree) → Unifies r pairs → (r 1 ≡ leaf (private p)) × (r 2 ≡ leaf (private q))
  parts r u = let e : value ≡ senc (r 1) (r 2) = (unifies_one r (value, pattern)).0 u in (cc, cc)

  general : (r : ℕ → Tree) → Unifies r pairs → (n : ℕ) → substitute r (image unifier n) ≡ r n
  general r u n =
      elim (becomes n) [
        | inl d ↦ ap (substitute r) d.1 ∙ sym (parts r u).0 ∙ ap r (sym d.0)
        | inr (inl d) ↦ ap (substitute r) d.1 ∙ sym (parts r u).1 ∙ ap r (sym d.0)
        | inr (inr d) ↦ ap (substitute r) d
      ]

  idempotent : (n : ℕ) → substitute (image unifier) (image unifier n) ≡ image unifier n
  idempotent n =
      elim (becomes n) [
        | inl d ↦ ap (substitute (image unifier)) d.1 ∙ sym d.1
        | inr (inl d) ↦ ap (substitute (image unifier)) d.1 ∙ sym d.1
        | inr (inr d) ↦ ap (substitute (image unifier)) d
      ]

  no_variable : (n m : ℕ) (t : Tree) → bound unifier n ≡ Some t → StandsIn (var m) t → ⊥
  no_variable n m t e k =
      elim (bound_to n t e) [
        | inl d ↦ let f : leaf (var m) ≡ leaf (private p) = in_leaf (private p) (leaf (var m)) (subst (λ u. StandsIn (var m) u) d.1 k) in cc
        | inr d ↦ let f : leaf (var m) ≡ leaf (private q) = in_leaf (private q) (leaf (var m)) (subst (λ u. StandsIn (var m) u) d.1 k) in cc
      ]

  in_pattern : (n : ℕ) (t : Tree) → bound unifier n ≡ Some t → StandsIn (var n) pattern
  in_pattern n t e =
      elim (bound_to n t e) [
        | inl d ↦ subst (λ m. StandsIn (var m) pattern) (sym d.0) (below (in_first itself))
        | inr d ↦ subst (λ m. StandsIn (var m) pattern) (sym d.0) (below (in_rest (in_first itself)))
      ]

  unified : IsMgu [] pairs unifier
  unified = record {
    unifies = (unifies_one (image unifier) (value, pattern)).1 refl;
    general = general;
    idempotent = idempotent;
    least = λ n y e. absurd (no_variable n y (leaf (var y)) e itself);
    binds = λ n t e. any_first (λ (o : Tree × Tree). StandsIn (var n) o.0 ⊎ StandsIn (var n) o.1) (value, pattern) [] (inr (in_pattern n t e));
    holds = λ n t e m k. absurd (no_variable n m t e k);
  }

  newly_bound : (before after : ℕ → Tree) → AreNewlyBound [] before after []
  newly_bound before after = newly_none [] before after (λ y m e. let f : None ≡ Some m = e in cc)

module _ (side : Side) (p q : ℕ) where
  abbrev config : SymbolicConfig
  config = secret side p q []

  abbrev cipher : Tree
  cipher = senc (leaf (private p)) (leaf (private q))

  not_name : (x : ℕ) → IsNotUnifiable ((cipher, leaf (private x)) ∷ [])
  not_name x r u = let e : cipher ≡ leaf (private x) = (unifies_one r (cipher, leaf (private x))).0 u in cc

  -- no composition has the value
  none_composed : Finds (scene_of one_secret config) (record { equations = []; targets = at_one 1 (leaf (private p)) ∷ at_one 2 (leaf (private q)) ∷ [] }) [] 1
  none_composed =
      starts no_equation refl (newly (image [])) refl
      (goes_on {z = at_one 1 (leaf (private p))} {rest = at_one 2 (leaf (private q)) ∷ []} refl (ends (not_name p) no_way refl))

  asks_composition : Asks AnswersWhole one_secret config (composition one_secret cipher) (decided None) 2
  asks_composition = record { found = []; moves = 1; finds = an_ask none_composed no_ask refl refl; answers = fails_by_all refl; counted = refl }

  -- the rule applies to the entry, and to what is composed
  abbrev rule_ask : Ask
  rule_ask = record { equations = []; targets = at_one 3 (senc (leaf (var 1)) (leaf (var 2))) ∷ [] }

  abbrev b0 : Branch
  b0 = with_bound [] (record (unbound (scene_of one_secret config) rule_ask) { theta = image [] })

  abbrev by_entry : Branch
  by_entry =
      with_bound []
      (record (with_tree b0 (at_one 3 (senc (leaf (var 1)) (leaf (var 2)))) [] (leaf (entry 1))) { theta = (λ x. substitute (image (unifier p q)) (b0.theta x)) })

  abbrev c1 : Branch
  c1 = composed b0 (at_one 3 (senc (leaf (var 1)) (leaf (var 2)))) [] (senc (leaf (var 1)) (leaf (var 2)))

  abbrev c2 : Branch
  c2 = lowered c1 (at_one 4 (leaf (var 1))) (at_one 5 (leaf (var 2)) ∷ []) 1

  abbrev c3 : Branch
  c3 = lowered c2 (at_one 5 (leaf (var 2))) [] 2

  abbrev first : GeneralSolution
  first = solution_of (scene_of one_secret config) rule_ask by_entry

  abbrev second : GeneralSolution
  second = solution_of (scene_of one_secret config) rule_ask c3

  rule_found : Finds (scene_of one_secret config) rule_ask (first ∷ second ∷ []) 4
  rule_found =
      starts no_equation refl (newly (image [])) refl
      (goes_on {z = at_one 3 (senc (leaf (var 1)) (leaf (var 2)))} {rest = []} refl
      (leads (uses (unified p q) refl (newly_bound p q b0.theta by_entry.theta) refl) (gives refl (respects_none _) refl refl)
      (leads (composes refl)
      (goes_on {z = at_one 4 (leaf (var 1))} {rest = at_one 5 (leaf (var 2)) ∷ []} refl
      (leads (lowers {w = 1} refl (λ h. let e : None ≡ Some h.0 = h.1 in cc) refl)
      (goes_on {z = at_one 5 (leaf (var 2))} {rest = []} refl
      (leads (lowers {w = 2} refl (λ h. let e : None ≡ Some h.0 = h.1 in cc) refl) (gives refl (respects_none _) refl refl) no_way refl refl))
      no_way refl refl))
      no_way refl refl)
      refl refl))

  abbrev rule_query : Query
  rule_query = record { ask = rule_ask; result = opens (leaf (var 3)) }

  all_found : FindsAll (scene_of one_secret config) (instance one_secret rule) ((rule_query, first) ∷ (rule_query, second) ∷ []) 4
  all_found = an_ask rule_found no_ask refl refl

  -- it succeeds on the entry
  abbrev success_ask : Ask
  success_ask = record { equations = (cipher, senc (leaf (var 1)) (leaf (var 2))) ∷ []; targets = [] }

  abbrev success_solution : GeneralSolution
  success_solution =
      solution_of (scene_of one_secret config) success_ask
      (with_bound [] (record (unbound (scene_of one_secret config) success_ask) { theta = image (unifier p q) }))

  success_found : Finds (scene_of one_secret config) success_ask (success_solution ∷ []) 0
  success_found = starts (unified p q) refl (newly (image (unifier p q))) refl (gives refl (respects_none _) refl refl)

  abbrev succeeded : Found
  succeeded = (record { ask = success_ask; result = leaf (var 1) }, success_solution)

  asks_success : Asks Answers one_secret config (success opening one_secret (record { number = 1 }) (cipher ∷ [])) (decided (Some succeeded)) 1
  asks_success = record {
    found = succeeded ∷ [];
    moves = 0;
    finds = an_ask success_found no_ask refl refl;
    answers = holds [] [] succeeded refl (All-nil (λ (g : Found). ¬ IsPlain g.1)) (λ x. refl) refl;
    counted = refl;
  }

  -- no tree has what it computes
  no_tree : Finds (scene_of one_secret config) (record { equations = []; targets = at_one 1 (leaf (private p)) ∷ [] }) [] 1
  no_tree =
      starts no_equation refl (newly (image [])) refl
      (goes_on {z = at_one 1 (leaf (private p))} {rest = []} refl (ends (not_name p) no_way refl))

  asks_tree : Asks Answers one_secret config (tree one_secret (leaf (private p))) (decided None) 2
  asks_tree = record { found = []; moves = 1; finds = an_ask no_tree no_ask refl refl; answers = fails refl; counted = refl }

abbrev nothing_twice : List (Option Found)
nothing_twice = None ∷ None ∷ []

abbrev both_succeed : List (Option Found)
both_succeed = Some (succeeded Left 0 1) ∷ Some (succeeded Right 2 3) ∷ []

compositions_asked : AsksEach AnswersWhole one_secret (composing one_secret 1) (all_decided nothing_twice) 4
compositions_asked = one_decided (asks_composition Left 0 1) (one_decided (asks_composition Right 2 3) none_left refl refl) refl refl

composed_none : Composes one_secret 1 0 (passes 4)
composed_none = is_composed_of {result = passes 4} (record { recipe = leaf (ax 1); level = 1; composition = None }, refl, refl) compositions_asked through refl

success_asked : AsksEach Answers one_secret (succeeding opening one_secret (opens (leaf (entry 1)))) (all_decided both_succeed) 2
success_asked = one_decided (asks_success Left 0 1) (one_decided (asks_success Right 2 3) none_left refl refl) refl refl

trees_asked : AsksEach Answers one_secret (in_each one_secret (λ c v. tree one_secret v) (leaf (private 0) ∷ leaf (private 2) ∷ [])) (all_decided nothing_twice) 4
trees_asked = one_decided (asks_tree Left 0 1) (one_decided (asks_tree Right 2 3) none_left refl refl) refl refl

item : Examines one_secret (leaf (private 0) ∷ leaf (private 2) ∷ []) 11 (unknown 15)
item = is_new trees_asked refl refl

used : UsesFact opening one_secret (opens (leaf (entry 1))) 9 (has_outcome (changed opened_secret))
used = always success_asked refl refl item refl

first_used : UsesFound opening one_secret (rule_query Left 0 1, first Left 0 1) 9 (has_outcome (changed opened_secret))
first_used = fact (λ x. refl) used

computed : Computes opening one_secret (rule, secret Left 0 1 []) 4 (has_outcome (changed opened_secret))
computed = computes (all_found Left 0 1) (stops first_used)

pub secret_is_opened : SecretIsOpened
secret_is_opened = record { opened = by_rule {k = 4} refl (next composed_none through) (stops computed) }
