-- Values of a recipe's subterms, from its last node to its first.
use Rattle.std.specs.Prelude.{⊤}
use Rattle.std.proofs.Common.{◌≡◌, ℕ, zero, suc, ◌<◌, ◌≤◌, Bool, true, false, MatchBool, Some, None, List, [], ◌∷◌, length, take, drop, refl, sym, ◌∙◌, ap, subst, arith}
use Rattle.std.proofs.lemmas.List.{length-take}
use Rattle.dps_terms.specs.declared.Sym.{Sym}
use Rattle.dps_terms.specs.declared.borrowed.TermView.{TermView}
use Rattle.dps_terms.specs.declared.borrowed.TermView.TheVariants.{App}
use Rattle.dps_terms.specs.Tree.{Leaf, Tree, Trees, leaf, app, ax, none, more, list_of, trees}
use Rattle.dps_terms.specs.Replace.{replace_all, numbered, handles_to}
use Rattle.dps_terms.specs.Views.{view_of, arguments}
use Rattle.dps_terms.specs.Walk.{joined, without_nodes, subterms_from}
use Rattle.dps_theory.specs.Theory.{Theory, IsAccepted}
use Rattle.dps_theory.specs.Evaluation.{EvaluateAll, no_terms, a_term}
use Rattle.dps_theory.specs.Frames.{HasValue, Succeeds}
use Rattle.dps_recipes.specs.Values.{HaveValues, PutsValue, PutsNone}
use Rattle.dps_recipes.specs.Reduction.{Gives, GivesNothing, PutsGiven}
use Rattle.dps_recipes.proofs.Valuing.{applied_at, symbol_answer, ShowsName, no_name_shown, name_copied}

module _ (theory : Theory) (frame : List Tree) where
  pub as_many : (rs vs : List Tree) → HaveValues theory frame rs (trees vs) → length rs ≡ length vs
  as_many [] [] a = refl
  as_many [] (v ∷ vs) a = elim a [ ]
  as_many (r ∷ rs) [] a = elim a [ ]
  as_many (r ∷ rs) (v ∷ vs) (a_term b a) = ap suc (as_many rs vs a)

  front_values : (n : ℕ) (rs vs : List Tree) → HaveValues theory frame rs (trees vs) → HaveValues theory frame (take n rs) (trees (take n vs))
  front_values zero rs vs a = no_terms
  front_values (suc n) [] [] a = no_terms
  front_values (suc n) [] (v ∷ vs) a = elim a [ ]
  front_values (suc n) (r ∷ rs) [] a = elim a [ ]
  front_values (suc n) (r ∷ rs) (v ∷ vs) (a_term b a) = a_term b (front_values n rs vs a)

  values_behind : (n : ℕ) (rs vs : List Tree) → HaveValues theory frame rs (trees vs) → HaveValues theory frame (drop n rs) (trees (drop n vs))
  values_behind zero rs vs a = a
  values_behind (suc n) [] [] a = no_terms
  values_behind (suc n) [] (v ∷ vs) a = elim a [ ]
  values_behind (suc n) (r ∷ rs) [] a = elim a [ ]
  values_behind (suc n) (r ∷ rs) (v ∷ vs) (a_term b a) = values_behind n rs vs a

  -- The subterms behind a node begin with its arguments, and the values in front are theirs.
  module _ (r : Tree) (behind vs : List Tree) (below : arguments r ≡ take (length (arguments r)) behind) (have : HaveValues theory frame behind (trees vs)) where
    pub arguments_there : length (arguments r) ≤ length vs
    arguments_there = omega (arith, ap length below, length-take (length (arguments r)) behind, as_many behind vs have)

    abbrev of_arguments : HaveValues theory frame (arguments r) (trees (take (length (arguments r)) vs))
    of_arguments = subst (λ us. HaveValues theory frame us (trees (take (length (arguments r)) vs))) (sym below) (front_values (length (arguments r)) behind vs have)

    pub value_put : (now after : List Tree) → now ≡ r ∷ drop (length (arguments r)) behind → PutsValue theory frame r vs after → HaveValues theory frame now (trees after)
    value_put now after e p =
        let here : HaveValues theory frame (r ∷ drop (length (arguments r)) behind) (trees (p.value ∷ drop (length (arguments r)) vs)) =
        a_term (p.is of_arguments) (values_behind (length (arguments r)) behind vs have) in
        rw (e, p.put) here

    pub none_put : PutsNone theory frame r vs → ¬ Succeeds theory frame r
    none_put fails = fails of_arguments

  pub one_value : (r : Tree) (vs : List Tree) → HaveValues theory frame (r ∷ []) (trees vs) → length vs ≡ 1
  one_value r vs a = sym (as_many (r ∷ []) vs a)

  pub the_value : (r v : Tree) (vs : List Tree) → vs ≡ v ∷ [] → HaveValues theory frame (r ∷ []) (trees vs) → HasValue theory frame r v
  the_value r v vs e a = by (subst (λ us. HaveValues theory frame (r ∷ []) (trees us)) e a)
    where
      by : HaveValues theory frame (r ∷ []) (trees (v ∷ [])) → HasValue theory frame r v
      by (a_term b c) = b

  -- where a recipe has a value, all its subterms have some
  abbrev AllSucceed : Trees → Type 0
  AllSucceed none = ⊤
  AllSucceed (more t ts) = Succeeds theory frame t × AllSucceed ts

  all_evaluate : (ts us : Trees) → EvaluateAll theory (replace_all (handles_to frame) ts) us → AllSucceed ts
  all_evaluate none us a = tt
  all_evaluate (more t ts) none a = elim a [ ]
  all_evaluate (more t ts) (more u us) (a_term b a) = ((u, b), all_evaluate ts us a)

  both_succeed : (ts us : Trees) → AllSucceed ts → AllSucceed us → AllSucceed (joined ts us)
  both_succeed none us a b = b
  both_succeed (more t ts) us a b = (a.0, both_succeed ts us a.1 b)

  arguments_succeed : (f : Sym) (ts : Trees) → Succeeds theory frame (app f ts) → AllSucceed ts
  arguments_succeed f ts s = let a = applied_at theory s.1 in all_evaluate ts a.values a.all

  all_succeed : (n : ℕ) (ts : Trees) → AllSucceed ts → AllSucceed (without_nodes n ts)
  all_succeed zero ts a = a
  all_succeed (suc n) none a = tt
  all_succeed (suc n) (more (leaf x) ts) a = all_succeed n ts a.1
  all_succeed (suc n) (more (app f us) ts) a = all_succeed n (joined us ts) (both_succeed us ts (arguments_succeed f us a.0) a.1)

  first_succeeds : (ts : Trees) (r : Tree) (rest : List Tree) → list_of ts ≡ r ∷ rest → AllSucceed ts → Succeeds theory frame r
  first_succeeds none r rest e a = cc
  first_succeeds (more t ts) r rest e a = let same : t ≡ r = cc in subst (Succeeds theory frame) same a.0

  pub subterm_fails : (whole r : Tree) (n : ℕ) (rest : List Tree) → subterms_from whole n ≡ r ∷ rest → ¬ Succeeds theory frame r → ¬ Succeeds theory frame whole
  subterm_fails whole r n rest e fails s = fails (first_succeeds (without_nodes n (more whole none)) r rest e (all_succeed n (more whole none) (s, tt)))

-- a frame with a message has some length
pub message_there : (frame : List Tree) (j : ℕ) (u : Tree) → ((other : Tree) → numbered frame j other ≡ u) → 0 < length frame
message_there [] zero u h = let m : leaf (ax 0) ≡ leaf (ax 1) = h (leaf (ax 0)) ∙ sym (h (leaf (ax 1))) in cc
message_there [] (suc k) u h = let m : leaf (ax 0) ≡ leaf (ax 1) = h (leaf (ax 0)) ∙ sym (h (leaf (ax 1))) in cc
message_there (x ∷ frame) j u h = omega arith

-- a symbol over the values in front
pub applied_put : (theory : Theory) (frame : List Tree) (r : Tree) (f : Sym) (n : ℕ) (old new : List Tree) (found : Bool) → IsAccepted theory → App f ≡ view_of r → n ≡ length (arguments r)
    → MatchBool found (PutsGiven theory f n old new) (GivesNothing theory f (trees (take n old))) → MatchBool found (PutsValue theory frame r old new) (PutsNone theory frame r old)
applied_put theory frame r f n old new true accepted v e p = record {
  value = p.value;
  put = p.put ∙ ap (λ k. p.value ∷ drop k old) e;
  is = λ h. symbol_answer theory frame accepted f r (trees (take (length (arguments r)) old)) (Some p.value) v h (subst (λ k. Gives theory f (trees (take k old)) p.value) e p.gives);
}
applied_put theory frame r f n old new false accepted v e p =
    λ h. symbol_answer theory frame accepted f r (trees (take (length (arguments r)) old)) None v h (subst (λ k. GivesNothing theory f (trees (take k old))) e p)

-- a leaf takes nothing from the front
pub leaf_put : (theory : Theory) (frame : List Tree) (r : Tree) (x : Leaf) (old new : List Tree) (v : Tree) → r ≡ leaf x → new ≡ v ∷ old → HasValue theory frame r v → PutsValue theory frame r old new
leaf_put theory frame (leaf y) x old new v e put is = record { value = v; put = put; is = λ h. is }
leaf_put theory frame (app g ts) x old new v e put is = absurd (cc)

pub name_put : (theory : Theory) (frame : List Tree) (r : Tree) (v : TermView) (old new : List Tree) → v ≡ view_of r → ShowsName v → new ≡ r ∷ old → PutsValue theory frame r old new
name_put theory frame (leaf y) v old new e shows put = record { value = leaf y; put = put; is = λ h. name_copied theory frame (leaf y) (leaf y) v refl e shows }
name_put theory frame (app g ts) v old new e shows put = absurd (no_name_shown v (App g) (λ n m. cc) (λ n m. cc) (λ n m. cc) e shows)
