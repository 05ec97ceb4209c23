-- All rules asked in turn, round after round, until none gives anything new.
use Rattle.std.proofs.Common.{◌≡◌, ℕ, zero, suc, ◌+◌, ◌<◌, ◌≤◌, Bool, true, false, List, [], ◌∷◌, length, slice_get, slice_set, get_or, Some, refl, ap, sym, ◌∙◌, subst, arith, inl, inr}
use Rattle.std.specs.Prelude.{◌⊎◌, Contains, All}
use Rattle.std.proofs.lemmas.Bool.{cases_lt}
use Rattle.std.proofs.lemmas.List.Elements.{All-nil, All-push}
use Rattle.std.proofs.lemmas.Option.{slice_get_within, slice_get-get_or, get_or_from_slice_get}
use Rattle.dps_terms.specs.declared.Sym.{Sym}
use Rattle.dps_terms.specs.Tree.{Tree, Trees, leaf, app, ax, trees}
use Rattle.dps_terms.specs.Replace.{substitute, substitute_all}
use Rattle.dps_terms.specs.Variables.{variables}
use Rattle.dps_terms.specs.Views.{arguments}
use Rattle.dps_theory.specs.Theory.{Rule, Theory, IsAccepted, HasPlainRules}
use Rattle.dps_static.specs.Ways.{IsNotComposed}
use Rattle.dps_static.specs.Generic.{generic, CoversAll}
use Rattle.dps_static.specs.Binding.{BindsParts}
use Rattle.dps_static.specs.Saturation.{AreKnown, IsDone, IsClosedUnder, IsSaturation, StartsWith}
use Rattle.dps_static.specs.Ending.{Grows}
use Rattle.dps_static.specs.Uses.{IsUseOf, HasUse, HasRuleUses, AreUsesOf}
use Rattle.dps_static.specs.Asking.{IsAsked, IsAskedAt, AreAsked, IsUnasked, UsesGrow, IsUsedUp, AreUsedUp, GrowsOrAreUsedUp}
use Rattle.dps_static.specs.declared.uses.RuleUse.{RuleUse}
use Rattle.dps_static.specs.declared.saturation.Asked.{Asked}
use Rattle.dps_static.proofs.Ways.{trees-list_of}
use Rattle.dps_static.proofs.Covering.{built_ways}
use Rattle.dps_static.proofs.Cutting.{covers_nothing}
use Rattle.dps_static.proofs.Finding.{binds_nothing}
use Rattle.dps_static.proofs.Used.{Stay, asked_later, rule_uses_stay, uses_grow_none, uses_grow_both}
use Rattle.dps_static.proofs.NewKnowledge.{IsIdle, MayGrow, may_grow_first, may_grow_more, may_grow_idle, saturation}

-- all rules in turn
abbrev pub HaveUsesBefore : Theory → List Tree → List RuleUse → ℕ → Type 0
HaveUsesBefore theory kept uses n =
    (j : ℕ) → j < n → (rule : Rule) → slice_get theory.rules j ≡ Some rule → HasRuleUses kept uses rule

pub record AreAsking (theory : Theory) (place : ℕ) (more : Bool) (r0 k0 : List Tree) (u0 : List RuleUse) (r k : List Tree) (u : List RuleUse) (asked : List Asked) : Type 0 where
  pub are_asked : AreAsked theory.rules k u asked
  pub uses : UsesGrow theory k0 u0 k u
  pub may : MayGrow theory more r0 k0 r k (HaveUsesBefore theory k u place)

set_cases : (xs : List Asked) (i : ℕ) (w : Asked) (j : ℕ) (one : Asked) → slice_get (slice_set xs i w) j ≡ Some one → ((j ≡ i) × (w ≡ one)) ⊎ (slice_get xs j ≡ Some one)
set_cases [] i w j one e = inr e
set_cases (x ∷ xs) zero w zero one e = inl (refl, cc)
set_cases (x ∷ xs) zero w (suc j) one e = inr e
set_cases (x ∷ xs) (suc i) w zero one e = inr e
set_cases (x ∷ xs) (suc i) w (suc j) one e =
    elim (set_cases xs i w j one e) [
      | inl h ↦ inl (ap suc h.0, h.1)
      | inr h ↦ inr h
    ]

length_set : (xs : List Asked) (i : ℕ) (w : Asked) → length (slice_set xs i w) ≡ length xs
length_set [] i w = refl
length_set (x ∷ xs) zero w = refl
length_set (x ∷ xs) (suc i) w = omega (arith, length_set xs i w)

all_asked :
    (rules : List Rule) (k q : List Tree) (u v : List RuleUse) (asked : List Asked) (place : ℕ) (one : Asked) → StartsWith q k → Stay u v
    → AreAsked rules k u asked → IsAskedAt rules place q v one → AreAsked rules q v (slice_set asked place one)
all_asked rules k q u v asked place one starts stay all here = record {
  same_length = length_set asked place one ∙ all.same_length;
  each = λ j other e rule at.
      elim (set_cases asked place one j other e) [
        | inl h ↦ subst (IsAsked q v rule) h.1 (here rule (ap (slice_get rules) (sym h.0) ∙ at))
        | inr h ↦ asked_later k q starts u v rule other stay (all.each j other h rule at)
      ];
}

pub asking_none : (theory : Theory) (r k : List Tree) (u : List RuleUse) (asked : List Asked) → AreAsked theory.rules k u asked → AreAsking theory 0 false r k u r k u asked
asking_none theory r k u asked a = record {
  are_asked = a;
  uses = uses_grow_none theory k u;
  may = may_grow_first theory r k (HaveUsesBefore theory k u 0) (λ j l. absurd (omega (arith, l)));
}

-- a step at a place of a list of rules
before_more : (P : ℕ → Type 0) (n : ℕ) → ((j : ℕ) → j < n → P j) → P n → (j : ℕ) → j < n + 1 → P j
before_more P n h p j l =
    elim (cases_lt j n) [
      | inl k ↦ h j k
      | inr k ↦ subst P (let e : n ≡ j = omega (arith, k, l) in e) p
    ]

no_rule : Rule
no_rule = record { left = leaf (ax 0); right = leaf (ax 0) }

module _ (theory : Theory) (place : ℕ) (more : Bool) (r0 k0 : List Tree) (u0 : List RuleUse) (r k : List Tree) (u : List RuleUse) (asked : List Asked)
    (all : AreAsking theory place more r0 k0 u0 r k u asked) (s q : List Tree) (v : List RuleUse) (one : Asked) (uses : UsesGrow theory k u q v) (here : IsAskedAt theory.rules place q v one) where
  pub asking_more : Grows theory 1 r k s q → AreAsking theory (place + 1) true r0 k0 u0 s q v (slice_set asked place one)
  asking_more g = record {
    are_asked = all_asked theory.rules k q u v asked place one g.keeps uses.stay all.are_asked here;
    uses = uses_grow_both theory k0 k q u0 u v all.uses uses;
    may = may_grow_more theory r0 k0 (HaveUsesBefore theory q v (place + 1)) r k s q all.may.grows g;
  }

  pub asking_idle :
      place < length theory.rules → ((rule : Rule) → slice_get theory.rules place ≡ Some rule → IsUsedUp rule r k s q v)
      → AreAsking theory (place + 1) more r0 k0 u0 s q v (slice_set asked place one)
  asking_idle l used =
      let rule = get_or theory.rules place no_rule in
      let at = slice_get-get_or theory.rules place no_rule l in
      let up : IsUsedUp rule r k s q v = used rule at in
      record {
        are_asked = all_asked theory.rules k q u v asked place one (λ i t e. subst (λ ts. slice_get ts i ≡ Some t) (sym up.same_kept) e) uses.stay all.are_asked here;
        uses = uses_grow_both theory k0 k q u0 u v all.uses uses;
        may = may_grow_idle theory r0 k0 more (HaveUsesBefore theory k u place) (HaveUsesBefore theory q v (place + 1)) r k s q all.may up.same_recipes up.same_kept
            (λ e idle.
            before_more (λ j. (x : Rule) → slice_get theory.rules j ≡ Some x → HasRuleUses q v x) place
            (λ j h x d. subst (λ ts. HasRuleUses ts v x) (sym up.same_kept) (rule_uses_stay k u v x uses.stay (idle j h x d)))
            (λ x there.
            (let same : Some rule ≡ Some x = sym at ∙ there in
            let is : rule ≡ x = cc in
            subst (HasRuleUses q v) is (subst (λ ts. HasRuleUses ts v rule) (sym up.same_kept) up.has))));
      }

pub all_used_up :
    (theory : Theory) (place : ℕ) (more : Bool) (r0 k0 : List Tree) (u0 : List RuleUse) (r k : List Tree) (u : List RuleUse) (asked : List Asked)
    → length theory.rules ≤ place → AreAsking theory place more r0 k0 u0 r k u asked → GrowsOrAreUsedUp theory more r0 k0 r k u
all_used_up theory place true r0 k0 u0 r k u asked h all = all.may.by_more
all_used_up theory place false r0 k0 u0 r k u asked h all =
    let i : IsIdle r0 k0 r k (HaveUsesBefore theory k u place) = all.may.by_more in
    record {
      same_recipes = i.same_recipes;
      same_kept = i.same_kept;
      has = λ j rule e. (let l = slice_get_within theory.rules j rule e in subst (λ ts. HasRuleUses ts u rule) i.same_kept (i.idle j (omega (arith, l, h)) rule e));
    }

-- at the start nothing was asked
pub asked_nothing : (rules : List Rule) (k : List Tree) (asked : List Asked) → length asked ≡ length rules → All IsUnasked asked → AreAsked rules k [] asked
asked_nothing rules k asked same all = record {
  same_length = same;
  each = λ j one e rule at. unasked rule one (subst IsUnasked (get_or_from_slice_get asked j one one e) (all j one (slice_get_within asked j one e)));
}
  where
    unasked : (rule : Rule) (one : Asked) → IsUnasked one → IsAsked k [] rule one
    unasked rule one h = record {
      within = let m = h.none in omega (arith, m);
      found = [] ∷ [];
      covers = covers_nothing k one.trees rule.left h.none;
      each = λ s c. inl (subst (λ ss. Contains ss s) (sym h.waiting) c);
      parts =
          subst
          (All (BindsParts k (variables rule.left)))
          (sym h.waiting)
          (All-push (BindsParts k (variables rule.left)) [] [] (All-nil (BindsParts k (variables rule.left))) (binds_nothing k (variables rule.left)));
    }

pub no_uses : (theory : Theory) (k : List Tree) (one : RuleUse) → Contains [] one → IsUseOf theory k one
no_uses theory k one c = absurd (let l = c.1 in omega (arith, l))

-- at the end the uses are all, and so the kept trees are closed
pub uses_of : (theory : Theory) (k : List Tree) (u : List RuleUse) → ((one : RuleUse) → Contains u one → IsUseOf theory k one)
    → ((place : ℕ) (rule : Rule) → slice_get theory.rules place ≡ Some rule → HasRuleUses k u rule) → AreUsesOf theory k u
uses_of theory k u each has = record {
  each = each;
  all = λ rule listed. has listed.0 rule (slice_get-get_or theory.rules listed.0 rule listed.1 ∙ ap Some listed.2);
}

done_unused : (kept : List Tree) (g : Sym) (patterns : Trees) (right : Tree) (s : List (ℕ × Tree)) → IsNotComposed kept (substitute (generic s) (app g patterns)) → IsDone kept patterns right s
done_unused kept g patterns right s n = record {
  done = λ b.
      let w = built_ways kept (substitute_all (generic s) patterns) b in
      absurd (n (app g w.ways) (record {
        builds = record { is_way = ((tt, w.are_ways.known), (tt, w.are_ways.closed)); gives = ap (app g) w.give };
        root = tt;
      }));
}

done_used : (kept : List Tree) (uses : List RuleUse) (patterns : Trees) (rule : Rule) (s : List (ℕ × Tree)) → HasUse kept uses rule s → IsDone kept patterns rule.right s
done_used kept uses patterns rule s h = record { done = λ _. (let b = h.is_use.builds in record { way = h.one.right; is_way = b.is_way; gives = b.gives }) }

pub closed_by_uses : (theory : Theory) (kept : List Tree) (uses : List RuleUse) → AreUsesOf theory kept uses → IsClosedUnder theory kept
closed_by_uses theory kept uses are = record {
  rules = λ rule g patterns listed left.
      let h = are.all rule listed in
      record {
        found = h.found;
        covers = subst (λ ps. CoversAll kept ps ([] ∷ []) h.found) (ap (λ t. trees (arguments t)) left ∙ trees-list_of patterns) h.covers;
        done = λ s c.
            elim (h.uses_of s c) [
              | inl n ↦ done_unused kept g patterns rule.right s (subst (λ t. IsNotComposed kept (substitute (generic s) t)) left n)
              | inr u ↦ done_used kept uses patterns rule s u
            ];
      };
}

module _ (theory : Theory) (frame : List Tree) (r k : List Tree) (u : List RuleUse) (s q : List Tree) (v : List RuleUse) where
  -- what is known of the frame, and the uses found so far
  pub uses_end : UsesGrow theory k u q v → ((one : RuleUse) → Contains u one → IsUseOf theory k one) → AreUsedUp theory r k s q v → AreUsesOf theory q v
  uses_end grow each up = uses_of theory q v (grow.each each) (λ place rule e. subst (λ ts. HasRuleUses ts v rule) (sym up.same_kept) (up.has place rule e))

  pub saturated_end : IsAccepted theory → HasPlainRules theory → AreKnown theory frame r k → AreUsedUp theory r k s q v → AreUsesOf theory q v → IsSaturation theory frame s q
  saturated_end accepted plain known up are =
      let here : AreKnown theory frame s q = subst (λ x. AreKnown theory frame x q) (sym up.same_recipes) (subst (AreKnown theory frame r) (sym up.same_kept) known) in
      saturation theory frame accepted plain s q here (closed_by_uses theory q v are)
