-- One rule asked with one substitution after another.
use Rattle.std.proofs.Common.{◌≡◌, ℕ, Bool, true, false, List, [], ◌∷◌, ◌++◌, length, slice_get, Some, refl, ap, sym, ◌∙◌, subst, arith, inl, inr}
use Rattle.std.specs.Prelude.{◌⊎◌, Contains, All}
use Rattle.std.proofs.lemmas.List.Elements.{All-nil, All-push, All-pop, All-append, All-contains}
use Rattle.std.proofs.lemmas.List.Elements.{Contains-push, Contains-push_cases, Contains-append_left, Contains-append_right, Contains-append_cases}
use Rattle.dps_terms.specs.Tree.{Tree}
use Rattle.dps_terms.specs.Replace.{substitute}
use Rattle.dps_terms.specs.Variables.{variables}
use Rattle.dps_theory.specs.Theory.{Rule, Theory, HasRule, IsAccepted, HasPlainRules}
use Rattle.dps_static.specs.Ways.{IsNotComposed}
use Rattle.dps_static.specs.Generic.{generic}
use Rattle.dps_static.specs.Binding.{BindsParts}
use Rattle.dps_static.specs.Saturation.{StartsWith}
use Rattle.dps_static.specs.Cuts.{CoversBefore, CoversNewLeft}
use Rattle.dps_static.specs.Uses.{IsUse, HasUse, HasRuleUses}
use Rattle.dps_static.specs.Replies.{IsNewTree}
use Rattle.dps_static.specs.Asking.{IsAsked, UsesGrow, IsUsedUp, GrowsOrIsUsedUp}
use Rattle.dps_static.specs.declared.uses.RuleUse.{RuleUse}
use Rattle.dps_static.specs.declared.uses.NewTree.{NewTree}
use Rattle.dps_static.specs.declared.saturation.Asked.{Asked}
use Rattle.dps_static.proofs.Cutting.{covers_further, covers_still, covers_left}
use Rattle.dps_static.proofs.Finding.{binds_later}
use Rattle.dps_static.proofs.Used.{Stay, starts_length, has_use_later, parts_later, uses_grow_none, uses_grow_both, uses_grow_push}
use Rattle.dps_static.proofs.NewKnowledge.{grows_one, IsIdle, MayGrow, may_grow_first, may_grow_more, may_grow_idle, kept_starts, use_of_new, new_use, new_gives}

-- asking a rule, one substitution after another
abbrev pub AllWait : List Tree → Rule → List (List (ℕ × Tree)) → Type 0
AllWait kept rule waiting = (s : List (ℕ × Tree)) → Contains waiting s → IsNotComposed kept (substitute (generic s) rule.left)

pub record IsAsking (theory : Theory) (rule : Rule) (known : ℕ) (more : Bool) (r0 k0 : List Tree) (u0 : List RuleUse) (r k : List Tree) (u : List RuleUse) (ways waiting : List (List (ℕ × Tree)))
    : Type 0 where
  pub may : MayGrow theory more r0 k0 r k (AllWait k rule waiting)
  pub known_is : known ≡ length k0
  pub uses : UsesGrow theory k0 u0 k u
  pub found : List (List (ℕ × Tree))
  pub covers : CoversBefore k known rule.left found
  pub each : (s : List (ℕ × Tree)) → Contains found s → Contains ways s ⊎ (Contains waiting s ⊎ HasUse k u rule s)
  pub ways_parts : All (BindsParts k (variables rule.left)) ways
  pub waiting_parts : All (BindsParts k (variables rule.left)) waiting

pub nothing_listed : (s : List (ℕ × Tree)) → Contains [] s → ⊥
nothing_listed s c = let l = c.1 in omega (arith, l)

pub asking_first :
    (theory : Theory) (rule : Rule) (known : ℕ) (r k : List Tree) (u : List RuleUse) (asked : Asked) (new : List (List (ℕ × Tree))) → known ≡ length k
    → IsAsked k u rule asked → CoversNewLeft k asked.trees rule.left new → All (BindsParts k (variables rule.left)) new
    → IsAsking theory rule known false r k u r k u (new ++ asked.waiting.items) []
asking_first theory rule known r k u asked new known_is a covers parts = record {
  may = may_grow_first theory r k (AllWait k rule []) (λ s c. absurd (nothing_listed s c));
  known_is = known_is;
  uses = uses_grow_none theory k u;
  found = new ++ a.found;
  covers = subst (λ n. CoversBefore k n rule.left (new ++ a.found)) (sym known_is) (covers_further k asked.trees rule.left a.found new a.covers covers);
  each = λ s c.
      elim (Contains-append_cases new a.found s c) [
        | inl d ↦ inl (Contains-append_left new asked.waiting.items s d)
        | inr d ↦ elim (a.each s d) [ inl w ↦ inl (Contains-append_right new asked.waiting.items s w) | inr h ↦ inr (inr h) ]
      ];
  ways_parts = All-append (BindsParts k (variables rule.left)) new asked.waiting.items parts a.parts;
  waiting_parts = All-nil (BindsParts k (variables rule.left));
}

module _ (theory : Theory) (rule : Rule) (known : ℕ) (more : Bool) (r0 k0 : List Tree) (u0 : List RuleUse) (r k : List Tree) (u : List RuleUse) (rest waiting : List (List (ℕ × Tree)))
    (by : List (ℕ × Tree)) (asking : IsAsking theory rule known more r0 k0 u0 r k u (rest ++ by ∷ []) waiting) where
  pub way_parts : BindsParts k (variables rule.left) by
  way_parts = All-contains (BindsParts k (variables rule.left)) (rest ++ by ∷ []) by asking.ways_parts (Contains-push rest by)

  rest_parts : All (BindsParts k (variables rule.left)) rest
  rest_parts = let p = All-pop (BindsParts k (variables rule.left)) (rest ++ by ∷ []) rest (Some by) refl asking.ways_parts in p.0

  pub asking_waits : IsNotComposed k (substitute (generic by) rule.left) → IsAsking theory rule known more r0 k0 u0 r k u rest (waiting ++ by ∷ [])
  asking_waits nothing = record {
    may = may_grow_idle theory r0 k0 more (AllWait k rule waiting) (AllWait k rule (waiting ++ by ∷ [])) r k r k asking.may refl refl
        (λ e wait s c.
        elim (Contains-push_cases waiting by s c) [
          | inl d ↦ wait s d
          | inr m ↦ subst (λ q. IsNotComposed k (substitute (generic q) rule.left)) m nothing
        ]);
    known_is = asking.known_is;
    uses = asking.uses;
    found = asking.found;
    covers = asking.covers;
    each = λ s c.
        elim (asking.each s c) [
          | inl d ↦
              elim (Contains-push_cases rest by s d) [
                | inl f ↦ inl f
                | inr m ↦ inr (inl (subst (Contains (waiting ++ by ∷ [])) m (Contains-push waiting by)))
              ]
          | inr d ↦ inr (elim d [ inl w ↦ inl (Contains-append_left waiting (by ∷ []) s w) | inr h ↦ inr h ])
        ];
    ways_parts = rest_parts;
    waiting_parts = All-push (BindsParts k (variables rule.left)) waiting by asking.waiting_parts way_parts;
  }

  use_each :
      (q : List Tree) (v : List RuleUse) (one : RuleUse) → StartsWith q k → Stay u v → Contains v one → IsUse q rule by one → (s : List (ℕ × Tree))
      → Contains asking.found s → Contains rest s ⊎ (Contains waiting s ⊎ HasUse q v rule s)
  use_each q v one starts stay listed is_use s c =
      elim (asking.each s c) [
        | inl d ↦
            elim (Contains-push_cases rest by s d) [
              | inl f ↦ inl f
              | inr m ↦ inr (inr (subst (HasUse q v rule) m (record { one = one; listed = listed; is_use = is_use })))
            ]
        | inr d ↦ inr (elim d [ inl w ↦ inl w | inr h ↦ inr (has_use_later k q starts u v rule s stay h) ])
      ]

  pub asking_uses : (one : RuleUse) → HasRule theory rule → IsUse k rule by one → IsAsking theory rule known more r0 k0 u0 r k (u ++ one ∷ []) rest waiting
  asking_uses one listed is_use = record {
    may = asking.may;
    known_is = asking.known_is;
    uses = uses_grow_both theory k0 k k u0 u (u ++ one ∷ []) asking.uses
        (uses_grow_push theory k k u one (λ i t e. e) (record { rule = rule; listed = listed; by = by; parts = way_parts; is_use = is_use }));
    found = asking.found;
    covers = asking.covers;
    each = use_each k (u ++ one ∷ []) one (λ i t e. e) (λ other c. Contains-append_left u (one ∷ []) other c) (Contains-push u one) is_use;
    ways_parts = rest_parts;
    waiting_parts = asking.waiting_parts;
  }

  module _ (accepted : IsAccepted theory) (plain : HasPlainRules theory) (listed : HasRule theory rule) (new : NewTree) (made : IsNewTree rule r k by new) where
    abbrev pub q : List Tree
    q = k ++ new.value ∷ []

    abbrev pub one : RuleUse
    one = use_of_new k new

    pub starts : StartsWith q k
    starts = kept_starts k new.value

    is_use : IsUse q rule by one
    is_use = new_use rule r k by new made

    pub asking_gives : IsAsking theory rule known true r0 k0 u0 (r ++ new.recipe ∷ []) q (u ++ one ∷ []) rest waiting
    asking_gives = record {
      may = may_grow_more theory r0 k0 (AllWait q rule waiting) r k (r ++ new.recipe ∷ []) q asking.may.grows
          (grows_one theory accepted plain rule r k new.recipe new.value listed (new_gives rule r k by new made way_parts));
      known_is = asking.known_is;
      uses = uses_grow_both theory k0 k q u0 u (u ++ one ∷ []) asking.uses
          (uses_grow_push theory k q u one starts (record { rule = rule; listed = listed; by = by; parts = binds_later k q (variables rule.left) by starts way_parts; is_use = is_use }));
      found = asking.found;
      covers = covers_still k known q rule.left asking.found starts
          (let l = starts_length k0 k (let g = asking.may.grows in g.keeps) in let m = asking.known_is in omega (arith, l, m)) asking.covers;
      each = use_each q (u ++ one ∷ []) one starts (λ other c. Contains-append_left u (one ∷ []) other c) (Contains-push u one) is_use;
      ways_parts = parts_later k q starts rule rest rest_parts;
      waiting_parts = parts_later k q starts rule waiting asking.waiting_parts;
    }

module _ (theory : Theory) (rule : Rule) (known : ℕ) (more : Bool) (r0 k0 : List Tree) (u0 : List RuleUse) (r k : List Tree) (u : List RuleUse) (ways : List (List (ℕ × Tree))) (asked : Asked)
    (known_trees : asked.trees ≡ known) (asking : IsAsking theory rule known more r0 k0 u0 r k u ways asked.waiting.items) (none : length ways ≡ 0) where
  settled_each : (s : List (ℕ × Tree)) → Contains asking.found s → Contains asked.waiting.items s ⊎ HasUse k u rule s
  settled_each s c = elim (asking.each s c) [ inl d ↦ absurd (let l = d.1 in omega (arith, l, none)) | inr d ↦ d ]

  pub asked_now : IsAsked k u rule asked
  asked_now = record {
    within = let l = starts_length k0 k (let g = asking.may.grows in g.keeps) in let m = asking.known_is in omega (arith, l, m, known_trees);
    found = asking.found;
    covers = subst (λ n. CoversBefore k n rule.left asking.found) (sym known_trees) asking.covers;
    each = settled_each;
    parts = asking.waiting_parts;
  }

pub used_up : (theory : Theory) (rule : Rule) (known : ℕ) (more : Bool) (r0 k0 : List Tree) (u0 : List RuleUse) (r k : List Tree) (u : List RuleUse) (ways waiting : List (List (ℕ × Tree))) (place : ℕ)
    → slice_get theory.rules place ≡ Some rule → IsAsking theory rule known more r0 k0 u0 r k u ways waiting → length ways ≡ 0 → GrowsOrIsUsedUp theory place more r0 k0 r k u
used_up theory rule known true r0 k0 u0 r k u ways waiting place there asking none = asking.may.by_more
used_up theory rule known false r0 k0 u0 r k u ways waiting place there asking none =
    let i : IsIdle r0 k0 r k (AllWait k rule waiting) = asking.may.by_more in
    let m = asking.known_is in
    λ other at.
    (let same : Some rule ≡ Some other = sym there ∙ at in
    let is : rule ≡ other = cc in
    subst (λ (x : Rule). IsUsedUp x r0 k0 r k u) is (record {
      same_recipes = i.same_recipes;
      same_kept = i.same_kept;
      has = subst (λ ts. HasRuleUses ts u rule) i.same_kept (record {
        found = asking.found;
        covers = covers_left k known rule.left asking.found (m ∙ ap length (sym i.same_kept)) asking.covers;
        uses_of = λ s c.
            elim (asking.each s c) [
              | inl d ↦ absurd (let l = d.1 in omega (arith, l, none))
              | inr d ↦ elim d [ inl w ↦ inl (i.idle s w) | inr h ↦ inr h ]
            ];
      });
    }))
