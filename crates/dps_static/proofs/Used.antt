-- Uses of the rules, and ways that wait, where more is kept.
use Rattle.std.proofs.Common.{◌≡◌, ℕ, zero, suc, ◌<◌, ◌≤◌, List, [], ◌∷◌, ◌++◌, length, refl, sym, ◌∙◌, subst, arith, inl, inr}
use Rattle.std.specs.Prelude.{Contains, All}
use Rattle.std.proofs.lemmas.List.Elements.{Contains-push_cases, Contains-append_left}
use Rattle.std.proofs.lemmas.Option.{slice_get_within, slice_get-get_or}
use Rattle.dps_terms.specs.Tree.{Leaf, public, private, var, ax, entry, rigid, Tree, leaf}
use Rattle.dps_terms.specs.Replace.{entries_to, put_entries}
use Rattle.dps_terms.specs.Variables.{variables}
use Rattle.dps_terms.specs.Kinds.{AnySymbol, IsKnowledgeLeaf}
use Rattle.dps_terms.proofs.Replacing.{replace_agrees}
use Rattle.dps_terms.proofs.Building.{built_weaker, leaf_meets}
use Rattle.dps_theory.specs.Theory.{Rule, Theory}
use Rattle.dps_static.specs.Ways.{AnyName, AnyRigid, IsOpenWay, Builds}
use Rattle.dps_static.specs.Binding.{BindsParts}
use Rattle.dps_static.specs.Saturation.{StartsWith}
use Rattle.dps_static.specs.Uses.{IsUse, IsUseOf, HasUse, HasRuleUses}
use Rattle.dps_static.specs.Asking.{IsAsked, UsesGrow}
use Rattle.dps_static.specs.declared.uses.RuleUse.{RuleUse}
use Rattle.dps_static.specs.declared.saturation.Asked.{Asked}
use Rattle.dps_static.proofs.Ways.{numbered-there}
use Rattle.dps_static.proofs.Finding.{binds_later}
use Rattle.dps_static.proofs.Cutting.{covers_still}

abbrev pub Stay : List RuleUse → List RuleUse → Type 0
Stay uses more = (one : RuleUse) → Contains uses one → Contains more one

pub starts_length : (kept more : List Tree) → StartsWith more kept → length kept ≤ length more
starts_length [] more starts = omega arith
starts_length (t ∷ ts) more starts =
    let l : length ts < length (t ∷ ts) = omega arith in
    let h = slice_get_within more (length ts) _ (starts (length ts) _ (slice_get-get_or (t ∷ ts) (length ts) t l)) in
    omega (arith, h)

-- what is built is built where more is kept
module _ (kept more : List Tree) (starts : StartsWith more kept) where
  leaf_later : (x : Leaf) → IsKnowledgeLeaf AnyName AnyRigid (length kept) x → IsKnowledgeLeaf AnyName AnyRigid (length more) x
  leaf_later (public a) h = h
  leaf_later (private n) h = h
  leaf_later (var n) h = h
  leaf_later (ax n) h = h
  leaf_later (rigid n) h = h
  leaf_later (entry i) h = (h.0, let l = h.1 in omega (arith, l, starts_length kept more starts))

  way_later : (way : Tree) → IsOpenWay (length kept) way → IsOpenWay (length more) way
  way_later way h = (built_weaker (IsKnowledgeLeaf AnyName AnyRigid (length kept)) AnySymbol (IsKnowledgeLeaf AnyName AnyRigid (length more)) way h.0 leaf_later, h.1)

  leaf_put : (x : Leaf) → IsKnowledgeLeaf AnyName AnyRigid (length kept) x → entries_to more x ≡ entries_to kept x
  leaf_put (public a) h = refl
  leaf_put (private n) h = refl
  leaf_put (var n) h = refl
  leaf_put (ax n) h = refl
  leaf_put (rigid n) h = refl
  leaf_put (entry zero) h = refl
  leaf_put (entry (suc k)) h =
      let l = h.1 in
      let here = slice_get-get_or kept k (leaf (entry (suc k))) (omega (arith, l)) in
      numbered-there more k _ (leaf (entry (suc k))) (starts k _ here) ∙ sym (numbered-there kept k _ (leaf (entry (suc k))) here)

  put_later : (way : Tree) → IsOpenWay (length kept) way → put_entries more way ≡ put_entries kept way
  put_later way h = replace_agrees (entries_to more) (entries_to kept) way (λ x k. leaf_put x (leaf_meets (IsKnowledgeLeaf AnyName AnyRigid (length kept)) AnySymbol h.0 k))

  pub builds_later : (tree way : Tree) → Builds kept tree way → Builds more tree way
  builds_later tree way b = record { is_way = way_later way b.is_way; gives = put_later way b.is_way ∙ b.gives }

  pub use_later : (rule : Rule) (s : List (ℕ × Tree)) (one : RuleUse) → IsUse kept rule s one → IsUse more rule s one
  use_later rule s one u = record {
    composes = record { builds = builds_later _ one.left u.composes.builds; root = u.composes.root };
    builds = builds_later _ one.right u.builds;
  }

  pub use_of_later : (theory : Theory) (one : RuleUse) → IsUseOf theory kept one → IsUseOf theory more one
  use_of_later theory one u = record {
    rule = u.rule;
    listed = u.listed;
    by = u.by;
    parts = binds_later kept more (variables u.rule.left) u.by starts u.parts;
    is_use = use_later u.rule u.by one u.is_use;
  }

  pub has_use_later : (uses more_uses : List RuleUse) (rule : Rule) (s : List (ℕ × Tree)) → Stay uses more_uses → HasUse kept uses rule s → HasUse more more_uses rule s
  has_use_later uses more_uses rule s stay h = record { one = h.one; listed = stay h.one h.listed; is_use = use_later rule s h.one h.is_use }

  pub parts_later : (rule : Rule) (found : List (List (ℕ × Tree))) → All (BindsParts kept (variables rule.left)) found → All (BindsParts more (variables rule.left)) found
  parts_later rule found all = λ i d l. binds_later kept more (variables rule.left) _ starts (all i d l)

  pub asked_later : (uses more_uses : List RuleUse) (rule : Rule) (asked : Asked) → Stay uses more_uses → IsAsked kept uses rule asked → IsAsked more more_uses rule asked
  asked_later uses more_uses rule asked stay a = record {
    within = let l = a.within in omega (arith, l, starts_length kept more starts);
    found = a.found;
    covers = covers_still kept asked.trees more rule.left a.found starts a.within a.covers;
    each = λ s c. elim (a.each s c) [ inl w ↦ inl w | inr h ↦ inr (has_use_later uses more_uses rule s stay h) ];
    parts = parts_later rule asked.waiting.items a.parts;
  }

-- where more uses are found
pub rule_uses_stay : (kept : List Tree) (uses more_uses : List RuleUse) (rule : Rule) → Stay uses more_uses → HasRuleUses kept uses rule → HasRuleUses kept more_uses rule
rule_uses_stay kept uses more_uses rule stay h = record {
  found = h.found;
  covers = h.covers;
  uses_of = λ s c. elim (h.uses_of s c) [ inl n ↦ inl n | inr u ↦ inr (record { one = u.one; listed = stay u.one u.listed; is_use = u.is_use }) ];
}

module _ (theory : Theory) where
  pub uses_grow_none : (kept : List Tree) (uses : List RuleUse) → UsesGrow theory kept uses kept uses
  uses_grow_none kept uses = record { stay = λ one c. c; each = λ h. h }

  pub uses_grow_both : (k l m : List Tree) (u v w : List RuleUse) → UsesGrow theory k u l v → UsesGrow theory l v m w → UsesGrow theory k u m w
  uses_grow_both k l m u v w a b = record { stay = λ one c. b.stay one (a.stay one c); each = λ h. b.each (a.each h) }

  pub uses_grow_push : (kept more : List Tree) (uses : List RuleUse) (one : RuleUse) → StartsWith more kept → IsUseOf theory more one → UsesGrow theory kept uses more (uses ++ one ∷ [])
  uses_grow_push kept more uses one starts is_use = record {
    stay = λ other c. Contains-append_left uses (one ∷ []) other c;
    each = λ h other c.
        elim (Contains-push_cases uses one other c) [
          | inl d ↦ use_of_later kept more starts theory other (h other d)
          | inr m ↦ subst (IsUseOf theory more) m is_use
        ];
  }
