-- Frames over a signature, and what is known of the values of their recipes.
use Rattle.std.proofs.Common.{◌≡◌, ℕ, zero, suc, List, length, slice_get, unwrap_or, Some, None, refl, sym, subst, inl, inr}
use Rattle.std.specs.Prelude.{Option}
use Rattle.dps_terms.specs.declared.Sym.{Sym}
use Rattle.dps_signature.specs.declared.SymKind.TheVariants.{Constructor}
use Rattle.dps_terms.specs.Tree.{Leaf, public, private, var, ax, entry, rigid, Tree, Trees, leaf, app, count, StandsIn, IsSubterm}
use Rattle.dps_terms.specs.Replace.{numbered, handles_to, in_frame}
use Rattle.dps_signature.specs.Signature.{Signature, HasShape, HasArity, shapes}
use Rattle.dps_terms.specs.Kinds.{IsBuiltOf, IsName}
use Rattle.dps_signature.specs.Kinds.{IsPlain, IsOver, IsLeafOver, IsRecipe, IsRecipeLeaf}
use Rattle.dps_terms.proofs.Building.{built_subterm, built_of, built_instance, leaf_meets}
use Rattle.dps_theory.specs.Theory.{Rule, Theory, HasRule, IsAccepted, HasPlainRules}
use Rattle.dps_theory.specs.Frames.{IsFrame, HasValue}
use Rattle.dps_theory.proofs.Evaluating.{value_plain}
use Rattle.dps_theory.proofs.Leaves.{leaf_of_value}
use Rattle.dps_static.specs.Saturation.{IsCleanFrame, IsCommonSignature}
use Rattle.dps_static.specs.Generic.{HasNoRigidName}
use Rattle.dps_static.proofs.Frames.{message_plain, message_over, message_low_at}
use Rattle.dps_static.proofs.Comparing.{clean_value}

-- the theory is over the signature
pub record IsTheoryOver (signature : Signature) (theory : Theory) : Type 0 where
  pub same_symbols : theory.shapes ≡ shapes signature
  pub rules_over : (r : Rule) → HasRule theory r → IsOver signature r.left × IsOver signature r.right

-- what holds wherever a comparison is right
pub record IsSetting (signature : Signature) (theory : Theory) : Type 0 where
  pub accepted : IsAccepted theory
  pub plain : HasPlainRules theory
  pub over : IsTheoryOver signature theory

pub setting_of : (signature : Signature) (theory : Theory) (frame : List Tree) → IsAccepted theory → HasPlainRules theory → IsCommonSignature signature theory frame → IsSetting signature theory
setting_of signature theory frame accepted plain common = record {
  accepted = accepted;
  plain = plain;
  over = record { same_symbols = common.same_symbols; rules_over = common.rules_over };
}

pub clean_over : (signature : Signature) (theory : Theory) (frame : List Tree) → theory.shapes ≡ shapes signature → IsFrame signature frame → IsCleanFrame theory frame
clean_over signature theory frame same is_frame = record {
  plain = λ k t e. subst (λ s. IsPlain s t) (sym same) (message_plain signature frame is_frame k t e);
  low = message_low_at signature frame is_frame;
}

module _ (signature : Signature) (theory : Theory) (setting : IsSetting signature theory) (frame : List Tree) (is_frame : IsFrame signature frame) where
  pub clean_frame : IsCleanFrame theory frame
  clean_frame = clean_over signature theory frame setting.over.same_symbols is_frame

  -- recipes and their values are over the signature
  numbered_over : (j : ℕ) → IsOver signature (numbered frame j (leaf (ax j)))
  numbered_over zero = tt
  numbered_over (suc k) = go (slice_get frame k) refl
    where
      go : (o : Option Tree) → slice_get frame k ≡ o → IsOver signature (unwrap_or o (leaf (ax (suc k))))
      go (Some t) e = message_over signature frame is_frame k t e
      go None e = tt

  over_leaf : (m : ℕ) (x : Leaf) → IsRecipeLeaf signature m x → IsOver signature (handles_to frame x)
  over_leaf m (public a) h = h
  over_leaf m (ax j) h = numbered_over j
  over_leaf m (private n) h = absurd h
  over_leaf m (var n) h = absurd h
  over_leaf m (entry i) h = absurd h
  over_leaf m (rigid n) h = absurd h

  recipe_over : (m : ℕ) (r : Tree) → IsRecipe signature m r → IsOver signature (in_frame frame r)
  recipe_over m r h = built_instance (IsRecipeLeaf signature m) (HasArity (shapes signature)) (IsLeafOver signature) (handles_to frame) r h (λ x k l. over_leaf m x l)

  module _ (m : ℕ) (r v : Tree) (h : IsRecipe signature m r) (e : HasValue theory frame r v) where
    value_leaf_over : (x : Leaf) → StandsIn x v → IsLeafOver signature x
    value_leaf_over x s =
        elim (leaf_of_value theory setting.accepted x e s) [
          | inl k ↦ leaf_meets (IsLeafOver signature) (HasArity (shapes signature)) (recipe_over m r h) k
          | inr q ↦ leaf_meets (IsLeafOver signature) (HasArity (shapes signature)) ((setting.over.rules_over q.0 q.1).1) q.2
        ]

    pub plain_value : IsPlain theory.shapes v
    plain_value = value_plain theory setting.accepted setting.plain e

    value_symbol_over : (f : Sym) (ts : Trees) → IsSubterm (app f ts) v → HasArity (shapes signature) f (count ts)
    value_symbol_over f ts k =
        let b : IsBuiltOf IsName (HasShape theory.shapes Constructor) (app f ts) = built_subterm IsName (HasShape theory.shapes Constructor) plain_value k in
        (Constructor, subst (λ s. HasShape s Constructor f (count ts)) setting.over.same_symbols b.0)

    pub value_over : IsOver signature v
    value_over = built_of (IsLeafOver signature) (HasArity (shapes signature)) v value_leaf_over value_symbol_over

  pub value_low : (r v : Tree) → IsRecipe signature (length frame) r → HasValue theory frame r v → HasNoRigidName v
  value_low r v h e = clean_value theory frame clean_frame signature setting.accepted setting.plain r v h e
