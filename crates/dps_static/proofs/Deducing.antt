-- What is built from the kept trees has a recipe, and what has a recipe is built.
use Rattle.std.proofs.Common.{zero, List, [], ◌∷◌, length, refl, sym, subst}
use Rattle.dps_signature.specs.declared.SymKind.TheVariants.{Constructor}
use Rattle.dps_terms.specs.Tree.{Tree}
use Rattle.dps_terms.specs.Replace.{put_entries}
use Rattle.dps_signature.specs.Signature.{Signature, HasShape}
use Rattle.dps_terms.specs.Kinds.{AnyLeaf, IsName}
use Rattle.dps_signature.specs.Kinds.{IsOver, IsConstructorTerm}
use Rattle.dps_terms.proofs.Building.{built_weaker}
use Rattle.dps_theory.specs.Theory.{Theory, IsAccepted, HasPlainRules}
use Rattle.dps_theory.specs.Frames.{IsFrame, HasValue}
use Rattle.dps_static.specs.Ways.{IsWay, Builds, IsNotBuilt}
use Rattle.dps_static.specs.Saturation.{IsCleanFrame, IsCommonSignature, AreValuesOf, IsSaturation}
use Rattle.dps_static.specs.Generic.{HasNoRigidName}
use Rattle.dps_static.specs.Answer.{IsRecipeOf}
use Rattle.dps_static.proofs.Frames.{message_over}
use Rattle.dps_static.proofs.Opening.{way_closed}
use Rattle.dps_static.proofs.Expanding.{expanded_value}
use Rattle.dps_static.proofs.Closing.{closed_passes}
use Rattle.dps_static.proofs.Comparing.{carried_to}
use Rattle.dps_static.proofs.Setting.{IsSetting, setting_of, clean_over}
use Rattle.dps_static.proofs.Telling.{closed_recipe, kept_low}
use Rattle.dps_static.proofs.RuleUses.{constructors_below}

module _ (theory : Theory) (accepted : IsAccepted theory) (plain : HasPlainRules theory) (frame recipes kept : List Tree) (saturation : IsSaturation theory frame recipes kept) (message : Tree)
    (signature : Signature) (common : IsCommonSignature signature theory frame) (is_message : IsFrame signature (message ∷ [])) where
  abbrev setting : IsSetting signature theory
  setting = setting_of signature theory frame accepted plain common

  clean : IsCleanFrame theory frame
  clean = clean_over signature theory frame common.same_symbols common.is_frame

  message_clean : IsCleanFrame theory (message ∷ [])
  message_clean = clean_over signature theory (message ∷ []) common.same_symbols is_message

  are_values : AreValuesOf theory frame recipes kept
  are_values = saturation.known.values clean

  pub built_deduced : (w : Tree) → Builds kept message w → IsRecipeOf signature theory frame message (put_entries recipes w)
  built_deduced w b =
      let are_recipes = saturation.known.are_recipes signature common in
      let low = subst HasNoRigidName (sym b.gives) (message_clean.low zero message refl) in
      let is_way : IsWay (length kept) w = way_closed kept (length kept) w b.is_way low in
      let is_plain = message_clean.plain zero message refl in
      let built : IsConstructorTerm theory.shapes w =
      constructors_below theory kept w (subst (IsConstructorTerm theory.shapes) (sym b.gives) (built_weaker IsName (HasShape theory.shapes Constructor) AnyLeaf message is_plain (λ x h. tt))) in (
        closed_recipe signature theory setting frame common.is_frame recipes kept are_recipes are_values w is_way
            (subst (IsOver signature) (sym b.gives) (message_over signature (message ∷ []) is_message zero message refl)),
        subst (HasValue theory frame (put_entries recipes w)) b.gives (expanded_value theory frame recipes kept are_values w is_way built),
      )

  pub not_built : IsNotBuilt kept message → (r : Tree) → ¬ IsRecipeOf signature theory frame message r
  not_built nothing r h =
      let are_recipes = saturation.known.are_recipes signature common in
      let low = kept_low signature theory setting frame common.is_frame recipes kept are_recipes are_values in
      let c = carried_to theory plain accepted kept kept low low (closed_passes theory kept saturation.closed) frame frame clean clean refl saturation.known.starts saturation.known.starts
      signature r message h.0 h.1 in
      nothing c.way (record { is_way = c.is_way; gives = c.gives })
