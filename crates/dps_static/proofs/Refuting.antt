-- What comes of a saturated frame against another frame.
use Rattle.std.proofs.Common.{◌≡◌, List, length, Some, None, sym, subst, inl, inr}
use Rattle.std.specs.Prelude.{Option, MatchOption}
use Rattle.dps_terms.specs.Tree.{Tree}
use Rattle.dps_signature.specs.Signature.{Signature}
use Rattle.dps_theory.specs.Theory.{Theory, IsAccepted, HasPlainRules}
use Rattle.dps_theory.specs.Frames.{Separates}
use Rattle.dps_static.specs.Saturation.{IsCommonSignature, AreValuesOf, IsSaturation}
use Rattle.dps_static.specs.Uses.{AreUsesOf}
use Rattle.dps_static.specs.Telling.{IsLost, AllPass, IsTold}
use Rattle.dps_static.specs.Answer.{IsRefutation, test_of}
use Rattle.dps_static.specs.declared.Test.{Test as Question}
use Rattle.dps_static.specs.declared.Test.TheVariants.{Value}
use Rattle.dps_static.specs.declared.uses.RuleUse.{RuleUse}
use Rattle.dps_static.proofs.Setting.{setting_of, clean_over}
use Rattle.dps_static.proofs.Telling.{lost_separates, difference_separates, use_separates}
use Rattle.dps_static.proofs.RuleUses.{app_use_of}
use Rattle.dps_static.proofs.Reaching.{reaches}

pub refuted_by_lost :
    (theory : Theory) (first second recipes kept : List Tree) → IsSaturation theory first recipes kept → (recipe : Tree) → IsLost theory second recipes recipe
    → IsRefutation theory first second (Some (Value recipe))
refuted_by_lost theory first second recipes kept saturation recipe lost = λ signature common other.
    let clean = clean_over signature theory first common.same_symbols common.is_frame in
    lost_separates signature theory first second recipes kept (saturation.known.are_recipes signature common) (saturation.known.values clean) recipe lost

module _ (theory : Theory) (accepted : IsAccepted theory) (plain : HasPlainRules theory) (first second : List Tree) (lengths : length first ≡ length second) (recipes kept : List Tree)
    (saturation : IsSaturation theory first recipes kept) (counterparts : List Tree) (theirs : AreValuesOf theory second recipes counterparts) (uses : List RuleUse)
    (are_uses : AreUsesOf theory kept uses) where
  told_separates :
      (signature : Signature) → IsCommonSignature signature theory first → IsCommonSignature signature theory second → (test : Question)
      → IsTold theory recipes kept counterparts uses test → Separates signature theory first second (test_of test)
  told_separates signature common other test (inl d) =
      let setting = setting_of signature theory first accepted plain common in
      let clean = clean_over signature theory first common.same_symbols common.is_frame in
      subst (λ t. Separates signature theory first second (test_of t)) (sym d.is)
      (difference_separates signature theory setting first second lengths common.is_frame other.is_frame recipes kept (saturation.known.are_recipes signature common)
      (saturation.known.values clean) counterparts theirs d.ways d.difference)
  told_separates signature common other test (inr u) =
      let setting = setting_of signature theory first accepted plain common in
      let clean = clean_over signature theory first common.same_symbols common.is_frame in
      use_separates signature theory setting first second lengths common.is_frame other.is_frame recipes kept (saturation.known.are_recipes signature common) (saturation.known.values clean)
      counterparts theirs u.one
      (app_use_of theory accepted kept u.one (are_uses.each u.one u.listed)) test u.tests

  pub told_refutes : (found : Option Question) → MatchOption found (AllPass theory kept counterparts uses) (IsTold theory recipes kept counterparts uses) → IsRefutation theory first second found
  told_refutes (Some test) h = λ signature common other. told_separates signature common other test h
  told_refutes None h = λ signature common other.
      let setting = setting_of signature theory first accepted plain common in
      let clean = clean_over signature theory first common.same_symbols common.is_frame in
      reaches signature theory setting first second lengths common.is_frame other.is_frame recipes kept (saturation.known.are_recipes signature common) (saturation.known.values clean)
      counterparts theirs uses are_uses h
      saturation.known.starts saturation.known.handled
