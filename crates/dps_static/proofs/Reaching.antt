-- Where the counterparts follow and all uses pass, what holds in the first frame holds in the second.
use Rattle.std.proofs.Common.{◌≡◌, ℕ, suc, List, [], ◌∷◌, length, unwrap_or, Some, sym, ◌∙◌, ap, subst, arith, inl, inr}
use Rattle.std.specs.Prelude.{◌⊎◌, All, Contains}
use Rattle.std.proofs.lemmas.Option.{slice_get_within}
use Rattle.dps_terms.specs.declared.Sym.{Sym}
use Rattle.dps_terms.specs.Tree.{Tree, Trees, ax, leaf, app, trees}
use Rattle.dps_terms.specs.Views.{arguments}
use Rattle.dps_terms.specs.Replace.{substitute, substitute_all, in_frame, put_entries}
use Rattle.dps_signature.specs.Signature.{Signature}
use Rattle.dps_signature.specs.Kinds.{IsRecipe}
use Rattle.dps_theory.specs.Theory.{Rule, Theory, HasRule}
use Rattle.dps_theory.specs.Evaluation.{Evaluates, Reduces}
use Rattle.dps_theory.specs.Frames.{IsFrame}
use Rattle.dps_theory.proofs.Evaluating.{plain_alone}
use Rattle.dps_static.specs.Generic.{AreBuilt, HaveNoRigidName, generic, CoversAll}
use Rattle.dps_static.specs.Handles.{handles}
use Rattle.dps_static.specs.Ways.{IsNotComposed}
use Rattle.dps_static.specs.Uses.{HasUse, AreUsesOf}
use Rattle.dps_static.specs.Saturation.{IsCleanFrame, StartsWith, AreValuesOf}
use Rattle.dps_static.specs.Telling.{Passes, AllPass}
use Rattle.dps_static.specs.Answer.{IsAtMost}
use Rattle.dps_static.specs.declared.uses.RuleUse.{RuleUse}
use Rattle.dps_static.proofs.Frames.{handle_at}
use Rattle.dps_static.proofs.Moving.{Moves, IsPassed, passed_by_one, passed_by_none}
use Rattle.dps_static.proofs.Carrying.{IsRulePassed, ArePassed}
use Rattle.dps_static.proofs.Comparing.{at_most}
use Rattle.dps_static.proofs.Setting.{IsSetting, clean_frame}
use Rattle.dps_static.proofs.Ways.{AreOpenWays, put_all, trees-list_of}
use Rattle.dps_static.proofs.Covering.{built_ways}
use Rattle.dps_static.proofs.RuleUses.{IsAppUse, IsAppUseOf}
use Rattle.dps_static.proofs.Telling.{kept_plain, kept_low, known_use}
use Rattle.dps_static.proofs.RuleUses.{app_use, app_use_of, is_there, evaluates_reduces}

-- the values of recipes that begin with the handles begin with the messages
module _ (theory : Theory) (frame recipes values : List Tree) (m : ℕ) (is_m : length frame ≡ m) (clean : IsCleanFrame theory frame) (are : AreValuesOf theory frame recipes values)
    (starts : StartsWith recipes (handles m)) where
  pub begins_with : StartsWith values frame
  begins_with k t e =
      let within = slice_get_within frame k t e in
      let at = starts k (leaf (ax (suc k))) (handle_at m k (omega (arith, within, is_m))) in
      let same = are.same_length in
      let inside = slice_get_within recipes k (leaf (ax (suc k))) at in
      let v = is_there values k (omega (arith, same, inside)) in
      let to : in_frame frame (leaf (ax (suc k))) ≡ t = ap (λ o. unwrap_or o (leaf (ax (suc k)))) e in
      let is : v.tree ≡ t = plain_alone theory (subst (λ u. Evaluates theory u v.tree) to (are.values k (leaf (ax (suc k))) v.tree at v.there)) (clean.plain k t e) in
      v.there ∙ ap Some is

module _ (signature : Signature) (theory : Theory) (setting : IsSetting signature theory) (first second : List Tree) (lengths : length first ≡ length second) (is_first : IsFrame signature first)
    (is_second : IsFrame signature second) (recipes kept : List Tree) (are_recipes : All (IsRecipe signature (length first)) recipes) (ours : AreValuesOf theory first recipes kept)
    (counterparts : List Tree) (theirs : AreValuesOf theory second recipes counterparts) (uses : List RuleUse) (are_uses : AreUsesOf theory kept uses)
    (pass : AllPass theory kept counterparts uses) where
  their_recipes : All (IsRecipe signature (length second)) recipes
  their_recipes = subst (λ n. All (IsRecipe signature n) recipes) lengths are_recipes

  same_kept : length kept ≡ length counterparts
  same_kept = sym ours.same_length ∙ theirs.same_length

  low : HaveNoRigidName kept
  low = kept_low signature theory setting first is_first recipes kept are_recipes ours

  reduces_there : (one : RuleUse) (u : IsAppUseOf theory kept one) → Passes theory counterparts one → Reduces theory u.g (put_all counterparts u.is_use.ways) (put_entries counterparts one.right)
  reduces_there one u p =
      let known = known_use signature theory setting first is_first recipes kept are_recipes ours one u in
      evaluates_reduces theory counterparts (kept_plain signature theory setting second is_second recipes counterparts their_recipes theirs) u.g u.is_use.ways
      (subst (λ n. AreOpenWays n u.is_use.ways) same_kept known.are_ways) known.built known.shape (put_entries counterparts one.right)
      (subst (λ t. Evaluates theory t (put_entries counterparts one.right)) (ap (put_entries counterparts) known.root) p.value)

  module _ (rule : Rule) (g : Sym) (patterns : Trees) (listed : HasRule theory rule) (left : rule.left ≡ app g patterns) (s : List (ℕ × Tree)) where
    use_moves : (one : RuleUse) → Contains uses one → (i : IsAppUse kept g patterns rule.right s one) → Moves theory kept counterparts g i.ways (substitute (generic s) rule.right)
    use_moves one member i =
        let u = app_use_of theory setting.accepted kept one (are_uses.each one member) in
        let r = reduces_there one u (pass.passes one member) in
        let e : app u.g u.is_use.ways ≡ app g i.ways = sym u.is_use.root ∙ i.root in
        let m : u.g ≡ g = cc in
        let n : u.is_use.ways ≡ i.ways = cc in
        let there = put_entries counterparts one.right in
        record {
          way = one.right;
          is_way = i.is_way;
          gives = i.gives;
          reduces = subst (λ f. Reduces theory f (put_all counterparts i.ways) there) m (subst (λ ws. Reduces theory u.g (put_all counterparts ws) there) n r);
        }

    no_use : IsNotComposed kept (substitute (generic s) rule.left) → AreBuilt kept (substitute_all (generic s) patterns) → ⊥
    no_use nothing built =
        let h = built_ways kept (substitute_all (generic s) patterns) built in
        nothing (app g h.ways) (record {
          builds = record {
            is_way = ((tt, h.are_ways.known), (tt, h.are_ways.closed));
            gives = ap (app g) h.give ∙ sym (ap (substitute (generic s)) left);
          };
          root = tt;
        })

    use_passed : IsNotComposed kept (substitute (generic s) rule.left) ⊎ HasUse kept uses rule s → IsPassed theory kept counterparts g patterns rule.right s
    use_passed (inl nothing) = passed_by_none theory kept counterparts g patterns rule.right s (no_use nothing)
    use_passed (inr h) =
        let i = app_use kept rule g patterns s h.one left h.is_use in
        passed_by_one theory kept counterparts g patterns rule.right s i.ways pass.follows i.are_ways i.builds (use_moves h.one h.listed i)

  rule_passed : (rule : Rule) (g : Sym) (patterns : Trees) → HasRule theory rule → rule.left ≡ app g patterns → IsRulePassed theory kept counterparts g patterns rule.right
  rule_passed rule g patterns listed left =
      let h = are_uses.all rule listed in
      record {
        found = h.found;
        covers = subst (λ us. CoversAll kept us ([] ∷ []) h.found) (ap (λ t. trees (arguments t)) left ∙ trees-list_of patterns) h.covers;
        passed = λ s c. use_passed rule g patterns listed left s (h.uses_of s c);
      }

  pub all_passed : ArePassed theory kept counterparts
  all_passed = record { follows = pass.follows; rules = rule_passed }

  pub reaches : StartsWith kept first → StartsWith recipes (handles (length first)) → IsAtMost signature theory first second
  reaches starts handled =
      let clean = clean_frame signature theory setting first is_first in
      let cleaner = clean_frame signature theory setting second is_second in
      let lower = kept_low signature theory setting second is_second recipes counterparts their_recipes theirs in
      at_most theory setting.plain setting.accepted kept counterparts low lower all_passed first second clean cleaner lengths starts
      (begins_with theory second recipes counterparts (length first) (sym lengths) cleaner theirs handled) signature
