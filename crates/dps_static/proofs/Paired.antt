-- Recipes and their values in pairs, one by one, and what they say of a saturated frame.
use Rattle.std.proofs.Common.{◌≡◌, ℕ, ◌+◌, ◌<◌, ◌≤◌, List, [], ◌∷◌, ◌++◌, length, map, take, slice_get, get_or, Some, refl, sym, ◌∙◌, ap, subst}
use Rattle.std.specs.Option.{option_map}
use Rattle.std.proofs.lemmas.List.{map-append, take_all, take_more}
use Rattle.std.proofs.lemmas.Option.{slice_get_within, slice_get-get_or, slice_get-map, get_or_from_slice_get}
use Rattle.dps_terms.specs.Tree.{Tree}
use Rattle.dps_signature.specs.Signature.{Signature}
use Rattle.dps_signature.specs.Kinds.{IsRecipe}
use Rattle.dps_theory.specs.Theory.{Theory, IsAccepted, HasPlainRules}
use Rattle.dps_static.specs.Generic.{HasNoRigidName}
use Rattle.dps_static.specs.Pairs.{ArePairsOf}
use Rattle.dps_static.specs.Saturation.{IsCommonSignature, IsSaturation}
use Rattle.dps_static.specs.Answer.{IsBuiltFrom, IsSaturatedOver, IsSaturated}
use Rattle.dps_static.proofs.Opening.{way_closed}
use Rattle.dps_static.proofs.Closing.{closed_passes}
use Rattle.dps_static.proofs.Comparing.{carried_to, clean_value}
use Rattle.dps_static.proofs.Setting.{IsSetting, setting_of, clean_over}
use Rattle.dps_static.proofs.Telling.{kept_low}

abbrev one_of : Tree × Tree → Tree
one_of pair = pair.0

abbrev other_of : Tree × Tree → Tree
other_of pair = pair.1

pub record ArePairsFirst (recipes values : List Tree) (pairs : List (Tree × Tree)) (n : ℕ) : Type 0 where
  pub recipes_are : map (λ pair. pair.0) pairs ≡ take n recipes
  pub values_are : map (λ pair. pair.1) pairs ≡ take n values

taken_further :
    (F : Tree × Tree → Tree) (pairs : List (Tree × Tree)) (p : Tree × Tree) (ts : List Tree) (n : ℕ) (t : Tree) → map F pairs ≡ take n ts
    → slice_get ts n ≡ Some t → F p ≡ t → map F (pairs ++ p ∷ []) ≡ take (n + 1) ts
taken_further F pairs p ts n t e there m =
    let h = slice_get_within ts n t there in
    let at : get_or ts n t ≡ t = get_or_from_slice_get ts n t t there in
    map-append F pairs (p ∷ []) ∙ (λ j. e j ++ (m ∙ sym at) j ∷ []) ∙ sym (take_more ts n t h)

pub pairs_next :
    (recipes values : List Tree) (pairs new : List (Tree × Tree)) (n : ℕ) (r v : Tree) → n < length recipes → r ≡ get_or recipes n r
    → slice_get values n ≡ Some v → new ≡ pairs ++ (r, v) ∷ [] → ArePairsFirst recipes values pairs n → ArePairsFirst recipes values new (n + 1)
pairs_next recipes values pairs new n r v h a there is first = subst (λ ps. ArePairsFirst recipes values ps (n + 1)) (sym is) (record {
  recipes_are = taken_further one_of pairs (r, v) recipes n r first.recipes_are (slice_get-get_or recipes n r h ∙ ap Some (sym a)) refl;
  values_are = taken_further other_of pairs (r, v) values n v first.values_are there refl;
})

pub pairs_all : (recipes values : List Tree) (pairs : List (Tree × Tree)) (n : ℕ) → length recipes ≤ n → length values ≤ n → ArePairsFirst recipes values pairs n → ArePairsOf recipes values pairs
pairs_all recipes values pairs n h k first = record {
  recipes_are = first.recipes_are ∙ take_all n recipes h;
  values_are = first.values_are ∙ take_all n values k;
}

pair_at : (F : Tree × Tree → Tree) (pairs : List (Tree × Tree)) (ts : List Tree) (k : ℕ) (p : Tree × Tree) → map F pairs ≡ ts → slice_get pairs k ≡ Some p → slice_get ts k ≡ Some (F p)
pair_at F pairs ts k p e there = ap (λ us. slice_get us k) (sym e) ∙ (slice_get-map F pairs k ∙ ap (option_map F) there)

module _ (theory : Theory) (accepted : IsAccepted theory) (plain : HasPlainRules theory) (frame recipes kept : List Tree) (saturation : IsSaturation theory frame recipes kept)
    (pairs : List (Tree × Tree)) (are_pairs : ArePairsOf recipes kept pairs) where
  over_one : (signature : Signature) → IsCommonSignature signature theory frame → IsSaturatedOver signature theory frame pairs
  over_one signature common =
      let setting : IsSetting signature theory = setting_of signature theory frame accepted plain common in
      let clean = clean_over signature theory frame common.same_symbols common.is_frame in
      let are_values = saturation.known.values clean in
      let are_recipes = saturation.known.are_recipes signature common in
      let low = kept_low signature theory setting frame common.is_frame recipes kept are_recipes are_values in
      record {
        are_values = λ pair c.
            let there : slice_get pairs c.0 ≡ Some pair = slice_get-get_or pairs c.0 pair c.1 ∙ ap Some c.2 in
            let r = pair_at one_of pairs recipes c.0 pair are_pairs.recipes_are there in
            let v = pair_at other_of pairs kept c.0 pair are_pairs.values_are there in (
              subst (IsRecipe signature (length frame)) (get_or_from_slice_get recipes c.0 pair.0 pair.0 r) (are_recipes c.0 pair.0 (slice_get_within recipes c.0 pair.0 r)),
              are_values.values c.0 pair.0 pair.1 r v,
            );
        builds = λ message r h.
            let k = carried_to theory plain accepted kept kept low low (closed_passes theory kept saturation.closed) frame frame clean clean refl saturation.known.starts saturation.known.starts
            signature r message h.0 h.1 in
            let message_low = clean_value theory frame clean signature accepted plain r message h.0 h.1 in
            let w = way_closed kept (length kept) k.way k.is_way (subst HasNoRigidName (sym k.gives) message_low) in
            let b : IsBuiltFrom kept message = record { way = k.way; is_way = w; gives = k.gives } in
            subst (λ vs. IsBuiltFrom vs message) (sym are_pairs.values_are) b;
      }

  pub pairs_saturate : IsSaturated theory frame pairs
  pairs_saturate = over_one
