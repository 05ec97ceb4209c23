-- What becomes of variables, as the code finds it.
use Rattle.std.proofs.Common.{◌≡◌, ℕ, not, List, ◌++◌, map, filter, ap, subst, ◌∙◌}
use Rattle.std.specs.List.{flat_map}
use Rattle.std.proofs.lemmas.Simd.{map-map}
use Rattle.dps_terms.specs.Tree.{Tree}
use Rattle.dps_terms.specs.Variables.{occurrences, each_once}
use Rattle.dps_renewal.specs.Numbering.{is_among}
use Rattle.dps_renewal.specs.Putting.{PutsFor, renewed, numbers_in, fresh_in, level_in}

module _ (ps : List (ℕ × ℕ)) (b : ℕ → Tree) (own fresh : List ℕ) where
  -- the new variables are those that the code finds
  pub fresh_are : own ≡ numbers_in ps → fresh ≡ filter (λ y. not (is_among y own)) (each_once (flat_map occurrences (map b own))) → fresh ≡ fresh_in ps b
  fresh_are o f =
      f
      ∙ ap (λ xs. filter (λ y. not (is_among y xs)) (each_once (flat_map occurrences (map b xs)))) o
      ∙ ap (λ ts. filter (λ y. not (is_among y (numbers_in ps))) (each_once (flat_map occurrences ts))) (map-map b (λ (p : ℕ × ℕ). p.0) ps)

  pub levels_are : (levels : List ℕ) → fresh ≡ fresh_in ps b → levels ≡ map (level_in ps b) fresh → levels ≡ map (level_in ps b) (fresh_in ps b)
  levels_are levels f l = l ∙ ap (map (level_in ps b)) f

  pub puts_are : (first : ℕ) (by : List (ℕ × Tree)) → own ≡ numbers_in ps → fresh ≡ fresh_in ps b → PutsFor (renewed first fresh b) (own ++ fresh) by
      → PutsFor (renewed first (fresh_in ps b) b) (numbers_in ps ++ fresh_in ps b) by
  puts_are first by o f h =
      subst (λ xs. PutsFor (renewed first xs b) (numbers_in ps ++ xs) by) f (subst (λ xs. PutsFor (renewed first fresh b) (xs ++ fresh) by) o h)
