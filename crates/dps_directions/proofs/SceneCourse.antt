-- The trees of the scene's variables are followed.
use Rattle.std.proofs.Common.{◌≡◌, ℕ, ◌≤◌, List, [], ◌∷◌, map, inl, inr, Some, refl, sym, ◌∙◌, arith, Contains}
use Rattle.dps_terms.specs.Tree.{Tree, IsSubterm, itself}
use Rattle.dps_terms.specs.Replace.{put_entries}
use Rattle.dps_terms.specs.Kinds.{AnySymbol}
use Rattle.dps_terms.proofs.Building.{built_subterm}
use Rattle.dps_terms.proofs.Subterms.{nested}
use Rattle.dps_unify.specs.Order.{level_of}
use Rattle.dps_know.proofs.Listing.{in_cons, in_none}
use Rattle.dps_solver.specs.Levels.{IsLeafUpTo, IsGroundUpTo}
use Rattle.dps_solver.specs.Scene.{Scene, Ask}
use Rattle.dps_solver.specs.Solutions.{IsSolution, IsValuation, IsNormalUnder}
use Rattle.dps_directions.specs.Valid.{IsValid}
use Rattle.dps_directions.proofs.Course.{Course}
use Rattle.dps_directions.proofs.Valuations.{ground_above}
use Rattle.dps_directions.proofs.Following.{same_number, level_there, level_past}
use Rattle.dps_directions.proofs.Lowering.{le_or_gt}
use Rattle.dps_directions.proofs.Beginning.{level_number}

-- a variable with a level is one of those that have one
pub level_listed : (ps : List (ℕ × ℕ)) (x : ℕ) → Contains (map (λ (p : ℕ × ℕ). p.0) ps) x → (l : ℕ) × (level_of ps x ≡ Some l)
level_listed [] x c = absurd (in_none x c)
level_listed (p ∷ ps) x c = elim (same_number p.0 x) [
  | inl e ↦ (p.1, level_there p.0 p.1 x ps e)
  | inr d ↦ elim (in_cons x p.0 (map (λ (q : ℕ × ℕ). q.0) ps) c) [
    | inl e ↦ absurd (d (sym e))
    | inr k ↦ let h = level_listed ps x k in (h.0, level_past p x ps d ∙ h.1)
  ]
]

module _ (names : ℕ → Type 0) (scene : Scene) (ask : Ask) (valid : IsValid names scene) (s : ℕ → Tree) (g : List Tree)
    (solution : IsSolution names scene.system s) (valuation : IsValuation scene s g) where
  abbrev pub levelled : List ℕ
  levelled = map (λ (p : ℕ × ℕ). p.0) scene.system.levels

  -- parts of the solution's trees are told by their values
  ground_part : (x l : ℕ) (t : Tree) → level_of scene.system.levels x ≡ Some l → IsSubterm t (s x) → IsGroundUpTo names scene.system.m scene.system.know l t
  ground_part x l t e h = built_subterm (IsLeafUpTo names scene.system.m scene.system.know [] l) AnySymbol (solution.choice.trees x l e) h

  pub normal_part : (x l : ℕ) (t : Tree) → level_of scene.system.levels x ≡ Some l → IsSubterm t (s x) → IsNormalUnder s scene.system t
  normal_part x l t e h = λ r c k. solution.normal x l e r c (nested k h)

  told_at : (x l y k : ℕ) (t u : Tree) → level_of scene.system.levels x ≡ Some l → level_of scene.system.levels y ≡ Some k → IsSubterm t (s x) → IsSubterm u (s y)
      → l ≤ k → put_entries g t ≡ put_entries g u → t ≡ u
  told_at x l y k t u e f h j low same =
      valid.unique s g solution valuation y k f t u
      (ground_above names scene.system.m scene.system.know l k t low (ground_part x l t e h)) (ground_part y k u f j)
      (normal_part x l t e h) (normal_part y k u f j) same

  pub told : (x y : ℕ) (t u : Tree) → Contains levelled x → Contains levelled y → IsSubterm t (s x) → IsSubterm u (s y)
      → put_entries g t ≡ put_entries g u → t ≡ u
  told x y t u c d h j same =
      let l = level_listed scene.system.levels x c in
      let k = level_listed scene.system.levels y d in
      elim (le_or_gt l.0 k.0) [
        | inl low ↦ told_at x l.0 y k.0 t u l.1 k.1 h j low same
        | inr low ↦ sym (told_at y k.0 x l.0 u t k.1 l.1 j h (omega (arith, low)) (sym same))
      ]

  abbrev pub scene_course : Course names scene ask
  scene_course = record {
    s = s;
    g = g;
    followed = levelled;
    last = s;
    solution = solution;
    valuation = valuation;
    among = λ x l e. level_number scene.system.levels x l e;
    ends = λ x l e. refl;
    only = λ x c. inl (level_listed scene.system.levels x c);
    told = told;
    normal = λ x c. let l = level_listed scene.system.levels x c in normal_part x l.0 (s x) l.1 itself;
  }
