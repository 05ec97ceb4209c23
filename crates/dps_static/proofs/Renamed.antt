-- Ways with new names of the attacker for rigid ones, as recipes over a frame.
use Rattle.std.proofs.Common.{◌≡◌, ℕ, List, length, refl, sym, ◌∙◌, subst, inl, inr}
use Rattle.std.specs.Prelude.{◌⊎◌}
use Rattle.dps_terms.specs.declared.Sym.{Sym}
use Rattle.dps_signature.specs.declared.SymKind.TheVariants.{Constructor, Destructor}
use Rattle.dps_terms.specs.declared.PublicName.{PublicName}
use Rattle.dps_terms.specs.declared.PublicName.TheVariants.{Declared, At}
use Rattle.dps_terms.specs.Tree.{Leaf, public, private, var, ax, entry, rigid, Tree, Trees, leaf, app, none, more, count, StandsIn}
use Rattle.dps_terms.specs.Replace.{replace, replace_all, rigid_names_to, attacker_names_to, put_entries}
use Rattle.dps_signature.specs.Signature.{HasShape}
use Rattle.dps_terms.specs.Kinds.{AreBuiltOf, AnySymbol, IsNoVariable, IsKnowledgeLeaf, NoRigidName}
use Rattle.dps_signature.specs.Kinds.{IsConstructorTerm, AreConstructorTerms}
use Rattle.dps_terms.proofs.Replacing.{replace_undone}
use Rattle.dps_terms.proofs.Building.{count-replace_all}
use Rattle.dps_theory.specs.Theory.{Theory, IsAccepted, HasPlainRules}
use Rattle.dps_theory.specs.Evaluation.{Reduces}
use Rattle.dps_theory.specs.Frames.{HasValue}
use Rattle.dps_theory.proofs.Evaluating.{one_kind, evaluate_once}
use Rattle.dps_theory.proofs.Renaming.{replaced_reduct, plain_rules_kept}
use Rattle.dps_recipes.proofs.Valuing.{applied_at}
use Rattle.dps_static.proofs.Ways.{put_all, AreOpenWays}
use Rattle.dps_static.specs.Saturation.{AreValuesOf}
use Rattle.dps_static.specs.Ways.{AnyName, AnyRigid, IsWay, IsOpenWay}
use Rattle.dps_static.specs.Generic.{HaveNoRigidName, all_filled}
use Rattle.dps_static.specs.Naming.{newly, renamed, AreNew}
use Rattle.dps_static.proofs.Stepping.{put_filled, put_all_filled}
use Rattle.dps_static.proofs.Expanding.{expanded_value, expanded_values, expanded_root}

abbrev pub all_renamed : (ℕ → ℕ) → Trees → Trees
all_renamed names ts = all_filled (newly names) ts

-- open ways become ways without rigid names
module _ (n : ℕ) (names : ℕ → ℕ) where
  leaf_way : (x : Leaf) → IsOpenWay n (leaf x) → IsWay n (rigid_names_to (newly names) x)
  leaf_way (rigid k) h = (tt, tt)
  leaf_way (public a) h = (h.1, h.0)
  leaf_way (private k) h = absurd h.0
  leaf_way (var k) h = absurd h.1
  leaf_way (ax k) h = absurd h.0
  leaf_way (entry k) h = (h.1, h.0)

  mutual
    pub renamed_way : (w : Tree) → IsOpenWay n w → IsWay n (renamed names w)
    renamed_way (leaf x) h = leaf_way x h
    renamed_way (app f ws) h = let k = renamed_ways ws h.0.1 h.1.1 in ((tt, k.0), (tt, k.1))

    pub renamed_ways :
        (ws : Trees) → AreBuiltOf (IsKnowledgeLeaf AnyName AnyRigid n) AnySymbol ws → AreBuiltOf IsNoVariable AnySymbol ws
        → AreBuiltOf IsNoVariable AnySymbol (all_renamed names ws) × AreBuiltOf (IsKnowledgeLeaf AnyName NoRigidName n) AnySymbol (all_renamed names ws)
    renamed_ways none h k = (tt, tt)
    renamed_ways (more w ws) h k =
        let a = renamed_way w (h.0, k.0) in
        let c = renamed_ways ws h.1 k.1 in ((a.0, c.0), (a.1, c.1))

-- symbols stay
module _ (theory : Theory) (names : ℕ → ℕ) where
  constructors_leaf : (x : Leaf) → IsConstructorTerm theory.shapes (rigid_names_to (newly names) x)
  constructors_leaf (rigid n) = tt
  constructors_leaf (public a) = tt
  constructors_leaf (private n) = tt
  constructors_leaf (var n) = tt
  constructors_leaf (ax n) = tt
  constructors_leaf (entry n) = tt

  mutual
    pub constructors_stay : (w : Tree) → IsConstructorTerm theory.shapes w → IsConstructorTerm theory.shapes (renamed names w)
    constructors_stay (leaf x) h = constructors_leaf x
    constructors_stay (app f ws) h = (subst (HasShape theory.shapes Constructor f) (sym (count-replace_all (rigid_names_to (newly names)) ws)) h.0, constructors_all ws h.1)

    pub constructors_all : (ws : Trees) → AreConstructorTerms theory.shapes ws → AreConstructorTerms theory.shapes (all_renamed names ws)
    constructors_all none h = tt
    constructors_all (more w ws) h = (constructors_stay w h.0, constructors_all ws h.1)

-- the recipes of ways with new names, in a frame
module _ (theory : Theory) (plain : HasPlainRules theory) (accepted : IsAccepted theory) (names : ℕ → ℕ) (frame recipes kept : List Tree) (values : AreValuesOf theory frame recipes kept)
    (low : HaveNoRigidName kept) where
  pub renamed_value : (w : Tree) → IsOpenWay (length kept) w → IsConstructorTerm theory.shapes w → HasValue theory frame (put_entries recipes (renamed names w)) (renamed names (put_entries kept w))
  renamed_value w is_way built =
      subst (HasValue theory frame (put_entries recipes (renamed names w))) (put_filled kept low (newly names) w)
      (expanded_value theory frame recipes kept values (renamed names w) (renamed_way (length kept) names w is_way) (constructors_stay theory names w built))

  module _ (g : Sym) (ws : Trees) (are : AreOpenWays (length kept) ws) (built : AreConstructorTerms theory.shapes ws) (shape : HasShape theory.shapes Destructor g (count ws)) where
    renamed_shape : HasShape theory.shapes Destructor g (count (all_renamed names ws))
    renamed_shape = subst (HasShape theory.shapes Destructor g) (sym (count-replace_all (rigid_names_to (newly names)) ws)) shape

    pub renamed_use : (v : Tree) → Reduces theory g (put_all kept ws) v → HasValue theory frame (put_entries recipes (app g (all_renamed names ws))) (renamed names v)
    renamed_use v r =
        let known = renamed_ways (length kept) names ws are.known are.closed in
        let moved = replaced_reduct theory (rigid_names_to (newly names)) (plain_rules_kept theory (rigid_names_to (newly names)) plain (λ n. refl)) g (put_all kept ws) v r in
        let here = subst (λ vs. Reduces theory g vs (renamed names v)) (sym (put_all_filled kept low (newly names) ws)) moved in
        expanded_root theory frame recipes kept values g (all_renamed names ws) (renamed names v) renamed_shape known.0 known.1 (constructors_all theory names ws built) here

    -- what the recipe has comes of the kept trees
    pub renamed_result : (v : Tree) → HasValue theory frame (put_entries recipes (app g (all_renamed names ws))) v → Reduces theory g (all_renamed names (put_all kept ws)) v
    renamed_result v e =
        let known = renamed_ways (length kept) names ws are.known are.closed in
        let a = applied_at theory e in
        let all = expanded_values theory frame recipes kept values (all_renamed names ws) known.0 known.1 (constructors_all theory names ws built) in
        let same : a.values ≡ all_renamed names (put_all kept ws) = evaluate_once theory accepted a.all all ∙ put_all_filled kept low (newly names) ws in
        elim a.gives [
          | inl p ↦ absurd (one_kind theory.shapes g (count a.values) (count (all_renamed names ws)) p.0 renamed_shape)
          | inr p ↦ subst (λ vs. Reduces theory g vs v) same p.1
        ]

-- new names can be taken back
module _ (names : ℕ → ℕ) (one other : Tree) (new : AreNew names one other) where
  abbrev pub taken_back : Leaf → Tree
  taken_back x = attacker_names_to new.back x

  undone_name : (a : PublicName) → StandsIn (public a) one ⊎ StandsIn (public a) other → taken_back (public a) ≡ leaf (public a)
  undone_name (Declared n) h = refl
  undone_name (At k) h = new.attacker_names k h

  undone : (x : Leaf) → StandsIn x one ⊎ StandsIn x other → replace taken_back (rigid_names_to (newly names) x) ≡ leaf x
  undone (public a) h = undone_name a h
  undone (private n) h = refl
  undone (var n) h = refl
  undone (ax n) h = refl
  undone (entry n) h = refl
  undone (rigid k) h = new.rigid_names k h

  undone_one : replace taken_back (renamed names one) ≡ one
  undone_one = replace_undone (rigid_names_to (newly names)) taken_back one (λ x k. undone x (inl k))

  pub undone_other : replace taken_back (renamed names other) ≡ other
  undone_other = replace_undone (rigid_names_to (newly names)) taken_back other (λ x k. undone x (inr k))

  -- what reduces with new names reduces with the rigid names
  pub reduct_back :
      (theory : Theory) → HasPlainRules theory → (g : Sym) (vs : Trees) (v : Tree) → one ≡ app g vs → Reduces theory g (all_renamed names vs) v
      → Reduces theory g vs (replace taken_back v)
  reduct_back theory plain g vs v e r =
      let whole : app g (replace_all taken_back (all_renamed names vs)) ≡ app g vs = subst (λ t. replace taken_back (renamed names t) ≡ t) e undone_one in
      let same : replace_all taken_back (all_renamed names vs) ≡ vs = cc in
      subst (λ us. Reduces theory g us (replace taken_back v)) same
      (replaced_reduct theory taken_back (plain_rules_kept theory taken_back plain (λ n. refl)) g (all_renamed names vs) v r)
