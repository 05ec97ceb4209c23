-- Each recipe with a value is carried over, by induction on the recipe.
use Rattle.std.proofs.Common.{◌≡◌, ℕ, ◌≤◌, List, [], ◌∷◌, length, refl, sym, ◌∙◌, ap, subst, arith, inl, inr}
use Rattle.std.specs.Prelude.{Contains}
use Rattle.dps_terms.specs.declared.Sym.{Sym}
use Rattle.dps_signature.specs.declared.SymKind.TheVariants.{Constructor, Destructor}
use Rattle.dps_terms.specs.Tree.{Leaf, public, private, var, ax, entry, rigid, Tree, Trees, leaf, app, none, more, count, IsAmong}
use Rattle.dps_terms.specs.Replace.{replace_all, substitute, substitute_all, variables_to, handles_to, in_frame, entries_to, put_entries}
use Rattle.dps_terms.specs.Variables.{variables}
use Rattle.dps_signature.specs.Signature.{Signature, HasShape, HasArity, shapes}
use Rattle.dps_terms.specs.Kinds.{AreBuiltOf, AnySymbol}
use Rattle.dps_signature.specs.Kinds.{IsRecipe, IsRecipeLeaf}
use Rattle.dps_terms.proofs.Building.{count-replace_all, built_among}
use Rattle.dps_terms.proofs.Replacing.{keeps_among}
use Rattle.dps_terms.proofs.Listing.{variables_are_those}
use Rattle.dps_theory.specs.Theory.{Rule, Theory, HasRule, IsAccepted, HasPlainRules}
use Rattle.dps_theory.specs.Evaluation.{Evaluates, EvaluateAll, Reduces, named, no_terms, a_term}
use Rattle.dps_recipes.proofs.Fitting.{restricted, restricted_at, restricted_cases, restricted_instance}
use Rattle.dps_recipes.proofs.Valuing.{IsApplied, applied_at, gives_value}
use Rattle.dps_static.specs.Ways.{IsOpenWay}
use Rattle.dps_static.specs.Follows.{Follows}
use Rattle.dps_static.specs.Generic.{IsNoRigidLeaf, HasNoRigidName, HaveNoRigidName, CoversAll}
use Rattle.dps_static.proofs.Ways.{AreOpenWays}
use Rattle.dps_static.proofs.Covering.{ways_built, same_instances}
use Rattle.dps_static.proofs.Moving.{put_all, Moves, IsPassed, rule_moves, right_stands, below_root}

-- the substitutions that were found for a rule cover its left side, and each of them was passed
pub record IsRulePassed (theory : Theory) (kept counterparts : List Tree) (g : Sym) (patterns : Trees) (right : Tree) : Type 0 where
  pub found : List (List (ℕ × Tree))
  pub covers : CoversAll kept patterns ([] ∷ []) found
  pub passed : (s : List (ℕ × Tree)) → Contains found s → IsPassed theory kept counterparts g patterns right s

pub record ArePassed (theory : Theory) (kept counterparts : List Tree) : Type 0 where
  pub follows : Follows kept counterparts
  pub rules : (rule : Rule) (g : Sym) (patterns : Trees) → HasRule theory rule → rule.left ≡ app g patterns → IsRulePassed theory kept counterparts g patterns rule.right

module _ (theory : Theory) (plain : HasPlainRules theory) (accepted : IsAccepted theory) (kept counterparts : List Tree) (low : HaveNoRigidName kept) (lower : HaveNoRigidName counterparts)
    (passed : ArePassed theory kept counterparts) where
  -- a variable of the left side is a part of the values
  clean_variable : (by : ℕ → Tree) (ps vs : Trees) (n : ℕ) → substitute_all by ps ≡ vs → AreBuiltOf IsNoRigidLeaf AnySymbol vs → IsAmong (leaf (var n)) ps → HasNoRigidName (by n)
  clean_variable by ps vs n e h k = built_among IsNoRigidLeaf AnySymbol h (subst (IsAmong (by n)) e (keeps_among (variables_to by) k))

  module _ (g : Sym) (ws : Trees) (v : Tree) (are : AreOpenWays (length kept) ws) (clean : AreBuiltOf IsNoRigidLeaf AnySymbol (put_all kept ws)) (r : Reduces theory g (put_all kept ws) v) where
    abbrev z : ℕ → Tree
    z = restricted (variables r.rule.left) r.by

    z_clean : (n : ℕ) → HasNoRigidName (z n)
    z_clean n =
        elim (restricted_cases (variables r.rule.left) r.by n) [
          | inl c ↦ subst HasNoRigidName (sym c.1)
              (clean_variable r.by r.patterns (put_all kept ws) n r.matched clean (below_root r.rule.left g r.patterns n r.left ((variables_are_those r.rule.left n).0 c.0)))
          | inr e ↦ subst HasNoRigidName (sym e) tt
        ]

    z_matches : substitute_all z r.patterns ≡ put_all kept ws
    z_matches =
        let e : app g (substitute_all z r.patterns) ≡ app g (substitute_all r.by r.patterns) =
        subst (λ t. substitute z t ≡ substitute r.by t) r.left (restricted_instance r.by r.rule.left) in
        let d : substitute_all z r.patterns ≡ substitute_all r.by r.patterns = cc in d ∙ r.matched

    z_right : substitute z r.rule.right ≡ v
    z_right =
        same_instances z r.by r.rule.right
        (λ n k. restricted_at (variables r.rule.left) r.by n ((variables_are_those r.rule.left n).1 (right_stands r.rule (accepted.bounded r.rule r.listed) n k)))
        ∙ r.right

    pub step : Moves theory kept counterparts g ws v
    step =
        let p = passed.rules r.rule g r.patterns r.listed r.left in
        let c = p.covers.covers z [] (0, omega arith, refl) (λ n t e. cc) (ways_built kept ws (substitute_all z r.patterns) are (sym z_matches)) in
        subst (Moves theory kept counterparts g ws) z_right
        (rule_moves theory plain accepted kept counterparts low lower passed.follows g ws r.patterns r.rule r.left r.listed z z_clean c.by c.agrees c.wanted are z_matches (p.passed c.by c.listed))

  -- how the value v of a recipe is built, where the recipe is the term t in the second frame
  pub record Carries (t v : Tree) : Type 0 where
    pub way : Tree
    pub is_way : IsOpenWay (length kept) way
    pub gives : put_entries kept way ≡ v
    pub there : Evaluates theory t (put_entries counterparts way)

  pub record CarriesAll (ts vs : Trees) : Type 0 where
    pub ways : Trees
    pub are_ways : AreOpenWays (length kept) ways
    pub give : put_all kept ways ≡ vs
    pub there : EvaluateAll theory ts (put_all counterparts ways)

  as_many : (ways vs : Trees) → put_all kept ways ≡ vs → count vs ≡ count (put_all counterparts ways)
  as_many ways vs e = sym (ap count e) ∙ (count-replace_all (entries_to kept) ways ∙ sym (count-replace_all (entries_to counterparts) ways))

  over : (f : Sym) (ts us : Trees) (v : Tree) (e : IsApplied theory f ts v) → AreBuiltOf IsNoRigidLeaf AnySymbol e.values → CarriesAll us e.values → Carries (app f us) v
  over f ts us v e clean k =
      elim e.gives [
        | inl p ↦ record {
          way = app f k.ways;
          is_way = ((tt, k.are_ways.known), (tt, k.are_ways.closed));
          gives = ap (app f) k.give ∙ sym p.1;
          there = gives_value theory f us (put_all counterparts k.ways) (app f (put_all counterparts k.ways)) k.there
              (inl (subst (HasShape theory.shapes Constructor f) (as_many k.ways e.values k.give) p.0, refl));
        }
        | inr p ↦
            let s = step f k.ways v k.are_ways (subst (AreBuiltOf IsNoRigidLeaf AnySymbol) (sym k.give) clean) (subst (λ vs. Reduces theory f vs v) (sym k.give) p.1) in
            record {
              way = s.way;
              is_way = s.is_way;
              gives = s.gives;
              there = gives_value theory f us (put_all counterparts k.ways) (put_entries counterparts s.way) k.there
                  (inr (subst (HasShape theory.shapes Destructor f) (as_many k.ways e.values k.give) p.0, s.reduces));
            }
      ]

  module _ (signature : Signature) (m : ℕ) (first second : List Tree)
      (messages : (j : ℕ) (v : Tree) → 1 ≤ j → j ≤ m → Evaluates theory (in_frame first (leaf (ax j))) v → Carries (in_frame second (leaf (ax j))) v)
      (clean : (r v : Tree) → IsRecipe signature m r → Evaluates theory (in_frame first r) v → HasNoRigidName v) where
    all_clean :
        (rs vs : Trees) → AreBuiltOf (IsRecipeLeaf signature m) (HasArity (shapes signature)) rs → EvaluateAll theory (replace_all (handles_to first) rs) vs
        → AreBuiltOf IsNoRigidLeaf AnySymbol vs
    all_clean none vs h no_terms = tt
    all_clean (more r rs) vs h (a_term {v} {vs = us} a b) = (clean r v h.0 a, all_clean rs us h.1 b)

    name_alone : (x : Leaf) (v : Tree) → Evaluates theory (leaf x) v → v ≡ leaf x
    name_alone x v (named h) = refl

    mutual
      pub carried : (r v : Tree) → IsRecipe signature m r → Evaluates theory (in_frame first r) v → Carries (in_frame second r) v
      carried (leaf (public a)) v h e = record { way = leaf (public a); is_way = (tt, tt); gives = sym (name_alone (public a) v e); there = named tt }
      carried (leaf (ax j)) v h e = messages j v h.0 h.1 e
      carried (leaf (private n)) v h e = absurd h
      carried (leaf (var n)) v h e = absurd h
      carried (leaf (entry n)) v h e = absurd h
      carried (leaf (rigid n)) v h e = absurd h
      carried (app f rs) v h e =
          let a = applied_at theory e in
          over f (replace_all (handles_to first) rs) (replace_all (handles_to second) rs) v a (all_clean rs a.values h.1 a.all) (all_carried rs a.values h.1 a.all)

      pub all_carried :
          (rs vs : Trees) → AreBuiltOf (IsRecipeLeaf signature m) (HasArity (shapes signature)) rs → EvaluateAll theory (replace_all (handles_to first) rs) vs
          → CarriesAll (replace_all (handles_to second) rs) vs
      all_carried none vs h no_terms = record { ways = none; are_ways = record { known = tt; closed = tt }; give = refl; there = no_terms }
      all_carried (more r rs) vs h (a_term {v} {vs = us} a b) =
          let c = carried r v h.0 a in
          let d = all_carried rs us h.1 b in
          record {
            ways = more c.way d.ways;
            are_ways = record { known = (c.is_way.0, d.are_ways.known); closed = (c.is_way.1, d.are_ways.closed) };
            give = (λ i. more (c.gives i) (d.give i));
            there = a_term c.there d.there;
          }
