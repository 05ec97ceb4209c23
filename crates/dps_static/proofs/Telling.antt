-- Tests of recipes, of kept trees and of uses of rules hold in the one frame and fail in the other.
use Rattle.std.proofs.Common.{◌≡◌, ℕ, List, length, slice_get, unwrap_or, Some, None, refl, sym, ◌∙◌, ap, subst, arith}
use Rattle.std.specs.Prelude.{Option, All}
use Rattle.std.proofs.lemmas.Option.{slice_get_within, slice_get-get_or, get_or_from_slice_get}
use Rattle.dps_terms.specs.declared.Sym.{Sym}
use Rattle.dps_signature.specs.declared.SymKind.TheVariants.{Constructor, Destructor}
use Rattle.dps_terms.specs.Tree.{Leaf, public, private, var, ax, entry, rigid, Tree, Trees, leaf, app, none, more, count}
use Rattle.dps_terms.specs.Replace.{replace, substitute, substitute_all, variables_to, rigid_names_to, entries_to, put_entries}
use Rattle.dps_terms.specs.Bindings.{bound}
use Rattle.dps_signature.specs.Signature.{Signature, HasShape, HasArity, shapes}
use Rattle.dps_terms.specs.Kinds.{AnyLeaf, IsName}
use Rattle.dps_signature.specs.Kinds.{IsPlain, IsOver, IsLeafOver, IsRecipe, IsConstructorTerm, AreConstructorTerms}
use Rattle.dps_terms.proofs.Building.{count-replace_all, built_subterm, built_weaker, built_instance}
use Rattle.dps_signature.proofs.Instances.{substitution_stays_over, knowledge_becomes_recipes}
use Rattle.dps_theory.specs.Theory.{Theory, HasDestructorRoot, HasConstructorArguments}
use Rattle.dps_theory.specs.Evaluation.{Evaluates, Reduces}
use Rattle.dps_theory.specs.Frames.{IsFrame, HasValue, Succeeds, Separates, succeeds, equal}
use Rattle.dps_theory.proofs.Evaluating.{evaluates_once}
use Rattle.dps_static.specs.Ways.{IsWay, IsOpenWay, Builds}
use Rattle.dps_static.specs.Follows.{IsDifference}
use Rattle.dps_static.specs.declared.follow.TwoWays.{TwoWays}
use Rattle.dps_static.specs.Generic.{generic, HasNoRigidName, HaveNoRigidName}
use Rattle.dps_static.specs.Saturation.{AreValuesOf}
use Rattle.dps_static.specs.Naming.{newly, renamed, AreNew}
use Rattle.dps_static.specs.Telling.{IsLost, IsValueTest, IsEqualTest, IsUseTest}
use Rattle.dps_static.specs.Answer.{test_of}
use Rattle.dps_static.specs.declared.Test.{Test as Question}
use Rattle.dps_static.specs.declared.Test.TheVariants.{Value, Equal}
use Rattle.dps_static.specs.declared.uses.RuleUse.{RuleUse}
use Rattle.dps_static.proofs.Ways.{AreOpenWays, put_all}
use Rattle.dps_static.proofs.Frames.{way_over}
use Rattle.dps_static.proofs.Stepping.{put_filled}
use Rattle.dps_static.proofs.Opening.{way_closed}
use Rattle.dps_static.proofs.Expanding.{expanded_value}
use Rattle.dps_static.proofs.Renamed.{all_renamed, renamed_way, renamed_value, renamed_use, renamed_result, taken_back, undone_other, reduct_back}
use Rattle.dps_static.proofs.Setting.{IsSetting, plain_value, value_over, value_low}
use Rattle.dps_static.proofs.RuleUses.{reduces_evaluates, constructors_below, all_constructors_below, BindsParts, IsAppUseOf, is_there}

-- recipes with their values in one frame
module _ (signature : Signature) (theory : Theory) (setting : IsSetting signature theory) (frame : List Tree) (is_frame : IsFrame signature frame) (recipes kept : List Tree)
    (are_recipes : All (IsRecipe signature (length frame)) recipes) (values : AreValuesOf theory frame recipes kept) where
  pub record IsKeptAs (k : ℕ) (t : Tree) : Type 0 where
    pub recipe : Tree
    pub at : slice_get recipes k ≡ Some recipe
    pub is_recipe : IsRecipe signature (length frame) recipe
    pub has_value : HasValue theory frame recipe t

  pub kept_as : (k : ℕ) (t : Tree) → slice_get kept k ≡ Some t → IsKeptAs k t
  kept_as k t e =
      let same = values.same_length in
      let within = slice_get_within kept k t e in
      let r = is_there recipes k (omega (arith, same, within)) in
      record {
        recipe = r.tree;
        at = r.there;
        is_recipe = subst (IsRecipe signature (length frame)) (get_or_from_slice_get recipes k r.tree r.tree r.there) (are_recipes k r.tree (slice_get_within recipes k r.tree r.there));
        has_value = values.values k r.tree t r.there e;
      }

  pub kept_plain : (k : ℕ) (t : Tree) → slice_get kept k ≡ Some t → IsPlain theory.shapes t
  kept_plain k t e = let h = kept_as k t e in plain_value signature theory setting frame is_frame (length frame) h.recipe t h.is_recipe h.has_value

  pub kept_over : (k : ℕ) (t : Tree) → slice_get kept k ≡ Some t → IsOver signature t
  kept_over k t e = let h = kept_as k t e in value_over signature theory setting frame is_frame (length frame) h.recipe t h.is_recipe h.has_value

  pub kept_low : HaveNoRigidName kept
  kept_low k t e = let h = kept_as k t e in value_low signature theory setting frame is_frame h.recipe t h.is_recipe h.has_value

  -- a way that builds what is over the signature is, as a recipe, over the frame
  name_over : (names : ℕ → ℕ) (x : Leaf) → IsLeafOver signature x → IsOver signature (rigid_names_to (newly names) x)
  name_over names (rigid k) h = tt
  name_over names (public a) h = h
  name_over names (private n) h = tt
  name_over names (var n) h = tt
  name_over names (ax n) h = tt
  name_over names (entry n) h = tt

  pub closed_recipe : (w : Tree) → IsWay (length kept) w → IsOver signature (put_entries kept w) → IsRecipe signature (length frame) (put_entries recipes w)
  closed_recipe w is_way over =
      let same = values.same_length in
      knowledge_becomes_recipes signature (length frame) (length kept) recipes w (omega (arith, same)) are_recipes is_way.0
      (way_over signature kept (length kept) w is_way over)

  pub renamed_recipe : (names : ℕ → ℕ) (w : Tree) → IsOpenWay (length kept) w → IsOver signature (put_entries kept w) → IsRecipe signature (length frame) (put_entries recipes (renamed names w))
  renamed_recipe names w is_way over =
      let r = renamed_way (length kept) names w is_way in
      let o : IsOver signature (renamed names (put_entries kept w)) =
      built_instance (IsLeafOver signature) (HasArity (shapes signature)) (IsLeafOver signature) (rigid_names_to (newly names)) (put_entries kept w) over (λ x k h. name_over names x h) in
      closed_recipe (renamed names w) r (subst (IsOver signature) (sym (put_filled kept kept_low (newly names) w)) o)

  -- the instances of a rule's sides
  module _ (by : List (ℕ × Tree)) (parts : BindsParts kept by) where
    generic_over : (n : ℕ) → IsOver signature (generic by n)
    generic_over n = go (bound by n) refl
      where
        go : (o : Option Tree) → bound by n ≡ o → IsOver signature (unwrap_or o (leaf (rigid n)))
        go (Some t) e = let p = parts n t e in built_subterm (IsLeafOver signature) (HasArity (shapes signature)) (kept_over p.place p.whole p.there) p.within
        go None e = tt

    generic_built : (n : ℕ) → IsConstructorTerm theory.shapes (generic by n)
    generic_built n = go (bound by n) refl
      where
        go : (o : Option Tree) → bound by n ≡ o → IsConstructorTerm theory.shapes (unwrap_or o (leaf (rigid n)))
        go (Some t) e =
            let p = parts n t e in
            built_weaker IsName (HasShape theory.shapes Constructor) AnyLeaf t (built_subterm IsName (HasShape theory.shapes Constructor) (kept_plain p.place p.whole p.there) p.within) (λ x h. tt)
        go None e = tt

    leaf_built : (x : Leaf) → IsConstructorTerm theory.shapes (variables_to (generic by) x)
    leaf_built (var n) = generic_built n
    leaf_built (public a) = tt
    leaf_built (private n) = tt
    leaf_built (ax n) = tt
    leaf_built (entry n) = tt
    leaf_built (rigid n) = tt

    mutual
      pub instance_built : (t : Tree) → IsConstructorTerm theory.shapes t → IsConstructorTerm theory.shapes (substitute (generic by) t)
      instance_built (leaf x) h = leaf_built x
      instance_built (app f ts) h = (subst (HasShape theory.shapes Constructor f) (sym (count-replace_all (variables_to (generic by)) ts)) h.0, instances_built ts h.1)

      pub instances_built : (ts : Trees) → AreConstructorTerms theory.shapes ts → AreConstructorTerms theory.shapes (substitute_all (generic by) ts)
      instances_built none h = tt
      instances_built (more t ts) h = (instance_built t h.0, instances_built ts h.1)

    pub instance_over : (t : Tree) → IsOver signature t → IsOver signature (substitute (generic by) t)
    instance_over t h = substitution_stays_over signature (generic by) t h (λ n k. generic_over n)

  -- a use of a rule
  pub record IsKnownUse (one : RuleUse) (g : Sym) (ways : Trees) : Type 0 where
    pub root : one.left ≡ app g ways
    pub are_ways : AreOpenWays (length kept) ways
    pub built : AreConstructorTerms theory.shapes ways
    pub shape : HasShape theory.shapes Destructor g (count ways)
    pub over : IsOver signature (put_entries kept one.left)
    pub reduces : Reduces theory g (put_all kept ways) (put_entries kept one.right)
    pub is_way : IsOpenWay (length kept) one.right
    pub right_built : IsConstructorTerm theory.shapes one.right
    pub right_over : IsOver signature (put_entries kept one.right)

  module _ (one : RuleUse) (u : IsAppUseOf theory kept one) where
    same_count : count u.is_use.ways ≡ count u.patterns
    same_count =
        sym (count-replace_all (entries_to kept) u.is_use.ways) ∙ (ap count u.is_use.builds ∙ count-replace_all (variables_to (generic u.by)) u.patterns)

    left_root : HasShape theory.shapes Destructor u.g (count u.patterns)
    left_root = let P : Tree → Type 0 = λ t. HasDestructorRoot theory.shapes t in subst P u.left (setting.accepted.root u.rule u.listed)

    left_arguments : AreConstructorTerms theory.shapes u.patterns
    left_arguments = let P : Tree → Type 0 = λ t. HasConstructorArguments theory.shapes t in subst P u.left (setting.accepted.arguments u.rule u.listed)

    left_is : put_entries kept one.left ≡ substitute (generic u.by) u.rule.left
    left_is = ap (put_entries kept) u.is_use.root ∙ (ap (app u.g) u.is_use.builds ∙ sym (ap (substitute (generic u.by)) u.left))

    pub known_use : IsKnownUse one u.g u.is_use.ways
    known_use = record {
      root = u.is_use.root;
      are_ways = u.is_use.are_ways;
      built = all_constructors_below theory kept u.is_use.ways (subst (AreConstructorTerms theory.shapes) (sym u.is_use.builds) (instances_built u.by u.parts u.patterns left_arguments));
      shape = subst (HasShape theory.shapes Destructor u.g) (sym same_count) left_root;
      over = subst (IsOver signature) (sym left_is) (instance_over u.by u.parts u.rule.left ((setting.over.rules_over u.rule u.listed).0));
      reduces = record { rule = u.rule; listed = u.listed; patterns = u.patterns; left = u.left; by = generic u.by; matched = sym u.is_use.builds; right = sym u.is_use.gives };
      is_way = u.is_use.is_way;
      right_built =
          constructors_below
          theory
          kept
          one.right
          (subst (IsConstructorTerm theory.shapes) (sym u.is_use.gives) (instance_built u.by u.parts u.rule.right (setting.accepted.constructed u.rule u.listed)));
      right_over = subst (IsOver signature) (sym u.is_use.gives) (instance_over u.by u.parts u.rule.right ((setting.over.rules_over u.rule u.listed).1));
    }

-- a kept recipe without a value in the other frame
pub lost_separates :
    (signature : Signature) (theory : Theory) (first second recipes kept : List Tree) → All (IsRecipe signature (length first)) recipes
    → AreValuesOf theory first recipes kept → (recipe : Tree) → IsLost theory second recipes recipe → Separates signature theory first second (succeeds recipe)
lost_separates signature theory first second recipes kept are_recipes ours recipe lost =
    let k = lost.listed.0 in
    let within = lost.listed.1 in
    let at : slice_get recipes k ≡ Some recipe = slice_get-get_or recipes k recipe within ∙ ap Some lost.listed.2 in
    let same = ours.same_length in
    let v = is_there kept k (omega (arith, same, within)) in
    record {
      over = subst (IsRecipe signature (length first)) (get_or_from_slice_get recipes k recipe recipe at) (are_recipes k recipe within);
      holds = (v.tree, ours.values k recipe v.tree at v.there);
      fails = lost.fails;
    }

-- the tests
module _ (signature : Signature) (theory : Theory) (setting : IsSetting signature theory) (first second : List Tree) (lengths : length first ≡ length second) (is_first : IsFrame signature first)
    (is_second : IsFrame signature second) (recipes kept : List Tree) (are_recipes : All (IsRecipe signature (length first)) recipes) (ours : AreValuesOf theory first recipes kept) where
  module _ (counterparts : List Tree) (theirs : AreValuesOf theory second recipes counterparts) where
    same_kept : length kept ≡ length counterparts
    same_kept = sym ours.same_length ∙ theirs.same_length

    their_recipes : All (IsRecipe signature (length second)) recipes
    their_recipes = subst (λ n. All (IsRecipe signature n) recipes) lengths are_recipes

    low : HaveNoRigidName kept
    low = kept_low signature theory setting first is_first recipes kept are_recipes ours

    pub lower : HaveNoRigidName counterparts
    lower = kept_low signature theory setting second is_second recipes counterparts their_recipes theirs

    their_way : (w : Tree) → IsOpenWay (length kept) w → IsOpenWay (length counterparts) w
    their_way w h = subst (λ n. IsOpenWay n w) same_kept h

    -- a difference
    module _ (ways : TwoWays) (d : IsDifference kept counterparts ways) where
      closed_way : (w : Tree) → Builds kept d.tree w → IsWay (length kept) w
      closed_way w b = way_closed kept (length kept) w b.is_way (subst HasNoRigidName (sym b.gives) (low d.place d.tree d.is_kept))

      built_way : (w : Tree) → Builds kept d.tree w → IsConstructorTerm theory.shapes w
      built_way w b =
          let is_plain = kept_plain signature theory setting first is_first recipes kept are_recipes ours d.place d.tree d.is_kept in
          constructors_below theory kept w (subst (IsConstructorTerm theory.shapes) (sym b.gives) (built_weaker IsName (HasShape theory.shapes Constructor) AnyLeaf d.tree is_plain (λ x h. tt)))

      way_here : (w : Tree) → Builds kept d.tree w → HasValue theory first (put_entries recipes w) d.tree
      way_here w b = subst (HasValue theory first (put_entries recipes w)) b.gives (expanded_value theory first recipes kept ours w (closed_way w b) (built_way w b))

      way_there : (w : Tree) → Builds kept d.tree w → HasValue theory second (put_entries recipes w) (put_entries counterparts w)
      way_there w b = expanded_value theory second recipes counterparts theirs w (subst (λ n. IsWay n w) same_kept (closed_way w b)) (built_way w b)

      way_recipe : (w : Tree) → Builds kept d.tree w → IsRecipe signature (length first) (put_entries recipes w)
      way_recipe w b =
          closed_recipe signature theory setting first is_first recipes kept are_recipes ours w (closed_way w b)
          (subst (IsOver signature) (sym b.gives) (kept_over signature theory setting first is_first recipes kept are_recipes ours d.place d.tree d.is_kept))

      pub difference_separates : Separates signature theory first second (equal (put_entries recipes ways.one) (put_entries recipes ways.other))
      difference_separates = record {
        over = (way_recipe ways.one d.one_builds, way_recipe ways.other d.other_builds);
        holds = record { value = d.tree; left = way_here ways.one d.one_builds; right = way_here ways.other d.other_builds };
        fails = λ p.
            let one = evaluates_once theory setting.accepted (way_there ways.one d.one_builds) p.left in
            let other = evaluates_once theory setting.accepted (way_there ways.other d.other_builds) p.right in
            d.differ (one ∙ sym other);
      }

    module _ (one : RuleUse) (u : IsAppUseOf theory kept one) where
      abbrev pub known : IsKnownUse signature theory setting first is_first recipes kept are_recipes ours one u.g u.is_use.ways
      known = known_use signature theory setting first is_first recipes kept are_recipes ours one u

      abbrev ways : Trees
      ways = u.is_use.ways

      their_ways : AreOpenWays (length counterparts) ways
      their_ways = subst (λ n. AreOpenWays n ways) same_kept known.are_ways

      left_there : put_entries counterparts one.left ≡ app u.g (put_all counterparts ways)
      left_there = ap (put_entries counterparts) known.root

      renamed_left : (names : ℕ → ℕ) → put_entries recipes (renamed names one.left) ≡ put_entries recipes (app u.g (all_renamed names ways))
      renamed_left names = ap (λ t. put_entries recipes (renamed names t)) known.root

      left_over : (names : ℕ → ℕ) → IsRecipe signature (length first) (put_entries recipes (renamed names one.left))
      left_over names =
          let w : IsOpenWay (length kept) one.left = subst (IsOpenWay (length kept)) (sym known.root) ((tt, known.are_ways.known), (tt, known.are_ways.closed)) in
          renamed_recipe signature theory setting first is_first recipes kept are_recipes ours names one.left w known.over

      left_here : (names : ℕ → ℕ) → HasValue theory first (put_entries recipes (renamed names one.left)) (renamed names (put_entries kept one.right))
      left_here names =
          subst (λ t. HasValue theory first t (renamed names (put_entries kept one.right))) (sym (renamed_left names))
          (renamed_use theory setting.plain setting.accepted names first recipes kept ours low u.g ways known.are_ways known.built known.shape (put_entries kept one.right) known.reduces)

      -- what the recipe has there comes of the counterparts
      result_there :
          (names : ℕ → ℕ) (new : AreNew names (put_entries counterparts one.left) (put_entries counterparts one.right)) (v : Tree)
          → HasValue theory second (put_entries recipes (renamed names one.left)) v
          → Evaluates theory (put_entries counterparts one.left) (replace (taken_back names (put_entries counterparts one.left) (put_entries counterparts one.right) new) v)
      result_there names new v e =
          let there = subst (λ t. HasValue theory second t v) (renamed_left names) e in
          let r = renamed_result theory setting.plain setting.accepted names second recipes counterparts theirs lower u.g ways their_ways known.built known.shape v there in
          let b = reduct_back names (put_entries counterparts one.left) (put_entries counterparts one.right) new theory setting.plain u.g (put_all counterparts ways) v left_there r in
          let plain_there = kept_plain signature theory setting second is_second recipes counterparts their_recipes theirs in
          let back = taken_back names (put_entries counterparts one.left) (put_entries counterparts one.right) new in
          subst (λ t. Evaluates theory t (replace back v)) (sym left_there)
          (reduces_evaluates theory counterparts plain_there u.g ways their_ways known.built known.shape (replace back v) b)

      pub value_separates : (recipe : Tree) → IsValueTest theory recipes counterparts one recipe → Separates signature theory first second (succeeds recipe)
      value_separates recipe test = record {
        over = subst (IsRecipe signature (length first)) (sym test.is) (left_over test.names);
        holds = subst (λ t. Succeeds theory first t) (sym test.is) (renamed test.names (put_entries kept one.right), left_here test.names);
        fails = λ p.
            let e = subst (λ t. HasValue theory second t p.0) test.is p.1 in
            let back = taken_back test.names (put_entries counterparts one.left) (put_entries counterparts one.right) test.new in
            test.fails (replace back p.0, result_there test.names test.new p.0 e);
      }

      right_here : (names : ℕ → ℕ) → HasValue theory first (put_entries recipes (renamed names one.right)) (renamed names (put_entries kept one.right))
      right_here names = renamed_value theory setting.plain setting.accepted names first recipes kept ours low one.right known.is_way known.right_built

      right_there : (names : ℕ → ℕ) → HasValue theory second (put_entries recipes (renamed names one.right)) (renamed names (put_entries counterparts one.right))
      right_there names = renamed_value theory setting.plain setting.accepted names second recipes counterparts theirs lower one.right (their_way one.right known.is_way) known.right_built

      right_recipe : (names : ℕ → ℕ) → IsRecipe signature (length first) (put_entries recipes (renamed names one.right))
      right_recipe names = renamed_recipe signature theory setting first is_first recipes kept are_recipes ours names one.right known.is_way known.right_over

      equal_separates : (left right : Tree) → IsEqualTest theory recipes counterparts one left right → Separates signature theory first second (equal left right)
      equal_separates left right test =
          let names = test.names in
          let one_there = put_entries counterparts one.left in
          let other_there = put_entries counterparts one.right in
          let back = taken_back names one_there other_there test.new in
          record {
            over = (subst (IsRecipe signature (length first)) (sym test.left_is) (left_over names), subst (IsRecipe signature (length first)) (sym test.right_is) (right_recipe names));
            holds = record {
              value = renamed names (put_entries kept one.right);
              left = subst (λ t. HasValue theory first t (renamed names (put_entries kept one.right))) (sym test.left_is) (left_here names);
              right = subst (λ t. HasValue theory first t (renamed names (put_entries kept one.right))) (sym test.right_is) (right_here names);
            };
            fails = λ p.
                let e = subst (λ t. HasValue theory second t p.value) test.left_is p.left in
                let f = subst (λ t. HasValue theory second t p.value) test.right_is p.right in
                let same : p.value ≡ renamed names other_there = evaluates_once theory setting.accepted f (right_there names) in
                let given = evaluates_once theory setting.accepted test.evaluates (result_there names test.new p.value e) in
                test.differs (given ∙ (ap (replace back) same ∙ undone_other names one_there other_there test.new));
          }

      pub use_separates : (test : Question) → IsUseTest theory recipes counterparts one test → Separates signature theory first second (test_of test)
      use_separates (Value recipe) h = value_separates recipe h
      use_separates (Equal left right) h = equal_separates left right h
