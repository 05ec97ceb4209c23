-- Uses of rules by the roots of their left sides, and ways over plain trees.
use Rattle.std.proofs.Common.{◌≡◌, ℕ, zero, suc, ◌<◌, List, length, slice_get, get_or, Some, refl, sym, subst, arith, inl, inr}
use Rattle.std.proofs.lemmas.Option.{slice_get-get_or}
use Rattle.dps_terms.specs.declared.Sym.{Sym}
use Rattle.dps_signature.specs.declared.SymKind.TheVariants.{Constructor, Destructor}
use Rattle.dps_terms.specs.Tree.{Leaf, public, private, var, ax, entry, rigid, Tree, Trees, leaf, app, none, more, count}
use Rattle.dps_terms.specs.Replace.{substitute, substitute_all, entries_to, put_entries}
use Rattle.dps_terms.specs.Bindings.{bound}
use Rattle.dps_signature.specs.Signature.{HasShape}
use Rattle.dps_terms.specs.Kinds.{AreBuiltOf, IsName}
use Rattle.dps_signature.specs.Kinds.{IsPlain, IsConstructorTerm, AreConstructorTerms}
use Rattle.dps_terms.proofs.Building.{count-replace_all}
use Rattle.dps_theory.specs.Theory.{Rule, Theory, HasRule, IsAccepted, HasDestructorRoot}
use Rattle.dps_theory.specs.Evaluation.{Evaluates, Reduces}
use Rattle.dps_theory.proofs.Evaluating.{one_kind, plain_evaluate, plain_all_alone}
use Rattle.dps_recipes.proofs.Valuing.{applied_at, gives_value}
use Rattle.dps_static.specs.Ways.{IsOpenWay, Composes}
use Rattle.dps_static.specs.Generic.{generic}
use Rattle.dps_static.specs.Binding.{IsPartOf}
use Rattle.dps_static.specs.Uses.{IsUse, IsUseOf}
use Rattle.dps_static.specs.declared.uses.RuleUse.{RuleUse}
use Rattle.dps_static.proofs.Ways.{AreOpenWays, put_all, numbered-there, composed_app}

-- ways of constructors over plain trees build plain trees
module _ (theory : Theory) (kept : List Tree) (all_plain : (k : ℕ) (t : Tree) → slice_get kept k ≡ Some t → IsPlain theory.shapes t) where
  entry_plain : (i : ℕ) → IsOpenWay (length kept) (leaf (entry i)) → IsPlain theory.shapes (put_entries kept (leaf (entry i)))
  entry_plain zero h = absurd (let l = h.0.0 in omega (arith, l))
  entry_plain (suc k) h =
      let l = h.0.1 in
      let e = slice_get-get_or kept k (leaf (entry (suc k))) (omega (arith, l)) in
      subst (IsPlain theory.shapes) (sym (numbered-there kept k (get_or kept k (leaf (entry (suc k)))) (leaf (entry (suc k))) e)) (all_plain k _ e)

  leaf_plain : (x : Leaf) → IsOpenWay (length kept) (leaf x) → IsPlain theory.shapes (put_entries kept (leaf x))
  leaf_plain (public a) h = tt
  leaf_plain (rigid n) h = tt
  leaf_plain (entry i) h = entry_plain i h
  leaf_plain (private n) h = absurd h.0
  leaf_plain (var n) h = absurd h.1
  leaf_plain (ax j) h = absurd h.0

  mutual
    pub way_plain : (w : Tree) → IsOpenWay (length kept) w → IsConstructorTerm theory.shapes w → IsPlain theory.shapes (put_entries kept w)
    way_plain (leaf x) h c = leaf_plain x h
    way_plain (app f ws) h c =
        (subst (HasShape theory.shapes Constructor f) (sym (count-replace_all (entries_to kept) ws)) c.0, ways_plain ws (record { known = h.0.1; closed = h.1.1 }) c.1)

    pub ways_plain : (ws : Trees) → AreOpenWays (length kept) ws → AreConstructorTerms theory.shapes ws → AreBuiltOf IsName (HasShape theory.shapes Constructor) (put_all kept ws)
    ways_plain none h c = tt
    ways_plain (more w ws) h c =
        (way_plain w (h.known.0, h.closed.0) c.0, ways_plain ws (record { known = h.known.1; closed = h.closed.1 }) c.1)

  -- a destructor over such ways evaluates as it reduces
  module _ (g : Sym) (ws : Trees) (are : AreOpenWays (length kept) ws) (built : AreConstructorTerms theory.shapes ws) (shape : HasShape theory.shapes Destructor g (count ws)) where
    put_shape : HasShape theory.shapes Destructor g (count (put_all kept ws))
    put_shape = subst (HasShape theory.shapes Destructor g) (sym (count-replace_all (entries_to kept) ws)) shape

    pub evaluates_reduces : (v : Tree) → Evaluates theory (app g (put_all kept ws)) v → Reduces theory g (put_all kept ws) v
    evaluates_reduces v e =
        let a = applied_at theory e in
        let same : a.values ≡ put_all kept ws = plain_all_alone theory a.all (ways_plain ws are built) in
        elim a.gives [
          | inl p ↦ absurd (one_kind theory.shapes g (count a.values) (count (put_all kept ws)) p.0 put_shape)
          | inr p ↦ subst (λ vs. Reduces theory g vs v) same p.1
        ]

    pub reduces_evaluates : (v : Tree) → Reduces theory g (put_all kept ws) v → Evaluates theory (app g (put_all kept ws)) v
    reduces_evaluates v r = gives_value theory g (put_all kept ws) (put_all kept ws) v (plain_evaluate theory (put_all kept ws) (ways_plain ws are built)) (inr (put_shape, r))

-- what builds a tree of constructors is of constructors
module _ (theory : Theory) (kept : List Tree) where
  mutual
    pub constructors_below : (w : Tree) → IsConstructorTerm theory.shapes (put_entries kept w) → IsConstructorTerm theory.shapes w
    constructors_below (leaf x) h = tt
    constructors_below (app f ws) h = (subst (HasShape theory.shapes Constructor f) (count-replace_all (entries_to kept) ws) h.0, all_constructors_below ws h.1)

    pub all_constructors_below : (ws : Trees) → AreConstructorTerms theory.shapes (put_all kept ws) → AreConstructorTerms theory.shapes ws
    all_constructors_below none h = tt
    all_constructors_below (more w ws) h = (constructors_below w h.0, all_constructors_below ws h.1)

-- a use of a rule by the root of its left side
pub record IsAppUse (kept : List Tree) (g : Sym) (patterns : Trees) (right : Tree) (s : List (ℕ × Tree)) (one : RuleUse) : Type 0 where
  pub ways : Trees
  pub root : one.left ≡ app g ways
  pub are_ways : AreOpenWays (length kept) ways
  pub builds : put_all kept ways ≡ substitute_all (generic s) patterns
  pub is_way : IsOpenWay (length kept) one.right
  pub gives : put_entries kept one.right ≡ substitute (generic s) right

pub app_use :
    (kept : List Tree) (rule : Rule) (g : Sym) (patterns : Trees) (s : List (ℕ × Tree)) (one : RuleUse) → rule.left ≡ app g patterns → IsUse kept rule s one
    → IsAppUse kept g patterns rule.right s one
app_use kept rule g patterns s one left u =
    let a = composed_app kept g (substitute_all (generic s) patterns) one.left (subst (λ t. Composes kept (substitute (generic s) t) one.left) left u.composes) in
    record { ways = a.arguments; root = a.is; are_ways = a.are_ways; builds = a.give; is_way = u.builds.is_way; gives = u.builds.gives }

abbrev pub BindsParts : List Tree → List (ℕ × Tree) → Type 0
BindsParts kept s = (n : ℕ) (t : Tree) → bound s n ≡ Some t → IsPartOf kept t

pub record IsAppUseOf (theory : Theory) (kept : List Tree) (one : RuleUse) : Type 0 where
  pub rule : Rule
  pub listed : HasRule theory rule
  pub g : Sym
  pub patterns : Trees
  pub left : rule.left ≡ app g patterns
  pub by : List (ℕ × Tree)
  pub parts : BindsParts kept by
  pub is_use : IsAppUse kept g patterns rule.right by one

-- a left side has a symbol at its root
pub record HasRoot (t : Tree) : Type 0 where
  pub g : Sym
  pub patterns : Trees
  pub is : t ≡ app g patterns

has_root : (theory : Theory) (t : Tree) → HasDestructorRoot theory.shapes t → HasRoot t
has_root theory (leaf x) h = absurd h
has_root theory (app g ps) h = record { g = g; patterns = ps; is = refl }

pub app_use_of : (theory : Theory) → IsAccepted theory → (kept : List Tree) (one : RuleUse) → IsUseOf theory kept one → IsAppUseOf theory kept one
app_use_of theory accepted kept one u =
    let r = has_root theory u.rule.left (accepted.root u.rule u.listed) in
    record {
      rule = u.rule;
      listed = u.listed;
      g = r.g;
      patterns = r.patterns;
      left = r.is;
      by = u.by;
      parts = u.parts.parts;
      is_use = app_use kept u.rule r.g r.patterns u.by one r.is u.is_use;
    }

-- each tree at a place of one list has one at that place of the other
pub record IsThere (ts : List Tree) (k : ℕ) : Type 0 where
  pub tree : Tree
  pub there : slice_get ts k ≡ Some tree

pub is_there : (ts : List Tree) (k : ℕ) → k < length ts → IsThere ts k
is_there ts k h = record { tree = get_or ts k (leaf (ax 0)); there = slice_get-get_or ts k (leaf (ax 0)) h }
