-- Ways by their roots.
use Rattle.std.proofs.Common.{◌≡◌, ℕ, zero, suc, ◌+◌, ◌<◌, ◌≤◌, List, [], ◌∷◌, ◌++◌, length, slice_get, unwrap_or, get_or, map}
use Rattle.std.proofs.Common.{take, drop, Bool, true, false, MatchBool, Some, refl, ap, sym, subst, ◌∙◌, inl, inr, arith, drop-cons}
use Rattle.std.specs.Prelude.{◌⊎◌}
use Rattle.std.specs.Option.{option_map}
use Rattle.std.proofs.lemmas.List.{map-append, length-map, length-append, take_all, take_more, take_at, drop_at}
use Rattle.std.proofs.lemmas.Option.{none-some, slice_get_within, slice_get-get_or, unwrap_or-slice_get, get_or_from_slice_get, slice_get-map}
use Rattle.dps_terms.specs.declared.Sym.{Sym}
use Rattle.dps_terms.specs.declared.borrowed.TermView.TheVariants.{App}
use Rattle.dps_terms.specs.Tree.{Leaf, public, private, var, ax, entry, rigid, Tree, Trees, leaf, app, none, more, list_of, trees}
use Rattle.dps_terms.specs.Views.{leaf_view, view_of, arguments}
use Rattle.dps_terms.specs.Replace.{replace_all, numbered, entries_to, put_entries}
use Rattle.dps_terms.specs.Kinds.{AreBuiltOf, AnySymbol, IsNoVariable, IsKnowledgeLeaf, NoRigidName}
use Rattle.dps_static.specs.Ways.{AnyName, AnyRigid, Builds, IsNotBuilt, Composes, IsNotComposed, PutsWay, PutsComposed, IsFirst, IsNotKept}

-- a list of ways
pub record AreWays (n : ℕ) (ways : Trees) : Type 0 where
  pub closed : AreBuiltOf IsNoVariable AnySymbol ways
  pub known : AreBuiltOf (IsKnowledgeLeaf AnyName NoRigidName n) AnySymbol ways

-- a list of ways that may hold rigid names
pub record AreOpenWays (n : ℕ) (ways : Trees) : Type 0 where
  pub known : AreBuiltOf (IsKnowledgeLeaf AnyName AnyRigid n) AnySymbol ways
  pub closed : AreBuiltOf IsNoVariable AnySymbol ways

abbrev pub put_all : List Tree → Trees → Trees
put_all kept ways = replace_all (entries_to kept) ways

pub first_is_one : (kept : List Tree) (tree : Tree) (k l : ℕ) → IsFirst kept tree k → IsFirst kept tree l → k ≡ l
first_is_one kept tree k l a b =
    let not_less : k < l → ⊥ = λ h. b.none_before k h a.here in
    let not_more : l < k → ⊥ = λ h. a.none_before l h b.here in omega (arith, not_less, not_more)

-- an entry is the tree at its place
pub numbered-there : (kept : List Tree) (k : ℕ) (tree other : Tree) → slice_get kept k ≡ Some tree → numbered kept (suc k) other ≡ tree
numbered-there kept k tree other e = ap (λ o. unwrap_or o other) e

pub there-numbered : (kept : List Tree) (k : ℕ) (tree other : Tree) → k < length kept → numbered kept (suc k) other ≡ tree → slice_get kept k ≡ Some tree
there-numbered kept k tree other h e =
    slice_get-get_or kept k other h ∙ ap Some (sym (unwrap_or-slice_get kept k other) ∙ e)

-- a way is an entry alone, or more
pub record IsEntryWay (kept : List Tree) (tree way : Tree) : Type 0 where
  pub place : ℕ
  pub is : way ≡ leaf (entry (suc place))
  pub there : slice_get kept place ≡ Some tree

entry_or_more : (kept : List Tree) (tree : Tree) (x : Leaf) → Builds kept tree (leaf x) → IsEntryWay kept tree (leaf x) ⊎ Composes kept tree (leaf x)
entry_or_more kept tree (public a) b = inr (record { builds = b; root = tt })
entry_or_more kept tree (private n) b = inr (record { builds = b; root = tt })
entry_or_more kept tree (var n) b = inr (record { builds = b; root = tt })
entry_or_more kept tree (ax j) b = inr (record { builds = b; root = tt })
entry_or_more kept tree (rigid n) b = inr (record { builds = b; root = tt })
entry_or_more kept tree (entry zero) b = absurd (let h = b.is_way.0.0 in omega (arith, h))
entry_or_more kept tree (entry (suc k)) b =
    let h = b.is_way.0.1 in
    inl (record { place = k; is = refl; there = there-numbered kept k tree (leaf (entry (suc k))) (omega (arith, h)) b.gives })

pub entry_or_composed : (kept : List Tree) (tree way : Tree) → Builds kept tree way → IsEntryWay kept tree way ⊎ Composes kept tree way
entry_or_composed kept tree (leaf x) b = entry_or_more kept tree x b
entry_or_composed kept tree (app f ts) b = inr (record { builds = b; root = tt })

-- a composed leaf is a public or a rigid name
pub leaf_gives : (kept : List Tree) (tree : Tree) (x : Leaf) → Composes kept tree (leaf x) → leaf x ≡ tree
leaf_gives kept tree (public a) c = c.builds.gives
leaf_gives kept tree (private n) c = absurd c.builds.is_way.0
leaf_gives kept tree (var n) c = absurd c.builds.is_way.1
leaf_gives kept tree (ax j) c = absurd c.builds.is_way.0
leaf_gives kept tree (entry i) c = absurd c.root
leaf_gives kept tree (rigid n) c = c.builds.gives

pub composed_leaf : (kept : List Tree) (x : Leaf) (way : Tree) → Composes kept (leaf x) way → way ≡ leaf x
composed_leaf kept x (leaf y) c = leaf_gives kept (leaf x) y c
composed_leaf kept x (app f ts) c = let e = c.builds.gives in cc

-- a way that composes a symbol over trees is the symbol over ways
pub record IsAppWay (kept : List Tree) (f : Sym) (ts : Trees) (way : Tree) : Type 0 where
  pub arguments : Trees
  pub is : way ≡ app f arguments
  pub are_ways : AreOpenWays (length kept) arguments
  pub give : put_all kept arguments ≡ ts

pub composed_app : (kept : List Tree) (f : Sym) (ts : Trees) (way : Tree) → Composes kept (app f ts) way → IsAppWay kept f ts way
composed_app kept f ts (leaf x) c = absurd (let e : leaf x ≡ app f ts = leaf_gives kept (app f ts) x c in cc)
composed_app kept f ts (app g us) c =
    let e : app g (put_all kept us) ≡ app f ts = c.builds.gives in
    let m : g ≡ f = cc in
    record {
      arguments = us;
      is = ap (λ s. app s us) m;
      are_ways = record { known = c.builds.is_way.0.1; closed = c.builds.is_way.1.1 };
      give = cc;
    }

-- ways as a list
pub record AreListedWays (n : ℕ) (ways : List Tree) : Type 0 where
  pub known : AreBuiltOf (IsKnowledgeLeaf AnyName AnyRigid n) AnySymbol (trees ways)
  pub closed : AreBuiltOf IsNoVariable AnySymbol (trees ways)

-- the ways of the last arguments, put in front one after another
pub record ArePutWays (kept ts old new : List Tree) : Type 0 where
  pub ways : List Tree
  pub listed : AreListedWays (length kept) ways
  pub give : map (put_entries kept) ways ≡ ts
  pub put : new ≡ ways ++ old

pub no_ways_put : (kept ts old : List Tree) → ts ≡ [] → ArePutWays kept ts old old
no_ways_put kept ts old e = record { ways = []; listed = record { known = tt; closed = tt }; give = sym e; put = refl }

pub one_way_put :
    (kept ts old now new : List Tree) (i : ℕ) (t : Tree) → slice_get ts i ≡ Some t → ArePutWays kept (drop (i + 1) ts) old now → PutsWay kept t now new
    → ArePutWays kept (drop i ts) old new
one_way_put kept ts old now new i t there behind p =
    let here : drop i ts ≡ t ∷ drop (i + 1) ts =
    drop-cons ts i t (slice_get_within ts i t there)
    ∙ (λ j. get_or_from_slice_get ts i t t there j ∷ drop ((let e : suc i ≡ i + 1 = omega arith in e) j) ts) in
    rw here (record {
      ways = p.way ∷ behind.ways;
      listed = record { known = (p.builds.is_way.0, behind.listed.known); closed = (p.builds.is_way.1, behind.listed.closed) };
      give = (λ j. p.builds.gives j ∷ behind.give j);
      put = p.put ∙ ap (λ us. p.way ∷ us) behind.put;
    })

pub put_all-trees : (kept ts : List Tree) → put_all kept (trees ts) ≡ trees (map (put_entries kept) ts)
put_all-trees kept [] = refl
put_all-trees kept (t ∷ ts) = ap (more (put_entries kept t)) (put_all-trees kept ts)

pub trees-list_of : (ts : Trees) → trees (list_of ts) ≡ ts
trees-list_of none = refl
trees-list_of (more t ts) = ap (more t) (trees-list_of ts)

-- a leaf shows no symbol
pub no_app_leaf : (x : Leaf) (f : Sym) → App f ≡ leaf_view x → ⊥
no_app_leaf (public n) f v = cc
no_app_leaf (private n) f v = cc
no_app_leaf (var n) f v = cc
no_app_leaf (ax n) f v = cc
no_app_leaf (entry n) f v = cc
no_app_leaf (rigid n) f v = cc

-- a symbol over ways that build the arguments
pub composes_app :
    (kept : List Tree) (f : Sym) (tree : Tree) (ways : List Tree) → App f ≡ view_of tree → AreListedWays (length kept) ways
    → map (put_entries kept) ways ≡ arguments tree → Composes kept tree (app f (trees ways))
composes_app kept f (app g ts) ways v a e =
    let m : f ≡ g = cc in
    record {
      builds = record {
        is_way = ((tt, a.known), (tt, a.closed));
        gives = (λ i. app (m i) ((put_all-trees kept ways ∙ ap trees e ∙ trees-list_of ts) i));
      };
      root = tt;
    }
composes_app kept f (leaf x) ways v a e = absurd (no_app_leaf x f v)

-- the ways of all arguments are in front
pub all_in_front : (kept ts old new : List Tree) (n : ℕ) → n ≡ length ts → ArePutWays kept ts old new → n ≤ length new
all_in_front kept ts old new n e p =
    let many : length p.ways ≡ length ts = sym (length-map p.ways (put_entries kept)) ∙ ap length p.give in
    omega (arith, e, many, ap length p.put, length-append p.ways old)

pub composed_put :
    (kept old now new : List Tree) (f : Sym) (tree : Tree) (n : ℕ) → App f ≡ view_of tree → n ≡ length (arguments tree)
    → ArePutWays kept (arguments tree) old now → new ≡ app f (trees (take n now)) ∷ drop n now → PutsComposed kept tree old new
composed_put kept old now new f tree n v e p put =
    let many : length p.ways ≡ n = sym (length-map p.ways (put_entries kept)) ∙ ap length p.give ∙ sym e in
    let front : take n now ≡ p.ways = ap (take n) p.put ∙ take_at p.ways old n many in
    let rest : drop n now ≡ old = ap (drop n) p.put ∙ drop_at p.ways old n many in
    record {
      way = app f (trees p.ways);
      composes = composes_app kept f tree p.ways v p.listed p.give;
      put = put ∙ (λ j. app f (trees (front j)) ∷ rest j);
    }

-- where an argument is built in no way, the tree is composed in none
nth_way :
    (kept : List Tree) (ts ways : Trees) (i : ℕ) (tree : Tree) → AreOpenWays (length kept) ways → put_all kept ways ≡ ts → slice_get (list_of ts) i ≡ Some tree
    → (way : Tree) × Builds kept tree way
nth_way kept none none i tree a e d = absurd (none-some tree d)
nth_way kept (more t ts) (more w ws) zero tree a e d =
    let m : put_entries kept w ≡ tree = cc in (w, record { is_way = (a.known.0, a.closed.0); gives = m })
nth_way kept (more t ts) (more w ws) (suc i) tree a e d =
    let m : put_all kept ws ≡ ts = cc in nth_way kept ts ws i tree (record { known = a.known.1; closed = a.closed.1 }) m d
nth_way kept _ _ i tree a e d = absurd (let z = e in cc)

pub argument_not_built : (kept : List Tree) (tree argument : Tree) (i : ℕ) → slice_get (arguments tree) i ≡ Some argument → IsNotBuilt kept argument → IsNotComposed kept tree
argument_not_built kept (leaf x) argument i d nothing way c = absurd (none-some argument d)
argument_not_built kept (app f ts) argument i d nothing way c =
    let p = composed_app kept f ts way c in
    let w = nth_way kept ts p.arguments i argument p.are_ways p.give d in nothing w.0 w.1

-- a symbol over ways builds a tree where the ways build the arguments
pub put_all-list_of : (kept : List Tree) (ts : Trees) → list_of (put_all kept ts) ≡ map (put_entries kept) (list_of ts)
put_all-list_of kept none = refl
put_all-list_of kept (more t ts) = λ i. put_entries kept t ∷ put_all-list_of kept ts i

module _ (kept : List Tree) where
  pub arguments_built : (way tree : Tree) (f : Sym) → App f ≡ view_of way → put_entries kept way ≡ tree → map (put_entries kept) (arguments way) ≡ arguments tree
  arguments_built (leaf x) tree f v e = absurd (no_app_leaf x f v)
  arguments_built (app g ws) tree f v e = sym (put_all-list_of kept ws) ∙ ap arguments e

  pub arities_built : (way tree : Tree) (f : Sym) → App f ≡ view_of way → put_entries kept way ≡ tree → length (arguments way) ≡ length (arguments tree)
  arities_built way tree f v e = sym (length-map (arguments way) (put_entries kept)) ∙ ap length (arguments_built way tree f v e)

  pub argument_built :
      (way tree : Tree) (f : Sym) (i : ℕ) (w t : Tree) → App f ≡ view_of way → put_entries kept way ≡ tree → slice_get (arguments way) i ≡ Some w
      → slice_get (arguments tree) i ≡ Some t → put_entries kept w ≡ t
  argument_built way tree f i w t v e a b =
      let there : slice_get (map (put_entries kept) (arguments way)) i ≡ Some (put_entries kept w) = slice_get-map (put_entries kept) (arguments way) i ∙ ap (option_map (put_entries kept)) a in
      let m : Some (put_entries kept w) ≡ Some t = sym there ∙ ap (λ us. slice_get us i) (arguments_built way tree f v e) ∙ b in cc

  pub whole_built : (way tree : Tree) (f : Sym) → App f ≡ view_of way → App f ≡ view_of tree → map (put_entries kept) (arguments way) ≡ arguments tree → put_entries kept way ≡ tree
  whole_built (leaf x) tree f v u e = absurd (no_app_leaf x f v)
  whole_built (app g ws) (leaf x) f v u e = absurd (no_app_leaf x f u)
  whole_built (app g ws) (app h ts) f v u e =
      let m : g ≡ h = cc in
      λ i. app (m i) ((sym (trees-list_of (put_all kept ws)) ∙ ap trees (put_all-list_of kept ws ∙ e) ∙ trees-list_of ts) i)

-- one more argument
pub alike_further :
    (F : Tree → Tree) (xs ys : List Tree) (i : ℕ) (x y : Tree) → map F (take i xs) ≡ take i ys → slice_get xs i ≡ Some x → slice_get ys i ≡ Some y → F x ≡ y
    → map F (take (i + 1) xs) ≡ take (i + 1) ys
alike_further F xs ys i x y e a b m =
    let h = slice_get_within xs i x a in
    let k = slice_get_within ys i y b in
    let at_x : get_or xs i x ≡ x = get_or_from_slice_get xs i x x a in
    let at_y : get_or ys i y ≡ y = get_or_from_slice_get ys i y y b in
    ap (map F) (take_more xs i x h)
    ∙ map-append F (take i xs) (get_or xs i x ∷ [])
    ∙ (λ j. e j ++ (ap F at_x ∙ m ∙ sym at_y) j ∷ [])
    ∙ sym (take_more ys i y k)

pub all_alike_taken : (F : Tree → Tree) (xs ys : List Tree) (i : ℕ) → map F (take i xs) ≡ take i ys → length xs ≤ i → length ys ≤ i → map F xs ≡ ys
all_alike_taken F xs ys i e h k = ap (map F) (sym (take_all i xs h)) ∙ e ∙ take_all i ys k

-- the entry of a kept tree builds it
pub entry_builds : (kept : List Tree) (tree way : Tree) (i : ℕ) → IsFirst kept tree i → way ≡ leaf (entry (suc i)) → Builds kept tree way
entry_builds kept tree way i first e =
    let l = slice_get_within kept i tree first.here in
    subst (Builds kept tree) (sym e) (record {
      is_way = ((omega arith, omega (arith, l)), tt);
      gives = numbered-there kept i tree (leaf (entry (suc i))) first.here;
    })

pub entry_put : (kept : List Tree) (tree : Tree) (i : ℕ) (old new : List Tree) → IsFirst kept tree i → new ≡ leaf (entry (suc i)) ∷ old → PutsWay kept tree old new
entry_put kept tree i old new first e = record { way = leaf (entry (suc i)); builds = entry_builds kept tree (leaf (entry (suc i))) i first refl; put = e }

-- what is not kept is built where it is composed
pub built_composed :
    (kept : List Tree) (tree : Tree) (found : Bool) (old new : List Tree) → IsNotKept kept tree
    → MatchBool found (PutsComposed kept tree old new) (IsNotComposed kept tree) → MatchBool found (PutsWay kept tree old new) (IsNotBuilt kept tree)
built_composed kept tree true old new never c = record { way = c.way; builds = c.composes.builds; put = c.put }
built_composed kept tree false old new never c =
    λ way b.
    elim (entry_or_composed kept tree way b) [
      | inl e ↦ never e.place e.there
      | inr d ↦ c way d
    ]

-- the one way that is there
pub the_way : (kept : List Tree) (tree way : Tree) (stack : List Tree) → PutsWay kept tree [] stack → stack ≡ way ∷ [] → Builds kept tree way
the_way kept tree way stack p e = let m : p.way ∷ [] ≡ way ∷ [] = sym p.put ∙ e in let same : p.way ≡ way = cc in subst (Builds kept tree) same p.builds

pub the_composed : (kept : List Tree) (tree way : Tree) (stack : List Tree) → PutsComposed kept tree [] stack → stack ≡ way ∷ [] → Composes kept tree way
the_composed kept tree way stack p e = let m : p.way ∷ [] ≡ way ∷ [] = sym p.put ∙ e in let same : p.way ≡ way = cc in subst (Composes kept tree) same p.composes
