-- Terms with what their locals stand for.
use Rattle.std.proofs.Common.{◌≡◌, ℕ, zero, suc, ◌+◌, inl, inr, ◌≤◌, List, [], ◌∷◌, length, take, drop, map, refl, ap, sym, ◌∙◌, arith, drop-cons}
use Rattle.dps_terms.specs.declared.Sym.{Sym}
use Rattle.dps_terms.specs.declared.borrowed.TermView.TheVariants.{App, Var}
use Rattle.dps_terms.specs.Tree.{Leaf, public, private, var, ax, entry, rigid, Tree, Trees, leaf, app, none, more, trees, list_of, node_count, node_counts}
use Rattle.dps_terms.specs.Replace.{replace, replace_all, variables_to}
use Rattle.dps_terms.specs.Views.{view_of, arguments}
use Rattle.dps_elab.specs.Expansion.{Value, value_at, tree_in}
use Rattle.dps_elab.specs.Limits.{height, heights}
use Rattle.dps_elab.specs.Writing.{IsBuiltWithin, IsPut, ArePut, IsTooLargeTerm, AreTooLarge}
use Rattle.std.specs.Prelude.{slice_get, Some}
use Rattle.std.proofs.lemmas.Option.{none-some, slice_get_within, get_or_from_slice_get}
use Rattle.std.proofs.lemmas.List.{length-map, length-append, take_at, drop_at}

substituted : (f : Leaf → Tree) (ts : Trees) → replace_all f ts ≡ trees (map (replace f) (list_of ts))
substituted f none = refl
substituted f (more t ts) = ap (more (replace f t)) (substituted f ts)

-- a term whose root is a symbol
pub app_viewed : (locals : List Value) (t : Tree) (f : Sym) → view_of t ≡ App f → tree_in locals t ≡ app f (trees (map (tree_in locals) (arguments t)))
app_viewed locals (leaf (public n)) f e = absurd (cc)
app_viewed locals (leaf (private n)) f e = absurd (cc)
app_viewed locals (leaf (var n)) f e = absurd (cc)
app_viewed locals (leaf (ax n)) f e = absurd (cc)
app_viewed locals (leaf (entry n)) f e = absurd (cc)
app_viewed locals (leaf (rigid n)) f e = absurd (cc)
app_viewed locals (app g ts) f e = let same : g ≡ f = cc in λ i. app (same i) (substituted (variables_to (λ n. (value_at locals n).tree)) ts i)

pub var_viewed : (locals : List Value) (t : Tree) (n : ℕ) → view_of t ≡ Var n → tree_in locals t ≡ (value_at locals n).tree
var_viewed locals (leaf (public m)) n e = absurd (cc)
var_viewed locals (leaf (private m)) n e = absurd (cc)
var_viewed locals (leaf (var m)) n e = let same : m ≡ n = cc in ap (λ k. (value_at locals k).tree) same
var_viewed locals (leaf (ax m)) n e = absurd (cc)
var_viewed locals (leaf (entry m)) n e = absurd (cc)
var_viewed locals (leaf (rigid m)) n e = absurd (cc)
var_viewed locals (app g ts) n e = absurd (cc)

-- A symbol over arguments: its node is taken first.
pub put_app : (nodes_left mid left depth below : ℕ) (locals : List Value) (t : Tree) (f : Sym) (n : ℕ) (old now new : List Tree) → view_of t ≡ App f → n ≡ length (arguments t)
    → mid + 1 ≡ nodes_left → below + 1 ≡ depth → ArePut mid left below (map (tree_in locals) (arguments t)) old now → new ≡ app f (trees (take n now)) ∷ drop n now
    → IsPut nodes_left left depth (tree_in locals t) old new
put_app nodes_left mid left depth below locals t f n old now new v m a b h e =
    let shape = app_viewed locals t f v in
    let ts : List Tree = map (tree_in locals) (arguments t) in
    let many : length ts ≡ n = length-map (arguments t) (tree_in locals) ∙ sym m in
    let front : take n now ≡ ts = ap (take n) h.put ∙ take_at ts old n many in
    let rest : drop n now ≡ old = ap (drop n) h.put ∙ drop_at ts old n many in
    rw shape (record {
      put = e ∙ (λ i. app f (trees (front i)) ∷ rest i);
      nodes = omega (arith, h.nodes);
      low = omega (arith, h.low);
    })

-- the arguments are in front
pub all_in_front : (F : Tree → Tree) (nodes_left left depth : ℕ) (ts old new : List Tree) (n : ℕ) → n ≡ length ts → ArePut nodes_left left depth (map F ts) old new → n ≤ length new
all_in_front F nodes_left left depth ts old new n e h = omega (arith, e, length-map ts F, ap length h.put, length-append (map F ts) old)

pub large_app :
    (nodes_left mid depth below : ℕ) (locals : List Value) (t : Tree) (f : Sym) → view_of t ≡ App f → mid + 1 ≡ nodes_left → below + 1 ≡ depth
    → AreTooLarge mid below (map (tree_in locals) (arguments t)) → IsTooLargeTerm nodes_left depth (tree_in locals t)
large_app nodes_left mid depth below locals t f v a b h = let shape = app_viewed locals t f v in rw shape (by h)
  where
    by : AreTooLarge mid below (map (tree_in locals) (arguments t)) → IsTooLargeTerm nodes_left depth (app f (trees (map (tree_in locals) (arguments t))))
    by (inl k) = inl (omega arith)
    by (inr k) = inr (omega arith)

-- one more argument, before those that are there
pub put_more : (F : Tree → Tree) (nodes_left now left depth : ℕ) (xs old mid new : List Tree) (i : ℕ) (x : Tree) → slice_get xs i ≡ Some x
    → ArePut nodes_left now depth (map F (drop (i + 1) xs)) old mid → IsPut now left depth (F x) mid new → ArePut nodes_left left depth (map F (drop i xs)) old new
put_more F nodes_left now left depth xs old mid new i x e h k =
    let here : drop i xs ≡ x ∷ drop (i + 1) xs =
    drop-cons xs i x (slice_get_within xs i x e)
    ∙ (λ j. get_or_from_slice_get xs i x x e j ∷ drop ((let m : suc i ≡ i + 1 = omega arith in m) j) xs) in
    rw here (record {
      put = k.put ∙ ap (λ ts. F x ∷ ts) h.put;
      nodes = omega (arith, h.nodes, k.nodes);
      low = omega (arith, h.low, k.low);
    })

part_counts : (F : Tree → Tree) (xs : List Tree) (i : ℕ) (x : Tree) → slice_get xs i ≡ Some x → node_counts (trees (map F (drop (suc i) xs))) + node_count (F x) ≤ node_counts (trees (map F xs))
part_counts F [] i x e = absurd (none-some x e)
part_counts F (y ∷ xs) zero x e = let same : y ≡ x = cc in omega (arith, ap (λ t. node_count (F t)) same)
part_counts F (y ∷ xs) (suc i) x e = omega (arith, part_counts F xs i x e)

part_heights : (F : Tree → Tree) (xs : List Tree) (i : ℕ) (x : Tree) → slice_get xs i ≡ Some x → height (F x) ≤ heights (trees (map F xs))
part_heights F [] i x e = absurd (none-some x e)
part_heights F (y ∷ xs) zero x e = let same : y ≡ x = cc in omega (arith, ap (λ t. height (F t)) same)
part_heights F (y ∷ xs) (suc i) x e = omega (arith, part_heights F xs i x e)

pub large_more :
    (F : Tree → Tree) (nodes_left now depth : ℕ) (xs old mid : List Tree) (i : ℕ) (x : Tree) → ArePut nodes_left now depth (map F (drop (i + 1) xs)) old mid
    → slice_get xs i ≡ Some x → IsTooLargeTerm now depth (F x) → AreTooLarge nodes_left depth (map F xs)
large_more F nodes_left now depth xs old mid i x h a (inl k) =
    let one : suc i ≡ i + 1 = omega arith in
    inl (omega (arith, part_counts F xs i x a, h.nodes, ap (λ j. node_counts (trees (map F (drop j xs)))) one))
large_more F nodes_left now depth xs old mid i x h a (inr k) = inr (omega (arith, part_heights F xs i x a))

-- the one term that is there
pub the_built : (nodes_left left depth : ℕ) (t built : Tree) (new : List Tree) → IsPut nodes_left left depth t [] new → new ≡ built ∷ [] → IsBuiltWithin nodes_left left depth t built
the_built nodes_left left depth t built new h e = let m : built ∷ [] ≡ t ∷ [] = sym e ∙ h.put in record { same = cc; nodes = h.nodes; low = h.low }
