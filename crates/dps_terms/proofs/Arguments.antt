-- Arguments as a list, and leaves as they are kept.
use Rattle.std.proofs.Common.{◌≡◌, ℕ, zero, suc, arith, List, [], ◌∷◌, map, take, length, ◌≤◌, ◌<◌, get_or, ap, ◌∙◌, refl}
use Rattle.std.proofs.lemmas.List.{take_all}
use Rattle.dps_terms.specs.Tree.{Leaf, public, private, var, ax, entry, rigid, Tree, app, more, trees, node_count, count}
use Rattle.dps_terms.specs.Replace.{replace, replace_all}
use Rattle.dps_terms.specs.Views.{leaf_view}
use Rattle.dps_terms.specs.declared.Sym.{Sym}
use Rattle.dps_terms.specs.declared.borrowed.TermView.TheVariants.{App}

-- what shows the same is the same leaf
pub same_view : (x y : Leaf) → leaf_view x ≡ leaf_view y → x ≡ y
same_view (public m) (public n) e = let d : m ≡ n = cc in ap public d
same_view (private m) (private n) e = let d : m ≡ n = cc in ap private d
same_view (var m) (var n) e = let d : m ≡ n = cc in ap var d
same_view (ax m) (ax n) e = let d : m ≡ n = cc in ap ax d
same_view (entry m) (entry n) e = let d : m ≡ n = cc in ap entry d
same_view (rigid m) (rigid n) e = let d : m ≡ n = cc in ap rigid d
same_view _ _ e = cc

-- a leaf shows no symbol
pub leaf_is_no_app : (x : Leaf) (f : Sym) → leaf_view x ≡ App f → ⊥
leaf_is_no_app (public m) f e = cc
leaf_is_no_app (private m) f e = cc
leaf_is_no_app (var m) f e = cc
leaf_is_no_app (ax m) f e = cc
leaf_is_no_app (entry m) f e = cc
leaf_is_no_app (rigid m) f e = cc

-- the arguments one by one
pub replace_trees : (f : Leaf → Tree) (ts : List Tree) → replace_all f (trees ts) ≡ trees (map (replace f) ts)
replace_trees f [] = refl
replace_trees f (t ∷ ts) = ap (more (replace f t)) (replace_trees f ts)

-- what a loop over all arguments made
pub rebuilt : (F : Tree → Tree) (f : Sym) (ys xs : List Tree) (i : ℕ) → ys ≡ map F (take i xs) → length xs ≤ i → app f (trees ys) ≡ app f (trees (map F xs))
rebuilt F f ys xs i e h = ap (λ zs. app f (trees zs)) (e ∙ ap (map F) (take_all i xs h))

-- what one more turn of it makes

-- an argument has fewer nodes than the term
pub argument_lt : (f : Sym) (xs : List Tree) (i : ℕ) (d : Tree) → i < length xs → node_count (get_or xs i d) < node_count (app f (trees xs))
argument_lt f [] i d h = absurd (omega arith)
argument_lt f (x ∷ xs) zero d h = omega arith
argument_lt f (x ∷ xs) (suc i) d h = let k = argument_lt f xs i d (omega arith) in omega arith

pub count-trees : (xs : List Tree) → count (trees xs) ≡ length xs
count-trees [] = refl
count-trees (x ∷ xs) = let h = count-trees xs in omega arith
