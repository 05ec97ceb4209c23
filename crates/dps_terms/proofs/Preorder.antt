-- Trees and their cells give each other.
use Rattle.std.proofs.Common.{◌≡◌, ℕ, zero, suc, ◌+◌, ◌≤◌, ◌<◌, List, [], ◌∷◌, ◌++◌, ◌-◌, subst, length, get_or, take, drop, add-one, drop-cons, refl, ap, sym, ◌∙◌, arith, append_assoc, length-append}
use Rattle.std.specs.Prelude.{Bool, true, false, ◌&&◌, nat_le, slice_get, Some}
use Rattle.std.proofs.lemmas.List.{append-nil, take_all, drop_all, take-append-le, drop-append-le}
use Rattle.std.proofs.lemmas.Bool.{le-leb}
use Rattle.std.specs.Cmp.Derive.{both_true}
use Rattle.std.proofs.lemmas.List.Sums.{fold-append}
use Rattle.std.specs.Prelude.{nat_eq}
use Rattle.indexmap.specs.IndexSet.{insert_key, insert_all}
use Rattle.dps_terms.specs.Variables.{variable_of, occurrences, all_occurrences}
use Rattle.dps_terms.proofs.Arguments.{count-trees}
use Rattle.std.proofs.lemmas.Option.{none-some}
use Rattle.dps_terms.specs.declared.Sym.{Sym}
use Rattle.dps_terms.specs.declared.PublicName.TheVariants.{Declared, At}
use Rattle.dps_terms.specs.declared.cells.Cell.{Cell}
use Rattle.dps_terms.specs.declared.cells.Cell.TheVariants.{App}
use Rattle.dps_terms.specs.Tree.{Leaf, public, private, var, ax, entry, rigid, Tree, Trees, leaf, app, none, more, count, list_of, trees, node_count, node_counts}
use Rattle.dps_terms.specs.Views.{arguments}
use Rattle.dps_terms.specs.Cells.{cell_of, cells_of, all_cells, width, front, behind, over, forest, first, tree_of, is_narrow, are_narrow, AreTerms, IsTerm, root_of, variable_at, variables_in}

-- trees before others
abbrev joined : Trees → Trees → Trees
joined none us = us
joined (more t ts) us = more t (joined ts us)

joined_none : (ts : Trees) → joined ts none ≡ ts
joined_none none = refl
joined_none (more t ts) = ap (more t) (joined_none ts)

one_more : (n : ℕ) → 1 + n ≡ suc n
one_more n = omega arith

front-joined : (ts us : Trees) → front (count ts) (joined ts us) ≡ ts
front-joined none us = refl
front-joined (more t ts) us = rw (one_more (count ts)) (ap (more t) (front-joined ts us))

behind-joined : (ts us : Trees) → behind (count ts) (joined ts us) ≡ us
behind-joined none us = refl
behind-joined (more t ts) us = rw (one_more (count ts)) (behind-joined ts us)

pub over-leaf : (x : Leaf) (ts : Trees) → over (cell_of x) ts ≡ more (leaf x) ts
over-leaf (public (Declared n)) ts = refl
over-leaf (public (At n)) ts = refl
over-leaf (private n) ts = refl
over-leaf (var n) ts = refl
over-leaf (ax n) ts = refl
over-leaf (entry n) ts = refl
over-leaf (rigid n) ts = refl

mutual
  pub forest-cells : (t : Tree) (cs : List Cell) → forest (cells_of t ++ cs) ≡ more t (forest cs)
  forest-cells (leaf x) cs = over-leaf x (forest cs)
  forest-cells (app f ts) cs = rw (forest-all ts cs, front-joined ts (forest cs), behind-joined ts (forest cs)) refl

  pub forest-all : (ts : Trees) (cs : List Cell) → forest (all_cells ts ++ cs) ≡ joined ts (forest cs)
  forest-all none cs = refl
  forest-all (more t ts) cs =
      ap forest (append_assoc (cells_of t) (all_cells ts) cs) ∙ (forest-cells t (all_cells ts ++ cs) ∙ ap (more t) (forest-all ts cs))

-- what is read from a tree's cells is the tree
pub tree_of-cells_of : (t : Tree) → tree_of (cells_of t) ≡ t
tree_of-cells_of t = ap first (ap forest (sym (append-nil (cells_of t))) ∙ forest-cells t [])

pub forest-all_cells : (ts : Trees) → forest (all_cells ts) ≡ ts
forest-all_cells ts = ap forest (sym (append-nil (all_cells ts))) ∙ (forest-all ts [] ∙ joined_none ts)

-- a tree has as many cells as nodes
mutual
  pub length-cells_of : (t : Tree) → length (cells_of t) ≡ node_count t
  length-cells_of (leaf x) = refl
  length-cells_of (app f ts) = let h = length-all_cells ts in omega (arith, h)

  pub length-all_cells : (ts : Trees) → length (all_cells ts) ≡ node_counts ts
  length-all_cells none = refl
  length-all_cells (more t ts) = omega (arith, length-append (cells_of t) (all_cells ts), length-cells_of t, length-all_cells ts)

width-leaf : (x : Leaf) → width (cell_of x) ≡ 1
width-leaf (public (Declared n)) = refl
width-leaf (public (At n)) = refl
width-leaf (private n) = refl
width-leaf (var n) = refl
width-leaf (ax n) = refl
width-leaf (entry n) = refl
width-leaf (rigid n) = refl

pub width-root_of : (t : Tree) → width (root_of t) ≡ node_count t
width-root_of (leaf x) = width-leaf x
width-root_of (app f ts) = refl

-- the first cell of trees is the root of the first of them
root-first : (t : Tree) (us : Trees) (c : Cell) (cs : List Cell) → cells_of t ++ all_cells us ≡ c ∷ cs → root_of t ≡ c
root-first (leaf x) us c cs e = cc
root-first (app f ts) us c cs e = cc

-- the cells of the first tree, and those behind it, by the width of the first cell
pub record Splits (ts : Trees) (c : Cell) (cells : List Cell) : Type 0 where
  pub fits : width c ≤ length cells
  pub first_cells : take (width c) cells ≡ cells_of (first ts)
  pub rest_cells : drop (width c) cells ≡ all_cells (behind 1 ts)

splits : (ts : Trees) (c : Cell) (cs : List Cell) → all_cells ts ≡ c ∷ cs → Splits ts c (c ∷ cs)
splits none c cs e = cc
splits (more t us) c cs e =
    let w : width c ≡ length (cells_of t) = ap width (sym (root-first t us c cs e)) ∙ (width-root_of t ∙ sym (length-cells_of t)) in
    record {
      fits = omega (arith, w, ap length e, length-append (cells_of t) (all_cells us));
      first_cells = rw (← e) (take-append-le (width c) (cells_of t) (all_cells us) (omega (arith, w)) ∙ take_all (width c) (cells_of t) (omega (arith, w)));
      rest_cells = rw (← e) (drop-append-le (width c) (cells_of t) (all_cells us) (omega (arith, w)) ∙ ap (λ xs. xs ++ all_cells us) (drop_all (width c) (cells_of t) (omega (arith, w))));
    }

pub splits_at : (cells : List Cell) (d : Cell) → AreTerms cells → 0 < length cells → Splits (forest cells) (get_or cells 0 d) cells
splits_at [] d e h = absurd (omega arith)
splits_at (c ∷ cs) d e h = splits (forest (c ∷ cs)) c cs e

pub length-list_of : (ts : Trees) → length (list_of ts) ≡ count ts
length-list_of none = refl
length-list_of (more t ts) = omega (arith, length-list_of ts)

pub both : (a b : Bool) → (a && b) ≡ true → (a ≡ true) × (b ≡ true)
both true b e = (refl, e)
both false b e = cc

-- a tree among narrow ones is narrow
pub narrow_at : (ts : Trees) (i : ℕ) (t : Tree) → are_narrow ts ≡ true → slice_get (list_of ts) i ≡ Some t → is_narrow t ≡ true
narrow_at none i t h e = absurd (none-some t e)
narrow_at (more u ts) zero t h e = let m : u ≡ t = cc in rw (← m) (both (is_narrow u) (are_narrow ts) h).0
narrow_at (more u ts) (suc i) t h e = narrow_at ts i t (both (is_narrow u) (are_narrow ts) h).1 e

pub ruleset kept = (tree_of-cells_of, length-cells_of)

pub ruleset single = (tree_of-cells_of)

pub put_more : (xs : List Tree) (i : ℕ) (d : Tree) → i < length xs → all_cells (trees (drop i xs)) ≡ cells_of (get_or xs i d) ++ all_cells (trees (drop (i + 1) xs))
put_more xs i d h = rw (add-one, drop-cons xs i d) refl

pub put_done : (xs : List Tree) (i : ℕ) → length xs ≤ i → all_cells (trees (drop i xs)) ≡ []
put_done xs i h = ap (λ ys. all_cells (trees ys)) (drop_all i xs h)

-- a term has a first cell, which is its tree's root
pub not_empty : (cells : List Cell) → cells_of (tree_of cells) ≡ cells → 0 < length cells
not_empty [] e = cc
not_empty (c ∷ cs) e = omega arith

pub root_is : (cells : List Cell) (d : Cell) → cells_of (tree_of cells) ≡ cells → get_or cells 0 d ≡ root_of (tree_of cells)
root_is cells d e = ap (λ cs. get_or cs 0 d) (sym e) ∙ by (tree_of cells)
  where
    by : (t : Tree) → get_or (cells_of t) 0 d ≡ root_of t
    by (leaf x) = refl
    by (app f ts) = refl

-- the tree that is looked for is still ahead
pub record IsOnWay (rest : List Cell) (left : ℕ) (cells : List Cell) (index : ℕ) : Type 0 where
  pub terms : AreTerms rest
  pub there : left < count (forest rest)
  pub same : slice_get (list_of (forest rest)) left ≡ slice_get (list_of (forest cells)) index

pub cells_of_inj : (t u : Tree) → cells_of t ≡ cells_of u → t ≡ u
cells_of_inj t u e = sym (tree_of-cells_of t) ∙ (ap tree_of e ∙ tree_of-cells_of u)

-- what is a tree's cells is a term
pub are_term : (t : Tree) (cells : List Cell) → cells ≡ cells_of t → is_narrow t ≡ true → IsTerm cells
are_term t cells e h =
    let s : tree_of cells ≡ t = ap tree_of e ∙ tree_of-cells_of t in
    record { again = ap cells_of s ∙ sym e; narrow = ap is_narrow s ∙ h }

pub read_from : (t : Tree) (cells : List Cell) → cells ≡ cells_of t → tree_of cells ≡ t
read_from t cells e = ap tree_of e ∙ tree_of-cells_of t

pub are_terms : (ts : Trees) (cells : List Cell) → cells ≡ all_cells ts → AreTerms cells
are_terms ts cells e = ap all_cells (ap forest e ∙ forest-all_cells ts) ∙ sym e

one_less : (ts : Trees) (left : ℕ) → 0 < left → left < count ts → left - 1 < count (behind 1 ts)
one_less none left p h = absurd (omega arith)
one_less (more t ts) left p h = omega arith

get_next : (ts : Trees) (left : ℕ) → 0 < left → slice_get (list_of (behind 1 ts)) (left - 1) ≡ slice_get (list_of ts) left
get_next ts zero p = absurd (omega arith)
get_next none (suc k) p = refl
get_next (more t ts) (suc k) p = let e : suc k - 1 ≡ k = omega arith in rw e refl

pub way_on : (rest next cells : List Cell) (left index : ℕ) → IsOnWay rest left cells index → 0 < left → next ≡ all_cells (behind 1 (forest rest)) → IsOnWay next (left - 1) cells index
way_on rest next cells left index w p e =
    let f : forest next ≡ behind 1 (forest rest) = ap forest e ∙ forest-all_cells (behind 1 (forest rest)) in
    record {
      terms = are_terms (behind 1 (forest rest)) next e;
      there = rw f (one_less (forest rest) left p w.there);
      same = ap (λ ts. slice_get (list_of ts) (left - 1)) f ∙ (get_next (forest rest) left p ∙ w.same);
    }

get_first : (ts : Trees) → 0 < count ts → slice_get (list_of ts) 0 ≡ Some (first ts)
get_first none h = absurd (omega arith)
get_first (more t ts) h = refl

pub way_end : (rest found cells : List Cell) (left index : ℕ) → IsOnWay rest left cells index → left ≡ 0 → found ≡ cells_of (first (forest rest))
    → (slice_get (list_of (forest cells)) index ≡ Some (tree_of found)) × (cells_of (tree_of found) ≡ found)
way_end rest found cells left index w z e =
    let t : tree_of found ≡ first (forest rest) = read_from (first (forest rest)) found e in
    (sym w.same ∙ (ap (slice_get (list_of (forest rest))) z ∙ (get_first (forest rest) (omega (arith, z, w.there)) ∙ ap Some (sym t))), ap cells_of t ∙ sym e)

-- what stands below the root
pub record IsBelow (t : Tree) (cells : List Cell) : Type 0 where
  pub terms : AreTerms cells
  pub same : list_of (forest cells) ≡ arguments t
  pub number : count (forest cells) ≡ length (arguments t)
  pub narrow : is_narrow t ≡ true → are_narrow (forest cells) ≡ true

below_itself : (t : Tree) → IsBelow t (drop 1 (cells_of t))
below_itself (leaf x) = record { terms = refl; same = refl; number = refl; narrow = λ e. refl }
below_itself (app f ts) =
    let e = forest-all_cells ts in
    record {
      terms = ap all_cells e;
      same = ap list_of e;
      number = ap count e ∙ sym (length-list_of ts);
      narrow = λ h. ap are_narrow e ∙ (both (nat_le (count ts) 8) (are_narrow ts) h).1;
    }

pub below_root : (cells : List Cell) → cells_of (tree_of cells) ≡ cells → IsBelow (tree_of cells) (drop 1 cells)
below_root cells e = subst (λ cs. IsBelow (tree_of cells) (drop 1 cs)) e (below_itself (tree_of cells))

-- a symbol over trees, cell by cell
pub app_cells : (f : Sym) (xs : List Tree) (n w : ℕ) (cs ds es : List Cell) → n ≡ length xs → w ≡ 1 + node_counts (trees xs) → cs ≡ [] → ds ≡ cs ++ App f n w ∷ []
    → es ≡ ds ++ all_cells (trees xs) → es ≡ cells_of (app f (trees xs))
app_cells f xs n w cs ds es a b c d e = rw (e, d, c, a, b, count-trees xs) refl

pub app_narrow : (f : Sym) (xs : List Tree) → length xs ≤ 8 → are_narrow (trees xs) ≡ true → is_narrow (app f (trees xs)) ≡ true
app_narrow f xs h e = both_true (le-leb (count (trees xs)) 8 (omega (arith, h, count-trees xs))) e

pub narrow_more : (xs : List Tree) (i : ℕ) (d x : Tree) → i < length xs → x ≡ get_or xs i d → is_narrow x ≡ true → are_narrow (trees (drop (i + 1) xs)) ≡ true → are_narrow (trees (drop i xs)) ≡ true
narrow_more xs i d x h e n r = rw (drop-cons xs i d h) (both_true (ap is_narrow (sym e) ∙ n) (rw add-one at r))

pub narrow_done : (xs : List Tree) (i : ℕ) → length xs ≤ i → are_narrow (trees (drop i xs)) ≡ true
narrow_done xs i h = ap (λ ys. are_narrow (trees ys)) (drop_all i xs h)

variable-leaf : (x : Leaf) → variable_at (cell_of x) ++ [] ≡ variable_of x
variable-leaf (public (Declared n)) = refl
variable-leaf (public (At n)) = refl
variable-leaf (private n) = refl
variable-leaf (var n) = refl
variable-leaf (ax n) = refl
variable-leaf (entry n) = refl
variable-leaf (rigid n) = refl

mutual
  variables-cells : (t : Tree) (cs : List Cell) → variables_in (cells_of t ++ cs) ≡ occurrences t ++ variables_in cs
  variables-cells (leaf x) cs = ap (λ ns. ns ++ variables_in cs) (sym (append-nil (variable_at (cell_of x))) ∙ variable-leaf x)
  variables-cells (app f ts) cs = variables-all ts cs

  variables-all : (ts : Trees) (cs : List Cell) → variables_in (all_cells ts ++ cs) ≡ all_occurrences ts ++ variables_in cs
  variables-all none cs = refl
  variables-all (more t ts) cs =
      ap variables_in (append_assoc (cells_of t) (all_cells ts) cs)
      ∙ (variables-cells t (all_cells ts ++ cs)
      ∙ (ap (λ ns. occurrences t ++ ns) (variables-all ts cs)
      ∙ sym (append_assoc (occurrences t) (all_occurrences ts) (variables_in cs))))

pub variables_of_cells : (t : Tree) → variables_in (cells_of t) ≡ occurrences t
variables_of_cells t = ap variables_in (sym (append-nil (cells_of t))) ∙ (variables-cells t [] ∙ append-nil (occurrences t))

pub found_next : (ks : List ℕ) (xs : List Cell) (i : ℕ) (d : Cell) → i < length xs
    → insert_all nat_eq ks (variables_in (drop i xs)) ≡ insert_all nat_eq (insert_all nat_eq ks (variable_at (get_or xs i d))) (variables_in (drop (i + 1) xs))
found_next ks xs i d h = rw (add-one, drop-cons xs i d) (fold-append (insert_key nat_eq) ks (variable_at (get_or xs i d)) _)

pub found_all : (ks : List ℕ) (xs : List Cell) (i : ℕ) → length xs ≤ i → insert_all nat_eq ks (variables_in (drop i xs)) ≡ ks
found_all ks xs i h = ap (λ ys. insert_all nat_eq ks (variables_in ys)) (drop_all i xs h)

pub forests_of : (t : Tree) (cells : List Cell) → cells ≡ cells_of t → forest cells ≡ more t none
forests_of t cells e = ap forest (e ∙ sym (append-nil (cells_of t))) ∙ forest-cells t []

pub are_terms_of : (t : Tree) (cells : List Cell) → cells ≡ cells_of t → AreTerms cells
are_terms_of t cells e = are_terms (more t none) cells (e ∙ sym (append-nil (cells_of t)))

pub narrows_of : (t : Tree) (cells : List Cell) → cells ≡ cells_of t → is_narrow t ≡ true → are_narrow (forest cells) ≡ true
narrows_of t cells e h = ap are_narrow (forests_of t cells e) ∙ both_true h refl
