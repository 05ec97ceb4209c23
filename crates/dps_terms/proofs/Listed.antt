-- Terms in one list of cells: where each starts, and what one more makes of the list.
use Rattle.std.proofs.Common.{◌≡◌, ℕ, zero, suc, ◌+◌, ◌≤◌, ◌<◌, ◌-◌, List, [], ◌∷◌, ◌++◌, length, get_or, drop, refl, ap, subst, sym, ◌∙◌, arith, append_assoc, length-append}
use Rattle.std.specs.Prelude.{true, slice_get, Some}
use Rattle.std.specs.Cmp.Derive.{both_true}
use Rattle.std.proofs.Math.Seq.{drop-append_seam}
use Rattle.std.proofs.lemmas.List.{append-nil, drop-drop, length-drop}
use Rattle.dps_terms.specs.declared.cells.Cell.{Cell}
use Rattle.dps_terms.specs.Tree.{Tree, Trees, leaf, app, none, more, count, list_of, node_count, node_counts}
use Rattle.dps_terms.specs.Walk.{joined}
use Rattle.dps_terms.specs.Cells.{cells_of, all_cells, forest, first, tree_of, behind, is_narrow, are_narrow, AreTerms}
use Rattle.dps_terms.specs.Lists.{trees_in, starts_from, IsTermList}
use Rattle.dps_terms.proofs.Preorder.{forest-all_cells, length-cells_of, are_terms, both, length-list_of, tree_of-cells_of}
use Rattle.dps_terms.proofs.Walking.{all_cells-joined}

-- the tree at a place, and the cells from its own on
pub record IsStart (ts : Trees) (n index start : ℕ) : Type 0 where
  pub later : n ≤ start
  pub rest : Trees
  pub cells : drop (start - n) (all_cells ts) ≡ all_cells rest
  pub tree : slice_get (list_of ts) index ≡ Some (first rest)
  pub some : 0 < count rest
  pub within : start - n < length (all_cells ts)

pub start_at : (ts : Trees) (n index d : ℕ) → index < count ts → IsStart ts n index (get_or (starts_from n ts) index d)
start_at none n index d h = absurd (omega arith)
start_at (more t ts) n zero d h =
    record {
      later = omega arith;
      rest = more t ts;
      cells = let none_off : n - n ≡ 0 = omega arith in ap (λ k. drop k (all_cells (more t ts))) none_off;
      tree = refl;
      some = omega arith;
      within = omega (arith, length-append (cells_of t) (all_cells ts), length-cells_of t, one_node t);
    }
  where
    one_node : (t : Tree) → 0 < node_count t
    one_node (leaf x) = omega arith
    one_node (app f us) = omega arith
start_at (more t ts) n (suc index) d h =
    let k = start_at ts (n + node_count t) index d (omega (arith, h)) in
    let start = get_or (starts_from (n + node_count t) ts) index d in
    let split : start - n ≡ length (cells_of t) + (start - (n + node_count t)) = omega (arith, k.later, length-cells_of t) in
    record {
      later = omega (arith, k.later);
      rest = k.rest;
      cells = ap (λ m. drop m (cells_of t ++ all_cells ts)) split
          ∙ (sym (drop-drop (start - (n + node_count t)) (length (cells_of t)) (cells_of t ++ all_cells ts))
          ∙ (ap (drop (start - (n + node_count t))) (drop-append_seam (cells_of t) (all_cells ts)) ∙ k.cells));
      tree = k.tree;
      some = k.some;
      within = omega (arith, split, k.within, length-append (cells_of t) (all_cells ts));
    }

-- one more at the end
starts-joined : (n : ℕ) (ts : Trees) (t : Tree) → starts_from n (joined ts (more t none)) ≡ starts_from n ts ++ (n + node_counts ts) ∷ []
starts-joined n none t = let same : n ≡ n + 0 = omega arith in ap (λ k. k ∷ []) same
starts-joined n (more u ts) t =
    let same : (n + node_count u) + node_counts ts ≡ n + (node_count u + node_counts ts) = omega arith in
    ap (λ ks. n ∷ ks) (starts-joined (n + node_count u) ts t ∙ ap (λ k. starts_from (n + node_count u) ts ++ k ∷ []) same)

narrow-joined : (ts us : Trees) → are_narrow ts ≡ true → are_narrow us ≡ true → are_narrow (joined ts us) ≡ true
narrow-joined none us h k = k
narrow-joined (more t ts) us h k = let b = both (is_narrow t) (are_narrow ts) h in both_true b.0 (narrow-joined ts us b.1 k)

list-joined : (ts us : Trees) → list_of (joined ts us) ≡ list_of ts ++ list_of us
list-joined none us = refl
list-joined (more t ts) us = ap (λ xs. t ∷ xs) (list-joined ts us)

length-all : (ts : Trees) → length (all_cells ts) ≡ node_counts ts
length-all none = refl
length-all (more t ts) = omega (arith, length-append (cells_of t) (all_cells ts), length-cells_of t, length-all ts)

pub one_added : (old added new : List Cell) (starts more_starts : List ℕ) → IsTermList old starts → cells_of (tree_of added) ≡ added → is_narrow (tree_of added) ≡ true
    → new ≡ old ++ added → more_starts ≡ starts ++ length old ∷ []
    → IsTermList new more_starts × (trees_in new ≡ trees_in old ++ tree_of added ∷ [])
one_added old added new starts more_starts l again narrow e s =
    let t = tree_of added in
    let ts = forest old in
    let whole : new ≡ all_cells (joined ts (more t none)) = e ∙ ((λ i. sym l.terms i ++ (sym again ∙ sym (append-nil (cells_of t))) i) ∙ sym (all_cells-joined ts (more t none))) in
    let f : forest new ≡ joined ts (more t none) = ap forest whole ∙ forest-all_cells (joined ts (more t none)) in
    let n : length old ≡ 0 + node_counts ts = omega (arith, ap length l.terms, length-all ts) in (
      record {
        terms = are_terms (joined ts (more t none)) new whole;
        narrow = ap are_narrow f ∙ narrow-joined ts (more t none) l.narrow (both_true narrow refl);
        places = s ∙ ((λ i. l.places i ++ n i ∷ []) ∙ (sym (starts-joined 0 ts t) ∙ ap (starts_from 0) (sym f)));
      },
      ap list_of f ∙ list-joined ts (more t none),
    )

-- as many places as trees
pub as_many_starts : (n : ℕ) (ts : Trees) → length (starts_from n ts) ≡ count ts
as_many_starts n none = refl
as_many_starts n (more t ts) = omega (arith, as_many_starts (n + node_count t) ts)

-- where a term is found
pub record IsFound (cells : List Cell) (index start : ℕ) : Type 0 where
  pub within : start ≤ length cells
  pub terms : AreTerms (drop start cells)
  pub some : 0 < length (drop start cells)
  pub tree : slice_get (list_of (forest cells)) index ≡ Some (first (forest (drop start cells)))

pub found_at : (cells : List Cell) (starts : List ℕ) (index d : ℕ) → IsTermList cells starts → index < length starts → IsFound cells index (get_or starts index d)
found_at cells starts index d l h =
    let k = start_at (forest cells) 0 index d (omega (arith, h, ap length l.places, as_many_starts 0 (forest cells))) in
    let start = get_or (starts_from 0 (forest cells)) index d in
    let same : start - 0 ≡ start = omega arith in
    let here : drop start cells ≡ all_cells k.rest = ap (λ m. drop m cells) (sym same) ∙ (ap (drop (start - 0)) (sym l.terms) ∙ k.cells) in
    let n : length (all_cells (forest cells)) ≡ length cells = ap length l.terms in
    subst (λ m. IsFound cells index m) (ap (λ ks. get_or ks index d) (sym l.places)) record {
      within = omega (arith, k.within, n);
      terms = are_terms k.rest (drop start cells) here;
      some = omega (arith, length-drop start cells, k.within, n);
      tree = k.tree ∙ ap (λ ts. Some (first ts)) (sym (ap forest here ∙ forest-all_cells k.rest));
    }
