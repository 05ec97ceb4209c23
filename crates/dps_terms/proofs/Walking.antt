-- A tree from a node on, by its cells.
use Rattle.std.proofs.Common.{◌≡◌, ℕ, zero, suc, ◌+◌, ◌<◌, List, [], ◌∷◌, ◌++◌, length, get_or, take, drop, refl, ap, sym, ◌∙◌, append_assoc, arith, ◌≤◌, ◌⊎◌, inl, inr, subst, length-append}
use Rattle.std.specs.Prelude.{true}
use Rattle.std.proofs.lemmas.List.{append-nil, drop_all, drop-drop, length-drop}
use Rattle.dps_terms.specs.declared.cells.Cell.{Cell}
use Rattle.dps_terms.specs.declared.cells.Cell.TheVariants.{Declared}
use Rattle.dps_terms.specs.Tree.{Tree, Trees, leaf, app, none, more, count, list_of, node_count, IsSubterm, IsAmong, itself, below, in_first, in_rest}
use Rattle.dps_terms.specs.Walk.{joined, without_nodes, subterms_from}
use Rattle.dps_terms.specs.Views.{arguments}
use Rattle.dps_terms.specs.Cells.{cells_of, all_cells, behind, over, forest, first, tree_of, is_narrow, are_narrow, AreTerms}
use Rattle.dps_terms.proofs.Preorder.{both, forest-all_cells, length-cells_of, are_terms_of, narrows_of}
use Rattle.std.proofs.Math.Seq.{drop-append_seam}
use Rattle.dps_terms.proofs.Stacked.{behind-drop}
use Rattle.dps_terms.proofs.Instances.{back, fed_at, forest_at, taken}

pub all_cells-joined : (ts us : Trees) → all_cells (joined ts us) ≡ all_cells ts ++ all_cells us
all_cells-joined none us = refl
all_cells-joined (more t ts) us = ap (λ cs. cells_of t ++ cs) (all_cells-joined ts us) ∙ sym (append_assoc (cells_of t) (all_cells ts) (all_cells us))

pub drop-cells : (n : ℕ) (ts : Trees) → drop n (all_cells ts) ≡ all_cells (without_nodes n ts)
drop-cells zero ts = refl
drop-cells (suc n) none = refl
drop-cells (suc n) (more (leaf x) ts) = drop-cells n ts
drop-cells (suc n) (more (app f us) ts) = ap (drop n) (sym (all_cells-joined us ts)) ∙ drop-cells n (joined us ts)

pub forest-drop : (n : ℕ) (cells : List Cell) → cells_of (tree_of cells) ≡ cells → forest (drop n cells) ≡ without_nodes n (more (tree_of cells) none)
forest-drop n cells e =
    let t = tree_of cells in
    ap (λ cs. forest (drop n cs)) (sym e ∙ sym (append-nil (cells_of t)))
    ∙ (ap forest (drop-cells n (more t none))
    ∙ forest-all_cells (without_nodes n (more t none)))

pub as_many : (cells : List Cell) → cells_of (tree_of cells) ≡ cells → length cells ≡ node_count (tree_of cells)
as_many cells e = sym (ap length e) ∙ length-cells_of (tree_of cells)

-- behind the last node nothing is left
pub at_end : (cells : List Cell) → cells_of (tree_of cells) ≡ cells → subterms_from (tree_of cells) (length cells) ≡ []
at_end cells e = ap list_of (sym (forest-drop (length cells) cells e) ∙ ap forest (drop_all (length cells) cells (omega arith)))

-- what stands from a node on
pub record IsAt (cells : List Cell) (node : ℕ) : Type 0 where
  pub terms : AreTerms (drop node cells)
  pub some : 0 < length (drop node cells)
  pub narrow : is_narrow (first (forest (drop node cells))) ≡ true
  pub split : subterms_from (tree_of cells) node ≡ first (forest (drop node cells)) ∷ drop (length (arguments (first (forest (drop node cells))))) (subterms_from (tree_of cells) (node + 1))
  pub inside : IsSubterm (first (forest (drop node cells))) (tree_of cells)
  pub within : node + node_count (first (forest (drop node cells))) ≤ node_count (tree_of cells)
  pub behind_it : subterms_from (tree_of cells) (node + node_count (first (forest (drop node cells)))) ≡ drop 1 (subterms_from (tree_of cells) node)
  pub below : arguments (first (forest (drop node cells))) ≡ take (length (arguments (first (forest (drop node cells))))) (subterms_from (tree_of cells) (node + 1))

-- what is left of trees are subterms of theirs
among_joined : (us ts : Trees) (s : Tree) → IsAmong s (joined us ts) → IsAmong s us ⊎ IsAmong s ts
among_joined none ts s k = inr k
among_joined (more u us) ts s (in_first k) = inl (in_first k)
among_joined (more u us) ts s (in_rest k) = elim (among_joined us ts s k) [ inl o ↦ inl (in_rest o) | inr o ↦ inr o ]

among_before : (n : ℕ) (ts : Trees) (s : Tree) → IsAmong s (without_nodes n ts) → IsAmong s ts
among_before zero ts s k = k
among_before (suc n) none s k = k
among_before (suc n) (more (leaf x) ts) s k = in_rest (among_before n ts s k)
among_before (suc n) (more (app f us) ts) s k =
    elim (among_joined us ts s (among_before n (joined us ts) s k)) [ inl o ↦ in_first (below o) | inr o ↦ in_rest o ]

among_one : (s t : Tree) → IsAmong s (more t none) → IsSubterm s t
among_one s t (in_first k) = k
among_one s t (in_rest k) = elim k [ ]

inside_one : (ts : Trees) (s t : Tree) → (IsAmong s ts → IsAmong s (more t none)) → 0 < count ts → s ≡ first ts → IsSubterm s t
inside_one none s t go h e = absurd (omega arith)
inside_one (more u us) s t go h e = among_one s t (go (in_first (subst (λ v. IsSubterm s v) e itself)))

not_none_left : (n : ℕ) (cells : List Cell) → cells_of (tree_of cells) ≡ cells → AreTerms (drop n cells) → n < length cells → 0 < count (without_nodes n (more (tree_of cells) none))
not_none_left n cells e terms h = some_left (without_nodes n (more (tree_of cells) none)) (ap all_cells (sym (forest-drop n cells e)) ∙ terms)
  where
    some_left : (ts : Trees) → all_cells ts ≡ drop n cells → 0 < count ts
    some_left none d = absurd (omega (arith, h, ap length d, length-drop n cells))
    some_left (more t ts) d = omega arith

first_fits : (cells : List Cell) → AreTerms cells → 0 < length cells → node_count (first (forest cells)) ≤ length cells
first_fits cells e h = by (forest cells) e
  where
    by : (ts : Trees) → all_cells ts ≡ cells → node_count (first ts) ≤ length cells
    by none d = absurd (omega (arith, h, ap length d))
    by (more t ts) d = omega (arith, ap length d, length-append (cells_of t) (all_cells ts), length-cells_of t)

-- behind the last node nothing is left
pub nodes_left : (t : Tree) (n : ℕ) → node_count t ≤ n → subterms_from t n ≡ []
nodes_left t n h =
    ap list_of (sym (forest-all_cells (without_nodes n (more t none)))
    ∙ ap forest (sym (drop-cells n (more t none)) ∙ drop_all n (cells_of t ++ []) (omega (arith, length-append (cells_of t) [], length-cells_of t, h))))

past_first : (cells : List Cell) → AreTerms cells → drop (node_count (first (forest cells))) cells ≡ all_cells (behind 1 (forest cells))
past_first cells e = ap (drop (node_count (first (forest cells)))) (sym e) ∙ go (forest cells)
  where
    go : (ts : Trees) → drop (node_count (first ts)) (all_cells ts) ≡ all_cells (behind 1 ts)
    go none = refl
    go (more t ts) = ap (λ n. drop n (cells_of t ++ all_cells ts)) (sym (length-cells_of t)) ∙ drop-append_seam (cells_of t) (all_cells ts)

narrow_first : (ts : Trees) → are_narrow ts ≡ true → is_narrow (first ts) ≡ true
narrow_first none h = refl
narrow_first (more t ts) h = (both (is_narrow t) (are_narrow ts) h).0

pub at : (cells : List Cell) (node : ℕ) → cells_of (tree_of cells) ≡ cells → is_narrow (tree_of cells) ≡ true → node < node_count (tree_of cells) → IsAt cells node
at cells node e n h =
    let size = as_many cells e in
    let here : node < length cells = omega (arith, size, h) in
    let b = back cells node (are_terms_of (tree_of cells) cells (sym e)) (narrows_of (tree_of cells) cells (sym e) n) in
    let d = Declared 0 in
    let fed = fed_at cells node d here (are_terms_of (tree_of cells) cells (sym e)) (narrows_of (tree_of cells) cells (sym e) n) in
    let c = get_or cells node d in
    let ts = forest (drop (node + 1) cells) in
    let over_is : forest (drop node cells) ≡ over c ts = forest_at cells node d here in
    let rest_is : list_of ts ≡ subterms_from (tree_of cells) (node + 1) = ap list_of (forest-drop (node + 1) cells e) in
    let k = taken c ts fed.there in
    record {
      terms = b.0;
      some = omega (arith, length-drop node cells);
      narrow = narrow_first (forest (drop node cells)) b.1;
      split = ap list_of (sym (forest-drop node cells e)) ∙ rw (over_is, ← rest_is) k.split;
      inside = inside_one (without_nodes node (more (tree_of cells) none)) (first (forest (drop node cells))) (tree_of cells)
          (λ k. among_before node (more (tree_of cells) none) (first (forest (drop node cells))) k) (not_none_left node cells e b.0 here) (ap first (forest-drop node cells e));
      within = omega (arith, size, length-drop node cells, first_fits (drop node cells) b.0 (omega (arith, length-drop node cells)));
      behind_it =
          ap list_of (sym (forest-drop (node + node_count (first (forest (drop node cells)))) cells e))
          ∙ (ap (λ cs. list_of (forest cs)) (sym (drop-drop (node_count (first (forest (drop node cells)))) node cells) ∙ past_first (drop node cells) b.0)
          ∙ (ap list_of (forest-all_cells (behind 1 (forest (drop node cells))))
          ∙ (behind-drop 1 (forest (drop node cells))
          ∙ ap (λ ts. drop 1 (list_of ts)) (forest-drop node cells e))));
      below = rw (over_is, ← rest_is) k.below;
    }
