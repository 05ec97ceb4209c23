-- The digest of a tree is that of its cells.
use Rattle.std.proofs.Common.{◌≡◌, ℕ, ◌+◌, ◌<◌, ◌≤◌, List, [], ◌++◌, length, get_or, drop, refl, ap, sym, ◌∙◌, append_assoc, add-one, drop-cons}
use Rattle.std.proofs.lemmas.List.{append-nil, drop_all}
use Rattle.dps_terms.specs.declared.PublicName.TheVariants.{Declared, At}
use Rattle.dps_terms.specs.declared.cells.Cell.{Cell}
use Rattle.dps_terms.specs.Tree.{Leaf, public, private, var, ax, entry, rigid, Tree, Trees, leaf, app, none, more}
use Rattle.dps_terms.specs.Cells.{cell_of, cells_of, all_cells}
use Rattle.dps_terms.specs.Digest.{mixed, leaf_digest, digest, digest_with, digest_with_all}
use Rattle.dps_terms.specs.CellDigest.{cell_digest, cells_digest}

leaf_cell : (d : ℕ) (x : Leaf) → cell_digest d (cell_of x) ≡ leaf_digest d x
leaf_cell d (public (Declared n)) = refl
leaf_cell d (public (At n)) = refl
leaf_cell d (private n) = refl
leaf_cell d (var n) = refl
leaf_cell d (ax n) = refl
leaf_cell d (entry n) = refl
leaf_cell d (rigid n) = refl

mutual
  of_cells : (d : ℕ) (t : Tree) (cs : List Cell) → cells_digest d (cells_of t ++ cs) ≡ cells_digest (digest_with d t) cs
  of_cells d (leaf x) cs = ap (λ n. cells_digest n cs) (leaf_cell d x)
  of_cells d (app f ts) cs = of_all_cells (mixed (mixed d 8) f.number) ts cs

  of_all_cells : (d : ℕ) (ts : Trees) (cs : List Cell) → cells_digest d (all_cells ts ++ cs) ≡ cells_digest (digest_with_all d ts) cs
  of_all_cells d none cs = refl
  of_all_cells d (more t ts) cs =
      ap (cells_digest d) (append_assoc (cells_of t) (all_cells ts) cs)
      ∙ (of_cells d t (all_cells ts ++ cs)
      ∙ of_all_cells (digest_with d t) ts cs)

pub digest_of_cells : (t : Tree) → cells_digest 0 (cells_of t) ≡ digest t
digest_of_cells t = ap (cells_digest 0) (sym (append-nil (cells_of t))) ∙ of_cells 0 t []

pub digest_next : (d : ℕ) (cells : List Cell) (i : ℕ) (c : Cell) → i < length cells → cells_digest d (drop i cells) ≡ cells_digest (cell_digest d (get_or cells i c)) (drop (i + 1) cells)
digest_next d cells i c h = rw (add-one, drop-cons cells i c h) refl

pub digest_done : (d : ℕ) (cells : List Cell) (i : ℕ) → length cells ≤ i → cells_digest d (drop i cells) ≡ d
digest_done d cells i h = ap (cells_digest d) (drop_all i cells h)
