-- Terms on a stack: what each step makes of their cells.
use Rattle.std.proofs.Common.{◌≡◌, ℕ, zero, suc, ◌+◌, ◌-◌, ◌≤◌, ◌<◌, List, [], ◌∷◌, ◌++◌, length, get_or, take, drop, refl, ap, subst, sym, ◌∙◌, arith, append_assoc, length-append}
use Rattle.std.specs.Prelude.{true, reverse}
use Rattle.std.specs.List.{refill}
use Rattle.std.specs.Cmp.Derive.{both_true}
use Rattle.std.proofs.Math.Seq.{drop-append_seam}
use Rattle.std.proofs.lemmas.List.{append-nil, take_all, drop_all, take_more, take-append-drop, reverse-append, reverse-reverse, length-reverse, length-drop, length-take-le, get_or-reverse, take-append-le}
use Rattle.std.proofs.lemmas.Bool.{le-leb}
use Rattle.dps_terms.specs.declared.Sym.{Sym}
use Rattle.dps_terms.specs.declared.cells.Cell.{Cell}
use Rattle.dps_terms.specs.declared.cells.Cell.TheVariants.{App}
use Rattle.dps_terms.specs.Tree.{Tree, Trees, app, none, more, count, list_of, trees, node_count, node_counts}
use Rattle.dps_terms.specs.Cells.{cells_of, all_cells, width, front, behind, forest, first, tree_of, is_narrow, are_narrow, AreTerms, IsTerm}
use Rattle.dps_terms.specs.Stacks.{trees_on, IsStack}
use Rattle.dps_terms.proofs.Preorder.{tree_of-cells_of, forest-cells, forest-all_cells, are_terms, are_term, read_from, splits_at, length-cells_of, length-list_of, both}

-- one cell more, from behind
pub one_back : (ys xs : List Cell) (left : ℕ) (d : Cell) → 0 < left → left ≤ length xs → (ys ++ get_or xs (left - 1) d ∷ []) ++ reverse (take (left - 1) xs) ≡ ys ++ reverse (take left xs)
one_back ys xs left d p h =
    let s : left ≡ (left - 1) + 1 = omega arith in
    let t : take left xs ≡ take (left - 1) xs ++ get_or xs (left - 1) d ∷ [] = ap (λ n. take n xs) s ∙ take_more xs (left - 1) d (omega arith) in
    append_assoc ys (get_or xs (left - 1) d ∷ []) (reverse (take (left - 1) xs))
    ∙ ap (λ zs. ys ++ zs) (sym (ap reverse t ∙ reverse-append (take (left - 1) xs) (get_or xs (left - 1) d ∷ [])))

-- the front of a list, turned round, is the back of the list that is turned round
reverse-take : (xs : List Cell) (w : ℕ) → w ≤ length xs → reverse (take (length xs - w) xs) ≡ drop w (reverse xs)
reverse-take xs w h =
    let k = length xs - w in
    let whole : reverse xs ≡ reverse (drop k xs) ++ reverse (take k xs) = ap reverse (sym (take-append-drop k xs)) ∙ reverse-append (take k xs) (drop k xs) in
    let n : length (reverse (drop k xs)) ≡ w = omega (arith, length-reverse (drop k xs), length-drop k xs) in
    sym (ap (drop w) whole ∙ (ap (λ m. drop m (reverse (drop k xs) ++ reverse (take k xs))) (sym n) ∙ drop-append_seam (reverse (drop k xs)) (reverse (take k xs))))

-- what is left to be counted
pub record IsWalk (rest : List Cell) (left width : ℕ) (cells : List Cell) (terms : ℕ) : Type 0 where
  pub sound : AreTerms (reverse rest)
  pub there : left ≤ count (forest (reverse rest))
  pub sum : width + node_counts (front left (forest (reverse rest))) ≡ node_counts (front terms (forest (reverse cells)))
  pub fits : width + length rest ≡ length cells

count_step : (ts : Trees) (left : ℕ) → 0 < left → left ≤ count ts
    → (left - 1 ≤ count (behind 1 ts)) × (node_counts (front left ts) ≡ node_count (first ts) + node_counts (front (left - 1) (behind 1 ts)))
count_step none left p h = absurd (omega arith)
count_step (more t ts) zero p h = absurd (omega arith)
count_step (more t ts) (suc k) p h = let e : suc k - 1 ≡ k = omega arith in (omega (arith, h), rw e refl)

not_none : (cells : List Cell) (left : ℕ) → 0 < left → left ≤ count (forest cells) → 0 < length cells
not_none [] left p h = absurd (omega arith)
not_none (c ∷ cs) left p h = omega arith

pub record IsStep (rest : List Cell) (w : ℕ) : Type 0 where
  pub some : 0 < length rest
  pub enough : w ≤ length rest
  pub next : reverse (take (length rest - w) rest) ≡ all_cells (behind 1 (forest (reverse rest)))
  pub counted : w ≡ node_count (first (forest (reverse rest)))

pub step : (rest : List Cell) (left wide : ℕ) (cells : List Cell) (terms : ℕ) (d : Cell) → IsWalk rest left wide cells terms → 0 < left → IsStep rest (width (get_or rest (length rest - 1) d))
step rest left wide cells terms d k p =
    let some : 0 < length (reverse rest) = not_none (reverse rest) left p k.there in
    let n = length-reverse rest in
    let s = splits_at (reverse rest) d k.sound some in
    let c : get_or (reverse rest) 0 d ≡ get_or rest (length rest - 1) d = get_or-reverse rest 0 d (omega (arith, some, n)) ∙ ap (λ m. get_or rest m d) (omega arith) in
    let w = width (get_or (reverse rest) 0 d) in
    let taken : length (take w (reverse rest)) ≡ w = length-take-le w (reverse rest) s.fits in
    subst (λ e. IsStep rest (width e)) c record {
      some = omega (arith, some, n);
      enough = omega (arith, s.fits, n);
      next = reverse-take rest w (omega (arith, s.fits, n)) ∙ s.rest_cells;
      counted = sym taken ∙ (ap length s.first_cells ∙ length-cells_of (first (forest (reverse rest))));
    }

pub walk_on : (rest next : List Cell) (left wide w : ℕ) (cells : List Cell) (terms : ℕ) → IsWalk rest left wide cells terms → IsStep rest w → 0 < left → next ≡ take (length rest - w) rest
    → IsWalk next (left - 1) (wide + w) cells terms
walk_on rest next left wide w cells terms k s p e =
    let r : reverse next ≡ all_cells (behind 1 (forest (reverse rest))) = ap reverse e ∙ s.next in
    let f : forest (reverse next) ≡ behind 1 (forest (reverse rest)) = ap forest r ∙ forest-all_cells (behind 1 (forest (reverse rest))) in
    let c = count_step (forest (reverse rest)) left p k.there in
    record {
      sound = are_terms (behind 1 (forest (reverse rest))) (reverse next) r;
      there = rw f c.0;
      sum = rw f (omega (arith, c.1, k.sum, s.counted));
      fits = omega (arith, ap length e, length-take-le (length rest - w) rest (omega arith), s.enough, k.fits);
    }

pub walk_next : (rest next : List Cell) (left w : ℕ) (cells : List Cell) (terms : ℕ) → IsWalk rest left (length cells - length rest) cells terms → IsStep rest w → 0 < left
    → next ≡ take (length rest - w) rest → IsWalk next (left - 1) (length cells - length next) cells terms
walk_next rest next left w cells terms k s p e =
    let n = walk_on rest next left (length cells - length rest) w cells terms k s p e in
    let same : (length cells - length rest) + w ≡ length cells - length next = omega (arith, n.fits) in
    subst (λ wide. IsWalk next (left - 1) wide cells terms) same n

pub walked : (rest : List Cell) (left wide : ℕ) (cells : List Cell) (terms : ℕ) → IsWalk rest left wide cells terms → left ≡ 0 → wide ≡ node_counts (front terms (forest (reverse cells)))
walked rest left wide cells terms k z =
    let e : node_counts (front left (forest (reverse rest))) ≡ 0 = ap (λ n. node_counts (front n (forest (reverse rest)))) z in
    omega (arith, e, k.sum)

-- a term's cells, put on backward
pub pushed : (old cells new : List Cell) → cells_of (tree_of cells) ≡ cells → is_narrow (tree_of cells) ≡ true → new ≡ old ++ reverse cells → IsStack old
    → IsStack new × (trees_on new ≡ tree_of cells ∷ trees_on old)
pushed old cells new a n e s =
    let r : reverse new ≡ cells ++ reverse old = ap reverse e ∙ (reverse-append old (reverse cells) ∙ ap (λ xs. xs ++ reverse old) (reverse-reverse cells)) in
    let f : forest (reverse new) ≡ more (tree_of cells) (forest (reverse old)) = ap forest (r ∙ ap (λ xs. xs ++ reverse old) (sym a)) ∙ forest-cells (tree_of cells) (reverse old) in (
      record {
        terms = ap all_cells f ∙ ((λ i. a i ++ s.terms i) ∙ sym r);
        narrow = ap are_narrow f ∙ both_true n s.narrow;
      },
      ap list_of f,
    )

pub count-front : (n : ℕ) (ts : Trees) → n ≤ count ts → count (front n ts) ≡ n
count-front zero ts h = refl
count-front (suc n) none h = absurd (omega arith)
count-front (suc n) (more t ts) h = omega (arith, count-front n ts (omega arith))

pub cells-split : (n : ℕ) (ts : Trees) → all_cells (front n ts) ++ all_cells (behind n ts) ≡ all_cells ts
cells-split zero ts = refl
cells-split (suc n) none = refl
cells-split (suc n) (more t ts) = append_assoc (cells_of t) (all_cells (front n ts)) (all_cells (behind n ts)) ∙ ap (λ cs. cells_of t ++ cs) (cells-split n ts)

pub narrow-split : (n : ℕ) (ts : Trees) → are_narrow ts ≡ true → (are_narrow (front n ts) ≡ true) × (are_narrow (behind n ts) ≡ true)
narrow-split zero ts h = (refl, h)
narrow-split (suc n) none h = (refl, refl)
narrow-split (suc n) (more t ts) h =
    let b = both (is_narrow t) (are_narrow ts) h in
    let r = narrow-split n ts b.1 in
    (both_true b.0 r.0, r.1)

pub front-take : (n : ℕ) (ts : Trees) → front n ts ≡ trees (take n (list_of ts))
front-take zero ts = refl
front-take (suc n) none = refl
front-take (suc n) (more t ts) = ap (more t) (front-take n ts)

pub behind-drop : (n : ℕ) (ts : Trees) → list_of (behind n ts) ≡ drop n (list_of ts)
behind-drop zero ts = refl
behind-drop (suc n) none = refl
behind-drop (suc n) (more t ts) = behind-drop n ts

-- a symbol over the first trees
pub applied : (f : Sym) (n w : ℕ) (old new : List Cell) → n ≤ 8 → n ≤ length (trees_on old) → w ≡ node_counts (front n (forest (reverse old))) + 1 → new ≡ old ++ App f n w ∷ []
    → IsStack old → IsStack new × (trees_on new ≡ app f (trees (take n (trees_on old))) ∷ drop n (trees_on old))
applied f n w old new few there wide e s =
    let ts = forest (reverse old) in
    let r : reverse new ≡ App f n w ∷ reverse old = ap reverse e ∙ reverse-append old (App f n w ∷ []) in
    let c : count (front n ts) ≡ n = count-front n ts (omega (arith, there, length-list_of ts)) in
    let b = narrow-split n ts s.narrow in
    let g : forest (reverse new) ≡ more (app f (front n ts)) (behind n ts) = ap forest r in
    let v : 1 + node_counts (front n ts) ≡ w = omega (arith, wide) in (
      record {
        terms = ap all_cells g ∙ ((λ i. App f (c i) (v i) ∷ (cells-split n ts ∙ s.terms) i) ∙ sym r);
        narrow = ap are_narrow g ∙ both_true (both_true (le-leb (count (front n ts)) 8 (omega (arith, c, few))) b.0) b.1;
      },
      ap list_of g ∙ (λ i. app f (front-take n ts i) ∷ behind-drop n ts i),
    )

refilled : (xs ys : List Cell) → length xs ≡ length ys → refill (length xs) xs ys ≡ ys
refilled xs ys e =
    ap (λ zs. take (length xs) (ys ++ zs)) (drop_all (length ys) xs (omega (arith, e)))
    ∙ (ap (take (length xs)) (append-nil ys) ∙ take_all (length xs) ys (omega (arith, e)))

only : (ts : Trees) → length (list_of ts) ≡ 1 → (t : Tree) × (ts ≡ more t none)
only none h = absurd (omega arith)
only (more t none) h = (t, refl)
only (more t (more u ts)) h = absurd (omega arith)

-- the only term on the stack
pub alone : (old new : List Cell) → length (trees_on old) ≡ 1 → IsStack old → new ≡ reverse old → IsTerm (refill (length old) old new) × (trees_on old ≡ tree_of (refill (length old) old new) ∷ [])
alone old new h s e =
    let o = only (forest (reverse old)) h in
    let n : length old ≡ length new = sym (ap length e ∙ length-reverse old) in
    let w : refill (length old) old new ≡ cells_of o.0 = refilled old new n ∙ (e ∙ (sym s.terms ∙ (ap all_cells o.1 ∙ append-nil (cells_of o.0)))) in
    let narrow : is_narrow o.0 ≡ true = (both (is_narrow o.0) true (sym (ap are_narrow o.1) ∙ s.narrow)).0 in
    let term = are_term o.0 (refill (length old) old new) w narrow in
    let t : tree_of (refill (length old) old new) ≡ o.0 = ap tree_of w ∙ read o.0 in
    (term, ap list_of o.1 ∙ ap (λ u. u ∷ []) (sym t))
  where
    read : (t : Tree) → tree_of (cells_of t) ≡ t
    read t = tree_of-cells_of t

-- the back of a list, turned round, is the front of the list that is turned round
reverse-drop : (xs : List Cell) (w : ℕ) → w ≤ length xs → reverse (drop (length xs - w) xs) ≡ take w (reverse xs)
reverse-drop xs w h =
    let k = length xs - w in
    let back = reverse (drop k xs) in
    let whole : reverse xs ≡ back ++ reverse (take k xs) = ap reverse (sym (take-append-drop k xs)) ∙ reverse-append (take k xs) (drop k xs) in
    let n : length back ≡ w = omega (arith, length-reverse (drop k xs), length-drop k xs) in
    sym (ap (take w) whole ∙ (take-append-le w back (reverse (take k xs)) (omega (arith, n)) ∙ take_all w back (omega (arith, n))))

-- the term in front is taken away
pub record IsPopped (old copied turned : List Cell) (w : ℕ) : Type 0 where
  pub fits : w ≤ length old
  pub term : copied ≡ drop (length old - w) old → turned ≡ reverse copied → IsTerm (refill (length copied) copied turned)
  pub rest : IsStack (take (length old - w) old)
  pub seen : copied ≡ drop (length old - w) old → turned ≡ reverse copied → trees_on old ≡ tree_of (refill (length copied) copied turned) ∷ trees_on (take (length old - w) old)

pub popped : (old copied turned : List Cell) (w : ℕ) → IsStack old → 0 < length (trees_on old) → w ≡ node_counts (front 1 (forest (reverse old))) → IsPopped old copied turned w
popped old copied turned w s p e = by (forest (reverse old)) refl
  where
    by : (ts : Trees) → forest (reverse old) ≡ ts → IsPopped old copied turned w
    by none f = absurd (omega (arith, p, ap (λ us. length (list_of us)) f))
    by (more t us) f =
        let whole : reverse old ≡ cells_of t ++ all_cells us = sym s.terms ∙ ap all_cells f in
        let size : w ≡ length (cells_of t) = omega (arith, e, ap (λ vs. node_counts (front 1 vs)) f, length-cells_of t) in
        let there : w ≤ length old = omega (arith, size, ap length whole, length-append (cells_of t) (all_cells us), length-reverse old) in
        let narrow = both (is_narrow t) (are_narrow us) (sym (ap are_narrow f) ∙ s.narrow) in
        let first_is : take w (reverse old) ≡ cells_of t = ap (take w) whole ∙ (take-append-le w (cells_of t) (all_cells us) (omega (arith, size)) ∙ take_all w (cells_of t) (omega (arith, size))) in
        let rest_is : reverse (take (length old - w) old) ≡ all_cells us = reverse-take old w there
        ∙ (ap (drop w) whole ∙ (ap (λ n. drop n (cells_of t ++ all_cells us)) size ∙ drop-append_seam (cells_of t) (all_cells us))) in
        let rest_read : forest (reverse (take (length old - w) old)) ≡ us = ap forest rest_is ∙ forest-all_cells us in
        let cells = λ (c : copied ≡ drop (length old - w) old) (d : turned ≡ reverse copied). refilled copied turned (sym (ap length d ∙ length-reverse copied))
        ∙ (d ∙ (ap reverse c ∙ (reverse-drop old w there ∙ first_is))) in
        record {
          fits = there;
          term = λ c d. are_term t (refill (length copied) copied turned) (cells c d) narrow.0;
          rest = record { terms = are_terms us (reverse (take (length old - w) old)) rest_is; narrow = ap are_narrow rest_read ∙ narrow.1 };
          seen = λ c d. ap list_of f ∙ (λ i. sym (read_from t (refill (length copied) copied turned) (cells c d)) i ∷ sym (ap list_of rest_read) i);
        }
