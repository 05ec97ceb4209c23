-- What cells become where trees take the place of leaves.
use Rattle.std.proofs.Common.{◌≡◌, ℕ, zero, suc, ◌+◌, ◌≤◌, ◌<◌, List, [], ◌∷◌, ◌++◌, length, get_or, take, drop, refl, ap, sym, ◌∙◌, arith, add-one, drop-cons}
use Rattle.std.specs.Prelude.{true, ◌&&◌, nat_le}
use Rattle.std.proofs.lemmas.Bool.{leb-true}
use Rattle.dps_terms.specs.declared.Sym.{Sym}
use Rattle.dps_terms.specs.declared.cells.Cell.{Cell}
use Rattle.dps_terms.specs.declared.cells.Cell.TheVariants.{App, Declared, At, Private, Var, Ax, Entry, Rigid}
use Rattle.dps_terms.specs.Tree.{Leaf, Tree, Trees, app, none, more, count, list_of, trees}
use Rattle.dps_terms.specs.Replace.{replace, replace_all}
use Rattle.dps_terms.specs.Views.{arguments}
use Rattle.dps_terms.specs.Cells.{all_cells, front, behind, over, forest, first, is_narrow, are_narrow, AreTerms, arity_at}
use Rattle.dps_terms.proofs.Preorder.{both, length-list_of}
use Rattle.dps_terms.proofs.Subterms.{list_of-trees}
use Rattle.dps_terms.proofs.Stacked.{front-take, behind-drop, cells-split, count-front}

replace-front : (F : Leaf → Tree) (n : ℕ) (ts : Trees) → replace_all F (front n ts) ≡ front n (replace_all F ts)
replace-front F zero ts = refl
replace-front F (suc n) none = refl
replace-front F (suc n) (more t ts) = ap (more (replace F t)) (replace-front F n ts)

replace-behind : (F : Leaf → Tree) (n : ℕ) (ts : Trees) → replace_all F (behind n ts) ≡ behind n (replace_all F ts)
replace-behind F zero ts = refl
replace-behind F (suc n) none = refl
replace-behind F (suc n) (more t ts) = replace-behind F n ts

-- a symbol takes its arguments off the instances
pub instance_app : (F : Leaf → Tree) (f : Sym) (n w : ℕ) (old new : List Tree) (ts : Trees) → old ≡ list_of (replace_all F ts) → new ≡ app f (trees (take n old)) ∷ drop n old
    → new ≡ list_of (replace_all F (over (App f n w) ts))
instance_app F f n w old new ts o e =
    let us = replace_all F ts in
    e
    ∙ (ap (λ xs. app f (trees (take n xs)) ∷ drop n xs) o
    ∙ (λ i. app f (sym (replace-front F n ts ∙ front-take n us) i) ∷ sym (ap list_of (replace-behind F n ts) ∙ behind-drop n us) i))

count-front-inv : (n : ℕ) (ts : Trees) → count (front n ts) ≡ n → n ≤ count ts
count-front-inv zero ts e = omega arith
count-front-inv (suc n) none e = absurd (omega (arith, e))
count-front-inv (suc n) (more t ts) e = omega (arith, count-front-inv n ts (omega (arith, e)))

-- what the first cell of terms takes is there
pub record IsFed (c : Cell) (cs : List Cell) : Type 0 where
  pub terms : AreTerms cs
  pub narrow : are_narrow (forest cs) ≡ true
  pub few : arity_at c ≤ 8
  pub there : arity_at c ≤ count (forest cs)

narrow_parts : (n : ℕ) (ts : Trees) → are_narrow (front n ts) ≡ true → are_narrow (behind n ts) ≡ true → are_narrow ts ≡ true
narrow_parts zero ts a b = b
narrow_parts (suc n) none a b = refl
narrow_parts (suc n) (more t ts) a b =
    let h = both (is_narrow t) (are_narrow (front n ts)) a in
    let r = narrow_parts n ts h.1 b in
    rw (h.0, r) refl

app_fed : (f : Sym) (n w : ℕ) (cs : List Cell) → AreTerms (App f n w ∷ cs) → are_narrow (forest (App f n w ∷ cs)) ≡ true → IsFed (App f n w) cs
app_fed f n w cs e h =
    let ts = forest cs in
    let k : count (front n ts) ≡ n = cc in
    let rest : all_cells (front n ts) ++ all_cells (behind n ts) ≡ cs = cc in
    let b = both (nat_le (count (front n ts)) 8 && are_narrow (front n ts)) (are_narrow (behind n ts)) h in
    let d = both (nat_le (count (front n ts)) 8) (are_narrow (front n ts)) b.0 in
    record {
      terms = sym (cells-split n ts) ∙ rest;
      narrow = narrow_parts n ts d.1 b.1;
      few = omega (arith, k, leb-true (count (front n ts)) 8 d.0);
      there = count-front-inv n ts k;
    }

fed : (c : Cell) (cs : List Cell) → AreTerms (c ∷ cs) → are_narrow (forest (c ∷ cs)) ≡ true → IsFed c cs
fed (App f n w) cs e h = app_fed f n w cs e h
fed (Declared n) cs e h = record { terms = cc; narrow = h; few = omega arith; there = omega arith }
fed (At n) cs e h = record { terms = cc; narrow = h; few = omega arith; there = omega arith }
fed (Private n) cs e h = record { terms = cc; narrow = h; few = omega arith; there = omega arith }
fed (Var n) cs e h = record { terms = cc; narrow = h; few = omega arith; there = omega arith }
fed (Ax n) cs e h = record { terms = cc; narrow = h; few = omega arith; there = omega arith }
fed (Entry n) cs e h = record { terms = cc; narrow = h; few = omega arith; there = omega arith }
fed (Rigid n) cs e h = record { terms = cc; narrow = h; few = omega arith; there = omega arith }

-- a back of terms is terms
pub back : (cells : List Cell) (i : ℕ) → AreTerms cells → are_narrow (forest cells) ≡ true → AreTerms (drop i cells) × (are_narrow (forest (drop i cells)) ≡ true)
back cells zero e h = (e, h)
back [] (suc i) e h = (e, h)
back (c ∷ cs) (suc i) e h = let k = fed c cs e h in back cs i k.terms k.narrow

pub fed_at : (cells : List Cell) (i : ℕ) (d : Cell) → i < length cells → AreTerms cells → are_narrow (forest cells) ≡ true → IsFed (get_or cells i d) (drop (i + 1) cells)
fed_at cells i d l e h =
    let b = back cells i e h in
    let s : drop i cells ≡ get_or cells i d ∷ drop (suc i) cells = drop-cons cells i d l in
    rw add-one (fed (get_or cells i d) (drop (suc i) cells) (rw s at b.0) (rw s at b.1))

pub forest_at : (cells : List Cell) (i : ℕ) (d : Cell) → i < length cells → forest (drop i cells) ≡ over (get_or cells i d) (forest (drop (i + 1) cells))
forest_at cells i d l = rw (add-one, drop-cons cells i d l) refl

pub length-replace : (F : Leaf → Tree) (ts : Trees) → length (list_of (replace_all F ts)) ≡ count ts
length-replace F none = refl
length-replace F (more t ts) = omega (arith, length-replace F ts)

-- A cell's tree, and the trees that it took.
pub record IsTaken (c : Cell) (ts : Trees) : Type 0 where
  pub split : list_of (over c ts) ≡ first (over c ts) ∷ drop (length (arguments (first (over c ts)))) (list_of ts)
  pub below : arguments (first (over c ts)) ≡ take (length (arguments (first (over c ts)))) (list_of ts)

app_taken : (f : Sym) (n w : ℕ) (ts : Trees) → n ≤ count ts → IsTaken (App f n w) ts
app_taken f n w ts h =
    let l : length (list_of (front n ts)) ≡ n = length-list_of (front n ts) ∙ count-front n ts h in
    let t : list_of (front n ts) ≡ take n (list_of ts) = ap list_of (front-take n ts) ∙ list_of-trees (take n (list_of ts)) in
    record {
      split = ap (λ us. app f (front n ts) ∷ us) (behind-drop n ts ∙ ap (λ k. drop k (list_of ts)) (sym l));
      below = t ∙ ap (λ k. take k (list_of ts)) (sym l);
    }

pub taken : (c : Cell) (ts : Trees) → arity_at c ≤ count ts → IsTaken c ts
taken (App f n w) ts h = app_taken f n w ts h
taken (Declared n) ts h = record { split = refl; below = refl }
taken (At n) ts h = record { split = refl; below = refl }
taken (Private n) ts h = record { split = refl; below = refl }
taken (Var n) ts h = record { split = refl; below = refl }
taken (Ax n) ts h = record { split = refl; below = refl }
taken (Entry n) ts h = record { split = refl; below = refl }
taken (Rigid n) ts h = record { split = refl; below = refl }
