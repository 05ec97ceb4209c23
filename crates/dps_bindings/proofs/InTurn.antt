-- Pieces that are put one after the other.
use Rattle.std.proofs.Common.{◌≡◌, ℕ, zero, suc, ◌+◌, ◌<◌, ◌≤◌, Bool, true, false, cond, nat_eq, List, [], ◌∷◌, ◌++◌, length, map, take, drop, get_or, Some, None, refl, sym, ◌∙◌, ap, arith, add-one, drop-cons, length-append}
use Rattle.std.specs.Prelude.{unwrap_or}
use Rattle.std.specs.List.{range_with_len}
use Rattle.std.proofs.lemmas.List.{map-append, drop_all}
use Rattle.std.proofs.lemmas.List.FromFn.{length-map-range_with_len}
use Rattle.dps_terms.specs.declared.Sym.{Sym}
use Rattle.dps_terms.specs.Tree.{var, Tree, leaf, app, trees}
use Rattle.dps_terms.specs.Replace.{substitute, variables_to}
use Rattle.dps_terms.specs.Bindings.{image}
use Rattle.dps_terms.proofs.Arguments.{replace_trees}
use Rattle.dps_unify.proofs.Trees.{substitute_in_turn, substitute_itself}
use Rattle.dps_solver.specs.Search.{then_put}
use Rattle.dps_bindings.specs.declared.piece.Given.{Given}
use Rattle.dps_bindings.specs.Pieces.{piece_tree, variables_from, pairs_of, put_for}
use Rattle.dps_bindings.specs.Putting.{after_all, in_turn, image_with}

after_append : (ps : List (ℕ × Tree)) (p : ℕ × Tree) (t : Tree) → after_all (ps ++ p ∷ []) t ≡ substitute (image (p ∷ [])) (after_all ps t)
after_append [] p t = refl
after_append (q ∷ ps) p t = after_append ps p (substitute (image (q ∷ [])) t)

-- one more piece
pub given_more : (old new : List Given) (g : Given) → new ≡ old ++ g ∷ [] → in_turn (pairs_of new) ≡ then_put g.variable (piece_tree g.piece) (in_turn (pairs_of old))
given_more old new g e = λ i x.
    (ap (λ (gs : List Given). after_all (pairs_of gs) (leaf (var x))) e
    ∙ ap (λ ps. after_all ps (leaf (var x))) (map-append (λ (h : Given). (h.variable, piece_tree h.piece)) old (g ∷ []))
    ∙ after_append (pairs_of old) (g.variable, piece_tree g.piece) (leaf (var x))) i

-- all of them are one substitution
after_is : (ps : List (ℕ × Tree)) (t : Tree) → after_all ps t ≡ substitute (in_turn ps) t
after_is [] t = sym (substitute_itself t)
after_is (p ∷ ps) t =
    after_is ps (substitute (image (p ∷ [])) t) ∙ substitute_in_turn (in_turn ps) (image (p ∷ [])) t
    ∙ ap (λ (z : ℕ → Tree). substitute z t) (λ i x. sym (after_is ps (image (p ∷ []) x)) i)

-- the first one is put before the others
at_first : (b : Bool) (z : ℕ → Tree) (t : Tree) (y : ℕ) → substitute z (unwrap_or (cond b (Some t) None) (leaf (var y))) ≡ cond b (substitute z t) (z y)
at_first true z t y = refl
at_first false z t y = refl

first_before : (p : ℕ × Tree) (ps : List (ℕ × Tree)) → in_turn (p ∷ ps) ≡ image_with p.0 (substitute (in_turn ps) p.1) (in_turn ps)
first_before p ps = λ i y. (after_is ps (image (p ∷ []) y) ∙ at_first (nat_eq y p.0) (in_turn ps) p.1 y) i

pub given_before :
    (given : List Given) (left : ℕ) (g d : Given) (old new : ℕ → Tree) → left < length given → g ≡ get_or given left d
    → old ≡ in_turn (pairs_of (drop (left + 1) given)) → new ≡ image_with g.variable (substitute old (piece_tree g.piece)) old
    → new ≡ in_turn (pairs_of (drop left given))
given_before given left g d old new within at o n =
    let rest = drop (left + 1) given in
    let split : drop left given ≡ g ∷ rest =
    drop-cons given left d within ∙ (λ j. sym at j ∷ drop (suc left) given) ∙ ap (λ k. g ∷ drop k given) (sym (add-one left)) in
    n ∙ ap (λ (z : ℕ → Tree). image_with g.variable (substitute z (piece_tree g.piece)) z) o
    ∙ sym (first_before (g.variable, piece_tree g.piece) (pairs_of rest)) ∙ ap (λ (gs : List Given). in_turn (pairs_of gs)) (sym split)

pub none_given : (given : List Given) (left : ℕ) (later : List (ℕ × Tree)) → later ≡ [] → length given ≤ left → image later ≡ in_turn (pairs_of (drop left given))
none_given given left later e h = ap image e ∙ ap (λ (gs : List Given). in_turn (pairs_of gs)) (sym (drop_all left given h))

-- so many variables are put, the last ones first
abbrev pub ArePutFrom : (ℕ → Tree) → ℕ → ℕ → ℕ → List Tree → List Tree → Type 0
ArePutFrom z first left count old stack = (k : ℕ) → k + left ≡ count → stack ≡ put_for z (first + left) k old

pub none_put : (z : ℕ → Tree) (first count : ℕ) (old : List Tree) → ArePutFrom z first count count old old
none_put z first count old zero e = refl
none_put z first count old (suc k) e = absurd (omega (arith, e))

pub one_put :
    (z : ℕ → Tree) (first left count : ℕ) (old stack new : List Tree) → ArePutFrom z first (left + 1) count old stack → left + 1 ≤ count
    → new ≡ z (first + left) ∷ stack → ArePutFrom z first left count old new
one_put z first left count old stack new h within n zero e = absurd (omega (arith, within, e))
one_put z first left count old stack new h within n (suc k) e =
    n ∙ ap (λ ts. z (first + left) ∷ ts) (h k (omega (arith, e)))
    ∙ ap (λ m. z (first + left) ∷ put_for z m k old) (let s : first + (left + 1) ≡ (first + left) + 1 = omega arith in s)

pub all_put : (z : ℕ → Tree) (first left count : ℕ) (old stack : List Tree) → ArePutFrom z first left count old stack → left ≤ 0 → stack ≡ put_for z first count old
all_put z first left count old stack h none =
    let zero_left : left ≡ 0 = omega (arith, none) in
    h count (omega (arith, zero_left)) ∙ ap (λ m. put_for z m count old) (let s : first + left ≡ first = omega (arith, zero_left) in s)

-- a root over variables
instances : (z : ℕ → Tree) (ns : List ℕ) → map (substitute z) (map (λ n. leaf (var n)) ns) ≡ map z ns
instances z [] = refl
instances z (n ∷ ns) = ap (λ ts. z n ∷ ts) (instances z ns)

take_front : (xs ys : List Tree) → take (length xs) (xs ++ ys) ≡ xs
take_front [] ys = refl
take_front (x ∷ xs) ys = ap (λ ts. x ∷ ts) (take_front xs ys)

drop_front : (xs ys : List Tree) → drop (length xs) (xs ++ ys) ≡ ys
drop_front [] ys = refl
drop_front (x ∷ xs) ys = drop_front xs ys

pub enough_put : (z : ℕ → Tree) (first count : ℕ) (old stack : List Tree) → stack ≡ put_for z first count old → count ≤ length stack
enough_put z first count old stack e =
    omega (arith, ap length e, length-append (map z (range_with_len first count)) old, length-map-range_with_len z first count)

pub root_put : (z : ℕ → Tree) (f : Sym) (first count : ℕ) (old stack : List Tree) → stack ≡ put_for z first count old
    → app f (trees (take count stack)) ∷ drop count stack ≡ substitute z (app f (trees (variables_from first count))) ∷ old
root_put z f first count old stack e =
    let xs = map z (range_with_len first count) in
    let l : count ≡ length xs = sym (length-map-range_with_len z first count) in
    (λ i. app f (trees (take (l i) (e i))) ∷ drop (l i) (e i))
    ∙ (λ i. app f (trees (take_front xs old i)) ∷ drop_front xs old i)
    ∙ ap (λ ts. app f ts ∷ old) (ap trees (sym (instances z (range_with_len first count))) ∙ sym (replace_trees (variables_to z) (variables_from first count)))
