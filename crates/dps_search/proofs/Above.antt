-- The least number above others.
use Rattle.std.proofs.Common.{◌≡◌, ℕ, suc, ◌+◌, ◌<◌, max, List, [], ◌∷◌, ◌++◌, length, map, get_or, take, drop, Option, Some, None, refl, sym, ◌∙◌, ap, arith, add-one, drop-cons, append_assoc}
use Rattle.std.specs.List.{flat_map, filter_map, cons_option}
use Rattle.dps_terms.specs.Tree.{Tree}
use Rattle.dps_terms.specs.declared.borrowed.TermView.TheVariants.{Var}
use Rattle.dps_terms.specs.Views.{view_of, arguments}
use Rattle.dps_terms.specs.Walk.{subterms_from}
use Rattle.dps_terms.specs.Variables.{occurrences}
use Rattle.dps_know.specs.declared.know.Entry.{Entry}
use Rattle.dps_solver.specs.Search.{least_above}
use Rattle.dps_search.specs.Numbers.{root_numbers, composition_numbers}
use Rattle.dps_search.proofs.Nodes.{from_node, from_start, root_number, no_root_number}

pub above_append : (xs ys : List ℕ) → least_above (xs ++ ys) ≡ max (least_above xs) (least_above ys)
above_append [] ys = omega arith
above_append (x ∷ xs) ys = omega (arith, above_append xs ys)

-- one more of a list
module _ {X : Type 0} (f : X → List ℕ) (xs : List X) (i : ℕ) (x : X) (m n whole : ℕ) (within : i < length xs) (at : x ≡ get_or xs i x) where
  split : drop i xs ≡ x ∷ drop (i + 1) xs
  split = drop-cons xs i x within ∙ (λ j. sym at j ∷ drop (suc i) xs) ∙ ap (λ k. x ∷ drop k xs) (sym (add-one i))

  pub above_next : max m (least_above (flat_map f (drop i xs))) ≡ whole → n ≡ max m (least_above (f x)) → max n (least_above (flat_map f (drop (i + 1) xs))) ≡ whole
  above_next h e =
      let both : least_above (flat_map f (drop i xs)) ≡ max (least_above (f x)) (least_above (flat_map f (drop (i + 1) xs))) =
      ap (λ ys. least_above (flat_map f ys)) split ∙ above_append (f x) (flat_map f (drop (i + 1) xs)) in
      omega (arith, h, e, both)

pub above_next_number : (xs : List ℕ) (i x m n whole : ℕ) → i < length xs → x ≡ get_or xs i x → max m (least_above (drop i xs)) ≡ whole → n ≡ max m (x + 1)
    → max n (least_above (drop (i + 1) xs)) ≡ whole
above_next_number xs i x m n whole within at h e =
    let both : least_above (drop i xs) ≡ max (x + 1) (least_above (drop (i + 1) xs)) = ap least_above (split (λ y. y ∷ []) xs i x m n whole within at) in
    omega (arith, h, e, both)

pub above_next_level : (xs : List (ℕ × ℕ)) (i : ℕ) (x : ℕ × ℕ) (m n whole : ℕ) → i < length xs → x ≡ get_or xs i x → max m (least_above (map (λ (p : ℕ × ℕ). p.0) (drop i xs))) ≡ whole
    → n ≡ max m (x.0 + 1) → max n (least_above (map (λ (p : ℕ × ℕ). p.0) (drop (i + 1) xs))) ≡ whole
above_next_level xs i x m n whole within at h e =
    let both : least_above (map (λ (p : ℕ × ℕ). p.0) (drop i xs)) ≡ max (x.0 + 1) (least_above (map (λ (p : ℕ × ℕ). p.0) (drop (i + 1) xs))) =
    ap (λ (ys : List (ℕ × ℕ)). least_above (map (λ (p : ℕ × ℕ). p.0) ys)) (split (λ (p : ℕ × ℕ). p.0 ∷ []) xs i x m n whole within at) in
    omega (arith, h, e, both)

-- node by node
pub above_node : (t s : Tree) (node base m n : ℕ) → subterms_from t node ≡ s ∷ drop (length (arguments s)) (subterms_from t (node + 1))
    → arguments s ≡ take (length (arguments s)) (subterms_from t (node + 1)) → m ≡ max base (least_above (flat_map occurrences (subterms_from t (node + 1))))
    → n ≡ max m (least_above (root_numbers s)) → n ≡ max base (least_above (flat_map occurrences (subterms_from t node)))
above_node t s node base m n at below h e =
    let here : least_above (flat_map occurrences (subterms_from t node)) ≡ max (least_above (root_numbers s)) (least_above (flat_map occurrences (subterms_from t (node + 1)))) =
    ap least_above (from_node t s node at below) ∙ above_append (root_numbers s) (flat_map occurrences (subterms_from t (node + 1))) in
    omega (arith, h, e, here)

pub above_end : (t : Tree) (node base : ℕ) → subterms_from t node ≡ [] → base ≡ max base (least_above (flat_map occurrences (subterms_from t node)))
above_end t node base e =
    let none : least_above (flat_map occurrences (subterms_from t node)) ≡ 0 = ap (λ ts. least_above (flat_map occurrences ts)) e in
    omega (arith, none)

pub above_whole : (t : Tree) (base n : ℕ) → n ≡ max base (least_above (flat_map occurrences (subterms_from t 0))) → n ≡ max base (least_above (occurrences t))
above_whole t base n h = h ∙ ap (λ ns. max base (least_above ns)) (from_start t)

pub above_variable : (s : Tree) (n base m : ℕ) → view_of s ≡ Var n → m ≡ max base (n + 1) → m ≡ max base (least_above (root_numbers s))
above_variable s n base m e h =
    let own : least_above (root_numbers s) ≡ max (n + 1) 0 = ap least_above (root_number s n e) in
    omega (arith, h, own)

pub above_other : (s : Tree) (base : ℕ) → ((n : ℕ) → view_of s ≡ Var n → ⊥) → base ≡ max base (least_above (root_numbers s))
above_other s base h =
    let own : least_above (root_numbers s) ≡ 0 = ap least_above (no_root_number s h) in
    omega (arith, own)

-- parts of a scene
pub flat_compositions : (es : List Entry) → flat_map composition_numbers es ≡ flat_map occurrences (filter_map (λ (e : Entry). e.composition) es)
flat_compositions [] = refl
flat_compositions (e ∷ es) = ap (λ ns. composition_numbers e ++ ns) (flat_compositions es) ∙ joined e.composition (filter_map (λ (d : Entry). d.composition) es)
  where
    joined : (o : Option Tree) (ts : List Tree) → flat_map occurrences (cons_option o []) ++ flat_map occurrences ts ≡ flat_map occurrences (cons_option o ts)
    joined None ts = refl
    joined (Some t) ts = append_assoc (occurrences t) [] (flat_map occurrences ts)

pub flat_map-map : {X Y : Type 0} (f : Y → List ℕ) (g : X → Y) (xs : List X) → flat_map (λ x. f (g x)) xs ≡ flat_map f (map g xs)
flat_map-map f g [] = refl
flat_map-map f g (x ∷ xs) = ap (λ ns. f (g x) ++ ns) (flat_map-map f g xs)

-- all parts of a scene and an ask
grown : (xs ys : List ℕ) (a b : ℕ) → b ≡ max a (least_above xs) → max b (least_above ys) ≡ max a (least_above (xs ++ ys))
grown xs ys a b e = omega (arith, e, above_append xs ys)

from_zero : (n : ℕ) → max 0 n ≡ n
from_zero n = omega arith

pub system_is : (levels recipes trees handles labels disequations : List ℕ) (one two three four : ℕ)
    → one ≡ max 0 (least_above levels) → two ≡ max one (least_above (recipes ++ (trees ++ handles))) → three ≡ max two (least_above labels)
    → four ≡ max three (least_above disequations) → four ≡ least_above (levels ++ (recipes ++ (trees ++ (handles ++ (labels ++ disequations)))))
system_is levels recipes trees handles labels disequations one two three four a b c d =
    let known = recipes ++ (trees ++ handles) in
    let rest = labels ++ disequations in
    d ∙ grown labels disequations two three c ∙ grown known rest one two b ∙ grown levels (known ++ rest) 0 one a ∙ from_zero (least_above (levels ++ (known ++ rest)))
    ∙ ap (λ xs. least_above (levels ++ xs)) (append_assoc recipes (trees ++ handles) rest ∙ ap (λ xs. recipes ++ xs) (append_assoc trees handles rest))

pub first_is : (system values equations targets : List ℕ) (one two three four : ℕ)
    → one ≡ least_above system → two ≡ max one (least_above values) → three ≡ max two (least_above equations) → four ≡ max three (least_above targets)
    → four ≡ least_above (system ++ (values ++ (equations ++ targets)))
first_is system values equations targets one two three four a b c d =
    omega (arith, a, b, c, d, above_append system (values ++ (equations ++ targets)), above_append values (equations ++ targets), above_append equations targets)
