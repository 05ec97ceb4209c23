-- What a stack of nodes has left to find. The last node of a stack is the first one.
use Rattle.std.proofs.Common.{◌≡◌, ℕ, zero, suc, ◌+◌, ◌<◌, ◌≤◌, List, [], ◌∷◌, ◌++◌, map, Option, Some, None, refl, ap, ◌∙◌, sym, arith, append_assoc, append-nil}
use Rattle.std.specs.Prelude.{slice_get}
use Rattle.std.specs.Prelude.{reverse}
use Rattle.std.proofs.lemmas.List.{reverse-append, reverse-reverse, map-append}
use Rattle.dps_branch.specs.declared.kind.StopKind.{StopKind}
use Rattle.dps_branch.specs.LookTrees.{LookTree, LookTrees, stop, kids, none_left, one_more, list_of}
use Rattle.dps_branch.specs.Looks.{AreKids}
use Rattle.dps_pool.proofs.Firsts.{Stop, under, or_else, first_stop, first_from}

-- how many nodes a tree has
abbrev mutual
  pub weight : LookTree → ℕ
  weight (stop kind) = 1
  weight (kids trees) = suc (weights trees)

  pub weights : LookTrees → ℕ
  weights none_left = 0
  weights (one_more tree trees) = weight tree + weights trees

abbrev pub pile : List LookTree → ℕ
pile [] = 0
pile (tree ∷ trees) = weight tree + pile trees

pile-append : (xs ys : List LookTree) → pile (xs ++ ys) ≡ pile xs + pile ys
pile-append [] ys = omega arith
pile-append (x ∷ xs) ys = omega (arith, pile-append xs ys)

pile-list : (trees : LookTrees) → pile (list_of trees) ≡ weights trees
pile-list none_left = refl
pile-list (one_more tree trees) = omega (arith, pile-list trees)

-- the first stop below a path
abbrev pub at : List ℕ → Option Stop → Option Stop
at path None = None
at path (Some s) = Some (path ++ s.0, s.1)

-- the first stop of some nodes, of which each is before those behind it
abbrev pub first_among : {N : Type 0} → (N → List ℕ) → (N → LookTree) → List N → Option Stop
first_among place looks [] = None
first_among place looks (n ∷ nodes) = or_else (at (place n) (first_stop (looks n))) (first_among place looks nodes)

or_at : (path : List ℕ) (x y : Option Stop) → or_else (at path x) (at path y) ≡ at path (or_else x y)
or_at path None y = refl
or_at path (Some s) y = refl

at_under : (path : List ℕ) (i : ℕ) (x : Option Stop) → at (path ++ i ∷ []) x ≡ at path (under i x)
at_under path i None = refl
at_under path i (Some s) = ap (λ (p : List ℕ). Some (p, s.1)) (append_assoc path (i ∷ []) s.0)

or_assoc : (x y z : Option Stop) → or_else (or_else x y) z ≡ or_else x (or_else y z)
or_assoc None y z = refl
or_assoc (Some s) y z = refl

among-append : {N : Type 0} (place : N → List ℕ) (looks : N → LookTree) (xs ys : List N) → first_among place looks (xs ++ ys) ≡ or_else (first_among place looks xs) (first_among place looks ys)
among-append place looks [] ys = refl
among-append place looks (x ∷ xs) ys =
    ap (or_else (at (place x) (first_stop (looks x)))) (among-append place looks xs ys)
    ∙ sym (or_assoc (at (place x) (first_stop (looks x))) (first_among place looks xs) (first_among place looks ys))

first_tree : (t u : LookTree) (ts us : List LookTree) → t ∷ ts ≡ u ∷ us → t ≡ u
first_tree t u ts us e = cc

other_trees : (t u : LookTree) (ts us : List LookTree) → t ∷ ts ≡ u ∷ us → ts ≡ us
other_trees t u ts us e = cc

-- the first stop of the kids of a path, from number i on
kids_first : {N : Type 0} (place : N → List ℕ) (looks : N → LookTree) (path : List ℕ) (i : ℕ) (trees : LookTrees) (nodes : List N) → map looks nodes ≡ list_of trees
    → ((j : ℕ) (n : N) → slice_get nodes j ≡ Some n → place n ≡ path ++ (i + j) ∷ []) → first_among place looks nodes ≡ at path (first_from i trees)
kids_first place looks path i none_left [] e at_place = refl
kids_first place looks path i none_left (n ∷ nodes) e at_place = cc
kids_first place looks path i (one_more tree trees) [] e at_place = cc
kids_first place looks path i (one_more tree trees) (n ∷ nodes) e at_place =
    let here : place n ≡ path ++ i ∷ [] = at_place 0 n refl ∙ ap (λ (k : ℕ). path ++ k ∷ []) (let z : i + 0 ≡ i = omega arith in z) in
    let rest = kids_first place looks path (suc i) trees nodes (other_trees (looks n) tree (map looks nodes) (list_of trees) e)
    (λ j m g. at_place (suc j) m g ∙ ap (λ (k : ℕ). path ++ k ∷ []) (let z : i + suc j ≡ suc i + j = omega arith in z)) in
    ap (λ (p : List ℕ). or_else (at p (first_stop (looks n))) (first_among place looks nodes)) here
    ∙ ap (λ (t : LookTree). or_else (at (path ++ i ∷ []) (first_stop t)) (first_among place looks nodes)) (first_tree (looks n) tree (map looks nodes) (list_of trees) e)
    ∙ ap (λ (x : Option Stop). or_else x (first_among place looks nodes)) (at_under path i (first_stop tree))
    ∙ ap (or_else (at path (under i (first_stop tree)))) rest
    ∙ or_at path (under i (first_stop tree)) (first_from (suc i) trees)

pub kids-first : {N : Type 0} (place : N → List ℕ) (looks : N → LookTree) (path : List ℕ) (tree : LookTree) (nodes : List N) → AreKids place looks path tree nodes
    → first_among place looks nodes ≡ at path (first_stop tree)
kids-first place looks path tree nodes k =
    kids_first place looks path 0 k.trees nodes k.looks_are (λ j n g. k.places j n g ∙ ap (λ (i : ℕ). path ++ i ∷ []) (let z : j ≡ 0 + j = omega arith in z))
    ∙ ap (λ (t : LookTree). at path (first_stop t)) (sym k.tree_is)

-- a node gives way to its kids
pub expanded : {N : Type 0} (place : N → List ℕ) (looks : N → LookTree) (node : N) (nodes rest : List N) → AreKids place looks (place node) (looks node) nodes
    → first_among place looks (reverse (rest ++ reverse nodes)) ≡ first_among place looks (reverse (rest ++ node ∷ []))
expanded place looks node nodes rest k =
    ap (first_among place looks) (reverse-append rest (reverse nodes) ∙ ap (λ (xs : List _). xs ++ reverse rest) (reverse-reverse nodes))
    ∙ among-append place looks nodes (reverse rest)
    ∙ ap (λ (x : Option Stop). or_else x (first_among place looks (reverse rest))) (kids-first place looks (place node) (looks node) nodes k)
    ∙ sym (ap (first_among place looks) (reverse-append rest (node ∷ [])))

-- a node that stops is found
pub stopped : {N : Type 0} (place : N → List ℕ) (looks : N → LookTree) (node : N) (rest : List N) (kind : StopKind) → looks node ≡ stop kind
    → first_among place looks (reverse (rest ++ node ∷ [])) ≡ Some (place node, kind)
stopped place looks node rest kind e =
    ap (first_among place looks) (reverse-append rest (node ∷ []))
    ∙ ap (λ (t : LookTree). or_else (at (place node) (first_stop t)) (first_among place looks (reverse rest))) e
    ∙ ap (λ (p : List ℕ). Some (p, kind)) (append-nil (place node))

at_root : (x : Option Stop) → or_else (at [] x) None ≡ x
at_root None = refl
at_root (Some s) = refl

pub root-first : {N : Type 0} (place : N → List ℕ) (looks : N → LookTree) (root : N) → place root ≡ [] → first_among place looks (reverse (root ∷ [])) ≡ first_stop (looks root)
root-first place looks root e = ap (λ (p : List ℕ). or_else (at p (first_stop (looks root))) None) e ∙ at_root (first_stop (looks root))

pile_reverse : {N : Type 0} (looks : N → LookTree) (nodes : List N) → pile (map looks (reverse nodes)) ≡ pile (map looks nodes)
pile_reverse looks [] = refl
pile_reverse looks (n ∷ nodes) =
    let e : reverse (n ∷ nodes) ≡ reverse nodes ++ n ∷ [] = reverse-append (n ∷ []) nodes in
    omega (arith, ap (λ (xs : List _). pile (map looks xs)) e, ap pile (map-append looks (reverse nodes) (n ∷ [])), pile-append (map looks (reverse nodes)) (looks n ∷ []), pile_reverse looks nodes)

pub smaller : {N : Type 0} (place : N → List ℕ) (looks : N → LookTree) (node : N) (nodes rest : List N) → AreKids place looks (place node) (looks node) nodes
    → pile (map looks (rest ++ reverse nodes)) < pile (map looks (rest ++ node ∷ []))
smaller place looks node nodes rest k =
    let one : pile (map looks (rest ++ node ∷ [])) ≡ pile (map looks rest) + pile (looks node ∷ []) = ap pile (map-append looks rest (node ∷ [])) ∙ pile-append (map looks rest) (looks node ∷ []) in
    let many : pile (map looks (rest ++ reverse nodes)) ≡ pile (map looks rest) + pile (map looks (reverse nodes)) = ap pile (map-append looks rest (reverse nodes))
    ∙ pile-append (map looks rest) (map looks (reverse nodes)) in
    let trees : pile (map looks nodes) ≡ weights k.trees = ap pile k.looks_are ∙ pile-list k.trees in
    let top : weight (looks node) ≡ suc (weights k.trees) = ap weight k.tree_is in
    omega (arith, one, many, trees, top, pile_reverse looks nodes)
