-- Values that are computed from those before them.
use Rattle.std.proofs.Common.{◌≡◌, ℕ, zero, suc, ◌+◌, ◌<◌, ◌≤◌, List, [], ◌∷◌, ◌++◌, Some, length, get_or, take, map, unwrap_or, refl, ap, sym, ◌∙◌, slice_get, arith}
use Rattle.std.proofs.lemmas.List.{map-append, length-map, length-take-le}
use Rattle.std.proofs.lemmas.Option.{slice_get-get_or}
use Rattle.dps_terms.specs.Tree.{Leaf, public, private, var, ax, entry, rigid, Tree, leaf, StandsIn}
use Rattle.dps_terms.specs.Replace.{substitute, numbered, variables_to, entries_to, put_entries}
use Rattle.dps_terms.proofs.Replacing.{replace_agrees}
use Rattle.dps_solver.specs.Solutions.{valued}
use Rattle.dps_node.specs.Splits.{HasOlderEntries}
use Rattle.dps_renewal.proofs.EachOnce.{one_more}

slice_more : (xs ys : List Tree) (k : ℕ) → k < length xs → slice_get (xs ++ ys) k ≡ slice_get xs k
slice_more [] ys k h = absurd (omega (arith, h))
slice_more (x ∷ xs) ys zero h = refl
slice_more (x ∷ xs) ys (suc k) h = slice_more xs ys k (omega (arith, h))

numbered_more : (ds more : List Tree) (j : ℕ) (other : Tree) → j ≤ length ds → numbered (ds ++ more) j other ≡ numbered ds j other
numbered_more ds more zero other h = refl
numbered_more ds more (suc k) other h = ap (λ o. unwrap_or o other) (slice_more ds more k (omega (arith, h)))

-- later values don't matter to a tree of older entries
entries_alike : (ds more : List Tree) (t : Tree) → ((j : ℕ) → StandsIn (entry j) t → j ≤ length ds) → put_entries (ds ++ more) t ≡ put_entries ds t
entries_alike ds more t h = replace_agrees (entries_to (ds ++ more)) (entries_to ds) t each
  where
    each : (x : Leaf) → StandsIn x t → entries_to (ds ++ more) x ≡ entries_to ds x
    each (public n) s = refl
    each (private n) s = refl
    each (var n) s = refl
    each (ax n) s = refl
    each (entry j) s = numbered_more ds more j (leaf (entry j)) (h j s)
    each (rigid n) s = refl

-- nor to a value
value_alike : (z : ℕ → Tree) (ds more : List Tree) (v : Tree) → ((x j : ℕ) → StandsIn (var x) v → StandsIn (entry j) (z x) → j ≤ length ds)
    → substitute (valued (ds ++ more) z) v ≡ substitute (valued ds z) v
value_alike z ds more v h = replace_agrees _ _ v each
  where
    each : (x : Leaf) → StandsIn x v → variables_to (valued (ds ++ more) z) x ≡ variables_to (valued ds z) x
    each (public n) s = refl
    each (private n) s = refl
    each (var x) s = entries_alike ds more (z x) (λ j k. h x j s k)
    each (ax n) s = refl
    each (entry j) s = refl
    each (rigid n) s = refl

first_alike : (f g : Tree → Tree) (vs : List Tree) (n : ℕ) → ((k : ℕ) (v : Tree) → k < n → slice_get vs k ≡ Some v → f v ≡ g v) → map f (take n vs) ≡ map g (take n vs)
first_alike f g [] n h = by n
  where
    by : (n : ℕ) → map f (take n []) ≡ map g (take n [])
    by zero = refl
    by (suc n) = refl
first_alike f g (v ∷ vs) zero h = refl
first_alike f g (v ∷ vs) (suc n) h =
    let rest = first_alike f g vs n (λ k u l e. h (suc k) u (omega (arith, l)) e) in
    let one = h zero v (omega arith) refl in
    λ i. one i ∷ rest i

-- one value more
pub next_value : (z : ℕ → Tree) (vs ds more : List Tree) (i : ℕ) (d new : Tree) → HasOlderEntries z vs → i < length vs
    → ds ≡ map (substitute (valued ds z)) (take i vs)
    → new ≡ substitute (valued ds z) (get_or vs i d)
    → more ≡ ds ++ new ∷ []
    → more ≡ map (substitute (valued more z)) (take (i + 1) vs)
next_value z vs ds more i d new older within before e m =
    let size : length ds ≡ i = ap length before ∙ length-map (take i vs) (substitute (valued ds z)) ∙ length-take-le i vs (omega (arith, within)) in
    let old : map (substitute (valued (ds ++ new ∷ []) z)) (take i vs) ≡ map (substitute (valued ds z)) (take i vs) =
    first_alike (substitute (valued (ds ++ new ∷ []) z)) (substitute (valued ds z)) vs i
    (λ k v l at. value_alike z ds (new ∷ []) v (λ x j s t. omega (arith, older k x j v at s t, l, size))) in
    let there : slice_get vs i ≡ Some (get_or vs i d) = slice_get-get_or vs i d within in
    let last : substitute (valued (ds ++ new ∷ []) z) (get_or vs i d) ≡ new =
    value_alike z ds (new ∷ []) (get_or vs i d) (λ x j s t. omega (arith, older i x j (get_or vs i d) there s t, size)) ∙ sym e in
    let all : List Tree = ds ++ new ∷ [] in
    m
    ∙ ap (λ xs. xs ++ new ∷ []) (before ∙ sym old)
    ∙ ap (λ t. map (substitute (valued all z)) (take i vs) ++ t ∷ []) (sym last)
    ∙ sym (ap (map (substitute (valued all z))) (one_more vs i d within) ∙ map-append (substitute (valued all z)) (take i vs) (get_or vs i d ∷ []))
    ∙ ap (λ w. map (substitute (valued w z)) (take (i + 1) vs)) (sym m)
