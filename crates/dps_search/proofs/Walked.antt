-- Two terms, node by node, as long as the same stands at both.
use Rattle.std.proofs.Common.{◌≡◌, ℕ, ◌+◌, List, [], ◌∷◌, ◌++◌, length, map, take, drop, refl, sym, ◌∙◌, ap, arith}
use Rattle.std.proofs.lemmas.List.{take-append-drop, map-append}
use Rattle.dps_terms.specs.Tree.{Tree, Trees, leaf, app, none, more, list_of}
use Rattle.dps_terms.specs.Replace.{substitute, substitute_all}
use Rattle.dps_terms.specs.Views.{arguments, HaveSameRoot}
use Rattle.dps_terms.specs.Walk.{subterms_from}
use Rattle.dps_unify.specs.Unifier.{IsNotUnifiable}
use Rattle.dps_unify.proofs.Trees.{substitute_in_turn}
use Rattle.dps_unify.proofs.Pairs.{unifies_one}

-- what makes the two terms equal makes all equal that stands from this node on
abbrev pub IsFollowed : Tree → Tree → ℕ → Type 0
IsFollowed t u node =
    (r : ℕ → Tree) → substitute r t ≡ substitute r u → map (substitute r) (subterms_from t node) ≡ map (substitute r) (subterms_from u node)

pub followed_first : (t u : Tree) → IsFollowed t u 0
followed_first t u r e = λ i. e i ∷ []

module _ (r : ℕ → Tree) where
  list_substituted : (ts : Trees) → list_of (substitute_all r ts) ≡ map (substitute r) (list_of ts)
  list_substituted none = refl
  list_substituted (more t ts) = ap (λ us. substitute r t ∷ us) (list_substituted ts)

  none_of : (xs : List Tree) → length xs ≡ 0 → map (substitute r) xs ≡ []
  none_of [] e = refl
  none_of (x ∷ xs) e = absurd (omega (arith, e))

  -- below roots of as many arguments
  below : (s q : Tree) → length (arguments s) ≡ length (arguments q) → substitute r s ≡ substitute r q
      → map (substitute r) (arguments s) ≡ map (substitute r) (arguments q)
  below (leaf x) q n e = sym (none_of (arguments q) (sym n))
  below (app f ts) (leaf y) n e = none_of (list_of ts) n
  below (app f ts) (app g us) n e = sym (list_substituted ts) ∙ ap arguments e ∙ list_substituted us

  heads : (s q : Tree) (xs ys : List Tree) → map (substitute r) (s ∷ xs) ≡ map (substitute r) (q ∷ ys) → substitute r s ≡ substitute r q
  heads s q xs ys e = cc

  tails : (s q : Tree) (xs ys : List Tree) → map (substitute r) (s ∷ xs) ≡ map (substitute r) (q ∷ ys) → map (substitute r) xs ≡ map (substitute r) ys
  tails s q xs ys e = cc

  -- from a node to the next
  next_node : (k : ℕ) (s : Tree) (rest : List Tree) → arguments s ≡ take k rest → map (substitute r) rest ≡ map (substitute r) (arguments s) ++ map (substitute r) (drop k rest)
  next_node k s rest e =
      ap (map (substitute r)) (sym (take-append-drop k rest)) ∙ map-append (substitute r) (take k rest) (drop k rest)
      ∙ ap (λ xs. map (substitute r) xs ++ map (substitute r) (drop k rest)) (sym e)

module _ (t u s q : Tree) (node : ℕ)
    (at : subterms_from t node ≡ s ∷ drop (length (arguments s)) (subterms_from t (node + 1)))
    (on : subterms_from u node ≡ q ∷ drop (length (arguments q)) (subterms_from u (node + 1)))
    (h : IsFollowed t u node) where
  both : (r : ℕ → Tree) → substitute r t ≡ substitute r u
      → map (substitute r) (s ∷ drop (length (arguments s)) (subterms_from t (node + 1))) ≡ map (substitute r) (q ∷ drop (length (arguments q)) (subterms_from u (node + 1)))
  both r e = ap (map (substitute r)) (sym at) ∙ h r e ∙ ap (map (substitute r)) on

  pub followed_next : arguments s ≡ take (length (arguments s)) (subterms_from t (node + 1)) → arguments q ≡ take (length (arguments q)) (subterms_from u (node + 1))
      → HaveSameRoot s q → IsFollowed t u (node + 1)
  followed_next f g same r e =
      let first = heads r s q (drop (length (arguments s)) (subterms_from t (node + 1))) (drop (length (arguments q)) (subterms_from u (node + 1))) (both r e) in
      let rest = tails r s q (drop (length (arguments s)) (subterms_from t (node + 1))) (drop (length (arguments q)) (subterms_from u (node + 1))) (both r e) in
      next_node r (length (arguments s)) s (subterms_from t (node + 1)) f
      ∙ (λ i. below r s q same.1 first i ++ rest i)
      ∙ sym (next_node r (length (arguments q)) q (subterms_from u (node + 1)) g)

  pub apart_below : (theta : ℕ → Tree) → IsNotUnifiable ((substitute theta s, substitute theta q) ∷ []) → IsNotUnifiable ((substitute theta t, substitute theta u) ∷ [])
  apart_below theta never r all =
      let z : ℕ → Tree = λ n. substitute r (theta n) in
      let whole = sym (substitute_in_turn r theta t) ∙ (unifies_one r (substitute theta t, substitute theta u)).0 all ∙ substitute_in_turn r theta u in
      let first = heads z s q (drop (length (arguments s)) (subterms_from t (node + 1))) (drop (length (arguments q)) (subterms_from u (node + 1))) (both z whole) in
      never r ((unifies_one r (substitute theta s, substitute theta q)).1 (substitute_in_turn r theta s ∙ first ∙ sym (substitute_in_turn r theta q)))
