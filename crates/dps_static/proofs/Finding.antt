-- What matching against all kept trees finds.
use Rattle.std.proofs.Common.{◌≡◌, ℕ, List, [], ◌∷◌, ◌++◌, slice_get, get_or, unwrap_or, Option, Some, None, refl, sym, ◌∙◌, ap, subst, inl, inr}
use Rattle.std.specs.Prelude.{◌⊎◌, All, Contains}
use Rattle.std.proofs.lemmas.List.Elements.{All-contains, Contains-get_or, Contains-append_left, Contains-append_right, Contains-push}
use Rattle.dps_terms.specs.declared.Sym.{Sym}
use Rattle.dps_terms.specs.declared.borrowed.TermView.TheVariants.{App, Var}
use Rattle.dps_terms.specs.Tree.{Tree, leaf, app, var, StandsIn, IsSubterm}
use Rattle.dps_terms.specs.Views.{view_of}
use Rattle.dps_terms.specs.Replace.{substitute, variables_to}
use Rattle.dps_terms.specs.Bindings.{bound, image}
use Rattle.dps_terms.proofs.Replacing.{keeps_subterms}
use Rattle.dps_unify.specs.Matching.{Keeps, Agrees, Matched, Refused}
use Rattle.dps_recipes.proofs.Fitting.{restricted, restricted_at, restricted_cases}
use Rattle.dps_static.specs.Generic.{IsFound, IsBoundBy}
use Rattle.dps_static.specs.Cuts.{IsKeptWithin, CoversEntries}
use Rattle.dps_static.specs.Binding.{BindsParts, IsPartOf, IsRooted, HasFreeVariables, IsMatchListed, AreMatches}
use Rattle.dps_static.proofs.Ways.{no_app_leaf}
use Rattle.dps_static.proofs.Covering.{same_instances}

-- a match of the pattern with the tree is listed, or there is none
abbrev pub IsListed : List ℕ → Tree → List (List (ℕ × Tree)) → List (ℕ × Tree) → Tree → Type 0
IsListed free p found s t = Refused free s p t ⊎ IsMatchListed free p found s t

module _ (free : List ℕ) (p : Tree) where
  pub listed_more : (found : List (List (ℕ × Tree))) (q s : List (ℕ × Tree)) (t : Tree) → IsListed free p found s t → IsListed free p (found ++ q ∷ []) s t
  listed_more found q s t (inl r) = inl r
  listed_more found q s t (inr m) = inr (record { by = m.by; listed = Contains-append_left found (q ∷ []) m.by m.listed; matched = m.matched })

  pub listed_new : (found : List (List (ℕ × Tree))) (q s : List (ℕ × Tree)) (t : Tree) → Matched free s p t q → IsListed free p (found ++ q ∷ []) s t
  listed_new found q s t m = inr (record { by = q; listed = Contains-push found q; matched = m })

  pub listed_left : (found more : List (List (ℕ × Tree))) (s : List (ℕ × Tree)) (t : Tree) → IsListed free p found s t → IsListed free p (found ++ more) s t
  listed_left found more s t (inl r) = inl r
  listed_left found more s t (inr m) = inr (record { by = m.by; listed = Contains-append_left found more m.by m.listed; matched = m.matched })

  pub listed_right : (found more : List (List (ℕ × Tree))) (s : List (ℕ × Tree)) (t : Tree) → IsListed free p more s t → IsListed free p (found ++ more) s t
  listed_right found more s t (inl r) = inl r
  listed_right found more s t (inr m) = inr (record { by = m.by; listed = Contains-append_right found more m.by m.listed; matched = m.matched })

-- substitutions that change free variables alone
restricted_keeps : (free : List ℕ) (z : ℕ → Tree) → Keeps free (restricted free z)
restricted_keeps free z n h = elim (restricted_cases free z n) [ inl c ↦ absurd (h c.0) | inr e ↦ e ]

module _ (kept : List Tree) (free : List ℕ) (p : Tree) (frees : HasFreeVariables free p) where
  module _ (first last : ℕ) (start found : List (List (ℕ × Tree))) (parts : All (BindsParts kept free) start)
      (listed : (s : List (ℕ × Tree)) (t : Tree) → Contains start s → IsKeptWithin kept first last t → IsListed free p found s t) where
    module _ (z : ℕ → Tree) (s : List (ℕ × Tree)) (h : Contains start s) (a : Agrees z s) where
      abbrev y : ℕ → Tree
      y = restricted free z

      bound_free : (n : ℕ) (t : Tree) → bound s n ≡ Some t → Contains free n
      bound_free = let b = All-contains (BindsParts kept free) start s parts h in b.frees

      y_agrees : Agrees y s
      y_agrees n t e = restricted_at free z n (bound_free n t e) ∙ a n t e

      y_matches : substitute y p ≡ substitute z p
      y_matches = same_instances y z p (λ n k. restricted_at free z n (frees n k))

      by_match : IsMatchListed free p found s (substitute z p) → IsFound z s found (λ q. (n : ℕ) → StandsIn (var n) p → IsBoundBy q n)
      by_match m =
          let forced : Agrees y m.by = m.matched.forced y (restricted_keeps free z) y_agrees y_matches in
          record {
            by = m.by;
            listed = m.listed;
            extends = record { keeps = m.matched.keeps };
            agrees = (λ n t e.
                elim (m.matched.within n t e) [
                  | inl k ↦ a n t k
                  | inr k ↦ sym (restricted_at free z n k.0) ∙ forced n t e
                ]);
            wanted = (λ n k. m.matched.covers n (frees n k) k);
          }

      by_listed : IsListed free p found s (substitute z p) → IsFound z s found (λ q. (n : ℕ) → StandsIn (var n) p → IsBoundBy q n)
      by_listed (inl r) = absurd (r y (restricted_keeps free z) y_agrees y_matches)
      by_listed (inr m) = by_match m

    pub entries_cover : CoversEntries kept first last p start found
    entries_cover = record { covers = λ z s h a c. by_listed z s h a (listed s (substitute z p) h c) }

  -- what a match binds is a part of the tree
  module _ (s : List (ℕ × Tree)) (binds : BindsParts kept free s) (k : ℕ) (t : Tree) (there : slice_get kept k ≡ Some t) (q : List (ℕ × Tree)) (m : Matched free s p t q) where
    match_free : (n : ℕ) (u : Tree) → bound q n ≡ Some u → Contains free n
    match_free n u e = elim (m.within n u e) [ inl d ↦ binds.frees n u d | inr d ↦ d.0 ]

    image_keeps : Keeps free (image q)
    image_keeps n h = go (bound q n) refl
      where
        go : (o : Option Tree) → bound q n ≡ o → unwrap_or o (leaf (var n)) ≡ leaf (var n)
        go (Some u) e = absurd (h (match_free n u e))
        go None e = refl

    image_agrees : Agrees (image q) q
    image_agrees n u e = ap (λ o. unwrap_or o (leaf (var n))) e

    match_part : (n : ℕ) (u : Tree) → bound q n ≡ Some u → IsPartOf kept u
    match_part n u e =
        elim (m.within n u e) [
          | inl d ↦ binds.parts n u d
          | inr d ↦
              let is : substitute (image q) p ≡ t = m.matches (image q) image_keeps image_agrees in
              let inside : IsSubterm (image q n) (substitute (image q) p) = keeps_subterms (variables_to (image q)) d.1 in
              record {
                place = k;
                whole = t;
                there = there;
                within = subst (λ w. IsSubterm u w) is (subst (λ w. IsSubterm w (substitute (image q) p)) (image_agrees n u e) inside);
              }
        ]

    pub match_binds : BindsParts kept free q
    match_binds = record { parts = match_part; frees = match_free }

  -- and so do all matches
  pub matches_bind :
      (start found : List (List (ℕ × Tree))) (k : ℕ) (t : Tree) → slice_get kept k ≡ Some t → All (BindsParts kept free) start → AreMatches free p t start found
      → All (BindsParts kept free) found
  matches_bind start found k t there parts matches = λ i d l.
      let m = matches.only (get_or found i d) (Contains-get_or found i d l) in
      match_binds m.start (All-contains (BindsParts kept free) start m.start parts m.listed) k t there (get_or found i d) m.matched

pub binds_nothing : (kept : List Tree) (free : List ℕ) → BindsParts kept free []
binds_nothing kept free = record { parts = λ n t e. cc; frees = λ n t e. cc }

-- later kept trees do not matter
pub binds_later :
    (kept later : List Tree) (free : List ℕ) (s : List (ℕ × Tree)) → ((k : ℕ) (t : Tree) → slice_get kept k ≡ Some t → slice_get later k ≡ Some t)
    → BindsParts kept free s → BindsParts later free s
binds_later kept later free s h b = record {
  parts = λ n t e. let p = b.parts n t e in record { place = p.place; whole = p.whole; there = h p.place p.whole p.there; within = p.within };
  frees = b.frees;
}

-- a symbol at the root
pub rooted_view : (t : Tree) (f : Sym) → App f ≡ view_of t → IsRooted t
rooted_view (leaf x) f e = absurd (no_app_leaf x f e)
rooted_view (app g ts) f e = tt

pub rooted_is_no_variable : (t : Tree) (m : ℕ) → IsRooted t → view_of t ≡ Var m → ⊥
rooted_is_no_variable (leaf x) m h e = absurd h
rooted_is_no_variable (app g ts) m h e = cc
