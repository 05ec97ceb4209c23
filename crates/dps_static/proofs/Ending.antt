-- Keeping ends: of finitely many trees, fewer are missing each time.
use Rattle.std.proofs.Common.{◌≡◌, ℕ, zero, suc, ◌<◌, ◌≤◌, Bool, true, false, ◌||◌, List, [], ◌∷◌, ◌++◌, slice_get, Some, refl, ap, sym, ◌∙◌, subst, arith, inl, inr}
use Rattle.std.specs.Prelude.{Contains}
use Rattle.std.proofs.lemmas.Bool.{cases_Bool}
use Rattle.std.proofs.lemmas.Option.{none-some, slice_get-get_or}
use Rattle.std.proofs.lemmas.List.Elements.{Contains-append_left, Contains-append_right}
use Rattle.dps_terms.specs.Tree.{Tree, Trees, leaf, app, none, more, IsSubterm, IsAmong, itself, below, in_first, in_rest}
use Rattle.dps_terms.specs.Same.{same, same-self, same-true}
use Rattle.dps_unify.proofs.Trees.{in_leaf}
use Rattle.dps_theory.specs.Theory.{Rule, Theory}
use Rattle.dps_static.specs.Saturation.{IsPossible}
use Rattle.dps_static.specs.Ending.{subterms, all_subterms, parts_of_frame, parts_of_rules, universe, is_in, miss, absent}

-- a subterm is listed
mutual
  pub subterm_listed : (u t : Tree) → IsSubterm u t → Contains (subterms t) u
  subterm_listed u (leaf x) k = (0, omega arith, sym (in_leaf x u k))
  subterm_listed u (app f ts) itself = (0, omega arith, refl)
  subterm_listed u (app f ts) (below k) = Contains-append_right (app f ts ∷ []) (all_subterms ts) u (among_listed u ts k)

  among_listed : (u : Tree) (ts : Trees) → IsAmong u ts → Contains (all_subterms ts) u
  among_listed u none k = elim k [ ]
  among_listed u (more t ts) (in_first k) = Contains-append_left (subterms t) (all_subterms ts) u (subterm_listed u t k)
  among_listed u (more t ts) (in_rest k) = Contains-append_right (subterms t) (all_subterms ts) u (among_listed u ts k)

message_listed : (frame : List Tree) (k : ℕ) (t u : Tree) → slice_get frame k ≡ Some t → Contains (subterms t) u → Contains (parts_of_frame frame) u
message_listed [] k t u e h = absurd (none-some t e)
message_listed (x ∷ xs) zero t u e h = let m : t ≡ x = cc in Contains-append_left (subterms x) (parts_of_frame xs) u (subst (λ y. Contains (subterms y) u) m h)
message_listed (x ∷ xs) (suc k) t u e h = Contains-append_right (subterms x) (parts_of_frame xs) u (message_listed xs k t u e h)

rule_listed : (rules : List Rule) (k : ℕ) (r : Rule) (u : Tree) → slice_get rules k ≡ Some r → Contains (subterms r.right) u → Contains (parts_of_rules rules) u
rule_listed [] k r u e h = absurd (none-some r e)
rule_listed (x ∷ xs) zero r u e h = let m : r ≡ x = cc in Contains-append_left (subterms x.right) (parts_of_rules xs) u (subst (λ (y : Rule). Contains (subterms y.right) u) m h)
rule_listed (x ∷ xs) (suc k) r u e h = Contains-append_right (subterms x.right) (parts_of_rules xs) u (rule_listed xs k r u e h)

pub possible_listed : (theory : Theory) (frame : List Tree) (t : Tree) → IsPossible theory frame t → Contains (universe theory frame) t
possible_listed theory frame t (inl m) =
    Contains-append_left (parts_of_frame frame) (parts_of_rules theory.rules) t (message_listed frame m.place m.whole t m.there (subterm_listed t m.whole m.within))
possible_listed theory frame t (inr g) =
    let at = slice_get-get_or theory.rules g.listed.0 g.rule g.listed.1 ∙ ap Some g.listed.2 in
    Contains-append_right (parts_of_frame frame) (parts_of_rules theory.rules) t (rule_listed theory.rules g.listed.0 g.rule t at (subterm_listed t g.rule.right g.within))

-- what is counted
or_true : (a b : Bool) → b ≡ true → (a || b) ≡ true
or_true true b e = refl
or_true false b e = e

keeps_in : (kept : List Tree) (u v : Tree) → is_in kept v ≡ true → is_in (kept ++ u ∷ []) v ≡ true
keeps_in [] u v e = cc
keeps_in (w ∷ ws) u v e = go (same w v) (keeps_in ws u v) e
  where
    go : (b : Bool) → (is_in ws v ≡ true → is_in (ws ++ u ∷ []) v ≡ true) → (b || is_in ws v) ≡ true → (b || is_in (ws ++ u ∷ []) v) ≡ true
    go true next h = refl
    go false next h = next h

new_in : (kept : List Tree) (u : Tree) → is_in (kept ++ u ∷ []) u ≡ true
new_in [] u = rw (same-self u) refl
new_in (w ∷ ws) u = or_true (same w u) (is_in (ws ++ u ∷ []) u) (new_in ws u)

fewer : (kept : List Tree) (u v : Tree) → miss (is_in (kept ++ u ∷ []) v) ≤ miss (is_in kept v)
fewer kept u v = go (is_in kept v) refl
  where
    at_most : (b : Bool) → miss b ≤ 1
    at_most true = omega arith
    at_most false = omega arith

    go : (b : Bool) → is_in kept v ≡ b → miss (is_in (kept ++ u ∷ []) v) ≤ miss b
    go true e = rw (keeps_in kept u v e) (omega arith)
    go false e = at_most (is_in (kept ++ u ∷ []) v)

absent_le : (all kept : List Tree) (u : Tree) → absent all (kept ++ u ∷ []) ≤ absent all kept
absent_le [] kept u = omega arith
absent_le (v ∷ vs) kept u = omega (arith, fewer kept u v, absent_le vs kept u)

absent_at : (all kept : List Tree) (u : Tree) (i : ℕ) → slice_get all i ≡ Some u → is_in kept u ≡ false → absent all (kept ++ u ∷ []) < absent all kept
absent_at [] kept u i e out = absurd (none-some u e)
absent_at (v ∷ vs) kept u zero e out =
    let m : v ≡ u = cc in
    let a : miss (is_in (kept ++ u ∷ []) v) ≡ 0 = rw (m, new_in kept u) refl in
    let b : miss (is_in kept v) ≡ 1 = rw (m, out) refl in
    omega (arith, a, b, absent_le vs kept u)
absent_at (v ∷ vs) kept u (suc i) e out = omega (arith, fewer kept u v, absent_at vs kept u i e out)

-- a tree that is in the list stands at some place
in_there : (kept : List Tree) (u : Tree) → is_in kept u ≡ true → (k : ℕ) × (slice_get kept k ≡ Some u)
in_there [] u e = cc
in_there (w ∷ ws) u e = go (same w u) refl e (in_there ws u)
  where
    go : (b : Bool) → same w u ≡ b → (b || is_in ws u) ≡ true → (is_in ws u ≡ true → (k : ℕ) × (slice_get ws k ≡ Some u)) → (k : ℕ) × (slice_get (w ∷ ws) k ≡ Some u)
    go true s h next = (0, ap Some (same-true w u s))
    go false s h next = let r = next h in (suc r.0, r.1)

pub absent_lt : (all kept : List Tree) (u : Tree) → Contains all u → ((k : ℕ) → ¬ (slice_get kept k ≡ Some u)) → absent all (kept ++ u ∷ []) < absent all kept
absent_lt all kept u c out =
    let at = slice_get-get_or all c.0 u c.1 ∙ ap Some c.2 in
    elim (cases_Bool (is_in kept u)) [
      | inl b ↦ (let r = in_there kept u b in absurd (out r.0 r.1))
      | inr b ↦ absent_at all kept u c.0 at b
    ]
