-- Names of the attacker that stand nowhere, put for variables, can be taken back.
use Rattle.std.proofs.Common.{◌≡◌, ℕ, ◌+◌, ◌-◌, ◌<◌, map, cond, inl, inr, Some, None, true, refl, sym, ◌∙◌, ap, arith, subst, Contains}
use Rattle.std.specs.Prelude.{nat_le, All}
use Rattle.std.proofs.lemmas.Bool.{le-leb}
use Rattle.std.proofs.lemmas.Bool.Decides.{leb_tells}
use Rattle.dps_terms.specs.declared.PublicName.TheVariants.{Declared, At}
use Rattle.dps_terms.specs.Tree.{Leaf, public, private, var, ax, entry, rigid, Tree, leaf, StandsIn, IsSubterm}
use Rattle.dps_terms.specs.Replace.{replace, substitute, variables_to, attacker_names_to}
use Rattle.dps_terms.specs.Kinds.{IsBuiltOf, AnySymbol}
use Rattle.dps_terms.proofs.Replacing.{replace_undone, replace_in_turn, replace_agrees, keeps_subterms}
use Rattle.dps_terms.proofs.Building.{leaf_meets}
use Rattle.dps_terms.proofs.Subterms.{nested}
use Rattle.dps_unify.specs.Order.{level_of}
use Rattle.dps_unify.specs.Matching.{Keeps}
use Rattle.dps_unify.proofs.Trees.{substitute_in_turn, substitute_agrees, substitute_stays}
use Rattle.dps_know.specs.Know.{compositions}
use Rattle.dps_know.proofs.Listing.{mapped_contains}
use Rattle.dps_solver.specs.Levels.{IsLeafUpTo, IsTreeUpTo, AnyRigidName}
use Rattle.dps_solver.specs.Scene.{Disequation, Scene}
use Rattle.dps_solver.specs.Solutions.{Respects, IsNormalUnder, IsMatchedUnder}
use Rattle.dps_directions.specs.Valid.{IsValid, IsComposed, IsPatternLeaf}
use Rattle.dps_directions.specs.Fresh.{HasNamesBelow}
use Rattle.dps_directions.proofs.Composing.{all_of}
use Rattle.dps_directions.proofs.Respecting.{unmapped}
use Rattle.dps_directions.proofs.Beginning.{all_in}
use Rattle.dps_directions.proofs.Listing.{any_at}

module _ (first : ℕ) where
  -- a name of its own for each variable, and the variable again
  abbrev pub named : ℕ → Tree
  named n = leaf (public (At (first + n)))

  abbrev back : ℕ → Tree
  back k = cond (nat_le first k) (leaf (var (k - first))) (leaf (public (At k)))

  abbrev pub unnamed : Tree → Tree
  unnamed t = replace (attacker_names_to back) t

  back_named : (n : ℕ) → back (first + n) ≡ leaf (var n)
  back_named n =
      let high : nat_le first (first + n) ≡ true = le-leb first (first + n) (omega arith) in
      let same : (first + n) - first ≡ n = omega arith in
      ap (λ b. cond b (leaf (var ((first + n) - first))) (leaf (public (At (first + n))))) high ∙ ap (λ k. leaf (var k)) same

  back_low : (k : ℕ) → k < first → back k ≡ leaf (public (At k))
  back_low k low = elim (leb_tells first k) [
    | inl h ↦ absurd (omega (arith, low, h.1))
    | inr h ↦ ap (λ b. cond b (leaf (var (k - first))) (leaf (public (At k)))) h.0
  ]

  undone_leaf : (v : Tree) → HasNamesBelow first v → (x : Leaf) → StandsIn x v → unnamed (variables_to named x) ≡ leaf x
  undone_leaf v low (public (Declared m)) c = refl
  undone_leaf v low (public (At k)) c = back_low k (low k c)
  undone_leaf v low (private m) c = refl
  undone_leaf v low (var m) c = back_named m
  undone_leaf v low (ax m) c = refl
  undone_leaf v low (entry m) c = refl
  undone_leaf v low (rigid m) c = refl

  pub undone : (v : Tree) → HasNamesBelow first v → unnamed (substitute named v) ≡ v
  undone v low = replace_undone (variables_to named) (attacker_names_to back) v (undone_leaf v low)

  -- no variable is left
  pub named_stays : (r : ℕ → Tree) (v : Tree) → substitute r (substitute named v) ≡ substitute named v
  named_stays r v = substitute_in_turn r named v

-- bindings z of a system's variables, after which s gives each variable that is left a name of its own
module _ (names : ℕ → Type 0) (scene : Scene) (valid : IsValid names scene) (first : ℕ) (z s : ℕ → Tree)
    (becomes : (x l : ℕ) → level_of scene.system.levels x ≡ Some l → s x ≡ substitute (named first) (z x))
    (others : (x : ℕ) → level_of scene.system.levels x ≡ None → s x ≡ leaf (var x))
    (z_others : (x : ℕ) → level_of scene.system.levels x ≡ None → z x ≡ leaf (var x))
    (apart : (x l y : ℕ) (d : Disequation) → level_of scene.system.levels x ≡ Some l → StandsIn (var y) (z x) → Contains scene.system.disequations d → ¬ Contains d.free y)
    (labels_low : (t : Tree) → Contains scene.system.labels t → HasNamesBelow first (substitute z t))
    (recorded_low : (t : Tree) → Contains (compositions scene.system.know) t → HasNamesBelow first (substitute z t))
    (pairs_low : (d : Disequation) (p : Tree × Tree) → Contains scene.system.disequations d → Contains d.pairs p
    → HasNamesBelow first (substitute z p.0) × HasNamesBelow first (substitute z p.1))
    (respects : Respects scene.system z) where
  abbrev IsSceneTree : Tree → Type 0
  IsSceneTree t = IsTreeUpTo AnyRigidName scene.system.m scene.system.know scene.system.levels scene.system.m t

  named_after : (t : Tree) → IsSceneTree t → substitute s t ≡ substitute (named first) (substitute z t)
  named_after t up =
      substitute_agrees s (λ x. substitute (named first) (z x)) t
      (λ x c. let h = leaf_meets (IsLeafUpTo AnyRigidName scene.system.m scene.system.know scene.system.levels scene.system.m) AnySymbol up c in becomes x h.0 h.1)
      ∙ sym (substitute_in_turn (named first) z t)

  undone_at : (t : Tree) → IsSceneTree t → HasNamesBelow first (substitute z t) → unnamed first (substitute s t) ≡ substitute z t
  undone_at t up low = ap (unnamed first) (named_after t up) ∙ undone first (substitute z t) low

  label_tree : (t : Tree) → Contains scene.system.labels t → IsSceneTree t
  label_tree t c = all_in IsSceneTree scene.system.labels t valid.labels c

  recorded_tree : (t : Tree) → Contains (compositions scene.system.know) t → IsSceneTree t
  recorded_tree t c = (all_in (λ u. IsComposed u × IsSceneTree u) (compositions scene.system.know) t valid.recorded c).1

  pair_tree : (d : Disequation) (p : Tree × Tree) → Contains scene.system.disequations d → Contains d.pairs p → IsSceneTree p.0
  pair_tree d p c k =
      all_in (λ (q : Tree × Tree). IsSceneTree q.0) d.pairs p
      (all_in (λ (x : Disequation). All (λ (q : Tree × Tree). IsSceneTree q.0) x.pairs) scene.system.disequations d valid.trees c) k

  pattern : (d : Disequation) (p : Tree × Tree) → Contains scene.system.disequations d → Contains d.pairs p → IsBuiltOf (IsPatternLeaf scene.system d.free) AnySymbol p.1
  pattern d p c k =
      all_in (λ (q : Tree × Tree). IsBuiltOf (IsPatternLeaf scene.system d.free) AnySymbol q.1) d.pairs p
      (all_in (λ (x : Disequation). All (λ (q : Tree × Tree). IsBuiltOf (IsPatternLeaf scene.system x.free) AnySymbol q.1) x.pairs)
      scene.system.disequations d valid.patterns c) k

  label_normal : (t : Tree) → Contains scene.system.labels t → IsNormalUnder s scene.system (substitute s t)
  label_normal t c r in_recorded inside =
      let o = unmapped (substitute s) (compositions scene.system.know) r in_recorded in
      let after : IsSubterm (unnamed first r) (unnamed first (substitute s t)) = keeps_subterms (attacker_names_to (back first)) inside in
      let whole = undone_at t (label_tree t c) (labels_low t c) in
      let part = ap (unnamed first) o.2 ∙ undone_at o.0 (recorded_tree o.0 o.1) (recorded_low o.0 o.1) in
      all_in (λ u. IsNormalUnder z scene.system (substitute z u)) scene.system.labels t respects.labels c
      (substitute z o.0) (mapped_contains (substitute z) (compositions scene.system.know) o.0 o.1)
      (subst (λ u. IsSubterm u (substitute z t)) part (subst (λ u. IsSubterm (unnamed first r) u) whole after))

  module _ (d : Disequation) (there : Contains scene.system.disequations d) (r : ℕ → Tree) (keeps : Keeps d.free r) where
    abbrev taken_back : ℕ → Tree
    taken_back n = unnamed first (r n)

    keeps_back : Keeps d.free taken_back
    keeps_back n h = ap (unnamed first) (keeps n h)

    at_level : (x l : ℕ) → level_of scene.system.levels x ≡ Some l → HasNamesBelow first (z x)
        → unnamed first (substitute r (s x)) ≡ substitute taken_back (z x)
    at_level x l e z_low =
        ap (λ t. unnamed first (substitute r t)) (becomes x l e)
        ∙ ap (unnamed first) (named_stays first r (z x))
        ∙ undone first (z x) z_low
        ∙ sym (substitute_stays taken_back (z x) (λ y k. keeps_back y (apart x l y d e k there)))

    at_free : (x : ℕ) → Contains d.free x → unnamed first (substitute r (s x)) ≡ substitute taken_back (z x)
    at_free x c =
        let e = valid.free d there x c in
        ap (λ t. unnamed first (substitute r t)) (others x e) ∙ sym (ap (substitute taken_back) (z_others x e))

    at_variable : (x : ℕ) → IsPatternLeaf scene.system d.free (var x) → HasNamesBelow first (z x)
        → unnamed first (substitute r (s x)) ≡ substitute taken_back (z x)
    at_variable x (inl h) low = at_level x h.0 h.1 low
    at_variable x (inr h) low = let e : x ≡ h.0 = var_is x h.0 h.1 in at_free x (subst (λ n. Contains d.free n) (sym e) h.2)
      where
        var_is : (a c : ℕ) → var a ≡ var c → a ≡ c
        var_is a c q = cc

    pattern_leaf : (t : Tree) → IsBuiltOf (IsPatternLeaf scene.system d.free) AnySymbol t → HasNamesBelow first (substitute z t) → (x : Leaf) → StandsIn x t
        → unnamed first (substitute r (variables_to s x)) ≡ substitute taken_back (variables_to z x)
    pattern_leaf t up low (public (Declared m)) c = refl
    pattern_leaf t up low (public (At k)) c = back_low first k (low k (keeps_subterms (variables_to z) c))
    pattern_leaf t up low (private m) c = refl
    pattern_leaf t up low (ax m) c = refl
    pattern_leaf t up low (entry m) c = refl
    pattern_leaf t up low (rigid m) c = refl
    pattern_leaf t up low (var x) c =
        at_variable x (leaf_meets (IsPatternLeaf scene.system d.free) AnySymbol up c) (λ k h. low k (nested h (keeps_subterms (variables_to z) c)))

    pattern_undone : (t : Tree) → IsBuiltOf (IsPatternLeaf scene.system d.free) AnySymbol t → HasNamesBelow first (substitute z t)
        → unnamed first (substitute r (substitute s t)) ≡ substitute taken_back (substitute z t)
    pattern_undone t up low =
        ap (unnamed first) (replace_in_turn (variables_to s) (variables_to r) t)
        ∙ replace_in_turn (λ x. substitute r (variables_to s x)) (attacker_names_to (back first)) t
        ∙ replace_agrees (λ x. unnamed first (substitute r (variables_to s x))) (λ x. substitute taken_back (variables_to z x)) t (pattern_leaf t up low)
        ∙ sym (replace_in_turn (variables_to z) (variables_to taken_back) t)

    matched_pair : (p : Tree × Tree) → Contains d.pairs p → substitute r (substitute s p.1) ≡ substitute s p.0 → substitute taken_back (substitute z p.1) ≡ substitute z p.0
    matched_pair p c e =
        let low = pairs_low d p there c in
        sym (pattern_undone p.1 (pattern d p there c) low.1) ∙ ap (unnamed first) e ∙ undone_at p.0 (pair_tree d p there c) low.0

  unmatched : (d : Disequation) → Contains scene.system.disequations d → ¬ IsMatchedUnder s d
  unmatched d there m =
      all_in (λ (x : Disequation). ¬ IsMatchedUnder z x) scene.system.disequations d respects.disequations there (
        taken_back d there m.0 m.1,
        keeps_back d there m.0 m.1,
        all_of (λ (q : Tree × Tree). substitute (taken_back d there m.0 m.1) q.1 ≡ q.0) (map (λ (p : Tree × Tree). (substitute z p.0, substitute z p.1)) d.pairs) each,
      )
    where
      each : (q : Tree × Tree) → Contains (map (λ (p : Tree × Tree). (substitute z p.0, substitute z p.1)) d.pairs) q → substitute (taken_back d there m.0 m.1) q.1 ≡ q.0
      each q c =
          let o = unmapped (λ (p : Tree × Tree). (substitute z p.0, substitute z p.1)) d.pairs q c in
          let before = all_in (λ (v : Tree × Tree). substitute m.0 v.1 ≡ v.0)
          (map (λ (p : Tree × Tree). (substitute s p.0, substitute s p.1)) d.pairs) (substitute s o.0.0, substitute s o.0.1) m.2
          (mapped_contains (λ (p : Tree × Tree). (substitute s p.0, substitute s p.1)) d.pairs o.0 o.1) in
          subst (λ (v : Tree × Tree). substitute (taken_back d there m.0 m.1) v.1 ≡ v.0) (sym o.2) (matched_pair d there m.0 m.1 o.0 o.1 before)

  -- what respects the system still does
  pub respected_by_names : Respects scene.system s
  respected_by_names = record {
    labels = all_of (λ (t : Tree). IsNormalUnder s scene.system (substitute s t)) scene.system.labels label_normal;
    disequations = all_of (λ (d : Disequation). ¬ IsMatchedUnder s d) scene.system.disequations unmatched;
  }

  -- a variable's tree is normal, since it stands in a label
  pub normal_by_names : (x l : ℕ) → level_of scene.system.levels x ≡ Some l → IsNormalUnder s scene.system (s x)
  normal_by_names x l e =
      let h = any_at (λ t. StandsIn (var x) t) scene.system.labels (valid.labelled x l e) in
      λ r c inside. label_normal h.0 h.1 r c (nested inside (keeps_subterms (variables_to s) h.2))
