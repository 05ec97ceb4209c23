-- What stands under a key that is kept is hidden: the frames `senc(c,k)` and `senc(d,k)` are statically equivalent.
use Rattle.std.proofs.Common.{◌≡◌, ℕ, zero, suc, ◌≤◌, refl, sym, ◌∙◌, ap, ap₂, subst, arith}
use Rattle.dps_terms.specs.declared.Sym.{Sym}
use Rattle.dps_signature.specs.declared.SymKind.TheVariants.{Constructor, Destructor}
use Rattle.dps_terms.specs.declared.PublicName.{PublicName}
use Rattle.dps_terms.specs.Tree.{Leaf, public, private, var, ax, entry, rigid, Tree, Trees, leaf, app, none, more, count}
use Rattle.dps_terms.specs.Replace.{replace_all, in_frame, handles_to}
use Rattle.dps_signature.specs.Signature.{HasShape, HasArity, shapes}
use Rattle.dps_terms.specs.Kinds.{AreBuiltOf}
use Rattle.dps_signature.specs.Kinds.{IsPlain, IsRecipe, IsRecipeLeaf}
use Rattle.dps_terms.proofs.Building.{count-replace_all}
use Rattle.dps_theory.specs.Evaluation.{Evaluates, EvaluateAll, Reduces, named, constructed, reduced, no_terms, a_term}
use Rattle.dps_theory.specs.Frames.{HasValue, HaveOneValue, AreStaticallyEquivalent}
use Rattle.dps_theory.specs.Examples.{senc, sdec, signature, over, theory, k, kept_key}
use Rattle.dps_theory.proofs.Evaluating.{plain_evaluates, plain_alone}
use Rattle.dps_theory.proofs.Encryption.{decrypts, reduces, cipher_plain}

-- what an attacker builds from the one ciphertext, and what the same steps build from the other
mutual
  data Alike (c d : Tree) : Tree → Tree → Type 0 where
    told : {n : PublicName} → Alike c d (leaf (public n)) (leaf (public n))
    cipher : {u v : Tree} → u ≡ over senc c k → v ≡ over senc d k → Alike c d u v
    built : {f : Sym} {us vs : Trees} → AllAlike c d us vs → Alike c d (app f us) (app f vs)

  data AllAlike (c d : Tree) : Trees → Trees → Type 0 where
    no_trees : AllAlike c d none none
    a_tree : {u v : Tree} {us vs : Trees} → Alike c d u v → AllAlike c d us vs → AllAlike c d (more u us) (more v vs)

-- the key is not built
no_key : (c d u v : Tree) → u ≡ k → Alike c d u v → ⊥
no_key c d u v e (told) = cc
no_key c d u v e (cipher f g) = let h : k ≡ over senc c k = sym e ∙ f in cc
no_key c d u v e (built r) = cc

first_two : (c d : Tree) (us vs : Trees) (t u : Tree) → us ≡ more t (more u none) → AllAlike c d us vs → (v : Tree) × (w : Tree) × (vs ≡ more v (more w none)) × Alike c d t v × Alike c d u w
first_two c d us vs t u e (no_trees) = absurd (let f : none ≡ more t (more u none) = e in cc)
first_two c d us vs t u e (a_tree {v = v} r no_trees) = absurd (cc)
first_two c d us vs t u e (a_tree {u = p} {v = v} r (a_tree {u = q} {v = w} s no_trees)) =
    let f : p ≡ t = (cc) in
    let g : q ≡ u = (cc) in
    (v, w, refl, subst (λ z. Alike c d z v) f r, subst (λ z. Alike c d z w) g s)
first_two c d us vs t u e (a_tree r (a_tree s (a_tree q z))) = absurd (cc)

no_cipher : (c d : Tree) (us vs : Trees) → us ≡ more c (more k none) → AllAlike c d us vs → ⊥
no_cipher c d us vs e r = let p = first_two c d us vs c k e r in no_key c d k p.1 refl p.4

-- each is built in one way
mutual
  one_alike : (c d : Tree) {u v w : Tree} → Alike c d u v → Alike c d u w → v ≡ w
  one_alike c d told told = refl
  one_alike c d (told) (cipher e f) = absurd (cc)
  one_alike c d (cipher e f) (told) = absurd (cc)
  one_alike c d (cipher e f) (cipher g h) = f ∙ sym h
  one_alike c d (cipher e f) (built {us = us} {vs} r) = absurd (no_cipher c d us vs (cc) r)
  one_alike c d (built {us = us} {vs} r) (cipher e f) = absurd (no_cipher c d us vs (cc) r)
  one_alike c d (built {f} r) (built s) = ap (app f) (all_one c d r s)

  all_one : (c d : Tree) {us vs ws : Trees} → AllAlike c d us vs → AllAlike c d us ws → vs ≡ ws
  all_one c d no_trees no_trees = refl
  all_one c d (a_tree r q) (a_tree s z) = λ i. more (one_alike c d r s i) (all_one c d q z i)

-- what the rule makes of alike arguments
abbrev Reduct : Tree → Tree → Sym → Trees → Tree → Type 0
Reduct c d g ws u = (v : Tree) × Reduces theory g ws v × Alike c d u v

sdec_alike : (c d : Tree) (u key : Tree) (ws : Trees) → AllAlike c d (more (over senc u key) (more key none)) ws → Reduct c d sdec ws u
sdec_alike c d u key ws r =
    let p = first_two c d (more (over senc u key) (more key none)) ws (over senc u key) key refl r in
    by_cipher p.0 p.1 p.2 p.4 p.3 refl
  where
    by_cipher : (v w : Tree) → ws ≡ more v (more w none) → Alike c d key w → Alike c d (over senc u key) v → v ≡ v → Reduct c d sdec ws u
    by_cipher v w e s (cipher f g) h = absurd (no_key c d key w (cc) s)
    by_cipher v w e s (built {us = us} {vs} q) h =
        let p = first_two c d us vs u key (cc) q in
        let same : p.1 ≡ w = one_alike c d p.4 s in
        let whole : ws ≡ more (over senc p.0 p.1) (more p.1 none) = e ∙ ap₂ (λ a b. more (app senc a) (more b none)) p.2 (sym same) in
        (p.0, subst (λ xs. Reduces theory sdec xs p.0) (sym whole) (reduces p.0 p.1), p.3)

reduct_alike : (c d : Tree) (g : Sym) (vs ws : Trees) (u : Tree) → AllAlike c d vs ws → Reduces theory g vs u → Reduct c d g ws u
reduct_alike c d g vs ws u r q =
    let p = decrypts g vs u q in
    subst (λ f. Reduct c d f ws u) (sym p.1) (sdec_alike c d u p.0 ws (subst (λ xs. AllAlike c d xs ws) p.2 r))

-- the value of a recipe in the one frame, and what it has in the other
abbrev HasAlike : Tree → Tree → Tree → Tree → Type 0
HasAlike c d t u = (v : Tree) × Evaluates theory t v × Alike c d u v

abbrev HaveAlike : Tree → Tree → Trees → Trees → Type 0
HaveAlike c d ts us = (vs : Trees) × EvaluateAll theory ts vs × AllAlike c d us vs

first_handle : (t : Tree) (j : ℕ) → 1 ≤ j → j ≤ 1 → in_frame (kept_key t) (leaf (ax j)) ≡ over senc t k
first_handle t zero l h = absurd (omega arith)
first_handle t (suc zero) l h = refl
first_handle t (suc (suc j)) l h = absurd (omega arith)

module _ (c d : Tree) (pc : IsPlain theory.shapes c) (pd : IsPlain theory.shapes d) where
  leaf_alike : (x : Leaf) (u : Tree) → IsRecipeLeaf signature 1 x → Evaluates theory (in_frame (kept_key c) (leaf x)) u → HasAlike c d (in_frame (kept_key d) (leaf x)) u
  leaf_alike (public n) u h e = (leaf (public n), named tt, subst (λ t. Alike c d t (leaf (public n))) (sym (plain_alone theory e tt)) told)
  leaf_alike (private n) u h e = absurd h
  leaf_alike (var n) u h e = absurd h
  leaf_alike (entry n) u h e = absurd h
  leaf_alike (rigid n) u h e = absurd h
  leaf_alike (ax j) u h e =
      let at_c = first_handle c j h.0 h.1 in
      let at_d = first_handle d j h.0 h.1 in
      let value : u ≡ over senc c k = plain_alone theory (subst (λ t. Evaluates theory t u) at_c e) (cipher_plain c pc) in
      (over senc d k, subst (λ t. Evaluates theory t (over senc d k)) (sym at_d) (plain_evaluates theory (over senc d k) (cipher_plain d pd)), cipher value refl)

  same_count : (ts : Trees) → count (replace_all (handles_to (kept_key c)) ts) ≡ count (replace_all (handles_to (kept_key d)) ts)
  same_count ts = count-replace_all (handles_to (kept_key c)) ts ∙ sym (count-replace_all (handles_to (kept_key d)) ts)

  app_alike :
      (f : Sym) (ts us : Trees) (t u : Tree) → t ≡ app f us → us ≡ replace_all (handles_to (kept_key c)) ts
      → ((vs : Trees) → EvaluateAll theory us vs → HaveAlike c d (replace_all (handles_to (kept_key d)) ts) vs) → Evaluates theory t u
      → HasAlike c d (app f (replace_all (handles_to (kept_key d)) ts)) u
  app_alike f ts us t u e i r (named h) = absurd (cc)
  app_alike f ts us t u e i r (constructed {f = g} {ts = ws} {vs} h q) =
      let same : g ≡ f = (cc) in
      let all : ws ≡ us = (cc) in
      let p = r vs (subst (λ z. EvaluateAll theory z vs) all q) in
      let shape = subst (λ (s : Sym). HasShape theory.shapes Constructor s (count ws)) same h in
      let counted = subst (λ m. HasShape theory.shapes Constructor f m) (ap count (all ∙ i) ∙ same_count ts) shape in
      (app f p.0, constructed counted p.1, subst (λ s. Alike c d (app s vs) (app f p.0)) (sym same) (built p.2))
  app_alike f ts us t u e i r (reduced {g} {ts = ws} vs h q s) =
      let same : g ≡ f = (cc) in
      let all : ws ≡ us = (cc) in
      let p = r vs (subst (λ z. EvaluateAll theory z vs) all q) in
      let shape = subst (λ (s : Sym). HasShape theory.shapes Destructor s (count ws)) same h in
      let counted = subst (λ m. HasShape theory.shapes Destructor f m) (ap count (all ∙ i) ∙ same_count ts) shape in
      let z = reduct_alike c d f vs p.0 u p.2 (subst (λ x. Reduces theory x vs u) same s) in
      (z.0, reduced p.0 counted p.1 z.1, z.2)

  none_alike : (ts vs : Trees) → ts ≡ none → EvaluateAll theory ts vs → AllAlike c d vs none
  none_alike ts vs e no_terms = no_trees
  none_alike ts vs e (a_term r q) = absurd (cc)

  more_alike :
      (t u : Tree) (ts us vs ws : Trees) → ws ≡ more t ts → ((v : Tree) → Evaluates theory t v → HasAlike c d u v)
      → ((vs : Trees) → EvaluateAll theory ts vs → HaveAlike c d us vs) → EvaluateAll theory ws vs → HaveAlike c d (more u us) vs
  more_alike t u ts us vs ws e r q no_terms = absurd (cc)
  more_alike t u ts us vs ws e r q (a_term {t = s} {v} {ts = zs} {vs = xs} h z) =
      let one : s ≡ t = (cc) in
      let rest : zs ≡ ts = (cc) in
      let p = r v (subst (λ y. Evaluates theory y v) one h) in
      let w = q xs (subst (λ y. EvaluateAll theory y xs) rest z) in
      (more p.0 w.0, a_term p.1 w.1, a_tree p.2 w.2)

  mutual
    recipe_alike : (r : Tree) (u : Tree) → IsRecipe signature 1 r → Evaluates theory (in_frame (kept_key c) r) u → HasAlike c d (in_frame (kept_key d) r) u
    recipe_alike (leaf x) u h e = leaf_alike x u h e
    recipe_alike (app f ts) u h e =
        app_alike f ts (replace_all (handles_to (kept_key c)) ts) (in_frame (kept_key c) (app f ts)) u refl refl (λ vs q. recipes_alike ts vs h.1 q) e

    recipes_alike :
        (ts vs : Trees) → AreBuiltOf (IsRecipeLeaf signature 1) (HasArity (shapes signature)) ts
        → EvaluateAll theory (replace_all (handles_to (kept_key c)) ts) vs → HaveAlike c d (replace_all (handles_to (kept_key d)) ts) vs
    recipes_alike none vs h e = (none, no_terms, none_alike none vs refl e)
    recipes_alike (more t ts) vs h e =
        more_alike (in_frame (kept_key c) t) (in_frame (kept_key d) t) (replace_all (handles_to (kept_key c)) ts) (replace_all (handles_to (kept_key d)) ts) vs (replace_all (handles_to (kept_key c)) (more t ts)) refl (λ v q. recipe_alike t v h.0 q) (λ ws q. recipes_alike ts ws h.1 q) e

  carried : (r s : Tree) → IsRecipe signature 1 r → IsRecipe signature 1 s → HaveOneValue theory (kept_key c) r s → HaveOneValue theory (kept_key d) r s
  carried r s h i e =
      let p = recipe_alike r e.value h e.left in
      let q = recipe_alike s e.value i e.right in
      record { value = q.0; left = subst (HasValue theory (kept_key d) r) (one_alike c d p.2 q.2) p.1; right = q.1 }

pub kept_key_hides : (c d : Tree) → IsPlain theory.shapes c → IsPlain theory.shapes d → AreStaticallyEquivalent signature theory (kept_key c) (kept_key d)
kept_key_hides c d pc pd = record {
  same_length = refl;
  same_successes = λ r h. ((λ m. let p = recipe_alike c d pc pd r m.0 h m.1 in (p.0, p.1)), (λ m. let p = recipe_alike d c pd pc r m.0 h m.1 in (p.0, p.1)));
  same_equalities = λ r s h i. (carried c d pc pd r s h i, carried d c pd pc r s h i);
}
