-- Values of recipes, root by root.
use Rattle.std.proofs.Common.{◌≡◌, ℕ, zero, suc, ◌≤◌, List, [], ◌∷◌, map, unwrap_or, Some, None, refl, sym, ◌∙◌, ap, subst, inl, inr, arith}
use Rattle.std.specs.Prelude.{◌⊎◌, Option, slice_get, MatchOption}
use Rattle.std.proofs.lemmas.Option.{none-some}
use Rattle.dps_terms.specs.declared.Sym.{Sym}
use Rattle.dps_signature.specs.declared.SymKind.TheVariants.{Constructor, Destructor}
use Rattle.dps_terms.specs.declared.PublicName.{PublicName}
use Rattle.dps_terms.specs.declared.borrowed.TermView.{TermView}
use Rattle.dps_terms.specs.declared.borrowed.TermView.TheVariants.{App, Public, Private, Var, Ax, Entry, Rigid}
use Rattle.dps_terms.specs.Tree.{Leaf, public, private, var, ax, entry, rigid, Tree, Trees, leaf, app, none, more, list_of, trees, node_count, node_counts}
use Rattle.dps_terms.specs.Replace.{replace, replace_all, numbered, handles_to, in_frame}
use Rattle.dps_terms.specs.Views.{view_of, arguments}
use Rattle.dps_signature.specs.Signature.{HasShape}
use Rattle.dps_terms.specs.Kinds.{IsName}
use Rattle.dps_terms.proofs.Replacing.{replace_stays}
use Rattle.dps_theory.specs.Theory.{Theory, IsAccepted}
use Rattle.dps_theory.specs.Evaluation.{Evaluates, EvaluateAll, named, constructed, reduced, IsMessage}
use Rattle.dps_theory.specs.Frames.{HasValue, Succeeds}
use Rattle.dps_theory.proofs.Evaluating.{evaluate_once, count-evaluated}
use Rattle.dps_recipes.specs.Reduction.{Gives, GivesNothing}
use Rattle.dps_recipes.specs.Values.{HaveValues}
use Rattle.dps_recipes.proofs.Trying.{no_app_leaf}
use Rattle.dps_recipes.proofs.Applying.{answer_as}

-- what the value of a symbol over terms comes from
pub record IsApplied (theory : Theory) (f : Sym) (ts : Trees) (v : Tree) : Type 0 where
  pub values : Trees
  pub all : EvaluateAll theory ts values
  pub gives : Gives theory f values v

pub applied_at : (theory : Theory) {f : Sym} {ts : Trees} {v : Tree} → Evaluates theory (app f ts) v → IsApplied theory f ts v
applied_at theory (constructed {f} {vs = vs} h a) =
    record { values = vs; all = a; gives = inl (subst (HasShape theory.shapes Constructor f) (sym (count-evaluated theory a)) h, refl) }
applied_at theory (reduced {g} vs h a r) =
    record { values = vs; all = a; gives = inr (subst (HasShape theory.shapes Destructor g) (sym (count-evaluated theory a)) h, r) }

pub gives_value : (theory : Theory) (f : Sym) (ts vs : Trees) (v : Tree) → EvaluateAll theory ts vs → Gives theory f vs v → Evaluates theory (app f ts) v
gives_value theory f ts vs v a (inl p) =
    subst (Evaluates theory (app f ts)) (sym p.1) (constructed (subst (HasShape theory.shapes Constructor f) (count-evaluated theory a) p.0) a)
gives_value theory f ts vs v a (inr p) = reduced vs (subst (HasShape theory.shapes Destructor f) (count-evaluated theory a) p.0) a p.1

-- the arguments in a frame
arguments_in : (f : Leaf → Tree) (ts : Trees) → trees (map (replace f) (list_of ts)) ≡ replace_all f ts
arguments_in f none = refl
arguments_in f (more t ts) = ap (more (replace f t)) (arguments_in f ts)

module _ (theory : Theory) (frame : List Tree) where
  below_root : (ts vs : Trees) → HaveValues theory frame (list_of ts) vs → EvaluateAll theory (replace_all (handles_to frame) ts) vs
  below_root ts vs h = subst (λ us. EvaluateAll theory us vs) (arguments_in (handles_to frame) ts) h

  -- a symbol over recipes that have values
  module _ (accepted : IsAccepted theory) (f : Sym) where
    nothing_given : (ts vs : Trees) → HaveValues theory frame (list_of ts) vs → GivesNothing theory f vs → ¬ Succeeds theory frame (app f ts)
    nothing_given ts vs h nothing p =
        let a = applied_at theory p.1 in
        let same : a.values ≡ vs = evaluate_once theory accepted a.all (below_root ts vs h) in
        nothing p.0 (subst (λ us. Gives theory f us p.0) same a.gives)

    pub symbol_answer :
        (r : Tree) (vs : Trees) (o : Option Tree) → App f ≡ view_of r → HaveValues theory frame (arguments r) vs
        → MatchOption o (GivesNothing theory f vs) (Gives theory f vs) → MatchOption o (¬ Succeeds theory frame r) (HasValue theory frame r)
    symbol_answer (leaf x) vs o e h k = absurd (no_app_leaf x f e)
    symbol_answer (app g ts) vs o e h k =
        let m : f ≡ g = cc in
        subst (λ s. MatchOption o (¬ Succeeds theory frame (app s ts)) (HasValue theory frame (app s ts))) m
        (answer_as (GivesNothing theory f vs) (¬ Succeeds theory frame (app f ts)) (Gives theory f vs) (HasValue theory frame (app f ts))
        (nothing_given ts vs h) (λ v d. gives_value theory f (replace_all (handles_to frame) ts) vs v (below_root ts vs h) d) o k)

  -- names stay
  pub name_value : (r : Tree) (x : Leaf) → r ≡ leaf x → handles_to frame x ≡ leaf x → IsName x → HasValue theory frame r r
  name_value r x e stays h = subst (λ t. HasValue theory frame t t) (sym e) (subst (λ t. Evaluates theory t (leaf x)) (sym stays) (named h))

  -- other leaves have no value
  no_name_fails : (x : Leaf) (t v : Tree) → t ≡ leaf x → (IsName x → ⊥) → Evaluates theory t v → ⊥
  no_name_fails x t v e h (named {x = y} k) = let m : y ≡ x = cc in h (subst IsName m k)
  no_name_fails x t v e h (constructed k a) = cc
  no_name_fails x t v e h (reduced vs k a r) = cc

  pub leaf_fails : (r : Tree) (x : Leaf) → r ≡ leaf x → handles_to frame x ≡ leaf x → (IsName x → ⊥) → ¬ Succeeds theory frame r
  leaf_fails r x e stays h p = no_name_fails x (in_frame frame r) p.0 (ap (in_frame frame) e ∙ stays) h p.1

  -- handles
  pub handle_fails : (r : Tree) (j : ℕ) → r ≡ leaf (ax j) → ((other : Tree) → numbered frame j other ≡ other) → ¬ Succeeds theory frame r
  handle_fails r j e h = leaf_fails r (ax j) e (h (leaf (ax j))) (λ k. k)

  pub handle_answer :
      (r : Tree) (j : ℕ) (message : Tree) (o : Option Tree) → r ≡ leaf (ax j) → ((other : Tree) → numbered frame j other ≡ message)
      → MatchOption o (¬ IsMessage theory message) (Evaluates theory message) → MatchOption o (¬ Succeeds theory frame r) (HasValue theory frame r)
  handle_answer r j message o e h k =
      let same : message ≡ in_frame frame r = sym (ap (in_frame frame) e ∙ h (leaf (ax j))) in
      subst (λ t. MatchOption o (¬ IsMessage theory t) (Evaluates theory t)) same k

-- nothing is put for handles where there is no message
pub no_frame : (theory : Theory) (t : Tree) (o : Option Tree) → MatchOption o (¬ Succeeds theory [] t) (HasValue theory [] t) → MatchOption o (¬ IsMessage theory t) (Evaluates theory t)
no_frame theory t o h = subst (λ u. MatchOption o (¬ IsMessage theory u) (Evaluates theory u)) (replace_stays (handles_to []) t (λ x _. stays x)) h
  where
    stays : (x : Leaf) → handles_to [] x ≡ leaf x
    stays (ax zero) = refl
    stays (ax (suc j)) = refl
    stays (public n) = refl
    stays (private n) = refl
    stays (var n) = refl
    stays (entry n) = refl
    stays (rigid n) = refl

-- what a leaf shows
pub ax_root : (r : Tree) (j : ℕ) → Ax j ≡ view_of r → r ≡ leaf (ax j)
ax_root (leaf (ax i)) j e = let m : i ≡ j = cc in ap (λ k. leaf (ax k)) m
ax_root (leaf (public n)) j e = cc
ax_root (leaf (private n)) j e = cc
ax_root (leaf (var n)) j e = cc
ax_root (leaf (entry n)) j e = cc
ax_root (leaf (rigid n)) j e = cc
ax_root (app f ts) j e = cc

-- what shows a name has its own tree as its value
abbrev pub ShowsName : TermView → Type 0
ShowsName v = ((n : PublicName) × (v ≡ Public n)) ⊎ (((n : ℕ) × (v ≡ Private n)) ⊎ ((n : ℕ) × (v ≡ Rigid n)))

pub no_name_shown : (v w : TermView) → ((n : PublicName) → w ≡ Public n → ⊥) → ((n : ℕ) → w ≡ Private n → ⊥) → ((n : ℕ) → w ≡ Rigid n → ⊥) → v ≡ w → ShowsName v → ⊥
no_name_shown v w a b c e (inl p) = a p.0 (sym e ∙ p.1)
no_name_shown v w a b c e (inr (inl p)) = b p.0 (sym e ∙ p.1)
no_name_shown v w a b c e (inr (inr p)) = c p.0 (sym e ∙ p.1)

pub name_copied : (theory : Theory) (frame : List Tree) (r name : Tree) (v : TermView) → name ≡ r → v ≡ view_of r → ShowsName v → HasValue theory frame r name
name_copied theory frame (leaf (public n)) name v e d h = subst (HasValue theory frame (leaf (public n))) (sym e) (named tt)
name_copied theory frame (leaf (private n)) name v e d h = subst (HasValue theory frame (leaf (private n))) (sym e) (named tt)
name_copied theory frame (leaf (rigid n)) name v e d h = subst (HasValue theory frame (leaf (rigid n))) (sym e) (named tt)
name_copied theory frame (leaf (var k)) name v e d h = absurd (no_name_shown v (Var k) (λ n m. cc) (λ n m. cc) (λ n m. cc) d h)
name_copied theory frame (leaf (ax k)) name v e d h = absurd (no_name_shown v (Ax k) (λ n m. cc) (λ n m. cc) (λ n m. cc) d h)
name_copied theory frame (leaf (entry k)) name v e d h = absurd (no_name_shown v (Entry k) (λ n m. cc) (λ n m. cc) (λ n m. cc) d h)
name_copied theory frame (app f ts) name v e d h = absurd (no_name_shown v (App f) (λ n m. cc) (λ n m. cc) (λ n m. cc) d h)
