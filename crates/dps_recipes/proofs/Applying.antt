-- What a symbol gives over values.
use Rattle.std.proofs.Common.{◌≡◌, ℕ, nat_eq, not, Bool, true, false, MatchBool, List, ◌∷◌, take, drop, length, Some, None, refl, sym, ◌∙◌, ap, subst, inl, inr}
use Rattle.std.specs.Prelude.{Option, slice_get, MatchOption}
use Rattle.std.specs.Option.{option_map, option_eq}
use Rattle.std.proofs.lemmas.Bool.{cases_Bool, eqb-true, eq-eqb}
use Rattle.dps_terms.specs.declared.Sym.{Sym}
use Rattle.dps_signature.specs.declared.SymKind.{SymKind}
use Rattle.dps_signature.specs.declared.SymKind.TheVariants.{Constructor, Destructor}
use Rattle.dps_terms.specs.Tree.{Tree, Trees, leaf, app, trees, count}
use Rattle.dps_terms.specs.Replace.{substitute, substitute_all}
use Rattle.dps_signature.specs.Signature.{Shape, HasShape}
use Rattle.dps_terms.proofs.Arguments.{count-trees}
use Rattle.dps_theory.specs.Theory.{Rule, Theory, HasDestructorRoot, IsAccepted}
use Rattle.dps_theory.specs.Evaluation.{Reduces}
use Rattle.dps_theory.proofs.Evaluating.{one_kind, reduces_left}
use Rattle.dps_recipes.specs.Reduction.{IsReduct, IsStuck, Gives, GivesNothing, PutsReduct, PutsGiven}

-- an answer under other words
pub answer_as : (P Q : Type 0) (R S : Tree → Type 0) → (P → Q) → ((v : Tree) → R v → S v) → (o : Option Tree) → MatchOption o P R → MatchOption o Q S
answer_as P Q R S nothing some (Some v) h = some v h
answer_as P Q R S nothing some None h = nothing h

-- two numbers of arguments, compared
pub arities_differ : (o : Option ℕ) (n : ℕ) → true ≡ not (option_eq nat_eq o (Some n)) → o ≡ Some n → ⊥
arities_differ o n h e =
    let same : not (option_eq nat_eq o (Some n)) ≡ false = rw (e, eq-eqb n n refl) refl in
    let m : true ≡ false = h ∙ same in cc

pub arities_same : (o : Option ℕ) (n : ℕ) → false ≡ not (option_eq nat_eq o (Some n)) → o ≡ Some n
arities_same (Some k) n h =
    elim (cases_Bool (nat_eq k n)) [
      | inl b ↦ ap Some (eqb-true k n b)
      | inr b ↦ let m : false ≡ true = h ∙ ap not b in cc
    ]
arities_same None n h = cc

-- a shape by its parts
shape_of_parts : (o : Option Shape) (kind : SymKind) (n : ℕ) → option_map (λ s. s.kind) o ≡ Some kind → option_map (λ s. s.arity) o ≡ Some n → o ≡ Some (record { kind = kind; arity = n })
shape_of_parts (Some s) kind n a b =
    let k : s.kind ≡ kind = cc in
    let m : s.arity ≡ n = cc in λ i. Some (record { kind = k i; arity = m i })
shape_of_parts None kind n a b = cc

module _ (theory : Theory) (f : Sym) (vs : List Tree) (n : ℕ) (len : n ≡ length vs) where
  same_count : n ≡ count (trees vs)
  same_count = len ∙ sym (count-trees vs)

  pub has_shape :
      (kind : SymKind) → option_map (λ s. s.kind) (slice_get theory.shapes f.number) ≡ Some kind
      → option_map (λ s. s.arity) (slice_get theory.shapes f.number) ≡ Some n → HasShape theory.shapes kind f (count (trees vs))
  has_shape kind a b = subst (HasShape theory.shapes kind f) same_count (shape_of_parts (slice_get theory.shapes f.number) kind n a b)

  pub no_arity_gives : (option_map (λ s. s.arity) (slice_get theory.shapes f.number) ≡ Some n → ⊥) → GivesNothing theory f (trees vs)
  no_arity_gives h v (inl p) = h (ap (option_map (λ s. s.arity)) p.0 ∙ ap Some (sym same_count))
  no_arity_gives h v (inr p) = h (ap (option_map (λ s. s.arity)) p.0 ∙ ap Some (sym same_count))

pub no_kind_gives : (theory : Theory) (f : Sym) (vs : Trees) → option_map (λ s. s.kind) (slice_get theory.shapes f.number) ≡ None → GivesNothing theory f vs
no_kind_gives theory f vs e v (inl p) = let m : None ≡ Some Constructor = sym e ∙ ap (option_map (λ s. s.kind)) p.0 in cc
no_kind_gives theory f vs e v (inr p) = let m : None ≡ Some Destructor = sym e ∙ ap (option_map (λ s. s.kind)) p.0 in cc

-- a use of a rule on a symbol over values
module _ (theory : Theory) (accepted : IsAccepted theory) (f : Sym) (vs : Trees) where
  reduces_at : (r : Rule) (by : ℕ → Tree) (l : Tree) → HasDestructorRoot theory.shapes l → substitute by l ≡ app f vs → (us : Trees) × (l ≡ app f us) × (substitute_all by us ≡ vs)
  reduces_at r by (leaf x) d e = absurd d
  reduces_at r by (app g us) d e =
      let m : g ≡ f = cc in
      let k : substitute_all by us ≡ vs = cc in (us, ap (λ s. app s us) m, k)

  pub reduct_reduces : (v : Tree) → IsReduct theory.rules (app f vs) v → Reduces theory f vs v
  reduct_reduces v r =
      let p = reduces_at r.rule r.fits.by r.rule.left (accepted.root r.rule r.listed) r.fits.left in
      record { rule = r.rule; listed = r.listed; patterns = p.0; left = p.1; by = r.fits.by; matched = p.2; right = r.fits.right }

  pub destructor_answer :
      (o : Option Tree) → HasShape theory.shapes Destructor f (count vs) → MatchOption o (IsStuck theory.rules (app f vs)) (IsReduct theory.rules (app f vs))
      → MatchOption o (GivesNothing theory f vs) (Gives theory f vs)
  destructor_answer o shape h =
      answer_as (IsStuck theory.rules (app f vs)) (GivesNothing theory f vs) (IsReduct theory.rules (app f vs)) (Gives theory f vs)
      stuck (λ v r. inr (shape, reduct_reduces v r)) o h
    where
      stuck : IsStuck theory.rules (app f vs) → GivesNothing theory f vs
      stuck s v (inl p) = one_kind theory.shapes f (count vs) (count vs) p.0 shape
      stuck s v (inr p) = s p.1.rule p.1.listed p.1.by (reduces_left theory f vs v p.1)

-- A destructor over the trees in front: what a rule makes of it takes their place.
pub put_given : (theory : Theory) (f : Sym) (n : ℕ) (old new rest : List Tree) (t : Tree) (found : Bool) → IsAccepted theory
    → t ≡ app f (trees (take n old)) → rest ≡ drop n old → HasShape theory.shapes Destructor f (count (trees (take n old)))
    → MatchBool found (PutsReduct theory.rules t rest new) (IsStuck theory.rules t) → MatchBool found (PutsGiven theory f n old new) (GivesNothing theory f (trees (take n old)))
put_given theory f n old new rest t true accepted e r shape p = record {
  value = p.value;
  put = p.put ∙ ap (λ us. p.value ∷ us) r;
  gives = destructor_answer theory accepted f (trees (take n old)) (Some p.value) shape (subst (λ u. IsReduct theory.rules u p.value) e p.is);
}
put_given theory f n old new rest t false accepted e r shape p =
    destructor_answer theory accepted f (trees (take n old)) None shape (subst (IsStuck theory.rules) e p)

-- what was taken from the front
pub first_taken : (old new : List Tree) (t u : Tree) (rest : List Tree) → old ≡ u ∷ rest → old ≡ t ∷ new → (t ≡ u) × (new ≡ rest)
first_taken old new t u rest e k = let m : t ∷ new ≡ u ∷ rest = sym k ∙ e in (cc, cc)
