-- Trees under substitutions, and their arguments.
use Rattle.std.proofs.Common.{◌≡◌, ℕ, zero, suc, length, Some, refl, sym, ◌∙◌, ap, arith, inl, inr, subst}
use Rattle.std.specs.Prelude.{slice_get, ◌⊎◌, ◌↔◌}
use Rattle.std.proofs.lemmas.List.Elements.{All-nil, All-cons, All-head, All-tail}
use Rattle.std.proofs.lemmas.Option.{none-some}
use Rattle.std.specs.List.{zip}
use Rattle.dps_terms.specs.declared.Sym.{Sym}
use Rattle.dps_terms.specs.declared.TermView.TheVariants.{Var}
use Rattle.dps_terms.specs.Tree.{Leaf, public, private, var, ax, entry, rigid, Tree, Trees, leaf, app, none, more, list_of, node_count, IsSubterm, IsAmong, StandsIn, itself, below, in_first, in_rest}
use Rattle.dps_terms.specs.Replace.{replace, substitute, substitute_all, variables_to}
use Rattle.dps_terms.specs.Views.{view_of, arguments, HaveSameRoot}
use Rattle.dps_terms.proofs.Replacing.{replace_in_turn, replace_agrees, replace_itself, subterm_of_instance, keeps_among}
use Rattle.dps_terms.proofs.Arguments.{same_view, leaf_is_no_app}
use Rattle.dps_terms.proofs.Subterms.{among_le}
use Rattle.dps_unify.specs.Unifier.{Unifies}

-- one substitution after another
at_leaf : (r z : ℕ → Tree) (x : Leaf) → replace (variables_to r) (variables_to z x) ≡ variables_to (λ n. substitute r (z n)) x
at_leaf r z (public n) = refl
at_leaf r z (private n) = refl
at_leaf r z (var n) = refl
at_leaf r z (ax n) = refl
at_leaf r z (entry n) = refl
at_leaf r z (rigid n) = refl

pub substitute_in_turn : (r z : ℕ → Tree) (t : Tree) → substitute r (substitute z t) ≡ substitute (λ n. substitute r (z n)) t
substitute_in_turn r z t =
    replace_in_turn (variables_to z) (variables_to r) t
    ∙ replace_agrees (λ x. replace (variables_to r) (variables_to z x)) (variables_to (λ n. substitute r (z n))) t (λ x k. at_leaf r z x)

-- substitutions that agree on the variables of a tree
agree_leaf : (r q : ℕ → Tree) (t : Tree) → ((n : ℕ) → StandsIn (var n) t → r n ≡ q n) → (x : Leaf) → StandsIn x t → variables_to r x ≡ variables_to q x
agree_leaf r q t h (public n) k = refl
agree_leaf r q t h (private n) k = refl
agree_leaf r q t h (var n) k = h n k
agree_leaf r q t h (ax n) k = refl
agree_leaf r q t h (entry n) k = refl
agree_leaf r q t h (rigid n) k = refl

pub substitute_agrees : (r q : ℕ → Tree) (t : Tree) → ((n : ℕ) → StandsIn (var n) t → r n ≡ q n) → substitute r t ≡ substitute q t
substitute_agrees r q t h = replace_agrees (variables_to r) (variables_to q) t (agree_leaf r q t h)

stays_leaf : (x : Leaf) → variables_to (λ n. leaf (var n)) x ≡ leaf x
stays_leaf (public n) = refl
stays_leaf (private n) = refl
stays_leaf (var n) = refl
stays_leaf (ax n) = refl
stays_leaf (entry n) = refl
stays_leaf (rigid n) = refl

pub substitute_itself : (t : Tree) → substitute (λ n. leaf (var n)) t ≡ t
substitute_itself t = replace_agrees (variables_to (λ n. leaf (var n))) leaf t (λ x k. stays_leaf x) ∙ replace_itself t

pub substitute_stays : (r : ℕ → Tree) (t : Tree) → ((n : ℕ) → StandsIn (var n) t → r n ≡ leaf (var n)) → substitute r t ≡ t
substitute_stays r t h = substitute_agrees r (λ n. leaf (var n)) t h ∙ substitute_itself t

-- a variable of an instance comes from a variable of the tree
pub in_leaf : (x : Leaf) (u : Tree) → IsSubterm u (leaf x) → u ≡ leaf x
in_leaf x u itself = refl

variable_in_leaf : (z : ℕ → Tree) (n : ℕ) (t : Tree) (x : Leaf) → StandsIn x t → StandsIn (var n) (variables_to z x) → (m : ℕ) × StandsIn (var m) t × StandsIn (var n) (z m)
variable_in_leaf z n t (public m) k h = let e = in_leaf (public m) (leaf (var n)) h in cc
variable_in_leaf z n t (private m) k h = let e = in_leaf (private m) (leaf (var n)) h in cc
variable_in_leaf z n t (var m) k h = (m, k, h)
variable_in_leaf z n t (ax m) k h = let e = in_leaf (ax m) (leaf (var n)) h in cc
variable_in_leaf z n t (entry m) k h = let e = in_leaf (entry m) (leaf (var n)) h in cc
variable_in_leaf z n t (rigid m) k h = let e = in_leaf (rigid m) (leaf (var n)) h in cc

variable_in_subterm : (z : ℕ → Tree) (n : ℕ) (t s : Tree) → IsSubterm s t → leaf (var n) ≡ substitute z s → (m : ℕ) × StandsIn (var m) t × StandsIn (var n) (z m)
variable_in_subterm z n t (leaf x) k e = variable_in_leaf z n t x k (subst (λ u. IsSubterm (leaf (var n)) u) e itself)
variable_in_subterm z n t (app f ts) k e = cc

pub variable_of_instance : (z : ℕ → Tree) (n : ℕ) (t : Tree) → StandsIn (var n) (substitute z t) → (m : ℕ) × StandsIn (var m) t × StandsIn (var n) (z m)
variable_of_instance z n t k =
    elim (subterm_of_instance (variables_to z) (leaf (var n)) t k) [
      | inl h ↦ variable_in_subterm z n t h.0 h.1 h.2
      | inr h ↦ variable_in_leaf z n t h.0 h.1 h.2
    ]

-- the instance of a variable of the tree stands in the instance, and is smaller if the tree is another
pub occurs_check : (r : ℕ → Tree) (n : ℕ) (t : Tree) → StandsIn (var n) t → (t ≡ leaf (var n) → ⊥) → r n ≡ substitute r t → ⊥
occurs_check r n (leaf x) k other e = other (sym (in_leaf x (leaf (var n)) k))
occurs_check r n (app f ts) k other e =
    elim (app_cases (leaf (var n)) f ts k) [
      | inl d ↦ cc
      | inr among ↦ omega (arith, among_le (keeps_among (variables_to r) among), ap node_count e)
    ]
  where
    app_cases : (u : Tree) (g : Sym) (us : Trees) → IsSubterm u (app g us) → (u ≡ app g us) ⊎ IsAmong u us
    app_cases u g us itself = inl refl
    app_cases u g us (below m) = inr m

-- the tree with this root
pub var_from_view : (t : Tree) (n : ℕ) → view_of t ≡ Var n → t ≡ leaf (var n)
var_from_view (leaf x) n e = ap leaf (same_view x (var n) e)
var_from_view (app f ts) n e = cc

equal_all : (r : ℕ → Tree) (ts us : Trees) → length (list_of ts) ≡ length (list_of us) → Unifies r (zip (list_of ts) (list_of us)) → substitute_all r ts ≡ substitute_all r us
equal_all r none none e h = refl
equal_all r none (more u us) e h = absurd (omega arith)
equal_all r (more t ts) none e h = absurd (omega arith)
equal_all r (more t ts) (more u us) e h =
    let a = All-head (λ p. substitute r p.0 ≡ substitute r p.1) (t, u) (zip (list_of ts) (list_of us)) h in
    let b = equal_all r ts us (omega arith) (All-tail (λ p. substitute r p.0 ≡ substitute r p.1) (t, u) (zip (list_of ts) (list_of us)) h) in
    λ i. more (a i) (b i)

all_equal : (r : ℕ → Tree) (ts us : Trees) → substitute_all r ts ≡ substitute_all r us → Unifies r (zip (list_of ts) (list_of us))
all_equal r none us e = All-nil (λ p. substitute r p.0 ≡ substitute r p.1)
all_equal r (more t ts) none e = cc
all_equal r (more t ts) (more u us) e =
    let a : substitute r t ≡ substitute r u = cc in
    let b : substitute_all r ts ≡ substitute_all r us = cc in
    All-cons (λ p. substitute r p.0 ≡ substitute r p.1) (t, u) (zip (list_of ts) (list_of us)) a (all_equal r ts us b)

pub unified_arguments : (r : ℕ → Tree) (a b : Tree) → HaveSameRoot a b → (substitute r a ≡ substitute r b) ↔ Unifies r (zip (arguments a) (arguments b))
unified_arguments r (leaf x) (leaf y) h = (λ _. All-nil (λ p. substitute r p.0 ≡ substitute r p.1), λ _. ap (λ k. substitute r (leaf k)) (same_view x y h.0))
unified_arguments r (leaf x) (app g us) h = absurd (leaf_is_no_app x g h.0)
unified_arguments r (app f ts) (leaf y) h = absurd (leaf_is_no_app y f (sym h.0))
unified_arguments r (app f ts) (app g us) h =
    let v = h.0 in let d : f ≡ g = cc in (
      λ e. all_equal r ts us (let k : substitute_all r ts ≡ substitute_all r us = cc in k),
      λ u. let k = equal_all r ts us h.1 u in λ i. app (d i) (k i),
    )

-- a root that is no variable stays under a substitution
length_instance : (r : ℕ → Tree) (ts : Trees) → length (list_of (substitute_all r ts)) ≡ length (list_of ts)
length_instance r none = refl
length_instance r (more t ts) = omega (arith, length_instance r ts)

alike_leaf : (r : ℕ → Tree) (x : Leaf) → ((n : ℕ) → view_of (leaf x) ≡ Var n → ⊥) → HaveSameRoot (variables_to r x) (leaf x)
alike_leaf r (public m) h = (refl, refl)
alike_leaf r (private m) h = (refl, refl)
alike_leaf r (var m) h = absurd (h m refl)
alike_leaf r (ax m) h = (refl, refl)
alike_leaf r (entry m) h = (refl, refl)
alike_leaf r (rigid m) h = (refl, refl)

pub alike_instance : (r : ℕ → Tree) (t : Tree) → ((n : ℕ) → view_of t ≡ Var n → ⊥) → HaveSameRoot (substitute r t) t
alike_instance r (leaf x) h = alike_leaf r x h
alike_instance r (app f ts) h = (refl, length_instance r ts)

pub never_equal : (a b : Tree) → ¬ HaveSameRoot a b → ((n : ℕ) → view_of a ≡ Var n → ⊥) → ((n : ℕ) → view_of b ≡ Var n → ⊥) → (r : ℕ → Tree) → substitute r a ≡ substitute r b → ⊥
never_equal a b apart na nb r e =
    let x = alike_instance r a na in
    let y = alike_instance r b nb in
    apart (sym x.0 ∙ ap view_of e ∙ y.0, sym x.1 ∙ ap (λ t. length (arguments t)) e ∙ y.1)

-- the variables of an argument
stands_among : (x : Leaf) (ts : Trees) (i : ℕ) (u : Tree) → slice_get (list_of ts) i ≡ Some u → StandsIn x u → IsAmong (leaf x) ts
stands_among x none i u e k = absurd (none-some u e)
stands_among x (more t ts) zero u e k = let d : u ≡ t = cc in in_first (subst (λ v. StandsIn x v) d k)
stands_among x (more t ts) (suc i) u e k = in_rest (stands_among x ts i u e k)

pub stands_in_argument : (x : Leaf) (t : Tree) (i : ℕ) (u : Tree) → slice_get (arguments t) i ≡ Some u → StandsIn x u → StandsIn x t
stands_in_argument x (leaf y) i u e k = absurd (none-some u e)
stands_in_argument x (app f ts) i u e k = below (stands_among x ts i u e k)

-- a variable below the root stands in an argument
among_argument : (v : Tree) (ts : Trees) → IsAmong v ts → (i : ℕ) × (u : Tree) × (slice_get (list_of ts) i ≡ Some u) × IsSubterm v u
among_argument v none k = elim k [ ]
among_argument v (more t ts) (in_first k) = (0, t, refl, k)
among_argument v (more t ts) (in_rest k) = let h = among_argument v ts k in (suc h.0, h.1, h.2, h.3)

pub below_root : (m : ℕ) (t : Tree) → ((n : ℕ) → view_of t ≡ Var n → ⊥) → StandsIn (var m) t → (i : ℕ) × (u : Tree) × (slice_get (arguments t) i ≡ Some u) × StandsIn (var m) u
below_root m (leaf x) avoided k = let e = in_leaf x (leaf (var m)) k in absurd (avoided m (ap view_of (sym e)))
below_root m (app f ts) avoided (below k) = among_argument (leaf (var m)) ts k
