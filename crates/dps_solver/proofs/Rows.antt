-- The search on small scenes.
use Rattle.std.proofs.Common.{◌≡◌, ℕ, List, [], ◌∷◌, ◌⊎◌, inl, inr, cond, nat_eq, Some, None, refl, sym, ◌∙◌, ap, arith, subst, Contains, slice_index_or}
use Rattle.std.proofs.lemmas.Bool.{cases_Bool, eqb-true, eq-eqb}
use Rattle.dps_terms.specs.Tree.{public, private, var, entry, Tree, leaf, StandsIn, below, in_first, in_rest}
use Rattle.dps_terms.specs.declared.PublicName.TheVariants.{Declared}
use Rattle.dps_terms.specs.Replace.{substitute}
use Rattle.dps_terms.specs.Bindings.{image}
use Rattle.dps_unify.specs.Order.{level_of, Precedes}
use Rattle.dps_unify.specs.Unifier.{IsMgu}
use Rattle.dps_unify.proofs.Bound.{single}
use Rattle.dps_unify.proofs.Trees.{in_leaf}
use Rattle.dps_solver.specs.declared.scene.Target.{Target}
use Rattle.dps_solver.specs.Solutions.{identity, Respects}
use Rattle.dps_solver.specs.Search.{
  GeneralSolution,
  Branch,
  solution_of,
  AreNewlyBound,
  with_bound,
  lowered,
  composed,
  with_tree,
  lowers,
  uses,
  composes,
  Lists,
  gives,
  goes_on,
  no_way,
  leads,
  unbound,
  Finds,
  starts,
}
use Rattle.dps_solver.specs.Examples.{
  a,
  k,
  senc,
  nothing_known,
  key_known,
  two_variables,
  is_ciphertext,
  is_key,
  are_equal,
  CiphertextIsComposed,
  CiphertextIsSpent,
  EarlierIsNone,
  LaterIsEntry,
  GreaterIsBound,
}
use Rattle.dps_solver.proofs.Bindings.{binds_left, binds_right, binds_none}
use Rattle.dps_solver.proofs.Once.{finds_once}

-- one variable with a level
one_level : (x l y m : ℕ) → level_of ((x, l) ∷ []) y ≡ Some m → (y ≡ x) × (m ≡ l)
one_level x l y m e =
    elim (cases_Bool (nat_eq x y)) [
      | inl d ↦ (sym (eqb-true x y d), let q : Some l ≡ Some m = ap (λ b. cond b (Some l) None) (sym d) ∙ e in cc)
      | inr d ↦ let q : None ≡ Some m = ap (λ b. cond b (Some l) None) (sym d) ∙ e in cc
    ]

one_element : (p q : ℕ × ℕ) → Contains (p ∷ []) q → q ≡ p
one_element p q h = sym (subst (λ i. get i ≡ q) (let z : h.0 ≡ 0 = omega (arith, h.1) in z) h.2)
  where
    get : ℕ → ℕ × ℕ
    get i = slice_index_or (p ∷ []) i q

-- it is newly bound
pub newly_one : (x l : ℕ) (theta : ℕ → Tree) → ¬ (theta x ≡ leaf (var x)) → AreNewlyBound ((x, l) ∷ []) identity theta ((x, l) ∷ [])
newly_one x l theta other = record {
  ascending = λ i j d m n. absurd (omega (arith, m, n));
  those = λ p. (
    λ c. subst (λ q. (level_of ((x, l) ∷ []) q.0 ≡ Some q.1) × (identity q.0 ≡ leaf (var q.0)) × ¬ (theta q.0 ≡ leaf (var q.0))) (sym (one_element (x, l) p c)) (here, refl, other),
    λ h. let d = one_level x l p.0 p.1 h.0 in (0, omega arith, λ i. (sym d.0 i, sym d.1 i)),
  );
}
  where
    here : level_of ((x, l) ∷ []) x ≡ Some l
    here = ap (λ b. cond b (Some l) None) (eq-eqb x x refl)

-- nothing is newly bound
pub newly_none : (levels : List (ℕ × ℕ)) (before after : ℕ → Tree)
    → ((y m : ℕ) → level_of levels y ≡ Some m → before y ≡ leaf (var y) → after y ≡ leaf (var y)) → AreNewlyBound levels before after []
newly_none levels before after h = record {
  ascending = λ i j d m n. absurd (omega (arith, n));
  those = λ p. (λ c. absurd (omega (arith, c.1)), λ g. absurd (g.2 (h p.0 p.1 g.0 g.1)));
}

-- the scenes have no recorded composition and no disequation
respects_all : (labels : List Tree) (levels : List (ℕ × ℕ)) (m : ℕ) (z : ℕ → Tree)
    → Respects (record { m = m; levels = levels; know = record { entries = []; handles = [] }; labels = labels; disequations = [] }) z
respects_all labels levels m z = record {
  labels = λ i d l r c. absurd (omega (arith, c.1));
  disequations = λ i d l. absurd (omega (arith, l));
}

other_variable : (m n : ℕ) → (m ≡ n → ⊥) → ¬ StandsIn (var m) (leaf (var n))
other_variable m n h s = h (let e : leaf (var m) ≡ leaf (var n) = in_leaf (var n) (leaf (var m)) s in cc)

not_in_name : (m n : ℕ) → ¬ StandsIn (var m) (leaf (private n))
not_in_name m n s = let e : leaf (var m) ≡ leaf (private n) = in_leaf (private n) (leaf (var m)) s in cc

not_in_a : (m : ℕ) → ¬ StandsIn (var m) a
not_in_a m s = let e : leaf (var m) ≡ a = in_leaf (public (Declared 0)) (leaf (var m)) s in cc

not_in_senc : (m : ℕ) (t u : Tree) → ¬ StandsIn (var m) t → ¬ StandsIn (var m) u → ¬ StandsIn (var m) (senc t u)
not_in_senc m t u f g (below (in_first s)) = f s
not_in_senc m t u f g (below (in_rest (in_first s))) = g s
not_in_senc m t u f g (below (in_rest (in_rest s))) = elim s [ ]

-- a ciphertext
abbrev target : ℕ → Tree → Target
target z t = record { name = z; level = 0; term = t }

abbrev c0 : Branch
c0 = with_bound ((1, 0) ∷ []) (record (unbound nothing_known is_ciphertext) { theta = image (single 1 (senc (leaf (var 100)) a)) })

abbrev c1 : Branch
c1 = composed c0 (target 1 (senc (leaf (var 100)) a)) [] (senc (leaf (var 100)) a)

abbrev c2 : Branch
c2 = lowered c1 (target 101 (leaf (var 100))) (target 102 a ∷ []) 100

abbrev c3 : Branch
c3 = composed c2 (target 102 a) [] a

abbrev s3 : List GeneralSolution
s3 = solution_of nothing_known is_ciphertext c3 ∷ []

lists3 : Lists nothing_known is_ciphertext c3 s3 0
lists3 = gives refl (respects_all (leaf (var 1) ∷ []) ((1, 0) ∷ []) 0 _) refl refl

lists2 : Lists nothing_known is_ciphertext c2 s3 1
lists2 = goes_on {z = target 102 a} {rest = []} refl (leads (composes refl) lists3 no_way refl refl)

lists1 : Lists nothing_known is_ciphertext c1 s3 2
lists1 =
    goes_on {z = target 101 (leaf (var 100))} {rest = target 102 a ∷ []} refl
    (leads (lowers {w = 100} refl (λ h. let e : None ≡ Some h.0 = h.1 in cc) refl) lists2 no_way refl refl)

lists0 : Lists nothing_known is_ciphertext c0 s3 3
lists0 = goes_on {z = target 1 (senc (leaf (var 100)) a)} {rest = []} refl (leads (composes refl) lists1 no_way refl refl)

ciphertext : IsMgu ((1, 0) ∷ []) ((leaf (var 1), senc (leaf (var 100)) a) ∷ []) (single 1 (senc (leaf (var 100)) a))
ciphertext = binds_left ((1, 0) ∷ []) 1 (senc (leaf (var 100)) a) (not_in_senc 1 (leaf (var 100)) a (other_variable 1 100 (λ e. omega (arith, e))) (not_in_a 1)) (λ y e. cc)

found : Finds nothing_known is_ciphertext s3 3
found = starts ciphertext refl (newly_one 1 0 (image (single 1 (senc (leaf (var 100)) a))) (λ (e : senc (leaf (var 100)) a ≡ leaf (var 1)). cc)) refl lists0

pub ciphertext_is_composed : CiphertextIsComposed
ciphertext_is_composed = record {
  solution = solution_of nothing_known is_ciphertext c3;
  finds = found;
  binds = refl;
  only = λ list n h. finds_once nothing_known is_ciphertext h found;
}

pub ciphertext_is_spent : CiphertextIsSpent
ciphertext_is_spent list n h = omega (arith, (finds_once nothing_known is_ciphertext h found).1)

-- a key
key : (l : ℕ) → IsMgu ((1, l) ∷ []) ((leaf (var 1), k) ∷ []) (single 1 k)
key l = binds_left ((1, l) ∷ []) 1 k (not_in_name 1 0) (λ y e. cc)

earlier : Finds (key_known 0) is_key [] 0
earlier = starts (key 0) refl (newly_one 1 0 (image (single 1 k)) (λ (e : k ≡ leaf (var 1)). cc)) refl (goes_on {z = target 1 k} {rest = []} refl no_way)

pub earlier_is_none : EarlierIsNone
earlier_is_none = record { finds = earlier; only = λ list n h. finds_once (key_known 0) is_key h earlier }

abbrev e0 : Branch
e0 = with_bound ((1, 1) ∷ []) (record (unbound (key_known 1) is_key) { theta = image (single 1 k) })

abbrev e1 : Branch
e1 = with_bound [] (record (with_tree e0 (record { name = 1; level = 1; term = k }) [] (leaf (entry 1))) { theta = (λ x. substitute (image []) (e0.theta x)) })

abbrev s1 : List GeneralSolution
s1 = solution_of (key_known 1) is_key e1 ∷ []

respects_key : (z : ℕ → Tree) → Respects ((key_known 1).system) z
respects_key z = record {
  labels = λ i d l r c. absurd (omega (arith, c.1));
  disequations = λ i d l. absurd (omega (arith, l));
}

later_bound : (y m : ℕ) → level_of ((1, 1) ∷ []) y ≡ Some m → e0.theta y ≡ leaf (var y) → e1.theta y ≡ leaf (var y)
later_bound y m e f =
    let d = one_level 1 1 y m e in
    let g : k ≡ leaf (var 1) = subst (λ x. e0.theta x ≡ leaf (var x)) d.0 f in
    cc

later : Finds (key_known 1) is_key s1 1
later =
    starts (key 1) refl (newly_one 1 1 (image (single 1 k)) (λ (e : k ≡ leaf (var 1)). cc)) refl
    (goes_on {z = record { name = 1; level = 1; term = k }} {rest = []} refl
    (leads (uses {u = []} (binds_none ((1, 1) ∷ []) k) refl (newly_none ((1, 1) ∷ []) e0.theta e1.theta later_bound) refl) (gives refl (respects_key _) refl refl) no_way refl refl))

pub later_is_entry : LaterIsEntry
later_is_entry = record {
  solution = solution_of (key_known 1) is_key e1;
  finds = later;
  binds = refl;
  only = λ list n h. finds_once (key_known 1) is_key h later;
}

-- two variables
same_number : (m n : ℕ) → leaf (var m) ≡ leaf (var n) → m ≡ n
same_number m n e = cc

abbrev v0 : Branch
v0 = with_bound ((2, 0) ∷ []) (record (unbound two_variables are_equal) { theta = image (single 2 (leaf (var 1))) })

abbrev s2 : List GeneralSolution
s2 = solution_of two_variables are_equal v0 ∷ []

abbrev both : List (ℕ × ℕ)
both = (1, 0) ∷ (2, 0) ∷ []

first_of_both : (y : ℕ) → leaf (var 1) ≡ leaf (var y) → Precedes both y 2
first_of_both y e = let d : 1 ≡ y = cc in subst (λ x. Precedes both x 2) d (inr (refl, omega arith))

variables : IsMgu both ((leaf (var 1), leaf (var 2)) ∷ []) (single 2 (leaf (var 1)))
variables = binds_right both 2 (leaf (var 1)) (other_variable 2 1 (λ e. omega (arith, e))) first_of_both

of_both : (y m : ℕ) → level_of both y ≡ Some m → ((y ≡ 1) ⊎ (y ≡ 2)) × (m ≡ 0)
of_both y m e =
    elim (cases_Bool (nat_eq 1 y)) [
      | inl d ↦ (inl (sym (eqb-true 1 y d)), let q : Some 0 ≡ Some m = ap (λ b. cond b (Some 0) (level_of ((2, 0) ∷ []) y)) (sym d) ∙ e in cc)
      | inr d ↦ let q : level_of ((2, 0) ∷ []) y ≡ Some m = ap (λ b. cond b (Some 0) (level_of ((2, 0) ∷ []) y)) (sym d) ∙ e in let r = one_level 2 0 y m q in (inr r.0, r.1)
    ]

abbrev theta2 : ℕ → Tree
theta2 = image (single 2 (leaf (var 1)))

newly_two : AreNewlyBound both identity theta2 ((2, 0) ∷ [])
newly_two = record {
  ascending = λ i j d m n. absurd (omega (arith, m, n));
  those = λ p. (
    λ c. subst (λ q. (level_of both q.0 ≡ Some q.1) × (identity q.0 ≡ leaf (var q.0)) × ¬ (theta2 q.0 ≡ leaf (var q.0))) (sym (one_element (2, 0) p c)) (refl, refl, one_apart),
    λ h. let d = of_both p.0 p.1 h.0 in elim d.0 [
      | inl e ↦ absurd (h.2 (subst (λ x. theta2 x ≡ leaf (var x)) (sym e) refl))
      | inr e ↦ (0, omega arith, λ i. (sym e i, sym d.1 i))
    ],
  );
}
  where
    one_apart : ¬ (theta2 2 ≡ leaf (var 2))
    one_apart e = omega (arith, same_number 1 2 e)

equal_found : Finds two_variables are_equal s2 0
equal_found = starts variables refl newly_two refl (gives refl (respects_all (leaf (var 1) ∷ leaf (var 2) ∷ []) both 0 _) refl refl)

pub greater_is_bound : GreaterIsBound
greater_is_bound = record {
  solution = solution_of two_variables are_equal v0;
  finds = equal_found;
  binds = refl;
  only = λ list n h. finds_once two_variables are_equal h equal_found;
}
