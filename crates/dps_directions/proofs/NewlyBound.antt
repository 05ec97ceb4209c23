-- Variables that are newly bound: each gets another one's tree, or becomes a target.
use Rattle.std.proofs.Common.{◌≡◌, ℕ, ◌<◌, List, [], ◌∷◌, ◌++◌, ◌⊎◌, inl, inr, refl, sym, ◌∙◌, ap, arith, subst, Contains, AllPairs, append_assoc}
use Rattle.std.specs.Prelude.{◌≢◌}
use Rattle.std.proofs.lemmas.List.Kept.{AllPairs-cons}
use Rattle.dps_terms.specs.Tree.{public, private, var, ax, entry, rigid, Tree, leaf, app}
use Rattle.dps_terms.specs.Replace.{substitute}
use Rattle.dps_terms.specs.Bindings.{image}
use Rattle.dps_unify.proofs.Bound.{single}
use Rattle.dps_unify.proofs.Trees.{substitute_in_turn, substitute_itself}
use Rattle.dps_solver.specs.declared.scene.Target.{Target}
use Rattle.dps_solver.specs.Search.{Branch, with_one_bound, with_bound}
use Rattle.dps_solver.proofs.Bindings.{here, elsewhere}
use Rattle.dps_know.proofs.Listing.{in_cons, in_head, in_tail, in_none, in_left, in_right, in_append}
use Rattle.dps_solver.proofs.Once.{pairs_head, pairs_tail}
use Rattle.dps_directions.proofs.Following.{distinct_tail, distinct_head}
use Rattle.dps_directions.proofs.Composing.{all_of}

-- what becomes of the newly bound ones: targets and trees
abbrev pub new_target : Tree → ℕ × ℕ → List Target
new_target (leaf (var y)) p = []
new_target t p = record { name = p.0; level = p.1; term = t } ∷ []

abbrev pub new_targets : (ℕ → Tree) → List (ℕ × ℕ) → List Target
new_targets th [] = []
new_targets th (p ∷ ps) = new_target (th p.0) p ++ new_targets th ps

abbrev pub move : Tree → ℕ → ℕ → Tree
move (leaf (var y)) x = image (single x (leaf (var y)))
move t x = λ n. leaf (var n)

abbrev pub moves : (ℕ → Tree) → List (ℕ × ℕ) → ℕ → Tree
moves th [] y = leaf (var y)
moves th (p ∷ ps) y = substitute (moves th ps) (move (th p.0) p.0 y)

abbrev pub after_all : (ℕ → Tree) → List (ℕ × ℕ) → Branch → Branch
after_all th ps b = record b { trees = (λ x. substitute (moves th ps) (b.trees x)); targets = b.targets ++ new_targets th ps }

abbrev pub after_one : Tree → ℕ × ℕ → Branch → Branch
after_one t p b = record b { trees = (λ x. substitute (move t p.0) (b.trees x)); targets = b.targets ++ new_target t p }

pub append_none : {X : Type 0} (xs : List X) → xs ++ [] ≡ xs
append_none [] = refl
append_none (x ∷ xs) = ap (λ ys. x ∷ ys) (append_none xs)

pub one_is : (t : Tree) (p : ℕ × ℕ) (b : Branch) → with_one_bound t p b ≡ after_one t p b
one_is (leaf (var y)) p b = λ i. record b { targets = sym (append_none b.targets) i; trees = (λ x. substitute (image (single p.0 (leaf (var y)))) (b.trees x)) }
one_is (leaf (public n)) p b = λ i. record b { trees = (λ x. sym (substitute_itself (b.trees x)) i); targets = b.targets ++ new_target (leaf (public n)) p }
one_is (leaf (private n)) p b = λ i. record b { trees = (λ x. sym (substitute_itself (b.trees x)) i); targets = b.targets ++ new_target (leaf (private n)) p }
one_is (leaf (ax n)) p b = λ i. record b { trees = (λ x. sym (substitute_itself (b.trees x)) i); targets = b.targets ++ new_target (leaf (ax n)) p }
one_is (leaf (entry n)) p b = λ i. record b { trees = (λ x. sym (substitute_itself (b.trees x)) i); targets = b.targets ++ new_target (leaf (entry n)) p }
one_is (leaf (rigid n)) p b = λ i. record b { trees = (λ x. sym (substitute_itself (b.trees x)) i); targets = b.targets ++ new_target (leaf (rigid n)) p }
one_is (app f ts) p b = λ i. record b { trees = (λ x. sym (substitute_itself (b.trees x)) i); targets = b.targets ++ new_target (app f ts) p }

pub bound_is : (ps : List (ℕ × ℕ)) (b : Branch) → with_bound ps b ≡ after_all b.theta ps b
bound_is [] b = λ i. record b { trees = (λ x. sym (substitute_itself (b.trees x)) i); targets = sym (append_none b.targets) i }
bound_is (p ∷ ps) b =
    ap (with_bound ps) (one_is (b.theta p.0) p b)
    ∙ bound_is ps (after_one (b.theta p.0) p b)
    ∙ (λ i. record b {
      trees = (λ x. substitute_in_turn (moves b.theta ps) (move (b.theta p.0) p.0) (b.trees x) i);
      targets = append_assoc b.targets (new_target (b.theta p.0) p) (new_targets b.theta ps) i;
    })

-- a newly bound variable's tree becomes another variable, where it is bound to one
abbrev pub renamed : Tree → ℕ → Tree
renamed (leaf (var v)) y = leaf (var v)
renamed t y = leaf (var y)

-- what the variables become that are not among the pairs, and those that are
abbrev pub AreNames : (ℕ → Tree) → List (ℕ × ℕ) → Type 0
AreNames th ps = (p q : ℕ × ℕ) (v : ℕ) → Contains ps p → Contains ps q → th p.0 ≡ leaf (var v) → q.0 ≢ v

pub move_else : (t : Tree) (x y : ℕ) → y ≢ x → move t x y ≡ leaf (var y)
move_else (leaf (var v)) x y d = elsewhere x (leaf (var v)) y d
move_else (leaf (public n)) x y d = refl
move_else (leaf (private n)) x y d = refl
move_else (leaf (ax n)) x y d = refl
move_else (leaf (entry n)) x y d = refl
move_else (leaf (rigid n)) x y d = refl
move_else (app f ts) x y d = refl

pub move_here : (t : Tree) (x : ℕ) → move t x x ≡ renamed t x
move_here (leaf (var v)) x = here x (leaf (var v))
move_here (leaf (public n)) x = refl
move_here (leaf (private n)) x = refl
move_here (leaf (ax n)) x = refl
move_here (leaf (entry n)) x = refl
move_here (leaf (rigid n)) x = refl
move_here (app f ts) x = refl

pub moves_else : (th : ℕ → Tree) (ps : List (ℕ × ℕ)) (y : ℕ) → ((p : ℕ × ℕ) → Contains ps p → p.0 ≢ y) → moves th ps y ≡ leaf (var y)
moves_else th [] y h = refl
moves_else th (p ∷ ps) y h =
    ap (substitute (moves th ps)) (move_else (th p.0) p.0 y (λ e. h p (in_head p ps) (sym e))) ∙ moves_else th ps y (λ q c. h q (in_tail q p ps c))

-- the tree that x becomes by itself stays
pub renamed_stays : (th : ℕ → Tree) (ps : List (ℕ × ℕ)) (t : Tree) (x : ℕ) → ((v : ℕ) → t ≡ leaf (var v) → (q : ℕ × ℕ) → Contains ps q → q.0 ≢ v)
    → ((q : ℕ × ℕ) → Contains ps q → q.0 ≢ x) → substitute (moves th ps) (renamed t x) ≡ renamed t x
renamed_stays th ps (leaf (var v)) x h k = moves_else th ps v (h v refl)
renamed_stays th ps (leaf (public n)) x h k = moves_else th ps x k
renamed_stays th ps (leaf (private n)) x h k = moves_else th ps x k
renamed_stays th ps (leaf (ax n)) x h k = moves_else th ps x k
renamed_stays th ps (leaf (entry n)) x h k = moves_else th ps x k
renamed_stays th ps (leaf (rigid n)) x h k = moves_else th ps x k
renamed_stays th ps (app f ts) x h k = moves_else th ps x k

pub moves_at : (th : ℕ → Tree) (ps : List (ℕ × ℕ)) (p : ℕ × ℕ) → AllPairs (λ x y. x.0 < y.0) ps → AreNames th ps → Contains ps p → moves th ps p.0 ≡ renamed (th p.0) p.0
moves_at th [] p a h c = absurd (in_none p c)
moves_at th (q ∷ ps) p a h c = elim (in_cons p q ps c) [
  | inl e ↦ subst (λ (r : ℕ × ℕ). moves th (q ∷ ps) r.0 ≡ renamed (th r.0) r.0) (sym e) at_head
  | inr k ↦
      ap (substitute (moves th ps)) (move_else (th q.0) q.0 p.0 (λ e. omega (arith, e, pairs_head q p ps a k)))
      ∙ moves_at th ps p (pairs_tail q ps a) (λ x y v i j. h x y v (in_tail x q ps i) (in_tail y q ps j)) k
]
  where
    at_head : moves th (q ∷ ps) q.0 ≡ renamed (th q.0) q.0
    at_head =
        ap (substitute (moves th ps)) (move_here (th q.0) q.0)
        ∙ renamed_stays th ps (th q.0) q.0 (λ v e r i. h q r v (in_head q ps) (in_tail r q ps i) e) (λ r i e. omega (arith, e, pairs_head q r ps a i))

-- a new target is a newly bound variable
pub record IsNewTarget (th : ℕ → Tree) (ps : List (ℕ × ℕ)) (y : Target) : Type 0 where
  pub among : Contains ps (y.name, y.level)
  pub term : y.term ≡ th y.name
  pub composed : (v : ℕ) → y.term ≢ leaf (var v)

pub variable_or_not : (t : Tree) → ((v : ℕ) × (t ≡ leaf (var v))) ⊎ ((v : ℕ) → t ≢ leaf (var v))
variable_or_not (leaf (var v)) = inl (v, refl)
variable_or_not (leaf (public n)) = inr (λ v e. cc)
variable_or_not (leaf (private n)) = inr (λ v e. cc)
variable_or_not (leaf (ax n)) = inr (λ v e. cc)
variable_or_not (leaf (entry n)) = inr (λ v e. cc)
variable_or_not (leaf (rigid n)) = inr (λ v e. cc)
variable_or_not (app f ts) = inr (λ v e. cc)

pub new_is : (t : Tree) (p : ℕ × ℕ) → ((v : ℕ) → t ≢ leaf (var v)) → new_target t p ≡ record { name = p.0; level = p.1; term = t } ∷ []
new_is (leaf (var v)) p d = absurd (d v refl)
new_is (leaf (public n)) p d = refl
new_is (leaf (private n)) p d = refl
new_is (leaf (ax n)) p d = refl
new_is (leaf (entry n)) p d = refl
new_is (leaf (rigid n)) p d = refl
new_is (app f ts) p d = refl

pub renamed_is : (t : Tree) (x : ℕ) → ((v : ℕ) → t ≢ leaf (var v)) → renamed t x ≡ leaf (var x)
renamed_is (leaf (var v)) x d = absurd (d v refl)
renamed_is (leaf (public n)) x d = refl
renamed_is (leaf (private n)) x d = refl
renamed_is (leaf (ax n)) x d = refl
renamed_is (leaf (entry n)) x d = refl
renamed_is (leaf (rigid n)) x d = refl
renamed_is (app f ts) x d = refl

pub no_target : (v : ℕ) (p : ℕ × ℕ) (t : Tree) (y : Target) → t ≡ leaf (var v) → ¬ Contains (new_target t p) y
no_target v p t y e c = in_none y (subst (λ u. Contains (new_target u p) y) e c)

pub made : (th : ℕ → Tree) (p : ℕ × ℕ) (ps : List (ℕ × ℕ)) (y : Target) → ((v : ℕ) → th p.0 ≢ leaf (var v)) → y ≡ record { name = p.0; level = p.1; term = th p.0 } → IsNewTarget th (p ∷ ps) y
made th p ps y d e = subst (IsNewTarget th (p ∷ ps)) (sym e) (record { among = in_head p ps; term = refl; composed = d })

pub later_new : (th : ℕ → Tree) (p : ℕ × ℕ) (ps : List (ℕ × ℕ)) (y : Target) → IsNewTarget th ps y → IsNewTarget th (p ∷ ps) y
later_new th p ps y h = record { among = in_tail (y.name, y.level) p ps h.among; term = h.term; composed = h.composed }

pub one_new : (th : ℕ → Tree) (p : ℕ × ℕ) (ps : List (ℕ × ℕ)) (y : Target) → Contains (new_target (th p.0) p) y → IsNewTarget th (p ∷ ps) y
one_new th p ps y c = elim (variable_or_not (th p.0)) [
  | inl e ↦ absurd (no_target e.0 p (th p.0) y e.1 c)
  | inr d ↦ elim (in_cons y (record { name = p.0; level = p.1; term = th p.0 }) [] (subst (λ ts. Contains ts y) (new_is (th p.0) p d) c)) [
    | inl e ↦ made th p ps y d e
    | inr k ↦ absurd (in_none y k)
  ]
]

pub is_new : (th : ℕ → Tree) (ps : List (ℕ × ℕ)) (y : Target) → Contains (new_targets th ps) y → IsNewTarget th ps y
is_new th [] y c = absurd (in_none y c)
is_new th (p ∷ ps) y c = elim (in_append y (new_target (th p.0) p) (new_targets th ps) c) [
  | inl k ↦ one_new th p ps y k
  | inr k ↦ later_new th p ps y (is_new th ps y k)
]

pub has_target : (th : ℕ → Tree) (ps : List (ℕ × ℕ)) (p : ℕ × ℕ) → Contains ps p → ((v : ℕ) → th p.0 ≢ leaf (var v)) → Contains (new_targets th ps) (record { name = p.0; level = p.1; term = th p.0 })
has_target th [] p c d = absurd (in_none p c)
has_target th (q ∷ ps) p c d = elim (in_cons p q ps c) [
  | inl e ↦
      let n = new_is (th p.0) p d in
      let one : Contains (new_target (th p.0) p) (record { name = p.0; level = p.1; term = th p.0 }) =
      subst (λ ts. Contains ts (record { name = p.0; level = p.1; term = th p.0 })) (sym n) (in_head (record { name = p.0; level = p.1; term = th p.0 }) []) in
      in_left (record { name = p.0; level = p.1; term = th p.0 }) (new_target (th q.0) q) (new_targets th ps)
      (subst (λ (r : ℕ × ℕ). Contains (new_target (th r.0) r) (record { name = p.0; level = p.1; term = th p.0 })) e one)
  | inr k ↦ in_right (record { name = p.0; level = p.1; term = th p.0 }) (new_target (th q.0) q) (new_targets th ps) (has_target th ps p k d)
]

abbrev pub Distinct : List Target → Type 0
Distinct ts = AllPairs (λ (x y : Target). x.name ≢ y.name) ts

pub distinct_append : (xs ys : List Target) → Distinct xs → Distinct ys → ((x y : Target) → Contains xs x → Contains ys y → x.name ≢ y.name) → Distinct (xs ++ ys)
distinct_append [] ys a c f = c
distinct_append (x ∷ xs) ys a c f =
    AllPairs-cons (λ (t u : Target). t.name ≢ u.name) x (xs ++ ys)
    (all_of (λ (u : Target). x.name ≢ u.name) (xs ++ ys) (λ u k. elim (in_append u xs ys k) [ inl l ↦ distinct_head x u xs a l | inr l ↦ f x u (in_head x xs) l ]))
    (distinct_append xs ys (distinct_tail x xs a) c (λ t u k l. f t u (in_tail t x xs k) l))

pub one_distinct : (t : Tree) (p : ℕ × ℕ) → Distinct (new_target t p)
one_distinct t p = elim (variable_or_not t) [
  | inl e ↦ subst (λ u. Distinct (new_target u p)) (sym e.1) (λ i j d l m. absurd (omega (arith, m)))
  | inr d ↦ subst Distinct (sym (new_is t p d)) (λ i j d l m. absurd (omega (arith, l, m)))
]

pub new_distinct : (th : ℕ → Tree) (ps : List (ℕ × ℕ)) → AllPairs (λ x y. x.0 < y.0) ps → Distinct (new_targets th ps)
new_distinct th [] a = λ i j d l m. absurd (omega (arith, m))
new_distinct th (p ∷ ps) a =
    distinct_append (new_target (th p.0) p) (new_targets th ps) (one_distinct (th p.0) p) (new_distinct th ps (pairs_tail p ps a))
    (λ x y k l e. let h = one_new th p [] x k in let j = is_new th ps y l in
    elim (in_cons (x.name, x.level) p [] h.among) [
      | inl d ↦ omega (arith, e, ap (λ (r : ℕ × ℕ). r.0) d, pairs_head p (y.name, y.level) ps a j.among)
      | inr d ↦ in_none (x.name, x.level) d
    ])
