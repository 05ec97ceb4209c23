-- The search lists one list, with one number of moves.
use Rattle.std.proofs.Common.{◌≡◌, ℕ, zero, suc, ◌+◌, ◌<◌, List, [], ◌∷◌, ◌++◌, ◌⊎◌, inl, inr, refl, sym, ◌∙◌, ap, arith, subst, subst₂, Contains, AllPairs}
use Rattle.dps_terms.specs.Tree.{var, entry, Tree, leaf}
use Rattle.dps_terms.specs.Replace.{substitute}
use Rattle.dps_terms.specs.Bindings.{image}
use Rattle.dps_unify.specs.Unifier.{IsMgu, IsNotUnifiable}
use Rattle.dps_solver.specs.Levels.{IsVariableUpTo}
use Rattle.dps_solver.specs.Scene.{Scene, Ask}
use Rattle.dps_solver.specs.declared.scene.Target.{Target}
use Rattle.dps_solver.specs.Search.{
  GeneralSolution,
  Branch,
  Way,
  use_entry,
  with_tree,
  lowered,
  with_bound,
  AreNewlyBound,
  entry_equation,
  ways,
  Leads,
  follows,
  lowers,
  uses,
  composes,
  Lists,
  gives,
  drops,
  goes_on,
  ListsBy,
  no_way,
  leads,
  ends,
  unbound,
  Finds,
  unsolvable,
  starts,
}
use Rattle.dps_solver.specs.Solutions.{identity}
use Rattle.dps_unify.proofs.Unique.{mgu_is_one}

-- elements of a list with a head
in_cons : {X : Type 0} (x y : X) (ys : List X) → Contains (y ∷ ys) x → (x ≡ y) ⊎ Contains ys x
in_cons x y ys (zero, l, e) = inl (sym e)
in_cons x y ys (suc k, l, e) = inr (k, omega (arith, l), e)

in_head : {X : Type 0} (y : X) (ys : List X) → Contains (y ∷ ys) y
in_head y ys = (0, omega arith, refl)

in_tail : {X : Type 0} (x y : X) (ys : List X) → Contains ys x → Contains (y ∷ ys) x
in_tail x y ys h = (suc h.0, omega (arith, h.1), h.2)

in_none : {X : Type 0} (x : X) → Contains [] x → ⊥
in_none x h = omega (arith, h.1)

pub pairs_head : (x y : ℕ × ℕ) (ys : List (ℕ × ℕ)) → AllPairs (λ p q. p.0 < q.0) (x ∷ ys) → Contains ys y → x.0 < y.0
pairs_head x y ys h c = subst (λ q. x.0 < q.0) c.2 (h 0 (suc c.0) y (omega arith) (omega (arith, c.1)))

pub pairs_tail : (x : ℕ × ℕ) (ys : List (ℕ × ℕ)) → AllPairs (λ p q. p.0 < q.0) (x ∷ ys) → AllPairs (λ p q. p.0 < q.0) ys
pairs_tail x ys h = λ i j d l m. h (suc i) (suc j) d (omega (arith, l)) (omega (arith, m))

-- an ascending list is told by its elements
heads : (x y : ℕ × ℕ) (xs ys : List (ℕ × ℕ)) → AllPairs (λ p q. p.0 < q.0) (x ∷ xs) → AllPairs (λ p q. p.0 < q.0) (y ∷ ys) → Contains (y ∷ ys) x → Contains (x ∷ xs) y → x ≡ y
heads x y xs ys a b f g =
    elim (in_cons x y ys f) [
      | inl e ↦ e
      | inr c ↦ elim (in_cons y x xs g) [
        | inl e ↦ sym e
        | inr d ↦ absurd (omega (arith, pairs_head y x ys b c, pairs_head x y xs a d))
      ]
    ]

tails : (x y : ℕ × ℕ) (xs ys : List (ℕ × ℕ)) → AllPairs (λ p q. p.0 < q.0) (x ∷ xs) → x ≡ y
    → ((p : ℕ × ℕ) → Contains (x ∷ xs) p → Contains (y ∷ ys) p) → (p : ℕ × ℕ) → Contains xs p → Contains ys p
tails x y xs ys a same f p c =
    elim (in_cons p y ys (f p (in_tail p x xs c))) [
      | inl e ↦ absurd (omega (arith, pairs_head x p xs a c, ap (λ (q : ℕ × ℕ). q.0) (e ∙ sym same)))
      | inr d ↦ d
    ]

ascending_once : (xs ys : List (ℕ × ℕ)) → AllPairs (λ p q. p.0 < q.0) xs → AllPairs (λ p q. p.0 < q.0) ys
    → ((p : ℕ × ℕ) → Contains xs p → Contains ys p) → ((p : ℕ × ℕ) → Contains ys p → Contains xs p) → xs ≡ ys
ascending_once [] [] a b f g = refl
ascending_once [] (y ∷ ys) a b f g = absurd (in_none y (g y (in_head y ys)))
ascending_once (x ∷ xs) [] a b f g = absurd (in_none x (f x (in_head x xs)))
ascending_once (x ∷ xs) (y ∷ ys) a b f g =
    let same = heads x y xs ys a b (f x (in_head x xs)) (g y (in_head y ys)) in
    let rest = ascending_once xs ys (pairs_tail x xs a) (pairs_tail y ys b) (tails x y xs ys a same f) (tails y x ys xs b (sym same) g) in
    λ i. same i ∷ rest i

pub newly_once : (levels : List (ℕ × ℕ)) (before after : ℕ → Tree) (xs ys : List (ℕ × ℕ)) → AreNewlyBound levels before after xs → AreNewlyBound levels before after ys → xs ≡ ys
newly_once levels before after xs ys h k =
    ascending_once xs ys h.ascending k.ascending (λ p c. (k.those p).1 ((h.those p).0 c)) (λ p c. (h.those p).1 ((k.those p).0 c))

pub same_variable : (t : Tree) (v w : ℕ) → t ≡ leaf (var v) → t ≡ leaf (var w) → v ≡ w
same_variable t v w e f = let d : leaf (var v) ≡ leaf (var w) = sym e ∙ f in cc

-- a unifier and what comes of it, with what was put before
pub after_unifier : (levels : List (ℕ × ℕ)) (pairs : List (Tree × Tree)) (before : ℕ → Tree) (start : (ℕ → Tree) → Branch) (u v : List (ℕ × Tree)) (one two : ℕ → Tree) (xs ys : List (ℕ × ℕ))
    → IsMgu levels pairs u → IsMgu levels pairs v
    → one ≡ (λ x. substitute (image u) (before x)) → two ≡ (λ x. substitute (image v) (before x))
    → AreNewlyBound levels before one xs → AreNewlyBound levels before two ys
    → with_bound xs (start one) ≡ with_bound ys (start two)
after_unifier levels pairs before start u v one two xs ys h k e f m n =
    let images : image u ≡ image v = λ i x. mgu_is_one levels pairs v u k h x i in
    let same : one ≡ two = e ∙ ap (λ s x. substitute s (before x)) images ∙ sym f in
    let bound : xs ≡ ys = newly_once levels before two xs ys (subst (λ t. AreNewlyBound levels before t xs) same m) n in
    λ i. with_bound (bound i) (start (same i))

pub leads_once : (scene : Scene) (b : Branch) (z : Target) (rest : List Target) {w : Way} {c d : Branch} → Leads scene b z rest w c → Leads scene b z rest w d → c ≡ d
leads_once scene b z rest (follows {w = v} e u q) (follows {w = w} f k r) = q ∙ ap (λ x. with_tree b z rest (leaf (var x))) (same_variable (substitute b.theta z.term) v w e f) ∙ sym r
leads_once scene b z rest (follows {w = v} e u q) (lowers {w = w} f k r) = absurd (k (subst (λ x. IsVariableUpTo b.levels z.level x) (same_variable (substitute b.theta z.term) v w e f) u))
leads_once scene b z rest (lowers {w = v} e u q) (follows {w = w} f k r) = absurd (u (subst (λ x. IsVariableUpTo b.levels z.level x) (same_variable (substitute b.theta z.term) w v f e) k))
leads_once scene b z rest (lowers {w = v} e u q) (lowers {w = w} f k r) = q ∙ ap (λ x. lowered b z rest x) (same_variable (substitute b.theta z.term) v w e f) ∙ sym r
leads_once scene b z rest (uses {i = i} {u = u} {theta = one} {bound = xs} h e m q) (uses {u = v} {theta = two} {bound = ys} k f n r) =
    q ∙ after_unifier b.levels (entry_equation scene b z i) b.theta (λ t. record (with_tree b z rest (leaf (entry i))) { theta = t }) u v one two xs ys h k e f m n ∙ sym r
leads_once scene b z rest (composes q) (composes r) = q ∙ sym r

pub unusable : (scene : Scene) (b : Branch) (z : Target) (rest : List Target) (i : ℕ) (c : Branch) → Leads scene b z rest (use_entry i) c → IsNotUnifiable (entry_equation scene b z i) → ⊥
unusable scene b z rest i c (uses {u = u} h e m q) none = none (image u) h.unifies

pub none_is_some : {ts rest : List Target} {z : Target} → ts ≡ [] → ts ≡ z ∷ rest → ⊥
none_is_some {ts} {rest} {z} e f = let d : [] ≡ z ∷ rest = sym e ∙ f in cc

-- the first target is one
pub at_targets : (scene : Scene) (ask : Ask) (b : Branch) {z y : Target} {rest others : List Target} {k : List GeneralSolution} {m : ℕ}
    → b.targets ≡ z ∷ rest → b.targets ≡ y ∷ others
    → ListsBy scene ask b y others (ways scene.system y.level (substitute b.theta y.term)) k m
    → ListsBy scene ask b z rest (ways scene.system z.level (substitute b.theta z.term)) k m
at_targets scene ask b {z} {y} {rest} {others} {k} {m} e f h =
    let d : y ∷ others ≡ z ∷ rest = sym f ∙ e in
    let first : y ≡ z = cc in
    let after : others ≡ rest = cc in
    subst₂ (λ t ts. ListsBy scene ask b t ts (ways scene.system t.level (substitute b.theta t.term)) k m) first after h

mutual
  pub lists_once : (scene : Scene) (ask : Ask) {b : Branch} {l k : List GeneralSolution} {n m : ℕ} → Lists scene ask b l n → Lists scene ask b k m → (l ≡ k) × (n ≡ m)
  lists_once scene ask (gives e r l n) (gives f s k m) = (l ∙ sym k, n ∙ sym m)
  lists_once scene ask (gives e r l n) (drops f s k m) = absurd (s r)
  lists_once scene ask (gives e r l n) (goes_on f h) = absurd (none_is_some e f)
  lists_once scene ask (drops e r l n) (gives f s k m) = absurd (r s)
  lists_once scene ask (drops e r l n) (drops f s k m) = (l ∙ sym k, n ∙ sym m)
  lists_once scene ask (drops e r l n) (goes_on f h) = absurd (none_is_some e f)
  lists_once scene ask (goes_on e g) (gives f s k m) = absurd (none_is_some f e)
  lists_once scene ask (goes_on e g) (drops f s k m) = absurd (none_is_some f e)
  lists_once scene ask (goes_on {b = b} e g) (goes_on f h) = lists_by_once scene ask g (at_targets scene ask b e f h)

  lists_by_once : (scene : Scene) (ask : Ask) {b : Branch} {z : Target} {rest : List Target} {ws : List Way} {l k : List GeneralSolution} {n m : ℕ}
      → ListsBy scene ask b z rest ws l n → ListsBy scene ask b z rest ws k m → (l ≡ k) × (n ≡ m)
  lists_by_once scene ask no_way no_way = (refl, refl)
  lists_by_once scene ask (leads {b = b} {c = c} {z = z} {rest = rest} g h t l n) (leads {c = d} {here = here} {first = first} g' h' t' l' n') =
      let same : d ≡ c = leads_once scene b z rest g' g in
      let one = lists_once scene ask h (subst (λ x. Lists scene ask x here first) same h') in
      let others = lists_by_once scene ask t t' in
      (l ∙ (λ i. one.0 i ++ others.0 i) ∙ sym l', n ∙ (λ i. 1 + one.1 i + others.1 i) ∙ sym n')
  lists_by_once scene ask (leads {b = b} {c = c} {z = z} {rest = rest} g h t l n) (ends {i = i} u t' n') = absurd (unusable scene b z rest i c g u)
  lists_by_once scene ask (ends {b = b} {z = z} {rest = rest} {i = i} u t n) (leads {c = c} g' h' t' l' n') = absurd (unusable scene b z rest i c g' u)
  lists_by_once scene ask (ends u t n) (ends u' t' n') =
      let others = lists_by_once scene ask t t' in
      (others.0, n ∙ (λ i. 1 + others.1 i) ∙ sym n')

-- the search of an ask
pub finds_once : (scene : Scene) (ask : Ask) {l k : List GeneralSolution} {n m : ℕ} → Finds scene ask l n → Finds scene ask k m → (l ≡ k) × (n ≡ m)
finds_once scene ask (unsolvable u n) (unsolvable v m) = (refl, n ∙ sym m)
finds_once scene ask (unsolvable u n) (starts {u = v} h e f g t) = absurd (u (image v) h.unifies)
finds_once scene ask (starts {u = v} h e f g t) (unsolvable u m) = absurd (u (image v) h.unifies)
finds_once scene ask (starts {u = u} {theta = one} {bound = xs} {b = b} h e m g t) (starts {u = v} {theta = two} {bound = ys} {b = c} {list = k} {moves = j} h' e' m' g' t') =
    let start : c ≡ b =
    g' ∙ after_unifier scene.system.levels ask.equations identity (λ t. record (unbound scene ask) { theta = t }) v u two one ys xs h' h e' e m' m ∙ sym g
    in lists_once scene ask t (subst (λ x. Lists scene ask x k j) start t')
