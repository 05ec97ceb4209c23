-- What is built from kept trees, and which substitutions settle a pattern.
use Rattle.std.proofs.Common.{◌≡◌, ℕ, zero, suc, ◌+◌, List, length, slice_get, unwrap_or, Some, None, refl, sym, ◌∙◌, ap, subst, arith, inl, inr}
use Rattle.std.specs.Prelude.{◌⊎◌, Option, Contains}
use Rattle.std.proofs.lemmas.Option.{slice_get_within}
use Rattle.dps_terms.specs.declared.Sym.{Sym}
use Rattle.dps_terms.specs.declared.PublicName.{PublicName}
use Rattle.dps_terms.specs.Tree.{Leaf, public, private, var, ax, entry, rigid, Tree, Trees, leaf, app, none, more, StandsIn, IsAmong, below, in_first, in_rest}
use Rattle.dps_terms.specs.Replace.{replace_all, substitute, substitute_all, variables_to, rigid_names_to, entries_to, put_entries}
use Rattle.dps_terms.specs.Bindings.{bound}
use Rattle.dps_terms.specs.Kinds.{AnySymbol}
use Rattle.dps_terms.proofs.Replacing.{replace_stays, replace_agrees}
use Rattle.dps_terms.proofs.Building.{leaf_meets}
use Rattle.dps_unify.specs.Matching.{Agrees}
use Rattle.dps_unify.proofs.Trees.{in_leaf}
use Rattle.dps_static.specs.Ways.{IsOpenWay}
use Rattle.dps_static.specs.Generic.{IsBuilt, AreBuilt, IsNoRigidLeaf, HasNoRigidName, generic, filled, Extends, IsBoundBy, IsSettled, AreSettled, IsFound}
use Rattle.dps_static.proofs.Ways.{AreOpenWays, numbered-there, there-numbered}

-- a tree without rigid names is left by filling
pub filled_stays : (z : ℕ → Tree) (t : Tree) → HasNoRigidName t → filled z t ≡ t
filled_stays z t h = replace_stays (rigid_names_to z) t (λ x k. stays x (leaf_meets IsNoRigidLeaf AnySymbol h k))
  where
    stays : (x : Leaf) → IsNoRigidLeaf x → rigid_names_to z x ≡ leaf x
    stays (rigid n) l = absurd l
    stays (public n) l = refl
    stays (private n) l = refl
    stays (var n) l = refl
    stays (ax n) l = refl
    stays (entry n) l = refl

pub record HasOpenWays (kept : List Tree) (ts : Trees) : Type 0 where
  pub ways : Trees
  pub are_ways : AreOpenWays (length kept) ways
  pub give : replace_all (entries_to kept) ways ≡ ts

module _ (kept : List Tree) where
  pub built_public : (a : PublicName) → IsBuilt kept (leaf (public a))
  built_public a = record { way = leaf (public a); is_way = (tt, tt); gives = refl }

  pub built_rigid : (n : ℕ) → IsBuilt kept (leaf (rigid n))
  built_rigid n = record { way = leaf (rigid n); is_way = (tt, tt); gives = refl }

  pub built_ways : (ts : Trees) → AreBuilt kept ts → HasOpenWays kept ts
  built_ways none h = record { ways = none; are_ways = record { known = tt; closed = tt }; give = refl }
  built_ways (more t ts) h =
      let k = built_ways ts h.1 in
      record {
        ways = more h.0.way k.ways;
        are_ways = record { known = (h.0.is_way.0, k.are_ways.known); closed = (h.0.is_way.1, k.are_ways.closed) };
        give = λ i. more (h.0.gives i) (k.give i);
      }

  pub built_root : (f : Sym) (ts : Trees) → AreBuilt kept ts → IsBuilt kept (app f ts)
  built_root f ts h =
      let k = built_ways ts h in
      record { way = app f k.ways; is_way = ((tt, k.are_ways.known), (tt, k.are_ways.closed)); gives = ap (app f) k.give }

  pub ways_built : (ways ts : Trees) → AreOpenWays (length kept) ways → replace_all (entries_to kept) ways ≡ ts → AreBuilt kept ts
  ways_built none none h e = tt
  ways_built none (more t ts) h e = cc
  ways_built (more w ws) none h e = cc
  ways_built (more w ws) (more t ts) h e =
      let one : put_entries kept w ≡ t = cc in
      let rest : replace_all (entries_to kept) ws ≡ ts = cc in
      (record { way = w; is_way = (h.known.0, h.closed.0); gives = one }, ways_built ws ts (record { known = h.known.1; closed = h.closed.1 }) rest)

  -- a symbol over terms is kept, or built from its arguments
  leaf_is_kept : (f : Sym) (ts : Trees) (x : Leaf) → IsOpenWay (length kept) (leaf x) → put_entries kept (leaf x) ≡ app f ts → (k : ℕ) × (slice_get kept k ≡ Some (app f ts))
  leaf_is_kept f ts (public a) h e = cc
  leaf_is_kept f ts (private n) h e = absurd h.0
  leaf_is_kept f ts (var n) h e = absurd h.1
  leaf_is_kept f ts (ax j) h e = absurd h.0
  leaf_is_kept f ts (rigid n) h e = cc
  leaf_is_kept f ts (entry zero) h e = absurd (let l = h.0.0 in omega (arith, l))
  leaf_is_kept f ts (entry (suc k)) h e = let l = h.0.1 in (k, there-numbered kept k (app f ts) (leaf (entry (suc k))) (omega (arith, l)) e)

  way_root : (f : Sym) (ts : Trees) (w : Tree) → IsOpenWay (length kept) w → put_entries kept w ≡ app f ts → ((k : ℕ) × (slice_get kept k ≡ Some (app f ts))) ⊎ AreBuilt kept ts
  way_root f ts (leaf x) h e = inl (leaf_is_kept f ts x h e)
  way_root f ts (app g ws) h e =
      let rest : replace_all (entries_to kept) ws ≡ ts = cc in
      inr (ways_built ws ts (record { known = h.0.1; closed = h.1.1 }) rest)

  pub kept_or_built : (f : Sym) (ts : Trees) → IsBuilt kept (app f ts) → ((k : ℕ) × (slice_get kept k ≡ Some (app f ts))) ⊎ AreBuilt kept ts
  kept_or_built f ts b = way_root f ts b.way b.is_way b.gives

pub kept_built : (kept : List Tree) (k : ℕ) (t : Tree) → slice_get kept k ≡ Some t → IsBuilt kept t
kept_built kept k t e =
    let l = slice_get_within kept k t e in
    record { way = leaf (entry (k + 1)); is_way = ((omega arith, omega (arith, l)), tt); gives = entry_is (k + 1) (omega arith) }
  where
    entry_is : (i : ℕ) → i ≡ k + 1 → put_entries kept (leaf (entry i)) ≡ t
    entry_is i m = subst (λ j. put_entries kept (leaf (entry j)) ≡ t) (let n : suc k ≡ i = omega (arith, m) in n) (numbered-there kept k t (leaf (entry (suc k))) e)

-- leaves below a root
in_variable : (n m : ℕ) → StandsIn (var m) (leaf (var n)) → m ≡ n
in_variable n m k = let e = in_leaf (var n) (leaf (var m)) k in cc

below_app : (f : Sym) (ps : Trees) (n : ℕ) → StandsIn (var n) (app f ps) → IsAmong (leaf (var n)) ps
below_app f ps n (below k) = k

pub extends_in_turn : (s q r : List (ℕ × Tree)) → Extends s q → Extends q r → Extends s r
extends_in_turn s q r a b = record { keeps = λ n t e. b.keeps n t (a.keeps n t e) }

pub generic_agrees : (s : List (ℕ × Tree)) → Agrees (generic s) s
generic_agrees s n t e = ap (λ o. unwrap_or o (leaf (rigid n))) e

-- substitutions that agree on the variables of a pattern
pub same_instances : (y z : ℕ → Tree) (p : Tree) → ((n : ℕ) → StandsIn (var n) p → y n ≡ z n) → substitute y p ≡ substitute z p
same_instances y z p h = replace_agrees (variables_to y) (variables_to z) p same
  where
    same : (x : Leaf) → StandsIn x p → variables_to y x ≡ variables_to z x
    same (var n) k = h n k
    same (public a) k = refl
    same (private n) k = refl
    same (ax n) k = refl
    same (entry n) k = refl
    same (rigid n) k = refl

-- where all variables are bound, the generic instance is what z makes
generic_bound : (z : ℕ → Tree) (q : List (ℕ × Tree)) (p : Tree) → Agrees z q → ((n : ℕ) → StandsIn (var n) p → IsBoundBy q n) → substitute (generic q) p ≡ substitute z p
generic_bound z q p a h = same_instances (generic q) z p (λ n k. let b = h n k in generic_agrees q n b.0 b.1 ∙ sym (a n b.0 b.1))

module _ (kept : List Tree) (z : ℕ → Tree) where
  settled_variable : (s : List (ℕ × Tree)) (n : ℕ) → IsBuilt kept (z n) → IsSettled kept z s (leaf (var n))
  settled_variable s n b = record {
    built = λ q e a. open_built q a (bound q n) refl;
    variables = λ m k. inr (subst (λ i. IsBuilt kept (z i)) (sym (in_variable n m k)) b);
  }
    where
      open_built : (q : List (ℕ × Tree)) → Agrees z q → (o : Option Tree) → bound q n ≡ o → IsBuilt kept (unwrap_or o (leaf (rigid n)))
      open_built q a (Some t) e = subst (IsBuilt kept) (a n t e) b
      open_built q a None e = built_rigid kept n

  -- a leaf that is no variable is itself in every instance
  settled_fixed :
      (s : List (ℕ × Tree)) (x : Leaf) → ((y : ℕ → Tree) → substitute y (leaf x) ≡ leaf x) → ((n : ℕ) → leaf (var n) ≡ leaf x → ⊥)
      → IsBuilt kept (substitute z (leaf x)) → IsSettled kept z s (leaf x)
  settled_fixed s x fixed other b = record {
    built = λ q e g. subst (IsBuilt kept) (fixed z ∙ sym (fixed (generic q))) b;
    variables = λ n k. absurd (other n (in_leaf x (leaf (var n)) k));
  }

  pub settled_leaf : (s : List (ℕ × Tree)) (x : Leaf) → IsBuilt kept (substitute z (leaf x)) → IsSettled kept z s (leaf x)
  settled_leaf s (var n) b = settled_variable s n b
  settled_leaf s (public a) b = settled_fixed s (public a) (λ y. refl) (λ n e. cc) b
  settled_leaf s (private n) b = settled_fixed s (private n) (λ y. refl) (λ m e. cc) b
  settled_leaf s (ax n) b = settled_fixed s (ax n) (λ y. refl) (λ m e. cc) b
  settled_leaf s (entry n) b = settled_fixed s (entry n) (λ y. refl) (λ m e. cc) b
  settled_leaf s (rigid n) b = settled_fixed s (rigid n) (λ y. refl) (λ m e. cc) b

  parts_built : (s q : List (ℕ × Tree)) → Extends s q → Agrees z q → (ps : Trees) → AreSettled kept z s ps → AreBuilt kept (substitute_all (generic q) ps)
  parts_built s q e a none h = tt
  parts_built s q e a (more p ps) h = (h.0.built q e a, parts_built s q e a ps h.1)

  pub parts_variables : (s : List (ℕ × Tree)) (ps : Trees) → AreSettled kept z s ps → (n : ℕ) → IsAmong (leaf (var n)) ps → IsBoundBy s n ⊎ IsBuilt kept (z n)
  parts_variables s none h n k = elim k [ ]
  parts_variables s (more p ps) h n (in_first k) = h.0.variables n k
  parts_variables s (more p ps) h n (in_rest k) = parts_variables s ps h.1 n k

  pub settled_built : (s : List (ℕ × Tree)) → Agrees z s → (ps : Trees) → AreSettled kept z s ps → AreBuilt kept (substitute_all (generic s) ps)
  settled_built s a ps h = parts_built s s (record { keeps = λ n t e. e }) a ps h

  pub settled_root : (s : List (ℕ × Tree)) (f : Sym) (ps : Trees) → AreSettled kept z s ps → IsSettled kept z s (app f ps)
  settled_root s f ps h = record {
    built = λ q e a. built_root kept f (substitute_all (generic q) ps) (parts_built s q e a ps h);
    variables = λ n k. parts_variables s ps h n (below_app f ps n k);
  }

  pub settled_entry : (s : List (ℕ × Tree)) (p : Tree) → IsBuilt kept (substitute z p) → ((n : ℕ) → StandsIn (var n) p → IsBoundBy s n) → IsSettled kept z s p
  settled_entry s p b h = record {
    built = λ q e a. subst (IsBuilt kept) (sym (generic_bound z q p a (λ n k. let c = h n k in (c.0, e.keeps n c.0 c.1)))) b;
    variables = λ n k. inl (h n k);
  }

  pub settled_later : (s q : List (ℕ × Tree)) (p : Tree) → Extends s q → IsSettled kept z s p → IsSettled kept z q p
  settled_later s q p e h = record {
    built = λ r d a. h.built r (extends_in_turn s q r e d) a;
    variables = λ n k. elim (h.variables n k) [ inl c ↦ inl (c.0, e.keeps n c.0 c.1) | inr b ↦ inr b ];
  }

pub found_now : (z : ℕ → Tree) (s : List (ℕ × Tree)) (start : List (List (ℕ × Tree))) (Wanted : List (ℕ × Tree) → Type 0) → Contains start s → Agrees z s → Wanted s → IsFound z s start Wanted
found_now z s start Wanted h a w = record { by = s; listed = h; extends = record { keeps = λ n t e. e }; agrees = a; wanted = w }
