-- One destructor: what reduces over ways to build from the kept trees reduces over the same ways from the counterparts.
use Rattle.std.proofs.Common.{◌≡◌, ℕ, zero, suc, List, [], ◌∷◌, length, slice_get, unwrap_or, nat_eq, if◌then◌else◌, true, false, Some, None, refl, sym, ◌∙◌, ap, arith, inl, inr}
use Rattle.std.specs.Prelude.{◌⊎◌, Option, Contains}
use Rattle.std.proofs.lemmas.Bool.{cases_Bool, eqb-true, eq-eqb}
use Rattle.dps_terms.specs.declared.PublicName.TheVariants.{At}
use Rattle.dps_terms.specs.Tree.{Leaf, public, private, var, ax, entry, rigid, Tree, Trees, leaf, app, none, more}
use Rattle.dps_terms.specs.Replace.{replace_all, rigid_names_to, numbered, entries_to, put_entries}
use Rattle.dps_terms.specs.Bindings.{bound}
use Rattle.dps_terms.specs.Kinds.{AreBuiltOf, AnySymbol, IsNoVariable, IsKnowledgeLeaf}
use Rattle.dps_terms.proofs.Replacing.{replace_in_turn, replace_all_in_turn, replace_agrees, replace_all_agrees}
use Rattle.dps_static.specs.Ways.{AnyName, AnyRigid, IsOpenWay}
use Rattle.dps_static.specs.Generic.{IsBuilt, IsBoundBy, HaveNoRigidName, filled, all_filled}
use Rattle.dps_static.proofs.Covering.{filled_stays}

-- filling goes through the kept trees
module _ (kept : List Tree) (low : HaveNoRigidName kept) (r : ℕ → Tree) where
  abbrev put_filling : ℕ → Tree
  put_filling k = put_entries kept (r k)

  at_entry : (i : ℕ) → numbered kept i (leaf (entry i)) ≡ filled put_filling (numbered kept i (leaf (entry i)))
  at_entry zero = refl
  at_entry (suc k) = go (slice_get kept k) refl
    where
      go : (o : Option Tree) → slice_get kept k ≡ o → unwrap_or o (leaf (entry (suc k))) ≡ filled put_filling (unwrap_or o (leaf (entry (suc k))))
      go (Some t) e = sym (filled_stays put_filling t (low k t e))
      go None e = refl

  at_leaf : (x : Leaf) → put_entries kept (rigid_names_to r x) ≡ filled put_filling (entries_to kept x)
  at_leaf (public a) = refl
  at_leaf (private n) = refl
  at_leaf (var n) = refl
  at_leaf (ax j) = refl
  at_leaf (rigid n) = refl
  at_leaf (entry i) = at_entry i

  pub put_filled : (w : Tree) → put_entries kept (filled r w) ≡ filled put_filling (put_entries kept w)
  put_filled w =
      replace_in_turn (rigid_names_to r) (entries_to kept) w
      ∙ (replace_agrees (λ x. put_entries kept (rigid_names_to r x)) (λ x. filled put_filling (entries_to kept x)) w (λ x _. at_leaf x)
      ∙ sym (replace_in_turn (entries_to kept) (rigid_names_to put_filling) w))

  pub put_all_filled : (ws : Trees) → replace_all (entries_to kept) (all_filled r ws) ≡ all_filled put_filling (replace_all (entries_to kept) ws)
  put_all_filled ws =
      replace_all_in_turn (rigid_names_to r) (entries_to kept) ws
      ∙ (replace_all_agrees (λ x. put_entries kept (rigid_names_to r x)) (λ x. filled put_filling (entries_to kept x)) ws (λ x _. at_leaf x)
      ∙ sym (replace_all_in_turn (entries_to kept) (rigid_names_to put_filling) ws))

-- open ways in the place of rigid names give open ways
module _ (n : ℕ) (r : ℕ → Tree) (good : (k : ℕ) → IsOpenWay n (r k)) where
  filled_leaf : (x : Leaf) → IsOpenWay n (leaf x) → IsOpenWay n (rigid_names_to r x)
  filled_leaf (rigid k) h = good k
  filled_leaf (public a) h = h
  filled_leaf (private k) h = h
  filled_leaf (var k) h = h
  filled_leaf (ax k) h = h
  filled_leaf (entry k) h = h

  mutual
    pub filled_way : (w : Tree) → IsOpenWay n w → IsOpenWay n (filled r w)
    filled_way (leaf x) h = filled_leaf x h
    filled_way (app f ws) h = let k = filled_ways ws h.0.1 h.1.1 in ((tt, k.0), (tt, k.1))

    pub filled_ways :
        (ws : Trees) → AreBuiltOf (IsKnowledgeLeaf AnyName AnyRigid n) AnySymbol ws → AreBuiltOf IsNoVariable AnySymbol ws
        → AreBuiltOf (IsKnowledgeLeaf AnyName AnyRigid n) AnySymbol (all_filled r ws) × AreBuiltOf IsNoVariable AnySymbol (all_filled r ws)
    filled_ways none h k = (tt, tt)
    filled_ways (more w ws) h k =
        let a = filled_way w (h.0, k.0) in
        let b = filled_ways ws h.1 k.1 in ((a.0, b.0), (a.1, b.1))

-- a way for each variable of a list that is not bound
pub record Fills (kept : List Tree) (z : ℕ → Tree) (s : List (ℕ × Tree)) (ns : List ℕ) : Type 0 where
  pub way : ℕ → Tree
  pub are_ways : (k : ℕ) → IsOpenWay (length kept) (way k)
  pub give : (n : ℕ) → Contains ns n → bound s n ≡ None → put_entries kept (way n) ≡ z n

module _ (kept : List Tree) (z : ℕ → Tree) (s : List (ℕ × Tree)) where
  no_member : (n : ℕ) → Contains [] n → ⊥
  no_member n c = let l = c.1 in omega (arith, l)

  abbrev chosen : ℕ → Tree → (ℕ → Tree) → ℕ → Tree
  chosen m w r k = if nat_eq m k then w else r k

  chosen_way : (m : ℕ) (w : Tree) (r : ℕ → Tree) → IsOpenWay (length kept) w → ((k : ℕ) → IsOpenWay (length kept) (r k)) → (k : ℕ) → IsOpenWay (length kept) (chosen m w r k)
  chosen_way m w r h g k =
      elim (cases_Bool (nat_eq m k)) [
        | inl b ↦ rw b h
        | inr b ↦ rw b (g k)
      ]

  later : (m n : ℕ) (ms : List ℕ) → nat_eq m n ≡ false → Contains (m ∷ ms) n → Contains ms n
  later m n ms b (zero, l, e) = let t : true ≡ false = sym (eq-eqb m n e) ∙ b in cc
  later m n ms b (suc k, l, e) = (k, omega arith, e)

  chosen_gives :
      (m : ℕ) (ms : List ℕ) (w : Tree) (r : ℕ → Tree) → put_entries kept w ≡ z m → ((n : ℕ) → Contains ms n → bound s n ≡ None → put_entries kept (r n) ≡ z n)
      → (n : ℕ) → Contains (m ∷ ms) n → bound s n ≡ None → put_entries kept (chosen m w r n) ≡ z n
  chosen_gives m ms w r e g n c o =
      elim (cases_Bool (nat_eq m n)) [
        | inl b ↦ rw b (e ∙ ap z (eqb-true m n b))
        | inr b ↦ rw b (g n (later m n ms b c) o)
      ]

  skipped_gives :
      (m : ℕ) (ms : List ℕ) (t : Tree) (r : ℕ → Tree) → bound s m ≡ Some t → ((n : ℕ) → Contains ms n → bound s n ≡ None → put_entries kept (r n) ≡ z n)
      → (n : ℕ) → Contains (m ∷ ms) n → bound s n ≡ None → put_entries kept (r n) ≡ z n
  skipped_gives m ms t r e g n c o =
      elim (cases_Bool (nat_eq m n)) [
        | inl b ↦ let d : Some t ≡ None = sym e ∙ (ap (bound s) (eqb-true m n b) ∙ o) in cc
        | inr b ↦ g n (later m n ms b c) o
      ]

  pub fills : (ns : List ℕ) → ((n : ℕ) → Contains ns n → IsBoundBy s n ⊎ IsBuilt kept (z n)) → Fills kept z s ns
  fills [] h = record { way = λ k. leaf (public (At 0)); are_ways = λ k. (tt, tt); give = λ n c o. absurd (no_member n c) }
  fills (m ∷ ms) h = one (h m (0, omega arith, refl)) (fills ms (λ n c. h n (suc c.0, (let l = c.1 in omega arith), c.2)))
    where
      one : IsBoundBy s m ⊎ IsBuilt kept (z m) → Fills kept z s ms → Fills kept z s (m ∷ ms)
      one (inl b) f = record { way = f.way; are_ways = f.are_ways; give = skipped_gives m ms b.0 f.way b.1 f.give }
      one (inr b) f = record { way = chosen m b.way f.way; are_ways = chosen_way m b.way f.way b.is_way f.are_ways; give = chosen_gives m ms b.way f.way b.gives f.give }
