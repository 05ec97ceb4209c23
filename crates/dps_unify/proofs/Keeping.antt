-- What is known of pending pairs while pairs are taken apart.
use Rattle.std.proofs.Common.{◌≡◌, ℕ, suc, ◌<◌, ◌≤◌, List, [], ◌∷◌, ◌++◌, length, drop, refl, sym, ◌∙◌, ap, arith, ◌⊎◌, inl, inr, subst, Bool, true, ◌&&◌, nat_eq}
use Rattle.std.specs.Prelude.{Contains, Option, Some, None}
use Rattle.std.specs.List.{list_any}
use Rattle.std.proofs.lemmas.List.Folds.{Any-from_list_any}
use Rattle.std.proofs.lemmas.Bool.{cases_Bool, cases_lt, and_parts, eqb-true}
use Rattle.indexmap.specs.IndexSet.{insert_key}
use Rattle.std.specs.List.{zip}
use Rattle.std.proofs.lemmas.List.{drop_at, drop-append-le, drop_all}
use Rattle.std.proofs.lemmas.List.Elements.{All-nil, Contains-append_left, Contains-push, Contains-push_cases}
use Rattle.dps_terms.specs.Tree.{var, Tree, leaf}
use Rattle.dps_terms.specs.Replace.{substitute}
use Rattle.dps_terms.specs.Views.{arguments, HaveSameRoot}
use Rattle.dps_unify.specs.Unifier.{Unifies, IsVariableOf}
use Rattle.dps_unify.specs.Chain.{Fulfils, solved, IsChain, Resolves}
use Rattle.dps_unify.specs.Difference.{pairs_of, AreVariables, AreUnified, Remains, IsDifference}
use Rattle.dps_unify.specs.Kept.{trees_of, AreKept, IsKnown, IsKnownWith, AreKnownEqual, AreNotedEqual, IsBegun, IsTakenApart, known, opened, AreApart}
use Rattle.dps_unify.specs.declared.pending.Begun.{Begun}
use Rattle.dps_unify.specs.declared.pending.Pending.{Pending}
use Rattle.dps_unify.proofs.Trees.{unified_arguments}
use Rattle.dps_unify.proofs.Pairs.{unifies-append, unifies_one, any_left, StandsInPair, weight, weight-append, has_nodes, difference_found, remains_more, weight_falls}

-- the pairs are the same, and what was known is known
pub record SettlesFrom (old new : Pending) : Type 0 where
  pub pairs : trees_of new ≡ trees_of old
  pub kept : (b : List (ℕ × Tree)) → IsKnown b old → IsKnown b new

-- the same pairs and notes in another place
pub same_kept : (p q : Pending) (xs ys : List (Tree × Tree)) → ys ≡ xs → q.begun.items ≡ p.begun.items → q.equal.keys ≡ p.equal.keys → (b : List (ℕ × Tree)) → AreKept b xs p → AreKept b ys q
same_kept p q xs ys e d g b h = record {
  begun = λ m c r f k. h.begun m (subst (λ ms. Contains ms m) d c) r f (subst (λ ps. Unifies r (drop m.below ps)) e k);
  equal = λ a c r f. h.equal a (subst (λ ps. Contains ps a) g c) r f;
}

-- one more key in a set
inserted_cases : (E : ℕ × ℕ → ℕ × ℕ → Bool) (ks : List (ℕ × ℕ)) (k a : ℕ × ℕ) → Contains (insert_key E ks k) a → Contains ks a ⊎ (k ≡ a)
inserted_cases E ks k a h =
    elim (cases_Bool (list_any (E k) ks)) [
      | inl e ↦ inl (rw e at h)
      | inr e ↦ Contains-push_cases ks k a (rw e at h)
    ]

-- the same list, with its end
pub with_none : {X : Type 0} (xs : List X) → xs ≡ xs ++ []
with_none [] = refl
with_none (x ∷ xs) = ap (λ ys. x ∷ ys) (with_none xs)

pub nothing_unified : (r : ℕ → Tree) (ps : List (Tree × Tree)) → ps ≡ [] → Unifies r ps
nothing_unified r ps e = subst (Unifies r) (sym e) (All-nil (λ p. substitute r p.0 ≡ substitute r p.1))

-- two variables are noted as equal, as no pair is left above those that stood below theirs
pub settled_more : (E : ℕ × ℕ → ℕ × ℕ → Bool) (old p q : Pending) (m : Begun) → SettlesFrom old p → trees_of q ≡ trees_of p → p.begun.items ≡ q.begun.items ++ m ∷ []
    → length (trees_of p) ≤ m.below → q.equal.keys ≡ insert_key E p.equal.keys (m.left, m.right) → SettlesFrom old q
settled_more E old p q m s e d l g = record { pairs = e ∙ s.pairs; kept = λ b k. more b (s.kept b k) }
  where
    now_equal : (b : List (ℕ × Tree)) → IsKnown b p → (r : ℕ → Tree) → Fulfils r b → r m.left ≡ r m.right
    now_equal b h r f =
        h.begun m (subst (λ ms. Contains ms m) (sym d) (Contains-push q.begun.items m)) r f
        (nothing_unified r (drop m.below (trees_of p)) (drop_all m.below (trees_of p) l))

    more : (b : List (ℕ × Tree)) → IsKnown b p → IsKnown b q
    more b h = record {
      begun = λ n c r f k.
          h.begun n (subst (λ ms. Contains ms n) (sym d) (Contains-append_left q.begun.items (m ∷ []) n c)) r f
          (subst (λ ps. Unifies r (drop n.below ps)) e k);
      equal = λ a c r f.
          elim (inserted_cases E p.equal.keys (m.left, m.right) a (subst (λ ps. Contains ps a) g c)) [
            | inl o ↦ h.equal a o r f
            | inr o ↦ subst (λ (x : ℕ × ℕ). r x.0 ≡ r x.1) o (now_equal b h r f)
          ];
    }

-- of a pair that was taken out: whatever makes it equal and unifies the rest above a height unifies what stood above it
above : (r : ℕ → Tree) (h : ℕ) (now rest after : List (Tree × Tree)) (t u : Tree) (more : List (Tree × Tree)) → now ≡ rest ++ (t, u) ∷ [] → after ≡ rest ++ more
    → (Unifies r more → substitute r t ≡ substitute r u) → Unifies r (drop h after) → Unifies r (drop h now)
above r h now rest after t u more is is_after equal k =
    elim (cases_lt (length rest) h) [
      | inl l ↦ nothing_unified r (drop h now) (drop_all h now (omega (arith, l, ap length is, length-push rest)))
      | inr l ↦
          let split = drop-append-le h rest more l in
          let there = (unifies-append r (drop h rest) more).0 (subst (Unifies r) (ap (drop h) is_after ∙ split) k) in
          subst (Unifies r) (sym (ap (drop h) is ∙ drop-append-le h rest ((t, u) ∷ []) l))
          ((unifies-append r (drop h rest) ((t, u) ∷ [])).1 (there.0, (unifies_one r (t, u)).1 (equal there.1)))
    ]
  where
    length-push : (xs : List (Tree × Tree)) → length (xs ++ (t, u) ∷ []) ≡ suc (length xs)
    length-push [] = refl
    length-push (x ∷ xs) = ap suc (length-push xs)

-- other pairs in the place of one that was taken out
module _ (b : List (ℕ × Tree)) (pending : Pending) (now rest after : List (Tree × Tree)) (t u : Tree) (more : List (Tree × Tree)) (is : now ≡ rest ++ (t, u) ∷ [])
    (is_after : after ≡ rest ++ more) (h : AreKept b now pending) where
  pub kept_after : (q : List (ℕ × Tree)) → ((r : ℕ → Tree) → Fulfils r q → Fulfils r b × (Unifies r more → substitute r t ≡ substitute r u)) → AreKept q after pending
  kept_after q equal = record {
    begun = λ m c r f k. let e = equal r f in h.begun m c r e.0 (above r m.below now rest after t u more is is_after e.1 k);
    equal = λ p c r f. h.equal p c r (equal r f).0;
  }

module _ (b : List (ℕ × Tree)) (pending : Pending) (t u : Tree) (h : IsKnownWith b t u pending) where
  -- the pair is known to be equal
  pub kept_equal : AreKnownEqual pending t u → IsKnown b pending
  kept_equal k =
      kept_after b pending (trees_of pending ++ (t, u) ∷ []) (trees_of pending) (trees_of pending) t u [] refl (with_none (trees_of pending)) h b
      (λ r f. (f, λ _. ap (substitute r) k.left ∙ (h.equal k.pair k.known r f ∙ sym (ap (substitute r) k.right))))

  module _ (a c : Tree) (left : Resolves b t a) (right : Resolves b u c) where
    -- two parts of it are in its place
    pub kept_apart : IsKnownWith b a c pending
    kept_apart =
        kept_after b pending (trees_of pending ++ (t, u) ∷ []) (trees_of pending) (trees_of pending ++ (a, c) ∷ []) t u ((a, c) ∷ []) refl refl h b
        (λ r f. (f, λ k. sym (left.same r f) ∙ ((unifies_one r (a, c)).0 k ∙ right.same r f)))

    -- the pairs of its arguments are in its place
    module _ (alike : HaveSameRoot a c) (variables : Option (ℕ × ℕ)) (are : AreVariables t u variables) (begun new : Pending) (is : IsBegun pending variables begun)
        (same_begun : new.begun.items ≡ begun.begun.items) (same_equal : new.equal.keys ≡ begun.equal.keys) (pairs : trees_of new ≡ trees_of pending ++ zip (arguments a) (arguments c)) where
      made_equal : (r : ℕ → Tree) → Fulfils r b → Unifies r (zip (arguments a) (arguments c)) → substitute r t ≡ substitute r u
      made_equal r f k = sym (left.same r f) ∙ ((unified_arguments r a c alike).1 k ∙ right.same r f)

      before : AreKept b (trees_of new) pending
      before =
          kept_after b pending (trees_of pending ++ (t, u) ∷ []) (trees_of pending) (trees_of new) t u (zip (arguments a) (arguments c)) refl pairs h b
          (λ r f. (f, made_equal r f))

      one_begun : (m : Begun) → m.below ≡ length (trees_of pending) → t ≡ leaf (var m.left) → u ≡ leaf (var m.right) → (r : ℕ → Tree) → Fulfils r b → Unifies r (drop m.below (trees_of new))
          → r m.left ≡ r m.right
      one_begun m e l g r f k =
          let there : drop m.below (trees_of new) ≡ zip (arguments a) (arguments c) =
          ap (drop m.below) pairs ∙ drop_at (trees_of pending) (zip (arguments a) (arguments c)) m.below (sym e) in
          sym (ap (substitute r) l) ∙ (made_equal r f (subst (Unifies r) there k) ∙ ap (substitute r) g)

      pub kept_opened : IsKnown b new
      kept_opened = record {
        begun = λ m c r f k.
            elim (is.begun m (subst (λ ms. Contains ms m) same_begun c)) [
              | inl o ↦ before.begun m o r f k
              | inr o ↦ (let e = subst (AreVariables t u) o.1 are in one_begun m o.0 e.0 e.1 r f k)
            ];
        equal = λ p c r f. before.equal p (subst (λ ps. Contains ps p) (same_equal ∙ is.equal) c) r f;
      }

-- the pairs behind those that stood before the note
pub opened_after : (old noted : Pending) (variables : Option (ℕ × ℕ)) (after more : List (Tree × Tree)) → IsBegun old variables noted → after ≡ trees_of noted ++ more → after ≡ trees_of old ++ more
opened_after old noted variables after more is e = e ∙ ap (λ ds. pairs_of ds ++ more) is.pairs

-- the variables that two trees are stand among those that are known to be equal
pub noted_among : (pending : Pending) (pair : ℕ × ℕ) → list_any (λ (k : ℕ × ℕ). nat_eq pair.0 k.0 && nat_eq pair.1 k.1) pending.equal.keys ≡ true → Contains pending.equal.keys pair
noted_among pending pair e =
    let a = Any-from_list_any (λ (k : ℕ × ℕ). nat_eq pair.0 k.0 && nat_eq pair.1 k.1) pending.equal.keys e in
    let same = and_parts (nat_eq pair.0 a.1.0) (nat_eq pair.1 a.1.1) a.4 in
    let left : a.1.0 ≡ pair.0 = sym (eqb-true pair.0 a.1.0 same.0) in
    let right : a.1.1 ≡ pair.1 = sym (eqb-true pair.1 a.1.1 same.1) in
    let there : a.1 ≡ pair = λ i. (left i, right i) in
    subst (Contains pending.equal.keys) there (a.0, a.2, a.3)

pub known_equal : (pending : Pending) (t u : Tree) (variables : Option (ℕ × ℕ)) → AreVariables t u variables → AreNotedEqual pending variables → AreKnownEqual pending t u
known_equal pending t u (Some pair) are noted = record { pair = pair; known = noted; left = are.0; right = are.1 }
known_equal pending t u None are noted = absurd noted

-- the search for a difference: what remains of the pairs at its start
pub record Advances (b : List (ℕ × Tree)) (before : List (Tree × Tree)) (pending : Pending) : Type 0 where
  pub remains : Remains b before (trees_of pending)
  pub known : IsKnown b pending

pub all_unified : (b : List (ℕ × Tree)) (start now : List (Tree × Tree)) → Remains b start now → now ≡ [] → AreUnified b start
all_unified b start now h e r f = (h.same r f).1 (nothing_unified r now e)

module _ (b : List (ℕ × Tree)) (before now : List (Tree × Tree)) (out new : Pending) (t u : Tree) (h : Remains b before now) (is : now ≡ trees_of out ++ (t, u) ∷ [])
    (kept : IsKnownWith b t u out) where
  remains_equal : AreKnownEqual out t u → Remains b before (trees_of out)
  remains_equal k = record {
    same = λ r f.
        let e = ap (substitute r) k.left ∙ (kept.equal k.pair k.known r f ∙ sym (ap (substitute r) k.right)) in
        let ends = unifies-append r (trees_of out) ((t, u) ∷ []) in (
          λ l. (ends.0 (subst (Unifies r) is ((h.same r f).0 l))).0,
          λ l. (h.same r f).1 (subst (Unifies r) (sym is) (ends.1 (l, (unifies_one r (t, u)).1 e))),
        );
    within = λ n k. h.within n (subst (λ ps. IsVariableOf ps n) (sym is) (any_left (StandsInPair n) (trees_of out) ((t, u) ∷ []) k));
  }

  pub remains_taken : IsTakenApart b out t u new → Remains b before (trees_of new)
  remains_taken (known k e) = subst (Remains b before) (sym e) (remains_equal k)
  remains_taken (opened a c left right alike e) = remains_more b before now (trees_of out) t u a c h is left right (trees_of new) e alike

  pub weight_taken : IsChain b → IsTakenApart b out t u new → weight (solved b) (trees_of new) < weight (solved b) now
  weight_taken chain (known k e) =
      omega (
        arith,
        ap (weight (solved b)) e,
        ap (weight (solved b)) is,
        weight-append (solved b) (trees_of out) ((t, u) ∷ []),
        has_nodes (substitute (solved b) t),
      )
  weight_taken chain (opened a c left right alike e) = weight_falls b before now (trees_of out) t u a c h is left right (trees_of new) e chain

  pub apart_found : (a c : Tree) → AreApart b out t u new a c → IsDifference b before (trees_of new) a c
  apart_found a c d =
      subst (λ ps. IsDifference b before ps a c) (sym d.same) (difference_found b before now (trees_of out) t u a c h is d.left d.right d.apart)

-- a binding by which a pair that was taken out becomes equal
pub kept_bound : (b q : List (ℕ × Tree)) (pending : Pending) (a c : Tree) → IsKnownWith b a c pending → ((r : ℕ → Tree) → Fulfils r q → Fulfils r b × (substitute r a ≡ substitute r c))
    → IsKnown q pending
kept_bound b q pending a c h equal =
    kept_after b pending (trees_of pending ++ (a, c) ∷ []) (trees_of pending) (trees_of pending) a c [] refl (with_none (trees_of pending)) h q
    (λ r f. let e = equal r f in (e.0, λ _. e.1))
