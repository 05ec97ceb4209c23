-- Messages and handles of frames, and right answers.
use Rattle.std.proofs.Common.{◌≡◌, ℕ, zero, suc, ◌<◌, ◌≤◌, List, [], ◌∷◌, ◌++◌, length, slice_get, get_or, Some, refl, ap, sym, ◌∙◌, subst, inl, inr, arith}
use Rattle.std.specs.Prelude.{◌⊎◌, ◌↔◌, All}
use Rattle.std.proofs.lemmas.Bool.{cases_lt}
use Rattle.std.proofs.lemmas.Option.{slice_get_within, get_or_from_slice_get}
use Rattle.dps_signature.specs.declared.SymKind.TheVariants.{Constructor}
use Rattle.dps_terms.specs.Tree.{Leaf, public, private, var, ax, entry, rigid, Tree, Trees, leaf, app, none, more}
use Rattle.dps_terms.specs.Replace.{entries_to, put_entries}
use Rattle.dps_signature.specs.Signature.{Signature, HasShape, HasArity, shapes}
use Rattle.dps_terms.specs.Kinds.{AreBuiltOf, IsName, IsFrameLeaf, IsKnowledgeTree, IsKnowledgeLeaf, NoRigidName}
use Rattle.dps_signature.specs.Kinds.{IsPlain, IsOver, IsLeafOver, IsDeclared, IsRecipe}
use Rattle.dps_terms.proofs.Building.{count-replace_all, built_weaker}
use Rattle.dps_theory.specs.Theory.{Theory}
use Rattle.dps_theory.specs.Frames.{IsFrame, AreStaticallyEquivalent}
use Rattle.dps_theory.proofs.Equivalence.{not_told_apart}
use Rattle.dps_static.specs.Ways.{IsWay}
use Rattle.dps_static.specs.Generic.{HasNoRigidName}
use Rattle.dps_static.specs.Handles.{handles}
use Rattle.dps_static.proofs.Opening.{message_low}
use Rattle.dps_static.specs.Answer.{test_of, IsAnswer}
use Rattle.dps_static.specs.declared.Comparison.{Comparison}
use Rattle.dps_static.specs.declared.Comparison.TheVariants.{Same, Differ}
use Rattle.dps_static.proofs.Ways.{AreWays, put_all}

-- a frame's messages
frame_leaf_is_name : (x : Leaf) → IsFrameLeaf x → IsName x
frame_leaf_is_name (public a) h = tt
frame_leaf_is_name (private n) h = tt
frame_leaf_is_name (var n) h = absurd h
frame_leaf_is_name (ax j) h = absurd h
frame_leaf_is_name (entry i) h = absurd h
frame_leaf_is_name (rigid n) h = absurd h

module _ (signature : Signature) (frame : List Tree) (is_frame : IsFrame signature frame) where
  pub message_plain : (k : ℕ) (t : Tree) → slice_get frame k ≡ Some t → IsPlain (shapes signature) t
  message_plain k t e =
      let m : get_or frame k t ≡ t = get_or_from_slice_get frame k t t e in
      let h = is_frame k t (slice_get_within frame k t e) in
      subst (IsPlain (shapes signature)) m (built_weaker IsFrameLeaf (HasShape (shapes signature) Constructor) IsName _ h.0 frame_leaf_is_name)

  pub message_over : (k : ℕ) (t : Tree) → slice_get frame k ≡ Some t → IsOver signature t
  message_over k t e =
      let m : get_or frame k t ≡ t = get_or_from_slice_get frame k t t e in
      let h = is_frame k t (slice_get_within frame k t e) in subst (IsOver signature) m h.1

  pub message_low_at : (k : ℕ) (t : Tree) → slice_get frame k ≡ Some t → HasNoRigidName t
  message_low_at k t e =
      let m : get_or frame k t ≡ t = get_or_from_slice_get frame k t t e in
      let h = is_frame k t (slice_get_within frame k t e) in subst HasNoRigidName m (message_low (shapes signature) _ h.0)

-- a way that builds a message is over the message's signature
module _ (signature : Signature) (kept : List Tree) where
  abbrev AreKnown : ℕ → Trees → Type 0
  AreKnown n ts = AreBuiltOf (IsKnowledgeLeaf (IsDeclared signature) NoRigidName n) (HasArity (shapes signature)) ts

  leaf_over : (n : ℕ) (x : Leaf) → IsWay n (leaf x) → IsOver signature (entries_to kept x) → IsKnowledgeLeaf (IsDeclared signature) NoRigidName n x
  leaf_over n (public a) w o = o
  leaf_over n (private k) w o = w.1
  leaf_over n (var k) w o = tt
  leaf_over n (ax j) w o = w.1
  leaf_over n (entry i) w o = w.1
  leaf_over n (rigid k) w o = w.1

  mutual
    pub way_over : (n : ℕ) (way : Tree) → IsWay n way → IsOver signature (put_entries kept way) → IsKnowledgeTree (IsDeclared signature) NoRigidName (HasArity (shapes signature)) n way
    way_over n (leaf x) w o = leaf_over n x w o
    way_over n (app f ws) w o =
        (subst (HasArity (shapes signature) f) (count-replace_all (entries_to kept) ws) o.0, ways_over n ws (record { closed = w.0.1; known = w.1.1 }) o.1)

    ways_over : (n : ℕ) (ways : Trees) → AreWays n ways → AreBuiltOf (IsLeafOver signature) (HasArity (shapes signature)) (put_all kept ways) → AreKnown n ways
    ways_over n none w o = tt
    ways_over n (more way ways) w o =
        (way_over n way (w.closed.0, w.known.0) o.0, ways_over n ways (record { closed = w.closed.1; known = w.known.1 }) o.1)

-- the handles of a frame
length_one_more : (ts : List Tree) (t : Tree) → length (ts ++ t ∷ []) ≡ suc (length ts)
length_one_more [] t = refl
length_one_more (u ∷ ts) t = omega (arith, length_one_more ts t)

pub length-handles : (m : ℕ) → length (handles m) ≡ m
length-handles zero = refl
length-handles (suc m) = length_one_more (handles m) (leaf (ax (suc m))) ∙ ap suc (length-handles m)

get_before : (ts : List Tree) (t : Tree) (k : ℕ) → k < length ts → slice_get (ts ++ t ∷ []) k ≡ slice_get ts k
get_before [] t k h = absurd (omega (arith, h))
get_before (u ∷ ts) t zero h = refl
get_before (u ∷ ts) t (suc k) h = get_before ts t k (omega (arith, h))

get_last : (ts : List Tree) (t : Tree) → slice_get (ts ++ t ∷ []) (length ts) ≡ Some t
get_last [] t = refl
get_last (u ∷ ts) t = get_last ts t

pub handle_at : (m k : ℕ) → k < m → slice_get (handles m) k ≡ Some (leaf (ax (suc k)))
handle_at zero k h = absurd (omega (arith, h))
handle_at (suc m) k h = by_place (cases_lt k m) (handle_at m k)
  where
    by_place : (k < m) ⊎ (m ≤ k) → (k < m → slice_get (handles m) k ≡ Some (leaf (ax (suc k)))) → slice_get (handles m ++ leaf (ax (suc m)) ∷ []) k ≡ Some (leaf (ax (suc k)))
    by_place (inl l) before = get_before (handles m) (leaf (ax (suc m))) k (omega (arith, l, length-handles m)) ∙ before l
    by_place (inr l) before =
        let e : m ≡ k = omega (arith, l, h) in
        subst (λ i. slice_get (handles m ++ leaf (ax (suc m)) ∷ []) i ≡ Some (leaf (ax (suc i)))) e
        (subst (λ i. slice_get (handles m ++ leaf (ax (suc m)) ∷ []) i ≡ Some (leaf (ax (suc m)))) (length-handles m) (get_last (handles m) (leaf (ax (suc m)))))

module _ (signature : Signature) where
  handle_is_recipe : (m k : ℕ) → k < m → IsRecipe signature m (leaf (ax (suc k)))
  handle_is_recipe m k h = (omega arith, omega (arith, h))

  pub handles_are_recipes : (m : ℕ) → All (IsRecipe signature m) (handles m)
  handles_are_recipes m = λ k d h.
      let l : k < m = omega (arith, h, length-handles m) in
      subst (IsRecipe signature m) (sym (get_or_from_slice_get (handles m) k _ d (handle_at m k l))) (handle_is_recipe m k l)

-- a right answer is the right one
pub answers_decide :
    (signature : Signature) (theory : Theory) (first second : List Tree) (answer : Comparison) → IsAnswer signature theory first second answer
    → (answer ≡ Same) ↔ AreStaticallyEquivalent signature theory first second
answers_decide signature theory first second Same h = (λ e. h, λ e. refl)
answers_decide signature theory first second (Differ test) h =
    (λ e. cc, λ e. absurd (not_told_apart signature theory first second (test_of test, h) e))
