-- Rules renamed apart: agreement and overlaps.
use Rattle.std.proofs.Common.{◌≡◌, ℕ, zero, suc, ◌+◌, ◌-◌, ◌<◌, ◌≤◌, ◌^◌, List, [], ◌∷◌, ◌++◌, length, get_or, cond, min, refl, sym, ◌∙◌, ap, arith, inl, inr, subst}
use Rattle.std.specs.Prelude.{◌≢◌, Contains, nat_lt}
use Rattle.std.specs.List.{All}
use Rattle.std.proofs.lemmas.Bool.{cases_Bool, ltb-true, ltb-false}
use Rattle.std.proofs.lemmas.List.Elements.{All-nil, All-cons, All-head, Contains-get_or}
use Rattle.dps_terms.specs.Tree.{var, Tree, leaf, StandsIn}
use Rattle.dps_terms.specs.Replace.{substitute}
use Rattle.dps_terms.specs.Variables.{variables}
use Rattle.dps_terms.specs.Bindings.{image}
use Rattle.dps_terms.proofs.Building.{closed_has_none}
use Rattle.dps_terms.proofs.Listing.{variables_are_those}
use Rattle.dps_terms.proofs.Subterms.{nested, strict_is_subterm}
use Rattle.dps_unify.specs.Unifier.{Unifies, IsNotUnifiable, IsMgu}
use Rattle.dps_unify.specs.Renaming.{raised, HasRoom}
use Rattle.dps_unify.proofs.Trees.{substitute_in_turn, substitute_agrees}
use Rattle.dps_theory.specs.Theory.{Rule, Agree, IsBounded}
use Rattle.dps_theory.specs.Overlaps.{HasSmallVariables, least_above, room, apart, levels_from, overlap_levels, IsOverlap}

-- numbers of a list are below the least one above it
at_most : (ns : List ℕ) (k : ℕ) (d : ℕ) → k < length ns → get_or ns k d < least_above ns
at_most [] k d h = absurd (omega arith)
at_most (n ∷ ns) zero d h = omega arith
at_most (n ∷ ns) (suc k) d h = omega (arith, at_most ns k d (omega arith))

pub below_least : (ns : List ℕ) (n : ℕ) → Contains ns n → n < least_above ns
below_least ns n h = subst (λ m. m < least_above ns) h.2 (at_most ns h.0 n h.1)

pub least_le : (ns : List ℕ) (m : ℕ) → All (λ n. n < m) ns → least_above ns ≤ m
least_le [] m h = omega arith
least_le (n ∷ ns) m h = omega (arith, h 0 0 (omega arith), least_le ns m (λ k d l. h (suc k) d (omega arith)))

-- levels by place
levels_length : (i : ℕ) (ns : List ℕ) → length (levels_from i ns) ≡ length ns
levels_length i [] = refl
levels_length i (n ∷ ns) = ap suc (levels_length (suc i) ns)

levels_append : (i : ℕ) (ns ms : List ℕ) → levels_from i (ns ++ ms) ≡ levels_from i ns ++ levels_from (length ns + i) ms
levels_append i [] ms = ap (λ k. levels_from k ms) (omega arith)
levels_append i (n ∷ ns) ms =
    ap (λ l. (n, min i (2 ^ 32 - 1)) ∷ l) (levels_append (suc i) ns ms ∙ ap (λ k. levels_from (suc i) ns ++ levels_from k ms) (omega arith))

pub levels_of_two : (ns ms : List ℕ) (one two : List (ℕ × ℕ)) → one ≡ levels_from 0 ns → two ≡ one ++ levels_from (length one) ms → two ≡ levels_from 0 (ns ++ ms)
levels_of_two ns ms one two e d =
    d ∙ (λ i. e i ++ levels_from (length (e i)) ms)
    ∙ ap (λ k. levels_from 0 ns ++ levels_from k ms) (levels_length 0 ns ∙ omega arith)
    ∙ sym (levels_append 0 ns ms)

-- one substitution below a number and another one from it on
module _ (by : ℕ) (y z : ℕ → Tree) where
  joined : ℕ → Tree
  joined n = cond (nat_lt n by) (y n) (z (n - by))

  joined_low : (n : ℕ) → n < by → joined n ≡ y n
  unfolding joined
  joined_low n h =
      elim (cases_Bool (nat_lt n by)) [
        | inl e ↦ ap (λ b. cond b (y n) (z (n - by))) e
        | inr e ↦ absurd (omega (arith, ltb-false n by e))
      ]

  joined_high : (n : ℕ) → joined (n + by) ≡ z n
  unfolding joined
  joined_high n =
      elim (cases_Bool (nat_lt (n + by) by)) [
        | inl e ↦ absurd (omega (arith, ltb-true (n + by) by e))
        | inr e ↦ ap (λ b. cond b (y (n + by)) (z (n + by - by))) e ∙ ap z (omega arith)
      ]

  low_instance : (t : Tree) → ((n : ℕ) → StandsIn (var n) t → n < by) → substitute joined t ≡ substitute y t
  low_instance t h = substitute_agrees joined y t (λ n k. joined_low n (h n k))

  high_instance : (t : Tree) → substitute joined (raised by t) ≡ substitute z t
  high_instance t =
      substitute_in_turn joined (λ n. leaf (var (n + by))) t ∙ substitute_agrees (λ n. joined (n + by)) z t (λ n k. joined_high n)

left_below : (r : Rule) (n : ℕ) → StandsIn (var n) r.left → n < room r
left_below r n k = below_least (variables r.left) n ((variables_are_those r.left n).1 k)

right_below : (r : Rule) → IsBounded r → (n : ℕ) → StandsIn (var n) r.right → n < room r
right_below r b n k =
    elim b [
      | inl s ↦ left_below r n (nested k (strict_is_subterm s))
      | inr c ↦ absurd ((closed_has_none r.right).0 c n k)
    ]

module _ (r q : Rule) where
  unified_by : (y z : ℕ → Tree) → substitute y r.left ≡ substitute z q.left → Unifies (joined (room r) y z) ((r.left, apart r q) ∷ [])
  unified_by y z e =
      All-cons (λ p. substitute (joined (room r) y z) p.0 ≡ substitute (joined (room r) y z) p.1) (r.left, apart r q) []
      (low_instance (room r) y z r.left (left_below r) ∙ e ∙ sym (high_instance (room r) y z q.left))
      (All-nil (λ p. substitute (joined (room r) y z) p.0 ≡ substitute (joined (room r) y z) p.1))

  -- no common instance of the left sides
  pub agree_never : IsNotUnifiable ((r.left, apart r q) ∷ []) → Agree r q
  agree_never h y z e = absurd (h (joined (room r) y z) (unified_by y z e))

  -- right sides that are equal under the most general unifier
  pub agree_same :
      (levels : List (ℕ × ℕ)) (u : List (ℕ × Tree)) → IsMgu levels ((r.left, apart r q) ∷ []) u → IsBounded r
      → substitute (image u) r.right ≡ substitute (image u) (raised (room r) q.right) → Agree r q
  agree_same levels u m b same y z e =
      let both = joined (room r) y z in
      let k = unified_by y z e in
      let general : (t : Tree) → substitute both (substitute (image u) t) ≡ substitute both t = λ t. substitute_in_turn both (image u) t ∙ substitute_agrees (λ n. substitute both (image u n)) both t (λ n _. m.general both k n) in
      sym (low_instance (room r) y z r.right (right_below r b))
      ∙ sym (general r.right)
      ∙ ap (substitute both) same
      ∙ general (raised (room r) q.right)
      ∙ high_instance (room r) y z q.right

  pub overlap_found : (u : List (ℕ × Tree)) → IsMgu (overlap_levels r q) ((r.left, apart r q) ∷ []) u → substitute (image u) r.right ≢ substitute (image u) (raised (room r) q.right) → IsOverlap r q u
  overlap_found u m d = record {
    most_general = m;
    same_left = All-head (λ p. substitute (image u) p.0 ≡ substitute (image u) p.1) (r.left, apart r q) [] m.unifies;
    different_right = d;
  }

-- numbers that fit
pub small_variables : (r : Rule) → HasSmallVariables r → All (λ n. n < 2 ^ 32) (variables r.left)
small_variables r h k d l = h (get_or (variables r.left) k d) (inl ((variables_are_those r.left (get_or (variables r.left) k d)).0 (Contains-get_or (variables r.left) k d l)))

pub room_le : (r : Rule) → HasSmallVariables r → room r ≤ 2 ^ 32
room_le r h = least_le (variables r.left) (2 ^ 32) (small_variables r h)

pub left_has_room : (r q : Rule) → HasSmallVariables r → HasSmallVariables q → HasRoom q.left (room r)
left_has_room r q h k n o = omega (arith, room_le r h, k n (inl o))

pub right_has_room : (r q : Rule) → HasSmallVariables r → HasSmallVariables q → HasRoom q.right (room r)
right_has_room r q h k n o = omega (arith, room_le r h, k n (inr o))

-- what the calls of a search for an overlap give
module _ (r q : Rule) (by : ℕ) (left : Tree) (is_room : by ≡ room r) (is_left : left ≡ raised by q.left) where
  left_apart : left ≡ apart r q
  left_apart = is_left ∙ ap (λ k. raised k q.left) is_room

  pub overlap_none : IsNotUnifiable ((r.left, left) ∷ []) → Agree r q
  overlap_none h = agree_never r q (subst (λ t. IsNotUnifiable ((r.left, t) ∷ [])) left_apart h)

  module _ (u : List (ℕ × Tree)) (general : IsMgu (levels_from 0 (variables r.left ++ variables left)) ((r.left, left) ∷ []) u) (right : Tree) (is_right : right ≡ raised by q.right) where
    general_apart : IsMgu (overlap_levels r q) ((r.left, apart r q) ∷ []) u
    general_apart = subst (λ t. IsMgu (levels_from 0 (variables r.left ++ variables t)) ((r.left, t) ∷ []) u) left_apart general

    right_apart : right ≡ raised (room r) q.right
    right_apart = is_right ∙ ap (λ k. raised k q.right) is_room

    pub overlap_same : IsBounded r → substitute (image u) r.right ≡ substitute (image u) right → Agree r q
    overlap_same b e = agree_same r q (overlap_levels r q) u general_apart b (e ∙ ap (substitute (image u)) right_apart)

    pub overlap_different : (substitute (image u) r.right ≡ substitute (image u) right → ⊥) → IsOverlap r q u
    overlap_different d = overlap_found r q u general_apart (λ e. d (e ∙ sym (ap (substitute (image u)) right_apart)))

-- lists of small variables on both sides
