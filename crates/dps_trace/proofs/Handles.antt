-- The handles of a recipe, node by node.
use Rattle.std.proofs.Common.{◌≡◌, ◌+◌, ℕ, Bool, true, List, [], ◌∷◌, ◌++◌, length, take, drop, ap, sym, subst, ◌∙◌, arith}
use Rattle.std.specs.Prelude.{◌↔◌, ◌==◌, ⊤, IsTrue}
use Rattle.std.proofs.lemmas.Bool.Decides.{nat_tests}
use Rattle.std.proofs.lemmas.List.{take-append-drop}
use Rattle.dps_terms.specs.Tree.{public, private, var, ax, entry, rigid, Tree, Trees, leaf, app, none, more, list_of}
use Rattle.dps_terms.specs.Kinds.{IsBuiltOf, AreBuiltOf, AnySymbol}
use Rattle.dps_terms.specs.Views.{arguments, view_of}
use Rattle.dps_terms.specs.Walk.{subterms_from}
use Rattle.dps_trace.specs.Written.{IsHandleUpTo, ShowsHandleUpTo}

-- each of the trees has handles up to the number alone
abbrev pub AllUpTo : ℕ → List Tree → Type 0
AllUpTo m [] = ⊤
AllUpTo m (t ∷ ts) = IsBuiltOf (IsHandleUpTo m) AnySymbol t × AllUpTo m ts

-- the tree has such handles where what is left from a node on has
pub record Follows (m : ℕ) (t : Tree) (node : ℕ) : Type 0 where
  pub to_rest : IsBuiltOf (IsHandleUpTo m) AnySymbol t → AllUpTo m (subterms_from t node)
  pub from_rest : AllUpTo m (subterms_from t node) → IsBuiltOf (IsHandleUpTo m) AnySymbol t

pub begins : (m : ℕ) (t : Tree) → Follows m t 0
begins m t = record { to_rest = λ h. (h, tt); from_rest = λ h. h.0 }

up_to_joined : (m : ℕ) (ts : Trees) (us : List Tree) → AreBuiltOf (IsHandleUpTo m) AnySymbol ts → AllUpTo m us → AllUpTo m (list_of ts ++ us)
up_to_joined m none us h k = k
up_to_joined m (more t ts) us h k = (h.0, up_to_joined m ts us h.1 k)

up_to_parted : (m : ℕ) (ts : Trees) (us : List Tree) → AllUpTo m (list_of ts ++ us) → AreBuiltOf (IsHandleUpTo m) AnySymbol ts × AllUpTo m us
up_to_parted m none us h = (tt, h)
up_to_parted m (more t ts) us h = let r = up_to_parted m ts us h.1 in ((h.0, r.0), r.1)

below_root : (m : ℕ) (u : Tree) (us : List Tree) → ShowsHandleUpTo m (view_of u) → AllUpTo m (u ∷ us) ↔ AllUpTo m (arguments u ++ us)
below_root m (leaf (public n)) us f = (λ h. h.1, λ h. (tt, h))
below_root m (leaf (private n)) us f = (λ h. h.1, λ h. (tt, h))
below_root m (leaf (var n)) us f = (λ h. h.1, λ h. (tt, h))
below_root m (leaf (ax j)) us f = (λ h. h.1, λ h. (f, h))
below_root m (leaf (entry n)) us f = (λ h. h.1, λ h. (tt, h))
below_root m (leaf (rigid n)) us f = (λ h. h.1, λ h. (tt, h))
below_root m (app s ts) us f = (λ h. up_to_joined m ts us h.0.1 h.1, λ h. let r = up_to_parted m ts us h in ((tt, r.0), r.1))

rejoined : (n : ℕ) (xs ys : List Tree) → xs ≡ take n ys → xs ++ drop n ys ≡ ys
rejoined n xs ys e = ap (λ zs. zs ++ drop n ys) e ∙ take-append-drop n ys

pub goes_on :
    (m : ℕ) (t u : Tree) (node : ℕ) → Follows m t node → ShowsHandleUpTo m (view_of u)
    → subterms_from t node ≡ u ∷ drop (length (arguments u)) (subterms_from t (node + 1))
    → arguments u ≡ take (length (arguments u)) (subterms_from t (node + 1))
    → Follows m t (node + 1)
goes_on m t u node h fine first below =
    let rest = drop (length (arguments u)) (subterms_from t (node + 1)) in
    let same : arguments u ++ rest ≡ subterms_from t (node + 1) = rejoined (length (arguments u)) (arguments u) (subterms_from t (node + 1)) below in
    let both = below_root m u rest fine in
    record {
      to_rest = λ b. subst (AllUpTo m) same (both.0 (subst (AllUpTo m) first (h.to_rest b)));
      from_rest = λ b. h.from_rest (subst (AllUpTo m) (sym first) (both.1 (subst (AllUpTo m) (sym same) b)));
    }

-- what is at the root of such a tree
shown : (m : ℕ) (u : Tree) → IsBuiltOf (IsHandleUpTo m) AnySymbol u → ShowsHandleUpTo m (view_of u)
shown m (leaf (public n)) h = tt
shown m (leaf (private n)) h = tt
shown m (leaf (var n)) h = tt
shown m (leaf (ax j)) h = h
shown m (leaf (entry n)) h = tt
shown m (leaf (rigid n)) h = tt
shown m (app s ts) h = tt

-- a handle above the number was found
pub fails :
    (m : ℕ) (t u : Tree) (node : ℕ) (rest : List Tree) → Follows m t node → subterms_from t node ≡ u ∷ rest → ¬ ShowsHandleUpTo m (view_of u)
    → IsBuiltOf (IsHandleUpTo m) AnySymbol t → ⊥
fails m t u node rest h first not_shown b = not_shown (shown m u (subst (AllUpTo m) first (h.to_rest b)).0)

-- no node is left
pub holds : (m : ℕ) (t : Tree) (node : ℕ) → Follows m t node → subterms_from t node ≡ [] → IsBuiltOf (IsHandleUpTo m) AnySymbol t
holds m t node h e = h.from_rest (subst (AllUpTo m) (sym e) tt)

pub ruleset for_has_handles_up_to = (begins, goes_on, fails, holds)

-- an input is in turn where its recipe has such handles, and an output where its handle is the next
pub input_in_turn : (m : ℕ) (b : Bool) (t r : Tree) → t ≡ r → IsTrue b ↔ IsBuiltOf (IsHandleUpTo m) AnySymbol t → IsTrue b ↔ IsBuiltOf (IsHandleUpTo m) AnySymbol r
input_in_turn m b t r e h = subst (λ u. IsTrue b ↔ IsBuiltOf (IsHandleUpTo m) AnySymbol u) e h

pub output_in_turn : (m j : ℕ) (b : Bool) → b ≡ (j == m + 1) → IsTrue b ↔ (j ≡ m + 1)
output_in_turn m j b e = (λ h. let t : (j == m + 1) ≡ true = sym e ∙ h in grind (arith, nat_tests, t), λ h. e ∙ (let t : (j == m + 1) ≡ true = grind (arith, nat_tests, h) in t))

pub ruleset for_is_in_turn = (input_in_turn, output_in_turn)
