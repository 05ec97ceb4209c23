-- The first stop of a tree, computed.
use Rattle.std.proofs.Common.{◌≡◌, ℕ, zero, suc, ◌+◌, ◌<◌, ◌≤◌, List, [], ◌∷◌, ◌++◌, Option, Some, None, Bool, true, false, cond, eqb, ltb, refl, ap, ◌∙◌, sym, subst, ◌⊎◌, inl, inr, arith}
use Rattle.std.specs.Prelude.{slice_get}
use Rattle.std.proofs.lemmas.Bool.Decides.{nat_tests}
use Rattle.std.proofs.lemmas.Option.{same_Some, none-some}
use Rattle.dps_branch.specs.declared.kind.StopKind.{StopKind}
use Rattle.dps_path.specs.Order.{before}
use Rattle.dps_path.proofs.Orders.{before-self}
use Rattle.dps_branch.specs.LookTrees.{LookTree, LookTrees, stop, kids, none_left, one_more, list_of, kid, part, StopsAt, IsFirstStop, NeverStops}

-- a path of a stop, and its kind
abbrev pub Stop : Type 0
Stop = List ℕ × StopKind

abbrev pub under : ℕ → Option Stop → Option Stop
under i None = None
under i (Some s) = Some (i ∷ s.0, s.1)

abbrev pub or_else : Option Stop → Option Stop → Option Stop
or_else None y = y
or_else (Some x) y = Some x

abbrev mutual
  pub first_stop : LookTree → Option Stop
  first_stop (stop kind) = Some ([], kind)
  first_stop (kids trees) = first_from 0 trees

  pub first_from : ℕ → LookTrees → Option Stop
  first_from i none_left = None
  first_from i (one_more tree trees) = or_else (under i (first_stop tree)) (first_from (suc i) trees)

-- there is no part of nothing
part-none : (path : List ℕ) (tree : LookTree) → part None path ≡ Some tree → ⊥
part-none [] tree e = none-some tree e
part-none (i ∷ path) tree e = part-none path tree e

-- the stop at this path is the found one, or after it
abbrev pub IsCovered : Option Stop → List ℕ → Type 0
IsCovered None path = ⊥
IsCovered (Some s) path = (s.0 ≡ path) ⊎ (before s.0 path ≡ true)

covered-under : (i : ℕ) (found rest : Option Stop) (path : List ℕ) → IsCovered found path → IsCovered (or_else (under i found) rest) (i ∷ path)
covered-under i None rest path h = absurd h
covered-under i (Some s) rest path (inl e) = inl (ap (λ (p : List ℕ). i ∷ p) e)
covered-under i (Some s) rest path (inr b) = inr (grind (arith, nat_tests, b))

covered-later : (i j : ℕ) (found rest : Option Stop) (path : List ℕ) → i < j → IsCovered rest (j ∷ path) → IsCovered (or_else (under i found) rest) (j ∷ path)
covered-later i j None rest path l h = h
covered-later i j (Some s) rest path l h = inr (grind (arith, nat_tests, l))

move_cover : (found : Option Stop) (i j : ℕ) (path : List ℕ) → j ≡ i → IsCovered found (i ∷ path) → IsCovered found (j ∷ path)
move_cover found i j path e h = subst (λ (k : ℕ). IsCovered found (k ∷ path)) (sym e) h

mutual
  pub covers : (tree : LookTree) (path : List ℕ) (kind : StopKind) → StopsAt tree path kind → IsCovered (first_stop tree) path
  covers (stop why) [] kind e = inl refl
  covers (stop why) (i ∷ path) kind e = absurd (part-none path (stop kind) e)
  covers (kids trees) [] kind e = cc
  covers (kids trees) (i ∷ path) kind e = move_cover (first_from 0 trees) (0 + i) i path (omega arith) (covers_from 0 trees i path kind e)

  covers_from : (first : ℕ) (trees : LookTrees) (i : ℕ) (path : List ℕ) (kind : StopKind) → part (slice_get (list_of trees) i) path ≡ Some (stop kind)
      → IsCovered (first_from first trees) ((first + i) ∷ path)
  covers_from first none_left i path kind e = absurd (part-none path (stop kind) e)
  covers_from first (one_more tree trees) zero path kind e =
      move_cover (first_from first (one_more tree trees)) first (first + 0) path (omega arith) (covered-under first (first_stop tree) (first_from (suc first) trees) path (covers tree path kind e))
  covers_from first (one_more tree trees) (suc i) path kind e =
      covered-later first (first + suc i) (first_stop tree) (first_from (suc first) trees) path (omega arith)
      (move_cover (first_from (suc first) trees) (suc first + i) (first + suc i) path (omega arith) (covers_from (suc first) trees i path kind e))

-- the found stop is one
abbrev pub IsReal : LookTree → Option Stop → Type 0
IsReal tree None = Unit {0}
IsReal tree (Some s) = StopsAt tree s.0 s.1

abbrev IsRealKid : ℕ → LookTrees → Option Stop → Type 0
IsRealKid first trees None = Unit {0}
IsRealKid first trees (Some s) = (i : ℕ) × (path : List ℕ) × (s.0 ≡ (first + i) ∷ path) × (part (slice_get (list_of trees) i) path ≡ Some (stop s.1))

real-under : (first : ℕ) (tree : LookTree) (trees : LookTrees) (found rest : Option Stop) → IsReal tree found → IsRealKid (suc first) trees rest
    → IsRealKid first (one_more tree trees) (or_else (under first found) rest)
real-under first tree trees None None h k = tt
real-under first tree trees None (Some s) h k =
    let e : suc first + k.0 ≡ first + suc k.0 = omega arith in
    (suc k.0, k.1, k.2 ∙ ap (λ (j : ℕ). j ∷ k.1) e, k.3)
real-under first tree trees (Some s) rest h k =
    let e : first ≡ first + 0 = omega arith in
    (0, s.0, ap (λ (j : ℕ). j ∷ s.0) e, h)

real_kids : (trees : LookTrees) (found : Option Stop) → IsRealKid 0 trees found → IsReal (kids trees) found
real_kids trees None h = tt
real_kids trees (Some s) h =
    let e : 0 + h.0 ≡ h.0 = omega arith in
    ap (part (Some (kids trees))) (h.2 ∙ ap (λ (j : ℕ). j ∷ h.1) e) ∙ h.3

mutual
  pub real : (tree : LookTree) → IsReal tree (first_stop tree)
  real (stop kind) = refl
  real (kids trees) = real_kids trees (first_from 0 trees) (real_from 0 trees)

  real_from : (first : ℕ) (trees : LookTrees) → IsRealKid first trees (first_from first trees)
  real_from first none_left = tt
  real_from first (one_more tree trees) = real-under first tree trees (first_stop tree) (first_from (suc first) trees) (real tree) (real_from (suc first) trees)

pub none-stops : (tree : LookTree) → first_stop tree ≡ None → NeverStops tree
none-stops tree e = λ path kind s. subst (λ (found : Option Stop). IsCovered found path) e (covers tree path kind s)

pub some-stops : (tree : LookTree) (path : List ℕ) (kind : StopKind) → first_stop tree ≡ Some (path, kind) → IsFirstStop tree path kind
some-stops tree path kind e = record {
  stops = subst (IsReal tree) e (real tree);
  first = λ other why s. subst (λ (found : Option Stop). IsCovered found other) e (covers tree other why s);
}
