-- How what is found is read.
use Rattle.std.proofs.Common.{◌≡◌, ℕ, zero, suc, ◌+◌, ◌<◌, ◌≤◌, Bool, true, false, cond, ◌&&◌, not, List, [], ◌∷◌, ◌++◌, Option, Some}
use Rattle.std.proofs.Common.{None, length, get_or, take, drop, map, unwrap_or, refl, ap, sym, subst, ◌∙◌, arith, inl, inr}
use Rattle.std.specs.Prelude.{All, IsTrue, ◌⊎◌, ◌≢◌}
use Rattle.std.proofs.lemmas.List.{map-append, take_all}
use Rattle.std.proofs.lemmas.List.Elements.{All-nil, All-cons, All-head, All-tail, All-append}
use Rattle.std.proofs.Math.Dec.{eqb}
use Rattle.std.proofs.Math.Bool.{beq}
use Rattle.std.proofs.lemmas.Bool.{eqb-true}
use Rattle.std.proofs.lemmas.Bool.Decides.{eqb_tells}
use Rattle.dps_terms.specs.Tree.{var, Tree, leaf}
use Rattle.dps_terms.specs.Same.{same, same-true, same-self}
use Rattle.dps_terms.specs.Bindings.{bound, image}
use Rattle.dps_unify.specs.Order.{level_of}
use Rattle.dps_solver.specs.Scene.{Scene}
use Rattle.dps_search.specs.Code.{solution_seen}
use Rattle.dps_node.specs.declared.asking.Found.{Found as CodeFound}
use Rattle.dps_node.specs.Questions.{Question, Found, decided, undecided, IsPlainlyFound, Answers, holds, fails, open_at, AnswersWhole, holds_by_all, fails_by_all, open_in}
use Rattle.dps_node.specs.Asking.{found_in, binds_nothing, is_plain_as}
use Rattle.dps_renewal.proofs.EachOnce.{one_more}
use Rattle.dps_node.proofs.Asked.{HasOwn}

both_of : (a b : Bool) → (a && b) ≡ true → (a ≡ true) × (b ≡ true)
both_of true b e = (refl, e)
both_of false b e = cc

-- the variables with levels stay, and so do all
stays_with : (levels : List (ℕ × ℕ)) (bindings : List (ℕ × Tree)) (x l : ℕ) → binds_nothing levels bindings ≡ true → level_of levels x ≡ Some l → image bindings x ≡ leaf (var x)
stays_with [] bindings x l e h = cc
stays_with (p ∷ ps) bindings x l e h = by (eqb_tells (p.0) x) h (λ k f. stays_with ps bindings x l k f)
  where
    two : (same (image bindings p.0) (leaf (var p.0)) ≡ true) × (binds_nothing ps bindings ≡ true)
    two = both_of (same (image bindings p.0) (leaf (var p.0))) (binds_nothing ps bindings) e

    by : ((eqb (p.0) x ≡ true) × (p.0 ≡ x)) ⊎ ((eqb (p.0) x ≡ false) × (p.0 ≢ x)) → level_of (p ∷ ps) x ≡ Some l
        → (binds_nothing ps bindings ≡ true → level_of ps x ≡ Some l → image bindings x ≡ leaf (var x)) → image bindings x ≡ leaf (var x)
    by (inl k) f others = subst (λ y. image bindings y ≡ leaf (var y)) k.1 (same-true (image bindings p.0) (leaf (var p.0)) two.0)
    by (inr k) f others = others two.1 (sym (ap (λ b. cond b (Some p.1) (level_of ps x)) k.0) ∙ f)

pub plain_told : (scene : Scene) (question : Question) (f : CodeFound) → HasOwn scene (solution_seen f.solution) → is_plain_as scene.system.levels true f ≡ true → IsPlainlyFound (found_in question f)
plain_told scene question f own e = λ x. by x (level_of scene.system.levels x) refl
  where
    by : (x : ℕ) (o : Option ℕ) → level_of scene.system.levels x ≡ o → image f.solution.bindings x ≡ leaf (var x)
    by x None h = own x h
    by x (Some l) h = stays_with scene.system.levels f.solution.bindings x l e h

all_stay : (levels : List (ℕ × ℕ)) (bindings : List (ℕ × Tree)) → ((x : ℕ) → image bindings x ≡ leaf (var x)) → binds_nothing levels bindings ≡ true
all_stay [] bindings h = refl
all_stay (p ∷ ps) bindings h =
    let one : same (image bindings p.0) (leaf (var p.0)) ≡ true = ap (λ t. same t (leaf (var p.0))) (h p.0) ∙ same-self (leaf (var p.0)) in
    let rest = all_stay ps bindings h in
    λ i. one i && rest i

pub not_plain_told : (levels : List (ℕ × ℕ)) (question : Question) (f : CodeFound) → is_plain_as levels true f ≡ false → ¬ IsPlainlyFound (found_in question f)
not_plain_told levels question f e = λ h. let d : true ≡ false = sym (all_stay levels f.solution.bindings h) ∙ e in cc

pub turned_plain : (levels : List (ℕ × ℕ)) (f : CodeFound) (b : Bool) → is_plain_as levels false f ≡ b → is_plain_as levels true f ≡ not b
turned_plain levels f b e = twice (binds_nothing levels f.solution.bindings) ∙ ap not e
  where
    twice : (a : Bool) → a ≡ not (not a)
    twice true = refl
    twice false = refl

module _ (scene : Scene) (question : Question) where
  abbrev those : List CodeFound → List Found
  those fs = map (found_in question) fs

  others_not_plain : (fs : List CodeFound) → All (λ (f : CodeFound). is_plain_as scene.system.levels true f ≡ false) fs → All (λ (g : Found). ¬ IsPlainlyFound g) (those fs)
  others_not_plain [] h = All-nil (λ (g : Found). ¬ IsPlainlyFound g)
  others_not_plain (f ∷ fs) h =
      All-cons (λ (g : Found). ¬ IsPlainlyFound g) (found_in question f) (those fs)
      (not_plain_told scene.system.levels question f (All-head (λ (f : CodeFound). is_plain_as scene.system.levels true f ≡ false) f fs h))
      (others_not_plain fs (All-tail (λ (f : CodeFound). is_plain_as scene.system.levels true f ≡ false) f fs h))

  others_plain : (fs : List CodeFound) → All (λ (g : Found). HasOwn scene g.1) (those fs) → All (λ (f : CodeFound). is_plain_as scene.system.levels false f ≡ false) fs → All IsPlainlyFound (those fs)
  others_plain [] own h = All-nil IsPlainlyFound
  others_plain (f ∷ fs) own h =
      All-cons IsPlainlyFound (found_in question f) (those fs)
      (plain_told scene question f (All-head (λ (g : Found). HasOwn scene g.1) (found_in question f) (those fs) own) (turned_plain scene.system.levels f false (All-head (λ (f : CodeFound). is_plain_as scene.system.levels false f ≡ false) f fs h)))
      (others_plain fs (All-tail (λ (g : Found). HasOwn scene g.1) (found_in question f) (those fs) own) (All-tail (λ (f : CodeFound). is_plain_as scene.system.levels false f ≡ false) f fs h))

  -- a list at a place
  split_at : (fs : List CodeFound) (i : ℕ) (d : CodeFound) → i < length fs → fs ≡ take i fs ++ (get_or fs i d ∷ drop (suc i) fs)
  split_at [] i d l = absurd (omega (arith, l))
  split_at (f ∷ fs) zero d l = refl
  split_at (f ∷ fs) (suc i) d l = ap (λ xs. f ∷ xs) (split_at fs i d (omega (arith, l)))

  those_at : (fs : List CodeFound) (i : ℕ) (d : CodeFound) → i < length fs → those fs ≡ those (take i fs) ++ (found_in question (get_or fs i d) ∷ those (drop (suc i) fs))
  those_at fs i d l = ap those (split_at fs i d l) ∙ map-append (found_in question) (take i fs) (get_or fs i d ∷ drop (suc i) fs)

  own_at : (fs : List CodeFound) (i : ℕ) (d : CodeFound) → i < length fs → All (λ (g : Found). HasOwn scene g.1) (those fs) → HasOwn scene (solution_seen (get_or fs i d).solution)
  own_at [] i d l h = absurd (omega (arith, l))
  own_at (f ∷ fs) zero d l h = All-head (λ (g : Found). HasOwn scene g.1) (found_in question f) (those fs) h
  own_at (f ∷ fs) (suc i) d l h = own_at fs i d (omega (arith, l)) (All-tail (λ (g : Found). HasOwn scene g.1) (found_in question f) (those fs) h)

  own_before : (fs : List CodeFound) (i : ℕ) → All (λ (g : Found). HasOwn scene g.1) (those fs) → All (λ (g : Found). HasOwn scene g.1) (those (take i fs))
  own_before fs zero h = All-nil (λ (g : Found). HasOwn scene g.1)
  own_before [] (suc i) h = All-nil (λ (g : Found). HasOwn scene g.1)
  own_before (f ∷ fs) (suc i) h =
      All-cons (λ (g : Found). HasOwn scene g.1) (found_in question f) (those (take i fs)) (All-head (λ (g : Found). HasOwn scene g.1) (found_in question f) (those fs) h)
      (own_before fs i (All-tail (λ (g : Found). HasOwn scene g.1) (found_in question f) (those fs) h))

  pub true_at : (fs : List CodeFound) (i : ℕ) (d f : CodeFound) → All (λ (g : Found). HasOwn scene g.1) (those fs) → i < length fs → f ≡ get_or fs i d
      → All (λ (f : CodeFound). is_plain_as scene.system.levels true f ≡ false) (take i fs) → is_plain_as scene.system.levels true (get_or fs i d) ≡ true
      → Answers (those fs) (decided (Some (found_in question f)))
  true_at fs i d f own l e before at =
      holds (those (take i fs)) (those (drop (suc i) fs)) (found_in question (get_or fs i d)) (those_at fs i d l) (others_not_plain (take i fs) before)
      (plain_told scene question (get_or fs i d) (own_at fs i d l own) at) (ap (λ g. decided (Some (found_in question g))) e)

  pub false_of : (fs : List CodeFound) → length fs ≡ 0 → Answers (those fs) (decided None)
  false_of [] e = fails refl
  false_of (f ∷ fs) e = absurd (omega (arith, e))

  pub open_of : (fs : List CodeFound) (d f : CodeFound) → 0 < length fs → f ≡ get_or fs 0 d → All (λ (f : CodeFound). is_plain_as scene.system.levels true f ≡ false) fs
      → Answers (those fs) (undecided (solution_seen f.solution))
  open_of [] d f l e h = absurd (omega (arith, l))
  open_of (g ∷ fs) d f l e h = open_at (others_not_plain (g ∷ fs) h) (ap (λ (k : CodeFound). undecided (solution_seen k.solution)) e)

  -- and in whole
  pub whole_open : (fs : List CodeFound) (i : ℕ) (d f : CodeFound) → All (λ (g : Found). HasOwn scene g.1) (those fs) → i < length fs → f ≡ get_or fs i d
      → All (λ (f : CodeFound). is_plain_as scene.system.levels false f ≡ false) (take i fs) → is_plain_as scene.system.levels false (get_or fs i d) ≡ true
      → AnswersWhole (those fs) (undecided (solution_seen f.solution))
  whole_open fs i d f own l e before at =
      open_in (those (take i fs)) (those (drop (suc i) fs)) (found_in question (get_or fs i d)) (those_at fs i d l) (others_plain (take i fs) (own_before fs i own) before)
      (not_plain_told scene.system.levels question (get_or fs i d) (turned_plain scene.system.levels (get_or fs i d) true at)) (ap (λ (k : CodeFound). undecided (solution_seen k.solution)) e)

  pub whole_false : (fs : List CodeFound) → length fs ≡ 0 → AnswersWhole (those fs) (decided None)
  whole_false [] e = fails_by_all refl
  whole_false (f ∷ fs) e = absurd (omega (arith, e))

  pub whole_true :
      (fs : List CodeFound) (d f : CodeFound) → All (λ (g : Found). HasOwn scene g.1) (those fs) → 0 < length fs
      → f ≡ get_or fs 0 d → All (λ (f : CodeFound). is_plain_as scene.system.levels false f ≡ false) fs
      → AnswersWhole (those fs) (decided (Some (found_in question f)))
  whole_true [] d f own l e h = absurd (omega (arith, l))
  whole_true (g ∷ fs) d f own l e h = holds_by_all (others_plain (g ∷ fs) own h) (ap (λ k. decided (Some (found_in question k))) e)

-- whether a variable stays, by what is bound to it
pub bound_told :
    (bindings : List (ℕ × Tree)) (x : ℕ) (t : Tree) (b : Bool) → Some t ≡ bound bindings x
    → (IsTrue b → t ≡ leaf (var x)) × (t ≡ leaf (var x) → IsTrue b) → b ≡ same (image bindings x) (leaf (var x))
bound_told bindings x t b e h = by b (same t (leaf (var x))) refl h ∙ ap (λ o. same (unwrap_or o (leaf (var x))) (leaf (var x))) e
  where
    by : (b s : Bool) → same t (leaf (var x)) ≡ s → (IsTrue b → t ≡ leaf (var x)) × (t ≡ leaf (var x) → IsTrue b) → b ≡ same t (leaf (var x))
    by true s k h = sym (ap (λ u. same u (leaf (var x))) (h.0 refl) ∙ same-self (leaf (var x)))
    by false true k h = let d : false ≡ true = h.1 (same-true t (leaf (var x)) k) in cc
    by false false k h = sym k

pub unbound_told : (bindings : List (ℕ × Tree)) (x : ℕ) → None ≡ bound bindings x → true ≡ same (image bindings x) (leaf (var x))
unbound_told bindings x e = sym (same-self (leaf (var x))) ∙ ap (λ o. same (unwrap_or o (leaf (var x))) (leaf (var x))) e

-- one more that is passed
pub passed_more : (P : CodeFound → Type 0) (fs : List CodeFound) (i : ℕ) (f : CodeFound) → i < length fs → f ≡ get_or fs i f → P f → All P (take i fs) → All P (take (i + 1) fs)
passed_more P fs i f l e p h =
    subst (All P) (ap (λ k. take i fs ++ k ∷ []) e ∙ sym (one_more fs i f l)) (All-append P (take i fs) (f ∷ []) h (All-cons P f [] p (All-nil P)))

pub passed_all : (P : CodeFound → Type 0) (fs : List CodeFound) (i : ℕ) → length fs ≤ i → All P (take i fs) → All P fs
passed_all P fs i l h = subst (All P) (take_all i fs l) h

-- what the test of one solution says
pub plain_by : (levels : List (ℕ × ℕ)) (f : CodeFound) (plain r b : Bool) → r ≡ binds_nothing levels f.solution.bindings → beq r plain ≡ b → is_plain_as levels plain f ≡ b
plain_by levels f true true b e h = sym e ∙ h
plain_by levels f true false b e h = sym e ∙ h
plain_by levels f false true b e h = ap not (sym e) ∙ h
plain_by levels f false false b e h = ap not (sym e) ∙ h

-- the first place at which the test holds
abbrev pub IsFirst : List (ℕ × ℕ) → Bool → List CodeFound → ℕ → Type 0
IsFirst levels plain fs i = (i < length fs) × All (λ (f : CodeFound). is_plain_as levels plain f ≡ false) (take i fs) × ((d : CodeFound) → is_plain_as levels plain (get_or fs i d) ≡ true)

pub first_moved : (levels ls : List (ℕ × ℕ)) (plain : Bool) (fs ds : List CodeFound) (i : ℕ) → ls ≡ levels → ds ≡ fs → IsFirst ls plain ds i → IsFirst levels plain fs i
first_moved levels ls plain fs ds i e d h = subst (λ xs. IsFirst levels plain xs i) d (subst (λ ks. IsFirst ks plain ds i) e h)

pub none_moved :
    (levels ls : List (ℕ × ℕ)) (plain : Bool) (fs ds : List CodeFound) → ls ≡ levels → ds ≡ fs
    → All (λ (f : CodeFound). is_plain_as ls plain f ≡ false) ds
    → All (λ (f : CodeFound). is_plain_as levels plain f ≡ false) fs
none_moved levels ls plain fs ds e d h = subst (All (λ (f : CodeFound). is_plain_as levels plain f ≡ false)) d (subst (λ ks. All (λ (f : CodeFound). is_plain_as ks plain f ≡ false) ds) e h)

-- whether anything is found, by the test
pub none_there : (n : ℕ) → eqb n 0 ≡ true → n ≡ 0
none_there n e = eqb-true n 0 e

pub some_there : (n : ℕ) → eqb n 0 ≡ false → 0 < n
some_there zero e = let d : true ≡ false = e in cc
some_there (suc n) e = omega arith
