-- What projections compute: the members of tuples.
use Rattle.std.proofs.Common.{◌≡◌, ℕ, zero, suc, ◌+◌, ◌-◌, ◌<◌, ◌≤◌, List, [], ◌∷◌, ◌++◌, length, map, get_or, Some, refl, sym, ◌∙◌, ap, arith, subst, inl, inr}
use Rattle.std.specs.Prelude.{◌↔◌, slice_get, Contains}
use Rattle.std.specs.List.{range_with_len, flat_map}
use Rattle.std.proofs.lemmas.List.{length-map}
use Rattle.std.proofs.lemmas.Simd.{map-map}
use Rattle.std.proofs.lemmas.List.Elements.{Contains-append_cases, Contains-append_left, All-contains}
use Rattle.std.proofs.lemmas.Option.{none-some, get_or_from_slice_get}
use Rattle.dps_terms.specs.declared.Sym.{Sym}
use Rattle.dps_signature.specs.declared.SymKind.TheVariants.{Destructor}
use Rattle.dps_terms.specs.Tree.{var, Tree, Trees, leaf, app, none, more, trees}
use Rattle.dps_terms.specs.Replace.{replace, substitute, substitute_all, variables_to}
use Rattle.dps_signature.specs.Signature.{Signature, HasShape, shapes}
use Rattle.dps_signature.specs.Names.{tuple_name, projection_name, symbol_named}
use Rattle.dps_terms.proofs.Arguments.{replace_trees}
use Rattle.dps_theory.specs.Theory.{Rule, Theory, HasRule}
use Rattle.dps_theory.specs.Judging.{root_of}
use Rattle.dps_theory.specs.Projections.{symbol_with, tuple_of, projection_rule, projections_of, rules_for, projections}
use Rattle.dps_theory.specs.Conditions.{AreCheckable, HasNoProjection}
use Rattle.dps_theory.specs.Evaluation.{Evaluates, EvaluateAll, Reduces, reduced, no_terms, a_term}
use Rattle.dps_theory.specs.LawsOfEvaluation.{ProjectionsGiveMembers}
use Rattle.dps_theory.proofs.Faults.{listed_there}
use Rattle.dps_theory.proofs.FormsOfTerms.{destructor_value, first_evaluates, none_evaluate, reduces_by}
use Rattle.dps_theory.proofs.Projecting.{length_range}
use Rattle.dps_theory.proofs.TupleRules.{IsProjection, is_projection, destructor, root_number, projection_form, same_projection}

-- elements of lists that are made of others
of_range : (a n k : ℕ) → k < n → slice_get (range_with_len a n) k ≡ Some (a + k)
of_range a zero k l = absurd (omega arith)
of_range a (suc n) zero l = ap (λ j. Some j) (omega arith)
of_range a (suc n) (suc k) l = of_range (a + 1) n k (omega arith) ∙ ap (λ j. Some j) (omega arith)

of_map : {X Y : Type 0} (f : X → Y) (xs : List X) (k : ℕ) (x : X) → slice_get xs k ≡ Some x → slice_get (map f xs) k ≡ Some (f x)
of_map f [] k x e = absurd (none-some x e)
of_map f (y ∷ xs) zero x e = let d : y ≡ x = cc in ap (λ z. Some (f z)) d
of_map f (y ∷ xs) (suc k) x e = of_map f xs k x e

of_first : {X : Type 0} (xs ys : List X) (k : ℕ) (x : X) → slice_get xs k ≡ Some x → slice_get (xs ++ ys) k ≡ Some x
of_first [] ys k x e = absurd (none-some x e)
of_first (y ∷ xs) ys zero x e = e
of_first (y ∷ xs) ys (suc k) x e = of_first xs ys k x e

of_second : {X : Type 0} (xs ys : List X) (k : ℕ) (x : X) → slice_get ys k ≡ Some x → (l : ℕ) × (slice_get (xs ++ ys) l ≡ Some x)
of_second [] ys k x e = (k, e)
of_second (y ∷ xs) ys k x e = let h = of_second xs ys k x e in (suc h.0, h.1)

of_flat_map : {X Y : Type 0} (f : X → List Y) (xs : List X) (j l : ℕ) (x : X) (y : Y) → slice_get xs j ≡ Some x → slice_get (f x) l ≡ Some y → (k : ℕ) × (slice_get (flat_map f xs) k ≡ Some y)
of_flat_map f [] j l x y e d = absurd (none-some x e)
of_flat_map f (z ∷ xs) zero l x y e d =
    let same : z ≡ x = cc in (l, of_first (f z) (flat_map f xs) l y (ap (λ s. slice_get (f s) l) same ∙ d))
of_flat_map f (z ∷ xs) (suc j) l x y e d = let h = of_flat_map f xs j l x y e d in of_second (f z) (flat_map f xs) h.0 y h.1

-- a list from its elements, numbered from a on
numbered_list : {X : Type 0} (z : ℕ → X) (xs : List X) (a n : ℕ) → length xs ≡ n → ((j : ℕ) (x : X) → slice_get xs j ≡ Some x → z (a + j) ≡ x) → map z (range_with_len a n) ≡ xs
numbered_list z [] a zero e h = refl
numbered_list z [] a (suc n) e h = absurd (omega (arith, e))
numbered_list z (x ∷ xs) a zero e h = absurd (omega (arith, e))
numbered_list z (x ∷ xs) a (suc n) e h =
    let first : z a ≡ x = ap z (omega arith) ∙ h 0 x refl in
    let rest = numbered_list z xs (a + 1) n (omega (arith, e)) (λ j y d. ap z (omega arith) ∙ h (suc j) y d) in
    λ i. first i ∷ rest i

-- an instance of the tuple of variables
tuple_instance : (z : ℕ → Tree) (f : Sym) (n : ℕ) → substitute z (tuple_of f n) ≡ app f (trees (map z (range_with_len 1 n)))
tuple_instance z f n =
    ap (app f) (
    replace_trees (variables_to z) (map (λ i. leaf (var i)) (range_with_len 1 n))
    ∙ ap trees (map-map (replace (variables_to z)) (λ i. leaf (var i)) (range_with_len 1 n))
    )

module _ (signature : Signature) (rules : List Rule) (n f i g : ℕ) (checkable : AreCheckable signature rules) (low : 2 ≤ n) (high : n ≤ 8) (tuple : symbol_named signature (tuple_name n) ≡ Some f) (place_low : 1 ≤ i) (place_high : i ≤ n) (named : symbol_named signature (projection_name i n) ≡ Some g) where
  abbrev all : Theory
  all = record { shapes = shapes signature; rules = projections signature ++ rules }

  abbrev tuple_symbol : Sym
  tuple_symbol = record { number = f }

  abbrev projection : Sym
  projection = record { number = g }

  abbrev own : Rule
  own = projection_rule signature tuple_symbol n i

  abbrev own_is : IsProjection signature own
  own_is = record { n = n; f = f; i = i; low = low; high = high; tuple = tuple; place_low = place_low; place_high = place_high; is = refl }

  symbol_is : symbol_with signature (projection_name i n) ≡ projection
  symbol_is =
      let d = destructor signature checkable.projections_there own own_is in
      let same : Some d.0 ≡ Some g = sym d.1 ∙ named in
      let number : d.0 ≡ g = cc in
      root_number signature checkable.projections_there own own_is ∙ ap (λ k. let s : Sym = record { number = k } in s) number

  shape_is : HasShape (shapes signature) Destructor projection 1
  shape_is =
      let d = destructor signature checkable.projections_there own own_is in
      let same : Some d.0 ≡ Some g = sym d.1 ∙ named in
      let number : d.0 ≡ g = cc in subst (λ k. HasShape (shapes signature) Destructor (record { number = k }) 1) number d.2

  -- the rule is there
  own_rules : rules_for signature n (Some f) ≡ projections_of signature n
  own_rules = ap (rules_for signature n) (sym tuple)

  own_listed : Contains (projections signature) own
  own_listed =
      let at : slice_get (range_with_len 1 n) (i - 1) ≡ Some i = of_range 1 n (i - 1) (omega arith) ∙ ap (λ j. Some j) (omega arith) in
      let in_own = of_map (projection_rule signature tuple_symbol n) (range_with_len 1 n) (i - 1) i at in
      let there = ap (λ l. slice_get l (i - 1)) (sym own_rules) ∙ in_own in
      let length_at : slice_get (range_with_len 2 7) (n - 2) ≡ Some n = of_range 2 7 (n - 2) (omega arith) ∙ ap (λ j. Some j) (omega arith) in
      let h = of_flat_map (projections_of signature) (range_with_len 2 7) (n - 2) (i - 1) n own length_at there in
      listed_there (projections signature) h.0 own h.1

  listed : HasRule all own
  listed = Contains-append_left (projections signature) rules own own_listed

  -- each rule with this root is that one
  root_is : (r : Rule) (ps : Trees) → r.left ≡ app projection ps → root_of own.left ≡ root_of r.left
  root_is r ps e = ap (λ s. Some s) symbol_is ∙ ap root_of (sym e)

  only_rule : (r : Rule) (ps : Trees) → HasRule all r → r.left ≡ app projection ps → own ≡ r
  only_rule r ps h e =
      elim (Contains-append_cases (projections signature) rules r h) [
        | inl o ↦
            let d = is_projection signature r o in
            let left : app (symbol_with signature (projection_name d.i d.n)) (more (tuple_of (record { number = d.f }) d.n) none) ≡ app projection ps = ap (λ (q : Rule). q.left) (sym d.is) ∙ e in
            let root : symbol_with signature (projection_name d.i d.n) ≡ projection = cc in
            same_projection signature checkable.projections_there own r own_is d (symbol_is ∙ sym root)
        | inr o ↦ absurd (All-contains (λ (p : Rule). root_of p.left ≡ root_of r.left → ⊥) (projections signature) own (All-contains (HasNoProjection signature) rules r checkable.no_projection o) own_listed (root_is r ps e))
      ]

  module _ (t v : Tree) where
    abbrev IsMember : Type 0
    IsMember = (members : List Tree) × (length members ≡ n) × Evaluates all t (app tuple_symbol (trees members)) × (slice_get members (i - 1) ≡ Some v)

    member_of : (w : Tree) (vs : Trees) → vs ≡ more w none → Evaluates all t w → Reduces all projection vs v → IsMember
    member_of w vs is_one e r =
        let same = only_rule r.rule r.patterns r.listed r.left in
        let left : app (symbol_with signature (projection_name i n)) (more (tuple_of tuple_symbol n) none) ≡ app projection r.patterns = ap (λ (q : Rule). q.left) same ∙ r.left in
        let patterns : more (tuple_of tuple_symbol n) none ≡ r.patterns = cc in
        let matched : more (substitute r.by (tuple_of tuple_symbol n)) none ≡ more w none = ap (substitute_all r.by) patterns ∙ r.matched ∙ is_one in
        let value : substitute r.by (tuple_of tuple_symbol n) ≡ w = cc in
        let tuple_is : w ≡ app tuple_symbol (trees (map r.by (range_with_len 1 n))) = sym value ∙ tuple_instance r.by tuple_symbol n in
        let right : r.by i ≡ v = ap (λ (q : Rule). substitute r.by q.right) same ∙ r.right in
        let at : slice_get (range_with_len 1 n) (i - 1) ≡ Some i = of_range 1 n (i - 1) (omega arith) ∙ ap (λ j. Some j) (omega arith) in (
          map r.by (range_with_len 1 n),
          length-map (range_with_len 1 n) r.by ∙ length_range 1 n,
          subst (Evaluates all t) tuple_is e,
          of_map r.by (range_with_len 1 n) (i - 1) i at ∙ ap (λ s. Some s) right,
        )

    gives_member : Evaluates all (app projection (more t none)) v → IsMember
    gives_member e =
        let d = destructor_value all projection (more t none) v shape_is e in
        let p = first_evaluates all t none d.0 d.1 in
        let last = none_evaluate all p.1 p.4 in
        member_of p.0 d.0 (p.2 ∙ ap (more p.0) last) p.3 d.2

    member_given : IsMember → Evaluates all (app projection (more t none)) v
    member_given h =
        let members = h.0 in
        let z : ℕ → Tree = λ k. get_or members (k - 1) v in
        let at : (j : ℕ) (x : Tree) → slice_get members j ≡ Some x → z (1 + j) ≡ x = λ j x d. ap (λ k. get_or members k v) (omega arith) ∙ get_or_from_slice_get members j x v d in
        let tuple_is = numbered_list z members 1 n h.1 at in
        let left : substitute z own.left ≡ app projection (more (app tuple_symbol (trees members)) none) = (λ k. app (symbol_is k) (more ((tuple_instance z tuple_symbol n ∙ ap (λ l. app tuple_symbol (trees l)) tuple_is) k) none)) in
        let right : z i ≡ v = get_or_from_slice_get members (i - 1) v v h.3 in
        reduced (more (app tuple_symbol (trees members)) none) shape_is (a_term h.2 no_terms)
        (subst (Reduces all projection (more (app tuple_symbol (trees members)) none)) right
        (reduces_by all projection (more (app tuple_symbol (trees members)) none) own listed (projection_form signature checkable.projections_there own own_is).root z left))

pub projections_give_members : ProjectionsGiveMembers
projections_give_members = λ signature rules n f i g t v checkable low high tuple place_low place_high named. (
  gives_member signature rules n f i g checkable low high tuple place_low place_high named t v,
  member_given signature rules n f i g checkable low high tuple place_low place_high named t v,
)
