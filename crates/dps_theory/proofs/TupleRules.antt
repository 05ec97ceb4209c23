-- The rules of projections make an accepted theory, with rules that are accepted by themselves too.
use Rattle.std.proofs.Common.{◌≡◌, ℕ, zero, suc, ◌+◌, ◌<◌, ◌≤◌, ◌^◌, length-append, List, [], ◌∷◌, ◌++◌, length, map, get_or, Option, Some, None, refl, sym, ◌∙◌, ap}
use Rattle.std.proofs.Common.{arith, ◌⊎◌, inl, inr, subst, unwrap_or, true, nat_eq}
use Rattle.std.specs.Prelude.{slice_get, Contains, All, ◌≢◌}
use Rattle.std.specs.List.{range_with_len, flat_map}
use Rattle.std.specs.Str.{bytes_eq}
use Rattle.std.proofs.lemmas.List.{length-map}
use Rattle.std.proofs.lemmas.List.Elements.{Contains-append_cases, All-contains, Contains-get_or}
use Rattle.std.proofs.lemmas.List.Quantifiers.{position-Some}
use Rattle.std.proofs.lemmas.Option.{none-some, slice_get_within}
use Rattle.std.proofs.lemmas.Bool.{cases_Bool, cases_lt, eqb-true}
use Rattle.dps_terms.specs.declared.Sym.{Sym}
use Rattle.dps_signature.specs.declared.SymKind.TheVariants.{Constructor, Destructor}
use Rattle.dps_terms.specs.Tree.{Leaf, var, Tree, leaf, app, trees, count, IsSubterm, IsAmong, itself, below, in_first, in_rest, strictly}
use Rattle.dps_terms.specs.Replace.{substitute}
use Rattle.dps_signature.specs.Signature.{Symbol, Signature, Shape, HasShape, HasArity, shapes}
use Rattle.dps_signature.specs.Names.{tuple_name, projection_name, symbol_named}
use Rattle.dps_terms.specs.Kinds.{AreBuiltOf, AnyLeaf, AnySymbol}
use Rattle.dps_signature.specs.Kinds.{IsLeafOver}
use Rattle.dps_terms.proofs.Arguments.{count-trees}
use Rattle.dps_theory.specs.Theory.{Rule, Theory, Agree, IsAccepted, IsRuleLeaf, HasDestructorRoot}
use Rattle.dps_theory.specs.Checking.{HasForm}
use Rattle.dps_theory.specs.Judging.{root_of}
use Rattle.dps_theory.specs.Projections.{symbol_with, projection_rule, projections_of, rules_for, projections, HasProjections}
use Rattle.dps_theory.specs.Conditions.{IsRuleOver, IsPlainRule, HasNoProjection, AreCheckable}
use Rattle.dps_theory.specs.Held.{IsKept}
use Rattle.dps_theory.specs.Index.{HasRootBelow}
use Rattle.dps_theory.proofs.Agreeing.{agrees_itself}
use Rattle.dps_theory.proofs.Accepting.{contained}
use Rattle.dps_theory.proofs.Projecting.{length_range}

-- elements of lists that were made of others
in_range : (a n k i : ℕ) → slice_get (range_with_len a n) k ≡ Some i → (a ≤ i) × (i < a + n)
in_range a zero k i e = absurd (none-some i e)
in_range a (suc n) zero i e = let d : a ≡ i = cc in (omega arith, omega arith)
in_range a (suc n) (suc k) i e = let h = in_range (a + 1) n k i e in let low = h.0 in let high = h.1 in (omega arith, omega arith)

in_map : {X Y : Type 0} (f : X → Y) (xs : List X) (k : ℕ) (y : Y) → slice_get (map f xs) k ≡ Some y → (x : X) × (slice_get xs k ≡ Some x) × (y ≡ f x)
in_map f [] k y e = absurd (none-some y e)
in_map f (x ∷ xs) zero y e = let d : f x ≡ y = cc in (x, refl, sym d)
in_map f (x ∷ xs) (suc k) y e = in_map f xs k y e

in_append : {X : Type 0} (xs ys : List X) (k : ℕ) (x : X) → slice_get (xs ++ ys) k ≡ Some x → ((l : ℕ) × (slice_get xs l ≡ Some x)) ⊎ ((l : ℕ) × (slice_get ys l ≡ Some x))
in_append [] ys k x e = inr (k, e)
in_append (y ∷ xs) ys zero x e = inl (0, e)
in_append (y ∷ xs) ys (suc k) x e = elim (in_append xs ys k x e) [ inl h ↦ inl (suc h.0, h.1) | inr h ↦ inr h ]

in_flat_map :
    {X Y : Type 0} (f : X → List Y) (xs : List X) (k : ℕ) (y : Y) → slice_get (flat_map f xs) k ≡ Some y
    → (x : X) × (j : ℕ) × (l : ℕ) × (slice_get xs j ≡ Some x) × (slice_get (f x) l ≡ Some y)
in_flat_map f [] k y e = absurd (none-some y e)
in_flat_map f (x ∷ xs) k y e =
    elim (in_append (f x) (flat_map f xs) k y e) [
      | inl h ↦ (x, 0, h.0, refl, h.1)
      | inr h ↦ let r = in_flat_map f xs h.0 y h.1 in (r.0, suc r.1, r.2, r.3, r.4)
    ]

-- a rule of the i-th projection of the tuples of length n
pub record IsProjection (signature : Signature) (p : Rule) : Type 0 where
  pub n : ℕ
  pub f : ℕ
  pub i : ℕ
  pub low : 2 ≤ n
  pub high : n ≤ 8
  pub tuple : symbol_named signature (tuple_name n) ≡ Some f
  pub place_low : 1 ≤ i
  pub place_high : i ≤ n
  pub is : p ≡ projection_rule signature (record { number = f }) n i

of_length :
    (signature : Signature) (n : ℕ) (p : Rule) (o : Option ℕ) → symbol_named signature (tuple_name n) ≡ o → 2 ≤ n → n ≤ 8 → (l : ℕ)
    → slice_get (rules_for signature n o) l ≡ Some p → IsProjection signature p
of_length signature n p None t low high l e = absurd (none-some p e)
of_length signature n p (Some f) t low high l e =
    let m = in_map (projection_rule signature (record { number = f }) n) (range_with_len 1 n) l p e in
    let r = in_range 1 n l m.0 m.1 in
    let upper = r.1 in
    record { n = n; f = f; i = m.0; low = low; high = high; tuple = t; place_low = r.0; place_high = omega arith; is = m.2 }

pub is_projection : (signature : Signature) (p : Rule) → Contains (projections signature) p → IsProjection signature p
is_projection signature p h =
    let c = contained (projections signature) p h in
    let o = in_flat_map (projections_of signature) (range_with_len 2 7) c.0 p c.1 in
    let r = in_range 2 7 o.1 o.0 o.3 in
    let upper = r.1 in of_length signature o.0 p (symbol_named signature (tuple_name o.0)) refl r.0 (omega arith) o.2 o.4

-- a symbol has one text
no_symbol : Symbol
no_symbol = record { name = []; kind = Constructor; arity = 0 }

pub one_text : (signature : Signature) (s t : List ℕ) (g : ℕ) → symbol_named signature s ≡ Some g → symbol_named signature t ≡ Some g → s ≡ t
one_text signature s t g a b =
    let h = position-Some (λ (o : Symbol). bytes_eq s o.name) signature.symbols g no_symbol a in
    let k = position-Some (λ (o : Symbol). bytes_eq t o.name) signature.symbols g no_symbol b in
    same_bytes s (get_or signature.symbols g no_symbol).name h.1 ∙ sym (same_bytes t (get_or signature.symbols g no_symbol).name k.1)
  where
    same_bytes : (x y : List ℕ) → bytes_eq x y ≡ true → x ≡ y
    same_bytes [] [] e = refl
    same_bytes [] (c ∷ y) e = cc
    same_bytes (a ∷ x) [] e = cc
    same_bytes (a ∷ x) (c ∷ y) e =
        elim (cases_Bool (nat_eq a c)) [
          | inl k ↦ let same : a ≡ c = eqb-true a c k in let rest = same_bytes x y (rw k at e) in λ i. same i ∷ rest i
          | inr k ↦ let d = rw k at e in cc
        ]

-- the variables x1 to xn
variables_built : (L : Leaf → Type 0) (S : Sym → ℕ → Type 0) → ((k : ℕ) → L (var k)) → (ks : List ℕ) → AreBuiltOf L S (trees (map (λ i. leaf (var i)) ks))
variables_built L S h [] = tt
variables_built L S h (k ∷ ks) = (h k, variables_built L S h ks)

tuple_count : (n : ℕ) → count (trees (map (λ i. leaf (var i)) (range_with_len 1 n))) ≡ n
tuple_count n =
    count-trees (map (λ i. leaf (var i)) (range_with_len 1 n)) ∙ length-map (range_with_len 1 n) (λ i. leaf (var i)) ∙ length_range 1 n

variable_among : (a n i : ℕ) → a ≤ i → i < a + n → IsAmong (leaf (var i)) (trees (map (λ k. leaf (var k)) (range_with_len a n)))
variable_among a zero i low high = absurd (omega arith)
variable_among a (suc n) i low high =
    elim (cases_lt a i) [
      | inl l ↦ in_rest (variable_among (a + 1) n i (omega arith) (omega arith))
      | inr l ↦ in_first (let e : i ≡ a = omega arith in subst (λ k. IsSubterm (leaf (var i)) (leaf (var k))) e itself)
    ]

module _ (signature : Signature) (there : HasProjections signature) where
  module _ (p : Rule) (d : IsProjection signature p) where
    pub destructor : (g : ℕ) × (symbol_named signature (projection_name d.i d.n) ≡ Some g) × HasShape (shapes signature) Destructor (record { number = g }) 1
    destructor = there.destructors d.n d.f d.i d.low d.high d.tuple d.place_low d.place_high

    pub root_number : symbol_with signature (projection_name d.i d.n) ≡ record { number = destructor.0 }
    root_number = ap (λ o. let s : Sym = record { number = unwrap_or o 0 } in s) destructor.1

    root_shape : HasShape (shapes signature) Destructor (symbol_with signature (projection_name d.i d.n)) 1
    root_shape = subst (λ s. HasShape (shapes signature) Destructor s 1) (sym root_number) destructor.2

    tuple_shape : HasShape (shapes signature) Constructor (record { number = d.f }) (count (trees (map (λ i. leaf (var i)) (range_with_len 1 d.n))))
    tuple_shape = subst (λ k. HasShape (shapes signature) Constructor (record { number = d.f }) k) (sym (tuple_count d.n)) (there.tuples d.n d.f d.low d.high d.tuple)

    pub projection_form : HasForm (shapes signature) p
    projection_form = subst (HasForm (shapes signature)) (sym d.is) (record {
      root = root_shape;
      arguments = ((tuple_shape, variables_built AnyLeaf (HasShape (shapes signature) Constructor) (λ k. tt) (range_with_len 1 d.n)), tt);
      constructed = tt;
      bounded = inl (strictly (in_first (below (variable_among 1 d.n d.i d.place_low (let h = d.place_high in omega arith)))));
    })

    pub projection_over : IsRuleOver signature p
    projection_over = subst (IsRuleOver signature) (sym d.is) (
      (
        (Destructor, root_shape),
        (((Constructor, tuple_shape), variables_built (IsLeafOver signature) (HasArity (shapes signature)) (λ k. tt) (range_with_len 1 d.n)), tt),
      ),
      tt,
    )

    pub projection_plain : IsPlainRule p
    projection_plain = subst IsPlainRule (sym d.is)
        ((tt, ((tt, variables_built IsRuleLeaf AnySymbol (λ k. tt) (range_with_len 1 d.n)), tt)), tt)

  -- projections with one root are one rule
  pub same_projection :
      (p q : Rule) (d : IsProjection signature p) (e : IsProjection signature q)
      → symbol_with signature (projection_name d.i d.n) ≡ symbol_with signature (projection_name e.i e.n) → p ≡ q
  same_projection p q d e h =
      let g = destructor p d in
      let k = destructor q e in
      let numbers : g.0 ≡ k.0 = ap (λ s. s.number) (sym (root_number p d) ∙ h ∙ root_number q e) in
      let text : projection_name d.i d.n ≡ projection_name e.i e.n = one_text signature (projection_name d.i d.n) (projection_name e.i e.n) k.0 (g.1 ∙ ap (λ o. Some o) numbers) k.1 in
      let digit_i : 48 + d.i ≡ 48 + e.i = ap (λ l. get_or l 5 0) text in
      let digit_n : 48 + d.n ≡ 48 + e.n = ap (λ l. get_or l 7 0) text in
      let same_i : d.i ≡ e.i = omega arith in
      let same_n : d.n ≡ e.n = omega arith in
      let tuples : Some d.f ≡ Some e.f = sym d.tuple ∙ ap (λ n. symbol_named signature (tuple_name n)) same_n ∙ e.tuple in
      let same_f : d.f ≡ e.f = cc in
      d.is ∙ (λ j. projection_rule signature (record { number = same_f j }) (same_n j) (same_i j)) ∙ sym e.is

  pub projections_agree : (p q : Rule) → IsProjection signature p → IsProjection signature q → Agree p q
  projections_agree p q d e y z h =
      let lefts = ap (λ (r : Rule). substitute y r.left) (sym d.is) ∙ h ∙ ap (λ (r : Rule). substitute z r.left) e.is in
      let roots : symbol_with signature (projection_name d.i d.n) ≡ symbol_with signature (projection_name e.i e.n) = cc in
      let same = same_projection p q d e roots in
      subst (Agree p) same (agrees_itself p (projection_form p d).bounded) y z h

-- rules with different roots agree
apart_agree : (known : List Shape) (r q : Rule) → HasDestructorRoot known r.left → HasDestructorRoot known q.left → root_of r.left ≢ root_of q.left → Agree r q
apart_agree known r q a b other y z e = absurd (go r.left q.left a b other e)
  where
    go : (t u : Tree) → HasDestructorRoot known t → HasDestructorRoot known u → root_of t ≢ root_of u → substitute y t ≡ substitute z u → ⊥
    go (leaf x) u a b h e = a
    go (app f ts) (leaf x) a b h e = b
    go (app f ts) (app g us) a b h e = let k : f ≡ g = cc in h (ap (λ s. Some s) k)

agree_sym : (r q : Rule) → Agree r q → Agree q r
agree_sym r q h y z e = sym (h z y (sym e))

module _ (signature : Signature) (rules : List Rule) (known : List Shape) (same_known : known ≡ shapes signature) (h : AreCheckable signature rules) (accepted : IsAccepted (record { shapes = known; rules = rules })) where
  own : IsAccepted (record { shapes = shapes signature; rules = rules })
  own = subst (λ s. IsAccepted (record { shapes = s; rules = rules })) same_known accepted

  form_cases : (r : Rule) → Contains (projections signature ++ rules) r → HasForm (shapes signature) r
  form_cases r k =
      elim (Contains-append_cases (projections signature) rules r k) [
        | inl o ↦ projection_form signature h.projections_there r (is_projection signature r o)
        | inr o ↦ record { root = own.root r o; arguments = own.arguments r o; constructed = own.constructed r o; bounded = own.bounded r o }
      ]

  cross : (p r : Rule) → Contains (projections signature) p → Contains rules r → Agree p r
  cross p r a b =
      apart_agree (shapes signature) p r (projection_form signature h.projections_there p (is_projection signature p a)).root (own.root r b)
      (All-contains (λ q. root_of q.left ≢ root_of r.left) (projections signature) p (All-contains (HasNoProjection signature) rules r h.no_projection b) a)

  agree_cases : (r q : Rule) → Contains (projections signature ++ rules) r → Contains (projections signature ++ rules) q → Agree r q
  agree_cases r q k l =
      elim (Contains-append_cases (projections signature) rules r k) [
        | inl a ↦ elim (Contains-append_cases (projections signature) rules q l) [
          | inl b ↦ projections_agree signature h.projections_there r q (is_projection signature r a) (is_projection signature q b)
          | inr b ↦ cross r q a b
        ]
        | inr a ↦ elim (Contains-append_cases (projections signature) rules q l) [
          | inl b ↦ agree_sym q r (cross q r b a)
          | inr b ↦ own.agreeing r q a b
        ]
      ]

  plain_cases : (r : Rule) → Contains (projections signature ++ rules) r → IsPlainRule r
  plain_cases r k =
      elim (Contains-append_cases (projections signature) rules r k) [
        | inl o ↦ projection_plain signature h.projections_there r (is_projection signature r o)
        | inr o ↦ All-contains IsPlainRule rules r h.plain o
      ]

  pub over_cases : (r : Rule) → Contains (projections signature ++ rules) r → IsRuleOver signature r
  over_cases r k =
      elim (Contains-append_cases (projections signature) rules r k) [
        | inl o ↦ projection_over signature h.projections_there r (is_projection signature r o)
        | inr o ↦ All-contains (IsRuleOver signature) rules r h.over o
      ]

  pub kept_with_projections : IsKept (record { shapes = shapes signature; rules = projections signature ++ rules })
  kept_with_projections = record {
    accepted = record {
      root = λ r k. (form_cases r k).root;
      arguments = λ r k. (form_cases r k).arguments;
      constructed = λ r k. (form_cases r k).constructed;
      bounded = λ r k. (form_cases r k).bounded;
      agreeing = agree_cases;
    };
    plain = record { left = λ r k. (plain_cases r k).0; right = λ r k. (plain_cases r k).1 };
  }

-- there are few projections
length_of : (signature : Signature) (n : ℕ) (o : Option ℕ) → length (rules_for signature n o) ≤ n
length_of signature n None = omega arith
length_of signature n (Some f) =
    omega (arith, length-map (range_with_len 1 n) (projection_rule signature (record { number = f }) n), length_range 1 n)

abbrev upper : ℕ → ℕ → ℕ
upper a zero = 0
upper a (suc k) = a + upper (a + 1) k

few_from : (signature : Signature) (a k : ℕ) → length (flat_map (projections_of signature) (range_with_len a k)) ≤ upper a k
few_from signature a zero = omega arith
few_from signature a (suc k) =
    omega (
      arith,
      length-append (projections_of signature a) (flat_map (projections_of signature) (range_with_len (a + 1) k)),
      length_of signature a (symbol_named signature (tuple_name a)),
      few_from signature (a + 1) k,
    )

pub few_projections : (signature : Signature) → length (projections signature) ≤ 35
few_projections signature = few_from signature 2 7

pub few_rules : (signature : Signature) (all made rules : List Rule) → made ≡ projections signature → all ≡ made ++ rules → length rules < 2 ^ 24 → length all < 2 ^ 25
few_rules signature all made rules m a h =
    omega (arith, ap length a, length-append made rules, ap length m, few_projections signature)

-- each root is a symbol of the theory
root_below : (known : List Shape) (t : Tree) → HasDestructorRoot known t → HasRootBelow (length known) t
root_below known (leaf x) h = h
root_below known (app f ts) h = slice_get_within known f.number _ h

pub roots_below : (theory : Theory) → IsAccepted theory → All (λ r. HasRootBelow (length theory.shapes) r.left) theory.rules
roots_below theory a k d l = root_below theory.shapes (get_or theory.rules k d).left (a.root (get_or theory.rules k d) (Contains-get_or theory.rules k d l))
