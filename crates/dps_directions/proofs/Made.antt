-- What listed solutions are made of.
use Rattle.std.proofs.Common.{◌≡◌, ℕ, List, ◌⊎◌, inl, inr, Bool, true, false, Option, None, Some, refl, sym, ◌∙◌, ap, subst, Contains}
use Rattle.std.specs.Prelude.{slice_get, ⊤}
use Rattle.dps_terms.specs.declared.Sym.{Sym}
use Rattle.dps_terms.specs.declared.PublicName.TheVariants.{Declared, At}
use Rattle.dps_terms.specs.Tree.{Leaf, public, private, var, ax, entry, rigid, Tree, StandsIn}
use Rattle.dps_signature.specs.Signature.{Shape, Name, Signature, shapes, HasArity, IsPublic}
use Rattle.dps_terms.specs.Kinds.{IsBuiltOf, AnySymbol}
use Rattle.dps_signature.specs.Kinds.{IsLeafOver}
use Rattle.dps_terms.proofs.Building.{leaf_meets, built_of}
use Rattle.dps_unify.specs.Order.{level_of}
use Rattle.dps_solver.specs.Scene.{Scene, Ask}
use Rattle.dps_solver.specs.declared.scene.Target.{Target}
use Rattle.dps_solver.specs.Search.{GeneralSolution}
use Rattle.dps_directions.specs.Shapes.{IsListedFor}
use Rattle.dps_directions.specs.Made.{AreGiven, HoldsNoRigidName, NoneAreRigid, AllAreOver}
use Rattle.dps_directions.proofs.Steps.{IsOutcome}
use Rattle.dps_directions.proofs.Following.{same_number, first_in, rest_in}
use Rattle.dps_directions.proofs.Beginning.{levels_cases, start_is_kept}
use Rattle.dps_directions.proofs.Ways.{ways_keep}
use Rattle.dps_directions.proofs.Reaching.{listed_have}
use Rattle.dps_directions.proofs.Outcomes.{binding_at, binding_else, theta_at}
use Rattle.dps_directions.proofs.Respecting.{unmapped}
use Rattle.dps_directions.proofs.OfKinds.{Kinds, AreKept, way_keeps, start_keeps}

-- no rigid name
abbrev NotRigid : Leaf → Type 0
NotRigid (rigid k) = ⊥
NotRigid (public n) = ⊤
NotRigid (private n) = ⊤
NotRigid (var n) = ⊤
NotRigid (ax n) = ⊤
NotRigid (entry n) = ⊤

rigid_or_not : (x : Leaf) → NotRigid x ⊎ ¬ NotRigid x
rigid_or_not (rigid k) = inr (λ h. h)
rigid_or_not (public n) = inl tt
rigid_or_not (private n) = inl tt
rigid_or_not (var n) = inl tt
rigid_or_not (ax n) = inl tt
rigid_or_not (entry n) = inl tt

without_rigid : Kinds NotRigid AnySymbol
without_rigid = record {
  variables = λ y. tt;
  entries = λ i. tt;
  leaf_or_not = rigid_or_not;
  symbol_or_not = λ f n. inl tt;
  good = public (At 0);
  is_good = tt;
}

not_rigid : (t : Tree) → HoldsNoRigidName t → (x : Leaf) → StandsIn x t → NotRigid x
not_rigid t h (rigid k) c = h k c
not_rigid t h (public n) c = tt
not_rigid t h (private n) c = tt
not_rigid t h (var n) c = tt
not_rigid t h (ax n) c = tt
not_rigid t h (entry n) c = tt

built_without : (t : Tree) → HoldsNoRigidName t → IsBuiltOf NotRigid AnySymbol t
built_without t h = built_of NotRigid AnySymbol t (not_rigid t h) (λ f ts c. tt)

holds_none : (t : Tree) → IsBuiltOf NotRigid AnySymbol t → HoldsNoRigidName t
holds_none t h k c = leaf_meets NotRigid AnySymbol h c

-- over a signature
arity_or_not : (known : List Shape) (f : Sym) (n : ℕ) → HasArity known f n ⊎ ¬ HasArity known f n
arity_or_not known f n = at (slice_get known f.number) refl
  where
    other : (s t : Shape) → Some s ≡ Some t → s.arity ≡ t.arity
    other s t e = let d : s ≡ t = cc in ap (λ (q : Shape). q.arity) d

    at : (o : Option Shape) → slice_get known f.number ≡ o → HasArity known f n ⊎ ¬ HasArity known f n
    at None e = inr (λ h. let d : None ≡ Some (record { kind = h.0; arity = n }) = sym e ∙ h.1 in cc)
    at (Some s) e = elim (same_number s.arity n) [
      | inl d ↦ inl (s.kind, e ∙ (λ i. Some (record { kind = s.kind; arity = d i })))
      | inr d ↦ inr (λ h. d (other s (record { kind = h.0; arity = n }) (sym e ∙ h.1)))
    ]

public_or_not : (signature : Signature) (n : ℕ) → IsPublic signature n ⊎ ¬ IsPublic signature n
public_or_not signature n = at (slice_get signature.names n) refl
  where
    other : (s t : Name) → Some s ≡ Some t → s.is_private ≡ t.is_private
    other s t e = let d : s ≡ t = cc in ap (λ (q : Name). q.is_private) d

    settled : (s : Name) (b : Bool) → s.is_private ≡ b → slice_get signature.names n ≡ Some s → IsPublic signature n ⊎ ¬ IsPublic signature n
    settled s false d e = inl (s.name, e ∙ (λ i. Some (record { name = s.name; is_private = d i })))
    settled s true d e = inr (λ h. let f : true ≡ false = sym d ∙ other s (record { name = h.0; is_private = false }) (sym e ∙ h.1) in cc)

    at : (o : Option Name) → slice_get signature.names n ≡ o → IsPublic signature n ⊎ ¬ IsPublic signature n
    at None e = inr (λ h. let d : None ≡ Some (record { name = h.0; is_private = false }) = sym e ∙ h.1 in cc)
    at (Some s) e = settled s s.is_private refl e

leaf_over_or_not : (signature : Signature) (x : Leaf) → IsLeafOver signature x ⊎ ¬ IsLeafOver signature x
leaf_over_or_not signature (public (Declared n)) = public_or_not signature n
leaf_over_or_not signature (public (At k)) = inl tt
leaf_over_or_not signature (private n) = inl tt
leaf_over_or_not signature (var n) = inl tt
leaf_over_or_not signature (ax n) = inl tt
leaf_over_or_not signature (entry n) = inl tt
leaf_over_or_not signature (rigid n) = inl tt

over_signature : (signature : Signature) → Kinds (IsLeafOver signature) (HasArity (shapes signature))
over_signature signature = record {
  variables = λ y. tt;
  entries = λ i. tt;
  leaf_or_not = leaf_over_or_not signature;
  symbol_or_not = arity_or_not (shapes signature);
  good = public (At 0);
  is_good = tt;
}

-- what is given is listed
module _ (L : Leaf → Type 0) (S : Sym → ℕ → Type 0) (kinds : Kinds L S) (names : ℕ → Type 0) (scene : Scene) (ask : Ask) (solution : GeneralSolution)
    (h : IsListedFor names scene ask solution) (given : AreGiven (IsBuiltOf L S) scene ask) where
  kept : (o : IsOutcome scene ask solution) × AreKept L S kinds o.last
  kept =
      listed_have names scene ask h.valid h.fits (start_is_kept names scene ask) (ways_keep names scene ask) (AreKept L S kinds)
      (λ u ps mgu newly. start_keeps L S kinds scene ask given u ps mgu)
      (λ b c z rest w b_kept has is among leads.
      way_keeps L S kinds scene ask given b z rest has (first_in scene ask b z rest b_kept is) (λ y k. rest_in scene ask b z rest b_kept is y k) c leads)
      solution h.finds h.listed

  pub bindings_are : (x : ℕ) → IsBuiltOf L S (solution.bindings x)
  bindings_are x = elim (levels_cases (level_of scene.system.levels x)) [
    | inl e ↦ subst (IsBuiltOf L S) (sym (binding_else scene ask solution kept.0 x e)) (kinds.variables x)
    | inr e ↦ subst (IsBuiltOf L S) (sym (binding_at scene ask solution kept.0 x e.0 e.1)) (kept.1.trees x)
  ]

  pub answers_are : (t : Tree) → Contains solution.answers t → IsBuiltOf L S t
  answers_are t c =
      let z = unmapped (λ (q : Target). kept.0.last.trees q.name) ask.targets t (subst (λ ts. Contains ts t) (ap (λ (q : GeneralSolution). q.answers) kept.0.is) c) in
      subst (IsBuiltOf L S) (sym z.2) (kept.1.trees z.0.name)

  pub theta_is : (x : ℕ) → IsBuiltOf L S (solution.theta x)
  theta_is x = subst (IsBuiltOf L S) (sym (theta_at scene ask solution kept.0 x)) (kept.1.theta x)

pub none_are_rigid : (names : ℕ → Type 0) (scene : Scene) (ask : Ask) → NoneAreRigid names scene ask
none_are_rigid names scene ask = λ solution h given.
    let built : AreGiven (IsBuiltOf NotRigid AnySymbol) scene ask = record {
      values = λ v c. built_without v (given.values v c);
      equations = λ p c. let both = given.equations p c in (built_without p.0 both.0, built_without p.1 both.1);
      targets = λ z c. built_without z.term (given.targets z c);
    } in (
      λ x l k e c. holds_none (solution.bindings x) (bindings_are NotRigid AnySymbol without_rigid names scene ask solution h built x) k c,
      record {
        answers = λ t c. holds_none t (answers_are NotRigid AnySymbol without_rigid names scene ask solution h built t c);
        theta = λ x. holds_none (solution.theta x) (theta_is NotRigid AnySymbol without_rigid names scene ask solution h built x);
      },
    )

pub all_are_over : (names : ℕ → Type 0) (scene : Scene) (ask : Ask) → AllAreOver names scene ask
all_are_over names scene ask = λ signature solution h given.
    let kinds = over_signature signature in (
      bindings_are (IsLeafOver signature) (HasArity (shapes signature)) kinds names scene ask solution h given,
      record {
        answers = answers_are (IsLeafOver signature) (HasArity (shapes signature)) kinds names scene ask solution h given;
        theta = theta_is (IsLeafOver signature) (HasArity (shapes signature)) kinds names scene ask solution h given;
      },
    )
