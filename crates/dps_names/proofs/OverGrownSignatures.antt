-- What is over a signature and so many locals is over a signature that grew from it, and over more locals.
use Rattle.std.proofs.Common.{◌≤◌, ◌<◌, ℕ, ◌+◌, false, List, [], ◌∷◌, arith}
use Rattle.std.proofs.lemmas.List.Elements.{All-weaker}
use Rattle.dps_terms.specs.declared.PublicName.{PublicName}
use Rattle.dps_terms.specs.declared.PublicName.TheVariants.{Declared, At}
use Rattle.dps_terms.specs.Tree.{Leaf, public, private, var, ax, entry, rigid, Tree, Trees, leaf, app, none as no_trees, more as more_trees, count}
use Rattle.dps_signature.specs.Signature.{Signature, HasArity, shapes}
use Rattle.dps_terms.specs.Kinds.{AreBuiltOf}
use Rattle.dps_signature.specs.Kinds.{IsSourceName}
use Rattle.dps_scopes.specs.declared.body.Step.{Step}
use Rattle.dps_scopes.specs.declared.body.Step.TheVariants.{Project, Test}
use Rattle.dps_names.specs.Program.{Written, Definition, Body, Bodies, nil, parallel, choice, copies, fresh, input, output, conditional, bind, call, none, more}
use Rattle.dps_names.specs.WellFormed.{IsWrittenLeaf, IsTermOver, AreStepsOver, locals_behind, IsBodyOver, AreBodiesOver}
use Rattle.dps_names.proofs.SignatureGrowth.{Grows, kept_arity, kept_there}

name_lasts : (s t : Signature) → Grows s t → (a : PublicName) → IsSourceName s a → IsSourceName t a
name_lasts s t g (Declared n) h = kept_there s t g false n h
name_lasts s t g (At k) h = h

leaf_lasts : (s t : Signature) (n m : ℕ) → Grows s t → n ≤ m → (x : Leaf) → IsWrittenLeaf s n x → IsWrittenLeaf t m x
leaf_lasts s t n m g l (public a) h = name_lasts s t g a h
leaf_lasts s t n m g l (private i) h = tt
leaf_lasts s t n m g l (var i) h = let below : i < n = h in omega (arith, below)
leaf_lasts s t n m g l (ax j) h = h
leaf_lasts s t n m g l (entry j) h = h
leaf_lasts s t n m g l (rigid j) h = h

mutual
  pub term_lasts : (s t : Signature) (n m : ℕ) → Grows s t → n ≤ m → (u : Tree) → IsTermOver s n u → IsTermOver t m u
  term_lasts s t n m g l (leaf x) h = leaf_lasts s t n m g l x h
  term_lasts s t n m g l (app f us) h = (kept_arity s t g f (count us) h.0, terms_last s t n m g l us h.1)

  terms_last : (s t : Signature) (n m : ℕ) → Grows s t → n ≤ m → (us : Trees) → AreBuiltOf (IsWrittenLeaf s n) (HasArity (shapes s)) us → AreBuiltOf (IsWrittenLeaf t m) (HasArity (shapes t)) us
  terms_last s t n m g l no_trees h = tt
  terms_last s t n m g l (more_trees u us) h = (term_lasts s t n m g l u h.0, terms_last s t n m g l us h.1)

-- more locals before the steps are more behind them
pub behind_le : (n m : ℕ) (steps : List Step) → n ≤ m → locals_behind n steps ≤ locals_behind m steps
behind_le n m [] l = l
behind_le n m (Project f i ∷ steps) l = behind_le (n + 1) (m + 1) steps (omega arith)
behind_le n m (Test i w ∷ steps) l = behind_le n m steps l

pub steps_last : (s t : Signature) (n m : ℕ) → Grows s t → n ≤ m → (steps : List Step) → AreStepsOver s n steps → AreStepsOver t m steps
steps_last s t n m g l [] h = tt
steps_last s t n m g l (Project f i ∷ steps) h = (kept_arity s t g f 1 h.0, (let below : i < n = h.1 in omega (arith, below)), steps_last s t (n + 1) (m + 1) g (omega arith) steps h.2)
steps_last s t n m g l (Test i w ∷ steps) h = ((let below : i < n = h.0 in omega (arith, below)), term_lasts s t n m g l w.tree h.1, steps_last s t n m g l steps h.2)

module _ (s t : Signature) (definitions : List Definition) (g : Grows s t) where
  mutual
    pub body_lasts : (n m : ℕ) → n ≤ m → (p : Body) → IsBodyOver s definitions n p → IsBodyOver t definitions m p
    body_lasts n m l nil h = tt
    body_lasts n m l (parallel ps) h = bodies_last n m l ps h
    body_lasts n m l (choice ps) h = bodies_last n m l ps h
    body_lasts n m l (copies k p) h = body_lasts n m l p h
    body_lasts n m l (fresh p) h = body_lasts (n + 1) (m + 1) (omega arith) p h
    body_lasts n m l (input c steps p) h =
        let more : n + 1 ≤ m + 1 = omega arith in (
          term_lasts s t n m g l c.tree h.0,
          steps_last s t (n + 1) (m + 1) g more steps h.1,
          body_lasts (locals_behind (n + 1) steps) (locals_behind (m + 1) steps)
              (behind_le (n + 1) (m + 1) steps more) p h.2,
        )
    body_lasts n m l (output c u p) h = (term_lasts s t n m g l c.tree h.0, term_lasts s t n m g l u.tree h.1, body_lasts n m l p h.2)
    body_lasts n m l (conditional u v p q) h = (term_lasts s t n m g l u.tree h.0, term_lasts s t n m g l v.tree h.1, body_lasts n m l p h.2, body_lasts n m l q h.3)
    body_lasts n m l (bind u steps p q) h =
        let more : n + 1 ≤ m + 1 = omega arith in (
          term_lasts s t n m g l u.tree h.0,
          steps_last s t (n + 1) (m + 1) g more steps h.1,
          body_lasts (locals_behind (n + 1) steps) (locals_behind (m + 1) steps)
              (behind_le (n + 1) (m + 1) steps more) p h.2,
          body_lasts n m l q h.3,
        )
    body_lasts n m l (call k arguments) h = (All-weaker (λ (w : Written). IsTermOver s n w.tree) (λ (w : Written). IsTermOver t m w.tree) (λ w k. term_lasts s t n m g l w.tree k) arguments h.0, h.1)

    bodies_last : (n m : ℕ) → n ≤ m → (ps : Bodies) → AreBodiesOver s definitions n ps → AreBodiesOver t definitions m ps
    bodies_last n m l none h = tt
    bodies_last n m l (more p ps) h = (body_lasts n m l p h.0, bodies_last n m l ps h.1)
