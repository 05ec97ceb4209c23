-- The sides of a lawful problem of outputs alone.
use Rattle.std.proofs.Common.{◌≡◌, ℕ, zero, suc, List, [], ◌∷◌, refl, sym, ◌∙◌, ap, subst, map, Some, inl, inr}
use Rattle.std.specs.Prelude.{All, slice_get}
use Rattle.std.proofs.lemmas.Option.{none-some}
use Rattle.std.proofs.lemmas.List.Elements.{All-head, All-tail}
use Rattle.dps_branch.specs.declared.Side.{Side}
use Rattle.dps_branch.specs.declared.Side.TheVariants.{Left, Right}
use Rattle.dps_terms.specs.declared.Sym.{Sym}
use Rattle.dps_terms.specs.declared.PublicName.{PublicName}
use Rattle.dps_terms.specs.declared.PublicName.TheVariants.{Declared, At}
use Rattle.dps_signature.specs.declared.SymKind.{SymKind}
use Rattle.dps_signature.specs.declared.SymKind.TheVariants.{Constructor}
use Rattle.dps_terms.specs.Tree.{Leaf, public, private, var, ax, entry, rigid, Tree, StandsIn}
use Rattle.dps_signature.specs.Signature.{Signature, Symbol, Shape, HasShape, HasArity, shapes, shape_of}
use Rattle.dps_terms.specs.Kinds.{IsFrameLeaf}
use Rattle.dps_signature.specs.Kinds.{IsSourceLeaf, IsSourceName, IsSourceTerm, IsLeafOver, IsDeclared}
use Rattle.dps_terms.proofs.Building.{built_subterm, leaf_meets, built_of}
use Rattle.dps_process.specs.Process.{Process, nil, parallel, choice, conditional, bind, input, output, IsClosedProcess, EachTerm}
use Rattle.dps_process.specs.Problem.{Problem, side_of, IsLawful}
use Rattle.dps_process.proofs.Values.{IsMessageOver}
use Rattle.dps_tree.specs.Plain.{HasOutputsAlone, IsPlain}
use Rattle.dps_tree.proofs.PlainParts.{IsPlainPart}

kinds_there : (symbols : List Symbol) (i : ℕ) (s : Shape) → All (λ (a : Symbol). a.kind ≡ Constructor) symbols → slice_get (map shape_of symbols) i ≡ Some s → s.kind ≡ Constructor
kinds_there [] i s h e = absurd (none-some s e)
kinds_there (a ∷ symbols) zero s h e =
    let same : shape_of a ≡ s = cc in ap (λ (t : Shape). t.kind) (sym same) ∙ All-head (λ (b : Symbol). b.kind ≡ Constructor) a symbols h
kinds_there (a ∷ symbols) (suc i) s h e = kinds_there symbols i s (All-tail (λ (b : Symbol). b.kind ≡ Constructor) a symbols h) e

module _ (signature : Signature) (constructors : All (λ (a : Symbol). a.kind ≡ Constructor) signature.symbols) where
  symbol_builds : (f : Sym) (n : ℕ) → HasArity (shapes signature) f n → HasShape (shapes signature) Constructor f n
  symbol_builds f n h =
      let kind = kinds_there signature.symbols f.number (record { kind = h.0; arity = n }) constructors h.1 in
      h.1 ∙ ap (λ (k : SymKind). Some (record { kind = k; arity = n })) kind

  frame_leaf : (x : Leaf) → IsSourceLeaf signature x → ((n : ℕ) → ¬ (x ≡ var n)) → IsFrameLeaf x
  frame_leaf (public n) h v = tt
  frame_leaf (private n) h v = tt
  frame_leaf (var n) h v = absurd (v n refl)
  frame_leaf (ax n) h v = h
  frame_leaf (entry n) h v = h
  frame_leaf (rigid n) h v = h

  source_name : (n : PublicName) → IsSourceName signature n → IsDeclared signature n
  source_name (Declared n) h = h
  source_name (At k) h = absurd h

  leaf_over : (x : Leaf) → IsSourceLeaf signature x → IsLeafOver signature x
  leaf_over (public n) h = source_name n h
  leaf_over (private n) h = tt
  leaf_over (var n) h = tt
  leaf_over (ax n) h = tt
  leaf_over (entry n) h = tt
  leaf_over (rigid n) h = tt

  message : (u : Tree) → IsSourceTerm signature u → ((n : ℕ) → ¬ StandsIn (var n) u) → IsMessageOver signature u
  message u h v = (
    built_of IsFrameLeaf (HasShape (shapes signature) Constructor) u
        (λ x k. frame_leaf x (leaf_meets (IsSourceLeaf signature) (HasArity (shapes signature)) h k) (λ n e. v n (subst (λ (l : Leaf). StandsIn l u) e k)))
        (λ f ts k. symbol_builds f _ (built_subterm (IsSourceLeaf signature) (HasArity (shapes signature)) h k).0),
    built_of (IsLeafOver signature) (HasArity (shapes signature)) u
        (λ x k. leaf_over x (leaf_meets (IsSourceLeaf signature) (HasArity (shapes signature)) h k))
        (λ f ts k. (built_subterm (IsSourceLeaf signature) (HasArity (shapes signature)) h k).0),
  )

  plain_part : (p : Process) → HasOutputsAlone signature p → EachTerm (IsSourceTerm signature) p → IsClosedProcess p → IsPlainPart signature p
  plain_part nil h t c = tt
  plain_part (parallel p q) h t c = (plain_part p h.0 t.0 (λ x f. c x (inl f)), plain_part q h.1 t.1 (λ x f. c x (inr f)))
  plain_part (choice p q) h t c = h
  plain_part (conditional u v p q) h t c = h
  plain_part (bind x u p q) h t c = h
  plain_part (input d x p) h t c = h
  plain_part (output d u p) h t c = (h.0, message u t.0 (λ n s. c n (inl s)), plain_part p h.1 t.1 (λ x f. c x (inr f)))

pub plain_side : (problem : Problem) (side : Side) → IsLawful problem → IsPlain problem → IsPlainPart problem.signature (side_of problem side)
plain_side problem Left l h = plain_part problem.signature h.constructors problem.left h.left l.left.terms l.left.closed
plain_side problem Right l h = plain_part problem.signature h.constructors problem.right h.right l.right.terms l.right.closed
