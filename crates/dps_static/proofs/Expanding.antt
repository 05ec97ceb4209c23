-- Ways over kept values, and what they become as recipes over the frame.
use Rattle.std.proofs.Common.{◌≡◌, ℕ, zero, suc, ◌<◌, List, length, get_or, sym, ◌∙◌, subst, arith}
use Rattle.std.proofs.lemmas.Option.{slice_get-get_or}
use Rattle.dps_terms.specs.declared.Sym.{Sym}
use Rattle.dps_signature.specs.declared.SymKind.TheVariants.{Constructor, Destructor}
use Rattle.dps_terms.specs.Tree.{Leaf, public, private, var, ax, entry, rigid, Tree, Trees, leaf, app, none, more, count}
use Rattle.dps_terms.specs.Replace.{replace_all, handles_to, in_frame, entries_to, put_entries}
use Rattle.dps_signature.specs.Signature.{HasShape}
use Rattle.dps_terms.specs.Kinds.{AreBuiltOf, AnySymbol, IsNoVariable, IsKnowledgeLeaf, NoRigidName}
use Rattle.dps_signature.specs.Kinds.{IsConstructorTerm, AreConstructorTerms}
use Rattle.dps_terms.proofs.Building.{count-replace_all}
use Rattle.dps_theory.specs.Theory.{Theory}
use Rattle.dps_theory.specs.Evaluation.{Evaluates, EvaluateAll, Reduces, named, constructed, reduced, no_terms, a_term}
use Rattle.dps_theory.specs.Frames.{HasValue}
use Rattle.dps_static.specs.Ways.{AnyName, IsWay}
use Rattle.dps_static.specs.Saturation.{AreValuesOf}
use Rattle.dps_static.proofs.Ways.{numbered-there}

module _ (theory : Theory) (frame recipes kept : List Tree) (values : AreValuesOf theory frame recipes kept) where
  expanded_entry : (k : ℕ) → k < length kept → Evaluates theory (in_frame frame (put_entries recipes (leaf (entry (suc k))))) (put_entries kept (leaf (entry (suc k))))
  expanded_entry k h =
      let same = values.same_length in
      let r = get_or recipes k (leaf (entry (suc k))) in
      let v = get_or kept k (leaf (entry (suc k))) in
      let at_r = slice_get-get_or recipes k (leaf (entry (suc k))) (omega arith) in
      let at_v = slice_get-get_or kept k (leaf (entry (suc k))) h in
      let from : put_entries recipes (leaf (entry (suc k))) ≡ r = numbered-there recipes k r (leaf (entry (suc k))) at_r in
      let to : put_entries kept (leaf (entry (suc k))) ≡ v = numbered-there kept k v (leaf (entry (suc k))) at_v in
      subst (λ u. Evaluates theory (in_frame frame (put_entries recipes (leaf (entry (suc k))))) u) (sym to)
      (subst (λ t. Evaluates theory (in_frame frame t) v) (sym from) (values.values k r v at_r at_v))

  expanded_leaf : (x : Leaf) → IsWay (length kept) (leaf x) → Evaluates theory (in_frame frame (put_entries recipes (leaf x))) (put_entries kept (leaf x))
  expanded_leaf (public a) h = named tt
  expanded_leaf (private n) h = absurd h.1
  expanded_leaf (var n) h = absurd h.0
  expanded_leaf (ax j) h = absurd h.1
  expanded_leaf (rigid n) h = absurd h.1
  expanded_leaf (entry zero) h = absurd (let l = h.1.0 in omega (arith, l))
  expanded_leaf (entry (suc k)) h = let l = h.1.1 in expanded_entry k (omega (arith, l))

  same_count : (ws : Trees) → count ws ≡ count (replace_all (handles_to frame) (replace_all (entries_to recipes) ws))
  same_count ws = sym (count-replace_all (handles_to frame) (replace_all (entries_to recipes) ws) ∙ count-replace_all (entries_to recipes) ws)

  -- a way of constructors, over recipes, has in the frame the value that it builds from the kept trees
  mutual
    pub expanded_value : (w : Tree) → IsWay (length kept) w → IsConstructorTerm theory.shapes w → HasValue theory frame (put_entries recipes w) (put_entries kept w)
    expanded_value (leaf x) h c = expanded_leaf x h
    expanded_value (app f ws) h c = constructed (subst (HasShape theory.shapes Constructor f) (same_count ws) c.0) (expanded_values ws h.0.1 h.1.1 c.1)

    pub expanded_values :
        (ws : Trees) → AreBuiltOf IsNoVariable AnySymbol ws → AreBuiltOf (IsKnowledgeLeaf AnyName NoRigidName (length kept)) AnySymbol ws
        → AreConstructorTerms theory.shapes ws
        → EvaluateAll theory (replace_all (handles_to frame) (replace_all (entries_to recipes) ws)) (replace_all (entries_to kept) ws)
    expanded_values none h k c = no_terms
    expanded_values (more w ws) h k c = a_term (expanded_value w (h.0, k.0) c.0) (expanded_values ws h.1 k.1 c.1)

  -- a destructor over such ways
  pub expanded_root :
      (g : Sym) (ws : Trees) (v : Tree) → HasShape theory.shapes Destructor g (count ws) → AreBuiltOf IsNoVariable AnySymbol ws
      → AreBuiltOf (IsKnowledgeLeaf AnyName NoRigidName (length kept)) AnySymbol ws → AreConstructorTerms theory.shapes ws
      → Reduces theory g (replace_all (entries_to kept) ws) v → HasValue theory frame (put_entries recipes (app g ws)) v
  expanded_root g ws v shape h k c r =
      reduced (replace_all (entries_to kept) ws) (subst (HasShape theory.shapes Destructor g) (same_count ws) shape) (expanded_values ws h k c) r
