-- Terms and locals over variables that are bound around them.
use Rattle.std.proofs.Common.{◌≡◌, ℕ, zero, suc, ◌+◌, ◌<◌, ◌⊎◌, inl, inr, List, [], ◌∷◌, ◌++◌, length, refl, arith}
use Rattle.std.specs.Prelude.{All, ⊤}
use Rattle.std.proofs.lemmas.List.{length-append}
use Rattle.std.proofs.lemmas.List.Elements.{All-head, All-tail}
use Rattle.dps_terms.specs.Tree.{Leaf, public, private, var, ax, entry, rigid, Tree, app, trees, StandsIn}
use Rattle.dps_terms.specs.Replace.{variables_to}
use Rattle.dps_terms.specs.declared.Sym.{Sym}
use Rattle.dps_signature.specs.Signature.{Signature, HasArity, shapes}
use Rattle.dps_terms.specs.Kinds.{IsBuiltOf}
use Rattle.dps_signature.specs.Kinds.{IsSourceName, IsSourceLeaf, IsSourceTerm}
use Rattle.dps_terms.proofs.Building.{built_instance, built_weaker, leaf_meets}
use Rattle.dps_names.specs.Program.{Written}
use Rattle.dps_names.specs.WellFormed.{IsWrittenLeaf, IsTermOver}
use Rattle.dps_elab.specs.Expansion.{Value, made, value_at, values_of, tree_in}

-- the variable is one of those that are bound
abbrev pub IsAround : List ℕ → ℕ → Type 0
IsAround [] y = ⊥
IsAround (x ∷ xs) y = (y ≡ x) ⊎ IsAround xs y

module _ (signature : Signature) where
  -- a term of a file whose variables are bound around it
  abbrev pub IsScopedLeaf : List ℕ → Leaf → Type 0
  IsScopedLeaf xs (public a) = IsSourceName signature a
  IsScopedLeaf xs (private i) = ⊤
  IsScopedLeaf xs (var y) = IsAround xs y
  IsScopedLeaf xs (ax j) = ⊥
  IsScopedLeaf xs (entry i) = ⊥
  IsScopedLeaf xs (rigid k) = ⊥

  abbrev pub IsScopedTerm : List ℕ → Tree → Type 0
  IsScopedTerm xs t = IsBuiltOf (IsScopedLeaf xs) (HasArity (shapes signature)) t

  source_leaf : (xs : List ℕ) (l : Leaf) → IsScopedLeaf xs l → IsSourceLeaf signature l
  source_leaf xs (public a) h = h
  source_leaf xs (private i) h = tt
  source_leaf xs (var y) h = tt
  source_leaf xs (ax j) h = h
  source_leaf xs (entry i) h = h
  source_leaf xs (rigid k) h = h

  pub scoped_source : (xs : List ℕ) (t : Tree) → IsScopedTerm xs t → IsSourceTerm signature t
  scoped_source xs t h = built_weaker (IsScopedLeaf xs) (HasArity (shapes signature)) (IsSourceLeaf signature) t h (source_leaf xs)

  pub scoped_variable : (xs : List ℕ) (t : Tree) (y : ℕ) → IsScopedTerm xs t → StandsIn (var y) t → IsAround xs y
  scoped_variable xs t y h k = leaf_meets (IsScopedLeaf xs) (HasArity (shapes signature)) {x = var y} {t = t} h k

  wider_leaf : (x : ℕ) (xs : List ℕ) (l : Leaf) → IsScopedLeaf xs l → IsScopedLeaf (x ∷ xs) l
  wider_leaf x xs (public a) h = h
  wider_leaf x xs (private i) h = tt
  wider_leaf x xs (var y) h = inr h
  wider_leaf x xs (ax j) h = h
  wider_leaf x xs (entry i) h = h
  wider_leaf x xs (rigid k) h = h

  wider_term : (x : ℕ) (xs : List ℕ) (t : Tree) → IsScopedTerm xs t → IsScopedTerm (x ∷ xs) t
  wider_term x xs t h = built_weaker (IsScopedLeaf xs) (HasArity (shapes signature)) (IsScopedLeaf (x ∷ xs)) t h (wider_leaf x xs)

  -- so many locals, each a term over the variables that are bound
  pub record AreScoped (xs : List ℕ) (n : ℕ) (locals : List Value) : Type 0 where
    pub count : length locals ≡ n
    pub each : (i : ℕ) → i < n → IsScopedTerm xs (value_at locals i).tree

  pub no_locals : (xs : List ℕ) → AreScoped xs 0 []
  no_locals xs = record { count = refl; each = λ i h. absurd (omega arith) }

  pub wider_locals : (x : ℕ) (xs : List ℕ) (n : ℕ) (locals : List Value) → AreScoped xs n locals → AreScoped (x ∷ xs) n locals
  wider_locals x xs n locals h = record { count = h.count; each = λ i l. wider_term x xs (value_at locals i).tree (h.each i l) }

  one_more :
      (xs : List ℕ) (locals : List Value) (v : Value) → ((i : ℕ) → i < length locals → IsScopedTerm xs (value_at locals i).tree) → IsScopedTerm xs v.tree
      → (i : ℕ) → i < length locals + 1 → IsScopedTerm xs (value_at (locals ++ v ∷ []) i).tree
  one_more xs [] v h k zero l = k
  one_more xs [] v h k (suc i) l = absurd (omega arith)
  one_more xs (w ∷ locals) v h k zero l = h 0 (omega arith)
  one_more xs (w ∷ locals) v h k (suc i) l = one_more xs locals v (λ j m. h (suc j) (omega arith)) k i (omega arith)

  -- one local behind the others
  pub more_locals : (xs : List ℕ) (n : ℕ) (locals : List Value) (v : Value) → AreScoped xs n locals → IsScopedTerm xs v.tree → AreScoped xs (n + 1) (locals ++ v ∷ [])
  more_locals xs n locals v h k = record {
    count = omega (arith, h.count, length-append locals (v ∷ []));
    each = λ i l. one_more xs locals v (λ j m. h.each j (omega (arith, h.count))) k i (omega (arith, h.count));
  }

  -- a variable that is bound here, as a local
  pub bound_local : (x : ℕ) (xs : List ℕ) (n : ℕ) (locals : List Value) → AreScoped xs n locals → AreScoped (x ∷ xs) (n + 1) (locals ++ made (var x) ∷ [])
  bound_local x xs n locals h = more_locals (x ∷ xs) n locals (made (var x)) (wider_locals x xs n locals h) (inl refl)

  -- a new name, as a local
  pub named_local : (k : ℕ) (xs : List ℕ) (n : ℕ) (locals : List Value) → AreScoped xs n locals → AreScoped xs (n + 1) (locals ++ made (private k) ∷ [])
  named_local k xs n locals h = more_locals xs n locals (made (private k)) h tt

  module _ (xs : List ℕ) (n : ℕ) (locals : List Value) (h : AreScoped xs n locals) where
    instance_leaf : (l : Leaf) → IsWrittenLeaf signature n l → IsScopedTerm xs (variables_to (λ i. (value_at locals i).tree) l)
    instance_leaf (public a) k = k
    instance_leaf (private i) k = tt
    instance_leaf (var i) k = h.each i k
    instance_leaf (ax j) k = absurd k
    instance_leaf (entry i) k = absurd k
    instance_leaf (rigid j) k = absurd k

    -- a written term with what its locals stand for
    pub scoped_instance : (t : Tree) → IsTermOver signature n t → IsScopedTerm xs (tree_in locals t)
    scoped_instance t k =
        built_instance (IsWrittenLeaf signature n) (HasArity (shapes signature)) (IsScopedLeaf xs) (variables_to (λ i. (value_at locals i).tree)) t k
        (λ l m. instance_leaf l)

    length-values_of : (ws : List Written) → length (values_of locals ws) ≡ length ws
    length-values_of [] = refl
    length-values_of (w ∷ ws) = omega (arith, length-values_of ws)

    each_argument : (ws : List Written) → All (λ w. IsTermOver signature n w.tree) ws → (i : ℕ) → i < length ws → IsScopedTerm xs (value_at (values_of locals ws) i).tree
    each_argument [] k i l = absurd (omega arith)
    each_argument (w ∷ ws) k zero l = scoped_instance w.tree (All-head (λ (v : Written). IsTermOver signature n v.tree) w ws k)
    each_argument (w ∷ ws) k (suc i) l = each_argument ws (All-tail (λ (v : Written). IsTermOver signature n v.tree) w ws k) i (omega arith)

    -- the arguments of a call, as the locals of what is called
    pub scoped_arguments : (ws : List Written) → All (λ w. IsTermOver signature n w.tree) ws → AreScoped xs (length ws) (values_of locals ws)
    scoped_arguments ws k = record { count = length-values_of ws; each = each_argument ws k }

  -- a projection of a local
  pub scoped_projection : (f : Sym) (xs : List ℕ) (t : Tree) → HasArity (shapes signature) f 1 → IsScopedTerm xs t → IsScopedTerm xs (app f (trees (t ∷ [])))
  scoped_projection f xs t a h = (a, (h, tt))
