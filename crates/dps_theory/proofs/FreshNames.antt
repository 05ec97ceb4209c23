-- Names of the attacker's own that stand nowhere, and which declared names are public.
use Rattle.std.proofs.Common.{◌≡◌, ℕ, zero, suc, ◌+◌, ◌<◌, ◌≤◌, List, [], ◌∷◌, refl, sym, ◌∙◌, ap, inl, inr, arith}
use Rattle.std.specs.Prelude.{◌⊎◌, slice_get, unwrap_or, Option, Some, None, Bool, true, false, ⊤, All}
use Rattle.std.specs.Option.{option_map}
use Rattle.dps_terms.specs.declared.PublicName.{PublicName}
use Rattle.dps_terms.specs.declared.PublicName.TheVariants.{Declared, At}
use Rattle.dps_terms.specs.Tree.{Leaf, public, private, var, ax, entry, rigid, Tree, Trees, leaf, app, none, more}
use Rattle.dps_terms.specs.Replace.{numbered}
use Rattle.dps_signature.specs.Signature.{Signature, Name, IsPublic}
use Rattle.dps_terms.specs.Kinds.{IsBuiltOf, AreBuiltOf, AnySymbol}

-- an attacker's name below the bound
abbrev AtBelow : ℕ → PublicName → Type 0
AtBelow b (At k) = k < b
AtBelow b (Declared n) = ⊤

abbrev pub LeafBelow : ℕ → Leaf → Type 0
LeafBelow b (public n) = AtBelow b n
LeafBelow b x = ⊤

abbrev pub Below : ℕ → Tree → Type 0
Below b t = IsBuiltOf (LeafBelow b) AnySymbol t

abbrev name_bound : PublicName → ℕ
name_bound (At k) = suc k
name_bound (Declared n) = 0

abbrev leaf_bound : Leaf → ℕ
leaf_bound (public n) = name_bound n
leaf_bound x = 0

abbrev mutual
  pub bound : Tree → ℕ
  bound (leaf x) = leaf_bound x
  bound (app f ts) = bounds ts

  bounds : Trees → ℕ
  bounds none = 0
  bounds (more t ts) = bound t + bounds ts

name_below : (n : PublicName) (b : ℕ) → name_bound n ≤ b → AtBelow b n
name_below (At k) b h = omega arith
name_below (Declared n) b h = tt

leaf_below : (x : Leaf) (b : ℕ) → leaf_bound x ≤ b → LeafBelow b x
leaf_below (public n) b h = name_below n b h
leaf_below (private n) b h = tt
leaf_below (var n) b h = tt
leaf_below (ax n) b h = tt
leaf_below (entry n) b h = tt
leaf_below (rigid n) b h = tt

mutual
  pub is_below : (t : Tree) (b : ℕ) → bound t ≤ b → Below b t
  is_below (leaf x) b h = leaf_below x b h
  is_below (app f ts) b h = (tt, are_below ts b h)

  are_below : (ts : Trees) (b : ℕ) → bounds ts ≤ b → AreBuiltOf (LeafBelow b) AnySymbol ts
  are_below none b h = tt
  are_below (more t ts) b h = (is_below t b (omega arith), are_below ts b (omega arith))

abbrev pub frame_bound : List Tree → ℕ
frame_bound [] = 0
frame_bound (t ∷ ts) = bound t + frame_bound ts

all_more : (P : Tree → Type 0) (t : Tree) (ts : List Tree) → P t → All P ts → All P (t ∷ ts)
all_more P t ts p h zero d l = p
all_more P t ts p h (suc i) d l = h i d (omega arith)

pub frame_below : (ts : List Tree) (b : ℕ) → frame_bound ts ≤ b → All (Below b) ts
frame_below [] b h = λ i d l. absurd (omega arith)
frame_below (t ∷ ts) b h = all_more (Below b) t ts (is_below t b (omega arith)) (frame_below ts b (omega arith))

all_get : (P : Tree → Type 0) (ts : List Tree) (k : ℕ) (other : Tree) → All P ts → P other → P (unwrap_or (slice_get ts k) other)
all_get P [] k other h o = o
all_get P (t ∷ ts) zero other h o = h zero t (omega arith)
all_get P (t ∷ ts) (suc k) other h o = all_get P ts k other (λ i d l. h (suc i) d (omega arith)) o

pub all_numbered : (P : Tree → Type 0) (ts : List Tree) (j : ℕ) (other : Tree) → All P ts → P other → P (numbered ts j other)
all_numbered P ts zero other h o = o
all_numbered P ts (suc k) other h o = all_get P ts k other h o

pub split_at : (b k : ℕ) → (k < b) ⊎ ((n : ℕ) × (k ≡ b + n))
split_at zero k = inr (k, omega arith)
split_at (suc b) zero = inl (omega arith)
split_at (suc b) (suc k) = elim (split_at b k) [ inl l ↦ inl (omega arith) | inr p ↦ inr (p.0, (let e = p.1 in omega arith)) ]

public_name : (signature : Signature) (n : ℕ) (name : Name) (b : Bool) → name.is_private ≡ b → slice_get signature.names n ≡ Some name → IsPublic signature n ⊎ (¬ IsPublic signature n)
public_name signature n name false f e = inl (name.name, e ∙ ap (λ (b : Bool). Some (record { name = name.name; is_private = b })) f)
public_name signature n name true f e = inr (λ p.
    let g : ◌≡◌ {A = Option Bool} (Some name.is_private) (Some false) = ap (option_map (λ (m : Name). m.is_private)) (sym e ∙ p.1) in
    let h : ◌≡◌ {A = Option Bool} (Some true) (Some false) = ap Some (sym f) ∙ g in cc)

public_in : (signature : Signature) (n : ℕ) (o : Option Name) → slice_get signature.names n ≡ o → IsPublic signature n ⊎ (¬ IsPublic signature n)
public_in signature n None e = inr (λ p. let f : ◌≡◌ {A = Option Name} None (Some (record { name = p.0; is_private = false })) = sym e ∙ p.1 in cc)
public_in signature n (Some name) e = public_name signature n name name.is_private refl e

pub is_public : (signature : Signature) (n : ℕ) → IsPublic signature n ⊎ (¬ IsPublic signature n)
is_public signature n = public_in signature n (slice_get signature.names n) refl
