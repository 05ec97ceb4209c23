-- Where each channel is a declared name, it is one of the signature's.
use Rattle.std.proofs.Common.{◌≡◌, ℕ, zero, suc, ◌+◌, ◌<◌, Bool, true, false, cond, List, [], ◌∷◌, ◌++◌, length, refl, sym, subst, arith}
use Rattle.std.specs.Prelude.{Option, Some, None, slice_get, unwrap_or, is_some, not, ⊤}
use Rattle.std.proofs.lemmas.Option.{slice_get_within, none-some}
use Rattle.dps_terms.specs.declared.PublicName.TheVariants.{Declared, At}
use Rattle.dps_terms.specs.Tree.{Leaf, public, private, var, ax, entry, rigid, Tree, leaf, app}
use Rattle.dps_signature.specs.Signature.{Name, Signature}
use Rattle.dps_elab.specs.Expansion.{private_numbers, declared_leaf, declared_name}
use Rattle.dps_elab.specs.Meaning.{first_such, is_no_channel}
use Rattle.dps_elab.specs.declared.found.ChannelUse.{ChannelUse}
use Rattle.dps_elab.proofs.Scoped.{IsScopedLeaf, IsScopedTerm}

-- each of them is a declared name
abbrev pub AreNamed : List ChannelUse → Type 0
AreNamed [] = ⊤
AreNamed (c ∷ cs) = (is_some c.name ≡ true) × AreNamed cs

pub named_first : (cs ds : List ChannelUse) → AreNamed (cs ++ ds) → AreNamed cs
named_first [] ds h = tt
named_first (c ∷ cs) ds h = (h.0, named_first cs ds h.1)

pub named_last : (cs ds : List ChannelUse) → AreNamed (cs ++ ds) → AreNamed ds
named_last [] ds h = h
named_last (c ∷ cs) ds h = named_last cs ds h.1

-- where none is the first that is no declared name
found_none :
    (c : ChannelUse) (cs : List ChannelUse) (b : Bool) → is_some c.name ≡ b → cond (not b) (Some c) (first_such is_no_channel cs) ≡ None
    → (is_some c.name ≡ true) × (first_such is_no_channel cs ≡ None)
found_none c cs true e h = (e, h)
found_none c cs false e h = absurd (none-some c (sym h))

pub all_named : (cs : List ChannelUse) → first_such is_no_channel cs ≡ None → AreNamed cs
all_named [] h = tt
all_named (c ∷ cs) h = let k = found_none c cs (is_some c.name) refl h in (k.0, all_named cs k.1)

-- the numbers of the private names are numbers of names
at_name : (n m count : ℕ) (b : Bool) (rest : List ℕ) → ((i : ℕ) → slice_get rest i ≡ Some m → m < n + 1 + count) → (i : ℕ) → slice_get (cond b (n ∷ rest) rest) i ≡ Some m → m < n + (1 + count)
at_name n m count true rest h zero e = let same : n ≡ m = cc in omega arith
at_name n m count true rest h (suc i) e = let l = h i e in omega arith
at_name n m count false rest h i e = let l = h i e in omega arith

private_within : (n : ℕ) (names : List Name) (i m : ℕ) → slice_get (private_numbers n names) i ≡ Some m → m < n + length names
private_within n [] i m e = absurd (none-some m e)
private_within n (x ∷ names) i m e =
    let l = at_name n m (length names) x.is_private (private_numbers (n + 1) names) (λ j. private_within (n + 1) names j m) i e in omega arith

module _ (signature : Signature) where
  abbrev names : List ℕ
  names = private_numbers 0 signature.names

  number_within : (o : Option ℕ) → ((m : ℕ) → o ≡ Some m → m < length signature.names) → is_some o ≡ true → unwrap_or o 0 < length signature.names
  number_within (Some m) h e = h m refl
  number_within None h e = absurd (cc)

  leaf_within : (xs : List ℕ) (l : Leaf) (m : ℕ) → IsScopedLeaf signature xs l → declared_leaf names l ≡ Some m → m < length signature.names
  leaf_within xs (public (Declared n)) m h e =
      let same : n ≡ m = cc in subst (λ (k : ℕ). k < length signature.names) same (slice_get_within signature.names n _ h.1)
  leaf_within xs (public (At k)) m h e = absurd h
  leaf_within xs (private i) m h e = let l = private_within 0 signature.names i m e in omega arith
  leaf_within xs (var y) m h e = absurd (none-some m e)
  leaf_within xs (ax j) m h e = absurd h
  leaf_within xs (entry i) m h e = absurd h
  leaf_within xs (rigid k) m h e = absurd h

  name_within : (xs : List ℕ) (t : Tree) (m : ℕ) → IsScopedTerm signature xs t → declared_name names t ≡ Some m → m < length signature.names
  name_within xs (leaf l) m h e = leaf_within xs l m h e
  name_within xs (app f ts) m h e = absurd (none-some m e)

  -- the number of a channel that is a declared name
  pub channel_within : (xs : List ℕ) (t : Tree) → IsScopedTerm signature xs t → is_some (declared_name names t) ≡ true → unwrap_or (declared_name names t) 0 < length signature.names
  channel_within xs t h e = number_within (declared_name names t) (λ m. name_within xs t m h) e
