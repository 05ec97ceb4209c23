-- The leaves of instances.
use Rattle.std.proofs.Common.{◌≡◌, refl, inl, inr}
use Rattle.std.specs.Prelude.{◌⊎◌}
use Rattle.dps_terms.specs.declared.Sym.{Sym}
use Rattle.dps_terms.specs.Tree.{Leaf, Tree, Trees, leaf, app, none, more, StandsIn, IsAmong, itself, below, in_first, in_rest}
use Rattle.dps_terms.specs.Replace.{replace, replace_all}

-- where a leaf of an instance comes from
mutual
  pub leaf_of_instance : (f : Leaf → Tree) (l : Leaf) (t : Tree) → StandsIn l (replace f t) → (z : Leaf) × StandsIn z t × StandsIn l (f z)
  leaf_of_instance f l (leaf z) h = (z, itself, h)
  leaf_of_instance f l (app g ts) h = let d = leaf_among f l ts (inside h) in (d.0, below d.1, d.2)
    where
      inside : {g : Sym} {us : Trees} → StandsIn l (app g us) → IsAmong (leaf l) us
      inside (below k) = k

  leaf_among : (f : Leaf → Tree) (l : Leaf) (ts : Trees) → IsAmong (leaf l) (replace_all f ts) → (z : Leaf) × IsAmong (leaf z) ts × StandsIn l (f z)
  leaf_among f l none h = elim h [ ]
  leaf_among f l (more t ts) h = elim (parted h) [
    | inl k ↦ let d = leaf_of_instance f l t k in (d.0, in_first d.1, d.2)
    | inr k ↦ let d = leaf_among f l ts k in (d.0, in_rest d.1, d.2)
  ]
    where
      parted : {u : Tree} {us : Trees} → IsAmong (leaf l) (more u us) → StandsIn l u ⊎ IsAmong (leaf l) us
      parted (in_first k) = inl k
      parted (in_rest k) = inr k

pub alone : (l k : Leaf) → StandsIn l (leaf k) → l ≡ k
alone l k itself = refl
