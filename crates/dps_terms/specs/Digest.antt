-- A number of a tree, by which most different trees are told apart without a walk.
use Rattle.std.specs.Prelude.{ℕ, ◌+◌, ◌*◌, ◌/◌, ◌%◌, ◌^◌, bit_xor}
use Rattle.dps_terms.specs.declared.PublicName.TheVariants.{Declared, At}
use Rattle.dps_terms.specs.Tree.{Leaf, public, private, var, ax, entry, rigid, Tree, Trees, leaf, app, none, more}

-- one more number in a digest
unfoldable pub mixed : ℕ → ℕ → ℕ
mixed digest next = let found = ((digest * 0x9e3779b97f4a7c15) % 2 ^ 64 + next) % 2 ^ 64 in bit_xor found (found / 2 ^ 32)

-- the kind of the leaf, and its number
abbrev pub leaf_digest : ℕ → Leaf → ℕ
leaf_digest d (public (Declared n)) = mixed (mixed d 1) n
leaf_digest d (public (At n)) = mixed (mixed d 2) n
leaf_digest d (private n) = mixed (mixed d 3) n
leaf_digest d (var n) = mixed (mixed d 4) n
leaf_digest d (ax j) = mixed (mixed d 5) j
leaf_digest d (entry i) = mixed (mixed d 6) i
leaf_digest d (rigid n) = mixed (mixed d 7) n

-- the nodes of the tree in turn, a root before its arguments, in a digest
abbrev mutual
  pub digest_with : ℕ → Tree → ℕ
  digest_with d (leaf x) = leaf_digest d x
  digest_with d (app f ts) = digest_with_all (mixed (mixed d 8) f.number) ts

  pub digest_with_all : ℕ → Trees → ℕ
  digest_with_all d none = d
  digest_with_all d (more t ts) = digest_with_all (digest_with d t) ts

abbrev pub digest : Tree → ℕ
digest t = digest_with 0 t
