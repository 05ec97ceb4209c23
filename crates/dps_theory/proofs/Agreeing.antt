-- A bounded rule agrees with itself.
use Rattle.std.proofs.Common.{◌≡◌, ℕ, sym, ◌∙◌, inl, inr}
use Rattle.dps_terms.specs.Tree.{Tree, Trees, IsSubterm, IsAmong, itself, below, in_first, in_rest}
use Rattle.dps_terms.specs.Replace.{substitute, substitute_all}
use Rattle.dps_terms.proofs.Building.{closed_stays}
use Rattle.dps_terms.proofs.Subterms.{strict_is_subterm}
use Rattle.dps_theory.specs.Theory.{Rule, Agree, IsBounded}

-- what makes a tree equal to itself under two substitutions makes its subterms so
mutual
  same_below : (y z : ℕ → Tree) {u t : Tree} → IsSubterm u t → substitute y t ≡ substitute z t → substitute y u ≡ substitute z u
  same_below y z itself e = e
  same_below y z (below {f = f} {ts = ts} k) e = let d : substitute_all y ts ≡ substitute_all z ts = cc in same_among y z k d

  same_among : (y z : ℕ → Tree) {u : Tree} {ts : Trees} → IsAmong u ts → substitute_all y ts ≡ substitute_all z ts → substitute y u ≡ substitute z u
  same_among y z (in_first {t = t} {ts = ts} k) e = let d : substitute y t ≡ substitute z t = cc in same_below y z k d
  same_among y z (in_rest {t = t} {ts = ts} k) e = let d : substitute_all y ts ≡ substitute_all z ts = cc in same_among y z k d

pub agrees_itself : (r : Rule) → IsBounded r → Agree r r
agrees_itself r b y z e =
    elim b [
      | inl k ↦ same_below y z (strict_is_subterm k) e
      | inr c ↦ closed_stays y r.right c ∙ sym (closed_stays z r.right c)
    ]
