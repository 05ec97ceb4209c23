use Rattle.std.proofs.Common.{nat_eq, ◌&&◌, refl, sym, ◌∙◌, arith}
use Rattle.std.proofs.lemmas.List.{length-map}
use Rattle.dps_terms.specs.Tree.{Tree}
use Rattle.dps_terms.specs.Seen.{seen}
use Rattle.dps_unify.specs.declared.difference.Parts.{Parts}
use Rattle.dps_unify.specs.Kept.{trees_of}
use Rattle.dps_unify.proofs.Keeping.{same_kept, settled_more, with_none}
use Rattle.dps_unify.proofs.pending.Pending.settle.Goals as goal

pub returns-then-begun-len-clause-kept : goal.returns-then-begun-len-clause-kept
returns-then-begun-len-clause-kept c b h =
    same_kept c.loop-begun.self _ (trees_of c.loop-begun.self) _ refl
    (c.in_ok-push.ensures.items ∙ sym c.in-Some.ensures.items) refl b (c.loop-begun.invariant.kept b h)

pub loop-begun-preserved : goal.loop-begun-preserved
loop-begun-preserved c =
    settled_more (λ x y. nat_eq x.0 y.0 && nat_eq x.1 y.1) _ c.loop-begun.self _ c.in-Some.begun c.loop-begun.invariant refl c.in-Some.ensures.items
    (omega (arith, c.if-begun-len.false, c.len.ensures, length-map {B = Tree × Tree} c.loop-begun.self.pairs.items (λ (d : Parts). (seen d.left, seen d.right))))
    c.in_ok-insert.ensures.keys

pub returns-clause-kept : goal.returns-clause-kept
returns-clause-kept c b h =
    same_kept c.loop-begun.self _ (trees_of c.loop-begun.self) _ refl
    (with_none _ ∙ sym c.in_default.ensures.items) refl b (c.loop-begun.invariant.kept b h)
