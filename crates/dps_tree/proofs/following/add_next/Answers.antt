use Rattle.std.proofs.Common.{◌+◌, sym, subst}
use Rattle.dps_tree.specs.Following.{IsMore}
use Rattle.dps_tree.specs.declared.next.Next.{Next}
use Rattle.dps_tree.proofs.Nexts.{GoesOnBelow, below_more, below_repeated, below_all}
use Rattle.dps_tree.proofs.following.add_next.Goals as goal
use Rattle.dps_tree.proofs.following.add_next.Goals.{then-not-is_repeated+in_ok-add_part, else-not-is_repeated}

pub loop-index-preserved : goal.loop-index-preserved
loop-index-preserved c =
    let table = c.args.table.now in
    let bag = c.args.bag.now in
    let i = c.loop-index.index in
    elim c.if-not-is_repeated.branch [
      | then-not-is_repeated+in_ok-add_part w ↦
          subst (λ (n : Next). IsMore (GoesOnBelow table bag c.args.channel (i + 1)) c.args.next.now n) (sym w.next-is)
          (below_more table bag c.args.channel i c.args.next.now c.loop-index.next _ c.loop-index.invariant w.in_ok-add_part.ensures)
      | else-not-is_repeated w ↦
          subst (λ (n : Next). IsMore (GoesOnBelow table bag c.args.channel (i + 1)) c.args.next.now n) (sym w.next-is)
          (below_repeated table bag c.args.channel i c.args.next.now c.loop-index.next (c.is_repeated.ensures w.if-not-is_repeated.false) c.loop-index.invariant)
    ]

pub returns : goal.returns
returns c =
    below_all c.args.table.now c.args.bag.now c.args.channel c.loop-index.index c.args.next.now c.loop-index.next c.loop-index-test.false c.loop-index.invariant
