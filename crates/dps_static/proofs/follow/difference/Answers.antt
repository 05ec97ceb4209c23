use Rattle.std.proofs.Common.{◌≡◌, length, subst, arith}
use Rattle.dps_static.proofs.Following.{PassBefore, follows}
use Rattle.dps_static.proofs.follow.difference.Goals as goal

pub returns : goal.returns
returns c =
    let e : c.loop-index.index ≡ length c.args.kept.now = omega (arith, c.len-index-end.ensures, c.loop-index.auto.index-end, c.loop-index-test.false) in
    follows c.args.kept.now c.args.counterparts.now c.requires (subst (PassBefore c.args.kept.now c.args.counterparts.now) e c.loop-index.invariant)
