use Rattle.std.proofs.Common.{◌≡◌, ◌∙◌, subst}
use Rattle.dps_static.specs.Saturation.{IsSaturation}
use Rattle.dps_static.specs.Pairs.{ArePairsOf}
use Rattle.dps_static.proofs.Paired.{pairs_saturate}
use Rattle.dps_static.proofs.saturate.Goals as goal

pub paired-requires : goal.paired-requires
paired-requires c =
    let s = c.in_ok-knowledge.ensures.saturation in
    let l = s.known.same_length in cc (l, c.deref-2.ensures.value)

pub returns : goal.returns
returns c =
    let e : c.deref.result.now ≡ c.args.frame.now = c.deref.ensures.value ∙ c.frame.view_is in
    let s : IsSaturation c.args.theory.now c.args.frame.now c.in_ok-knowledge.knowledge.recipes.items c.in_ok-knowledge.knowledge.kept =
    subst (λ f. IsSaturation c.args.theory.now f c.in_ok-knowledge.knowledge.recipes.items c.in_ok-knowledge.knowledge.kept) e c.in_ok-knowledge.ensures.saturation in
    let p : ArePairsOf c.in_ok-knowledge.knowledge.recipes.items c.in_ok-knowledge.knowledge.kept c.in_ok-pairs.pairs.items =
    rw c.deref-2.ensures.value at c.in_ok-pairs.ensures in
    pairs_saturate c.args.theory.now c.is_lawful.ensures.accepted c.is_lawful.ensures.plain c.args.frame.now c.in_ok-knowledge.knowledge.recipes.items c.in_ok-knowledge.knowledge.kept s
    c.in_ok-pairs.pairs.items p
