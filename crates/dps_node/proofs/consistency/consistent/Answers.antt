use Rattle.std.proofs.Common.{◌≡◌, ◌∙◌, sym, refl, true, false, Bool, not}
use Rattle.dps_node.specs.Code.{node_of}
use Rattle.dps_node.proofs.Consisting.{labels_normal, not_excluded, respecting}
use Rattle.dps_node.proofs.consistency.consistent.Goals as goal

false_or_true : (b : Bool) → b ≡ true → b ≡ false → ⊥
false_or_true b e f = let d : true ≡ false = sym e ∙ f in cc

not_true : (b : Bool) → not b ≡ true → b ≡ false
not_true true e = cc
not_true false e = refl

not_of : (b : Bool) → ¬ (b ≡ true) → not b ≡ true
not_of true n = absurd (n refl)
not_of false n = refl

pub returns-then-not-are_normal : goal.returns-then-not-are_normal
returns-then-not-are_normal c =
    let a = rw c.deref.ensures.value at c.are_normal.ensures in (
      λ e. cc,
      λ r. absurd (false_or_true c.are_normal.result (a.1 (labels_normal (node_of c.args.node.now) r)) c.if-not-are_normal.true),
    )

pub returns : goal.returns
returns c =
    let a = rw c.deref.ensures.value at c.are_normal.ensures in
    let m = rw (c.empty-nothing.ensures, c.deref-2.ensures.value) at c.in_ok-matched.ensures in (
      λ e. respecting (node_of c.args.node.now) (a.0 c.if-not-are_normal.false)
          (λ x. false_or_true c.in_ok-matched.matched (m.1 x) (not_true c.in_ok-matched.matched e)),
      λ r. not_of c.in_ok-matched.matched (λ e. not_excluded (node_of c.args.node.now) r (m.0 e)),
    )
