use Rattle.std.proofs.Common.{◌≡◌, slice_get, Some, arith, subst, below_more}
use Rattle.std.proofs.lemmas.List.Elements.{All-append}
use Rattle.dps_terms.specs.Seen.{seen}
use Rattle.dps_static.specs.Binding.{AreMatches, BindsParts}
use Rattle.dps_static.proofs.Finding.{listed_left, listed_right, entries_cover, matches_bind}
use Rattle.dps_static.proofs.cover.entries.Goals as goal

pub loop-place-preserved : goal.loop-place-preserved
loop-place-preserved c =
    let free = c.args.free.now in
    let p = seen c.args.pattern in
    let kept = c.args.kept.now in
    let start = c.args.start.now in
    let place = c.loop-place.place in
    let tree = seen c.get.result in
    let found = c.loop-place.found.items in
    let here = c.in_ok-here.here.items in
    let there : slice_get kept place ≡ Some tree = c.get.ensures in
    let matches : AreMatches free p tree start here = c.in_ok-here.ensures in
    rw c.in_ok-append.ensures.items (record {
      listed = below_more _ _
          (λ k h l t d s m. listed_left free p found here s t (c.loop-place.invariant.listed k h l t d s m))
          (λ l t d s m.
          (let same : tree ≡ t = cc (there, d) in
          let now : AreMatches free p t start here = subst (λ u. AreMatches free p u start here) same matches in
          listed_right free p found here s t (now.all s m)));
      parts = All-append (BindsParts kept free) found here c.loop-place.invariant.parts (matches_bind kept free p c.requires.free start here place tree there c.requires.parts matches);
    })

pub returns : goal.returns
returns c = record {
  covers =
      entries_cover c.args.kept.now c.args.free.now (seen c.args.pattern) c.requires.free c.args.from c.args.to c.args.start.now c.loop-place.found.items c.requires.parts
      (λ s t h k. let l = k.before in c.loop-place.invariant.listed k.place (omega (arith, l, c.loop-place-test.false)) k.behind t k.there s h);
  parts = c.loop-place.invariant.parts;
}
