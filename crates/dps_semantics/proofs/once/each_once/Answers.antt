use Rattle.std.proofs.Common.{◌≡◌, length, ◌∙◌, List, ℕ, Vec, Global, map, ap, sym, subst, arith, true≢false}
use Rattle.std.specs.Prelude.{◌↔◌, IsTrue}
use Rattle.dps_bags.specs.Places.{numbers_at}
use Rattle.dps_bags.proofs.Holding.{mapped_pushed}
use Rattle.dps_process.specs.Process.{Process}
use Rattle.dps_process.specs.Steps.{Config}
use Rattle.dps_semantics.specs.Digest.{config_digest}
use Rattle.dps_semantics.specs.Once.{AreNumbersOf, IsKept}
use Rattle.dps_semantics.proofs.Lists.{no_items_left}
use Rattle.dps_semantics.proofs.Singles.{OnceBelow, once_more, once_same, once_all}
use Rattle.dps_semantics.proofs.once.each_once.Goals as goal

abbrev numbers_in : Vec ℕ Global → List ℕ
numbers_in key = key.items

pub loop-config-preserved : goal.loop-config-preserved
loop-config-preserved c =
    let all = c.args.configs.items in
    let left = c.pop.new.self.items in
    let config = c.in-Some.config in
    let old = c.loop-config.table in
    let new = c.numbers_of.new.table in
    let keys = map numbers_in c.loop-config.keys.items in
    let numbers = c.in_ok-numbers.numbers.items in
    let once = c.loop-config.once.items in
    let before = subst (λ (ls : List Config). OnceBelow all ls old keys once c.loop-config.places) c.in-Some.ensures.items c.loop-config.invariant in
    let parts = c.deref.ensures.value ∙ ap (λ (k : Config). k.parts) c.config.view_is in
    let number = subst (λ (ps : List Process). AreNumbersOf ps old new numbers) parts c.in_ok-numbers.ensures in
    let inside = rw (c.deref-in-Some-2.ensures.value, c.deref-in-Some-3.ensures.value, c.deref-in-Some-4.ensures.value) at (c.is_kept.ensures.0 c.if-not-is_kept.false) in
    let kept = subst (λ (k : Config). IsKept keys once c.of.result.now numbers k.frame) c.config.view_is inside in
    once_same all left config old new keys numbers once c.loop-config.places c.of.result.now before number kept

pub loop-config-preserved-in-Continue-branch-4 : goal.loop-config-preserved-in-Continue-branch-4
loop-config-preserved-in-Continue-branch-4 c =
    let all = c.args.configs.items in
    let left = c.pop.new.self.items in
    let config = c.in-Some.config in
    let old = c.loop-config.table in
    let new = c.numbers_of.new.table in
    let keys = map numbers_in c.loop-config.keys.items in
    let numbers = c.in_ok-numbers.numbers.items in
    let once = c.loop-config.once.items in
    let more = c.push-then-not-is_kept.new.self.items in
    let before = subst (λ (ls : List Config). OnceBelow all ls old keys once c.loop-config.places) c.in-Some.ensures.items c.loop-config.invariant in
    let parts = c.deref.ensures.value ∙ ap (λ (k : Config). k.parts) c.config.view_is in
    let number = subst (λ (ps : List Process). AreNumbersOf ps old new numbers) parts c.in_ok-numbers.ensures in
    let places = c.loop-config.places in
    let digest : c.config_digest-digest.result ≡ config_digest config.frame numbers =
    c.config_digest-digest.ensures ∙ (ap (config_digest c.config.inside.frame) c.deref-in-Some.ensures.value ∙ ap (λ (k : Config). config_digest k.frame numbers) c.config.view_is) in
    let count : c.len.result ≡ length once = c.len.ensures ∙ c.loop-config.once.ok.0 in
    let noted = rw (digest, count) at c.in_ok-add.ensures.noted in
    let inside = rw (c.deref-in-Some-2.ensures.value, c.deref-in-Some-3.ensures.value, c.of.ensures, c.deref-in-Some-4.ensures.value, digest) at c.is_kept.ensures in
    let told =
    subst (λ (k : Config). IsTrue c.is_kept.result ↔ IsKept keys once (numbers_at places (config_digest config.frame numbers)) numbers k.frame) c.config.view_is inside in
    let pushed = ap (map numbers_in) c.in_ok-push.ensures.items ∙ mapped_pushed numbers_in c.loop-config.keys.items c.in_ok-numbers.numbers in
    subst (λ (ks : List (List ℕ)). OnceBelow all left new ks more c.add.new.self) (sym pushed)
    (once_more all left config old new keys numbers once more places c.add.new.self before number c.in_ok-push-2.ensures.items noted
    (λ k. true≢false (sym (told.1 k) ∙ c.if-not-is_kept.true)))

pub returns-clause-same : goal.returns-clause-same
returns-clause-same c =
    let all = c.args.configs.items in
    let keys = map numbers_in c.loop-config.keys.items in
    let none = no_items_left c.loop-config.left.items (λ h. true≢false (sym (c.in_default.ensures.variant.1 (omega (arith, h, c.loop-config.left.ok))))) in
    once_all all c.loop-config.table keys c.loop-config.once.items c.loop-config.places
    (subst (λ (ls : List Config). OnceBelow all ls c.loop-config.table keys c.loop-config.once.items c.loop-config.places) none c.loop-config.invariant)

pub returns-clause-once : goal.returns-clause-once
returns-clause-once c =
    let all = c.args.configs.items in
    let keys = map numbers_in c.loop-config.keys.items in
    let none = no_items_left c.loop-config.left.items (λ h. true≢false (sym (c.in_default.ensures.variant.1 (omega (arith, h, c.loop-config.left.ok))))) in
    (subst (λ (ls : List Config). OnceBelow all ls c.loop-config.table keys c.loop-config.once.items c.loop-config.places) none c.loop-config.invariant).once_each
