use Rattle.std.proofs.Common.{◌≡◌, ℕ, ◌+◌, List, ◌∷◌, [], ◌++◌, length, Option, Some, ap, ◌∙◌, sym, subst, arith, length-append}
use Rattle.std.specs.Prelude.{slice_get, slice_set}
use Rattle.std.proofs.Math.ListN.{length-set}
use Rattle.std.proofs.lemmas.Option.{slice_get-get_or}
use Rattle.dps_book.proofs.Linking.{IsLinked, linked-none, linked-next, linked-all}
use Rattle.dps_book.proofs.line.link_kids.Goals as goal

pub loop-init : goal.loop-init
loop-init c = record {
  within = c.requires.within;
  size = omega arith;
  room = c.requires.room;
  linked = λ front behind l o. linked-none c.args.next.now.items front behind c.args.ticket (length c.args.next.now.items) l o;
}

pub loop-preserved : goal.loop-preserved
loop-preserved c =
    let old = c.loop.next.items in
    let kid : c.len-kid.result ≡ length old = c.len-kid.ensures ∙ c.loop.next.ok.0 in
    let behind = c.index-behind.result.now in
    let e : slice_get old c.loop.last ≡ Some behind =
    slice_get-get_or old c.loop.last behind c.loop.invariant.within ∙ ap (λ (x : Option ℕ). Some x) (sym c.index-behind.ensures) in
    let new : slice_set (old ++ behind ∷ []) c.loop.last (Some (length old)) ≡ slice_set c.push_reserved.new.self.items c.loop.last (Some c.len-kid.result) =
    ap (λ (x : List (Option ℕ)). slice_set x c.loop.last (Some (length old))) (sym c.push_reserved.ensures.items)
    ∙ ap (λ (n : ℕ). slice_set c.push_reserved.new.self.items c.loop.last (Some n)) (sym kid) in
    let long : length (slice_set c.push_reserved.new.self.items c.loop.last (Some c.len-kid.result)) ≡ length old + 1 =
    length-set c.push_reserved.new.self.items c.loop.last (Some c.len-kid.result) ∙ ap length c.push_reserved.ensures.items ∙ length-append old (behind ∷ []) in
    record {
      within = omega (arith, kid, long);
      size = omega (arith, long, c.loop.invariant.size);
      room = omega (arith, c.loop.invariant.room, c.push_reserved.ensures.capacity);
      linked = λ front after l o.
          let k = linked-next old front after c.args.ticket (length c.args.next.now.items) c.loop.counter c.loop.last behind e c.loop.invariant.size (c.loop.invariant.linked front after l o) in
          subst (λ (x : List (Option ℕ)). IsLinked x front after c.args.ticket (length c.args.next.now.items) (c.loop.counter + 1) c.len-kid.result) new
          (subst (λ (n : ℕ). IsLinked (slice_set (old ++ behind ∷ []) c.loop.last (Some (length old))) front after c.args.ticket (length c.args.next.now.items) (c.loop.counter + 1) n) (sym kid) k);
    }

pub returns-clause-each : goal.returns-clause-each
returns-clause-each c =
    let e : c.loop.counter ≡ c.args.count = omega (arith, c.loop-test.false, c.loop.auto.counter-end) in
    c.loop.invariant.size ∙ ap (λ (n : ℕ). length c.args.next.now.items + n) e

pub returns-clause-leads : goal.returns-clause-leads
returns-clause-leads c = λ front behind l o.
    let e : c.loop.counter ≡ c.args.count = omega (arith, c.loop-test.false, c.loop.auto.counter-end) in
    linked-all c.loop.next.items front behind c.args.ticket (length c.args.next.now.items) c.args.count c.loop.last
    (subst (λ (n : ℕ). IsLinked c.loop.next.items front behind c.args.ticket (length c.args.next.now.items) n c.loop.last) e (c.loop.invariant.linked front behind l o))
