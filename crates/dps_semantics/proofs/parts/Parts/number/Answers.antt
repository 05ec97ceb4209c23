use Rattle.std.proofs.Common.{◌≡◌, ◌∙◌, ◌∷◌, ◌++◌, [], List, length, ap, subst, refl, inr}
use Rattle.dps_bags.specs.Places.{numbers_at}
use Rattle.dps_bags.proofs.Keeping.{all_noted_same, all_noted_stay, all_noted_more}
use Rattle.dps_process.specs.Process.{Process, nil}
use Rattle.dps_semantics.specs.Digest.{process_digest}
use Rattle.dps_semantics.specs.Parts.{IsNowhere, IsPartAt, IsNumbered}
use Rattle.dps_semantics.proofs.Lists.{of_none}
use Rattle.dps_semantics.proofs.Numbering.{new_part}
use Rattle.dps_semantics.proofs.parts.Parts.number.Goals as goal

pub invariant_of-self : goal.invariant_of-self
invariant_of-self c =
    all_noted_same (process_digest 0) nil c.self.inside.list.items c.self.inside.places c.add.new.self c.in_err-add.ensures.unchanged c.self.invariant

pub invariant_of-self-in_err-push : goal.invariant_of-self-in_err-push
invariant_of-self-in_err-push c =
    rw c.in_err-push.ensures.items
    (all_noted_stay (process_digest 0) nil c.self.inside.list.items c.self.inside.places c.add.new.self c.with_process-digest.result c.len-number.result c.in_ok-add.ensures.noted c.self.invariant)

pub invariant_of-self-2 : goal.invariant_of-self-2
invariant_of-self-2 c =
    let list = c.self.inside.list.items in
    let part = c.args.part.now in
    let same : c.in_ok-copy.copy ≡ part = c.in_ok-copy.ensures in
    let count : c.len-number.result ≡ length list = c.len-number.ensures ∙ c.self.inside.list.ok.0 in
    let noted = rw (c.with_process-digest.ensures, count) at c.in_ok-add.ensures.noted in
    rw (c.in_ok-push.ensures.items, same) (all_noted_more (process_digest 0) nil list part c.self.inside.places c.add.new.self noted c.self.invariant)

pub returns : goal.returns
returns c =
    let list = c.self.inside.list.items in
    let part = c.args.part.now in
    let digest = c.with_process-digest.ensures in
    let count : c.len-number.result ≡ length list = c.len-number.ensures ∙ c.self.inside.list.ok.0 in
    let pushed : c.push.new.self.items ≡ list ++ part ∷ [] = c.in_ok-push.ensures.items ∙ ap (λ (p : Process). list ++ p ∷ []) c.in_ok-copy.ensures in
    let among = rw (c.deref.ensures.value, c.of.ensures, digest) at c.part_among.ensures in
    let nowhere = of_none (IsNowhere list (numbers_at c.self.inside.places (process_digest 0 part)) part) (λ n. IsPartAt list n part) c.part_among.result among c.in_default.is in
    subst (λ (t : List Process). IsNumbered t c.push.new.self.items part c.len-number.result) c.self.view_is
    (inr (pushed, count, new_part list c.self.inside.places part (numbers_at c.self.inside.places (process_digest 0 part)) c.self.invariant refl nowhere))
