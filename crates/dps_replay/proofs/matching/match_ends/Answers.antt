use Rattle.std.proofs.Common.{◌≡◌, ℕ, ◌<◌, ◌+◌, List, [], ◌∷◌, ◌++◌, length, get_or, sym, ◌∙◌, ap, subst, arith}
use Rattle.std.proofs.lemmas.List.{get_or_default}
use Rattle.dps_terms.specs.Tree.{Tree}
use Rattle.dps_replay.specs.declared.matching.Partner.{Partner}
use Rattle.dps_replay.specs.Matching.{frame_at, IsPartner, IsPartnerAt, HavePartners}
use Rattle.dps_replay.proofs.Telling.{read_frame, same_as_before, more_partners}
use Rattle.dps_replay.proofs.matching.match_ends.Goals as goal
use Rattle.dps_replay.proofs.matching.match_ends.Goals.{then-first-place+in_ok-push, else-first-place+in_ok-found+in-At+in_ok-push-in-At}

pub partner_of-requires-clause-few : goal.partner_of-requires-clause-few
partner_of-requires-clause-few c =
    let ends = c.args.ends.now in
    let within : c.loop-place.place < length ends = omega (arith, c.loop-place-test.true) in
    let same = read_frame ends c.loop-place.place c.index-ends-place.result c.frame.result.now c.index-ends-place.is within c.frame.ensures in
    let size : length c.frame.result.now ≡ c.requires.size = ap (λ (f : List Tree). length f) same ∙ c.requires.ends_have c.loop-place.place within in
    omega (arith, size, c.requires.few)

pub partner_of-requires-clause-level : goal.partner_of-requires-clause-level
partner_of-requires-clause-level c =
    let ends = c.args.ends.now in
    let within : c.loop-place.place < length ends = omega (arith, c.loop-place-test.true) in
    let same = read_frame ends c.loop-place.place c.index-ends-place.result c.frame.result.now c.index-ends-place.is within c.frame.ensures in
    let size : length c.frame.result.now ≡ c.requires.size = ap (λ (f : List Tree). length f) same ∙ c.requires.ends_have c.loop-place.place within in
    λ i l. (c.requires.others_have i l ∙ sym size)

pub loop-place-preserved : goal.loop-place-preserved
loop-place-preserved c =
    let theory = c.args.theory.now in
    let ends = c.args.ends.now in
    let others = c.args.others.now in
    let place = c.loop-place.place in
    let old = c.loop-place.partners.items in
    let within : place < length ends = omega (arith, c.loop-place-test.true) in
    elim c.if-first-place.branch [
      | then-first-place+in_ok-push w ↦
          let first = c.index-first.result.now in
          let firsts = c.in_ok-own.own.firsts.items in
          let is : first ≡ get_or firsts place 0 = c.index-first.ensures ∙ get_or_default firsts place first 0 (omega (arith, within, c.in_ok-own.ensures.counted)) in
          let frames : frame_at ends first ≡ frame_at ends place = subst (λ (n : ℕ). frame_at ends n ≡ frame_at ends place) (sym is) (c.in_ok-own.ensures.same place within) in
          let partner = same_as_before theory ends others place first old c.loop-place.invariant w.if-first-place.true frames in
          let read : w.index.result.now ≡ get_or old first 0 = w.index.ensures ∙ get_or_default old first w.index.result.now 0 (omega (arith, w.if-first-place.true, c.loop-place.invariant.counted)) in
          let items = ap (λ v. v.items) w.partners-is ∙ (w.in_ok-push.ensures.items ∙ ap (λ (p : ℕ). old ++ p ∷ []) read) in
          subst (λ (ps : List ℕ). HavePartners theory ends others (place + 1) ps) (sym items) (more_partners theory ends others place old (get_or old first 0) c.loop-place.invariant partner)
      | else-first-place+in_ok-found+in-At+in_ok-push-in-At w ↦
          let found = w.in-At.found in
          let frame = w.frame.result.now in
          let partner : IsPartnerAt theory frame others found = subst (λ (p : Partner). IsPartner theory frame others p) w.in-At.is w.in_ok-found.ensures in
          let same = read_frame ends place w.index-ends-place.result frame w.index-ends-place.is within w.frame.ensures in
          let there = subst (λ (f : List Tree). IsPartnerAt theory f others found) same partner in
          let items = ap (λ v. v.items) w.partners-is ∙ w.in_ok-push-in-At.ensures.items in
          subst (λ (ps : List ℕ). HavePartners theory ends others (place + 1) ps) (sym items) (more_partners theory ends others place old found c.loop-place.invariant there)
    ]
