use Rattle.std.proofs.Common.{◌≡◌, ◌<◌, ◌∙◌, [], length, ap, sym}
use Rattle.dps_process.specs.Steps.{Config}
use Rattle.dps_semantics.specs.Once.{config_at}
use Rattle.dps_semantics.proofs.Lists.{item_is}
use Rattle.dps_semantics.proofs.once.is_frame_at.Goals as goal

pub returns-in-Some : goal.returns-in-Some
returns-in-Some c =
    let once = c.args.once.now in
    let place = c.args.place in
    let config = c.in-Some.config.now in
    let within : place < length once = c.in-Some.ensures.lookup.3.0 in
    let there = item_is once place config (record { parts = []; frame = [] }) c.in-Some.ensures.lookup.1 within in
    let frame : (config_at once place).frame ≡ c.messages.result.now = ap (λ (k : Config). k.frame) (sym there) ∙ sym c.messages.ensures in
    (λ t. (within, frame ∙ (c.are_same.ensures.0 t ∙ c.listed.ensures)), λ h. c.are_same.ensures.1 (sym frame ∙ (h.1 ∙ sym c.listed.ensures)))
