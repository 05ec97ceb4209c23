use Rattle.std.proofs.Common.{◌∙◌, ap, sym, Some}
use Rattle.std.proofs.lemmas.Result.{on_ok_weaker}
use Rattle.dps_terms.specs.Bindings.{bound}
use Rattle.dps_bindings.proofs.Puts.{bound_now, none_seen}
use Rattle.dps_bindings.proofs.bindings.bind_once.Goals as goal

pub returns : goal.returns
returns c =
    let old = c.args.after.now in
    let free = none_seen c.get.result (bound old c.args.variable) (sym c.is_some.ensures ∙ c.if-is_some.false) c.get.ensures in
    let there = sym c.in-Some.ensures ∙ ap Some (sym c.in_ok-copy.ensures.same) in
    on_ok_weaker c.bind.result (λ e. bound_now c.args.by.now old c.bind.new.self c.args.variable c.in_ok-copy.copy free there e) c.bind.ensures.ok
