use Rattle.std.proofs.Common.{string_bytes}
use Rattle.dps_scopes.proofs.Signatures.{projections_more}
use Rattle.dps_scopes.proofs.signature.push_projections.Goals as goal

pub loop-index-preserved : goal.loop-index-preserved
loop-index-preserved c =
    projections_more c.args.members c.loop-index.index c.args.signature.now c.loop-index.signature c.push_symbol.new.signature c.as_str.result.now (string_bytes c.in_ok-text.text)
    c.loop-index.invariant c.loop-index.auto.index c.in_ok-text.ensures c.as_str.ensures.value c.in_ok-push_symbol.ensures.ok
