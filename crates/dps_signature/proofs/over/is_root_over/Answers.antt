use Rattle.std.proofs.Common.{sym, subst}
use Rattle.dps_terms.specs.Seen.{seen}
use Rattle.dps_signature.specs.Signature.{HasArity, shapes}
use Rattle.dps_signature.proofs.OverNodes.{symbol_over}
use Rattle.dps_signature.proofs.over.is_root_over.Goals as goal

pub returns-in-App : goal.returns-in-App
returns-in-App c =
    let told = symbol_over c.args.signature.now (seen c.args.term) c.in-App.sym c.in-App.ensures in (
      λ e. told.0 (subst (λ n. HasArity (shapes c.args.signature.now) c.in-App.sym n) c.arity.ensures.number (c.has_arity.ensures.0 e)),
      λ h. c.has_arity.ensures.1 (subst (λ n. HasArity (shapes c.args.signature.now) c.in-App.sym n) (sym c.arity.ensures.number) (told.1 h)),
    )
