use Rattle.std.proofs.Common.{sym, ap, ◌∙◌, true≢false}
use Rattle.std.specs.Option.{option_map}
use Rattle.std.proofs.lemmas.Bool.{eqb-true, eq-eqb}
use Rattle.std.proofs.lemmas.Option.{slice_get-map}
use Rattle.dps_signature.proofs.Known.{arity_told, no_arity}
use Rattle.dps_signature.proofs.signature.Signature.has_arity.Goals as goal

pub returns-in-Some : goal.returns-in-Some
returns-in-Some c =
    let told = arity_told _ c.args.sym _ c.args.arity (slice_get-map _ c.self.inside.symbols.entries c.args.sym.number ∙ ap (option_map _) (sym c.in-Some.ensures.entry)) in
    rw (← c.self.view_is) (λ t. told.0 (eqb-true _ _ t), λ h. eq-eqb _ _ (told.1 h))

pub returns-in-None : goal.returns-in-None
returns-in-None c =
    let none = slice_get-map _ c.self.inside.symbols.entries c.args.sym.number ∙ ap (option_map _) (sym c.in-None.ensures.entry) in
    rw (← c.self.view_is) (λ t. absurd (true≢false (sym t)), λ h. absurd (no_arity _ c.args.sym c.args.arity none h))
