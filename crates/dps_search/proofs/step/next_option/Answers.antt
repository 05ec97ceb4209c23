use Rattle.std.proofs.Common.{◌∙◌, [], ◌∷◌, List, Bool, ap, cond, arith}
use Rattle.dps_terms.specs.Seen.{seen}
use Rattle.dps_solver.specs.Search.{Way, compose}
use Rattle.dps_search.specs.Code.{system_of}
use Rattle.dps_search.proofs.Options.{composing_is_next}
use Rattle.dps_search.proofs.step.next_option.Goals as goal

pub returns : goal.returns
returns c =
    let none : List Way = [] in
    let one : List Way = compose ∷ [] in
    composing_is_next (system_of c.args.scene.now) c.args.level (seen c.args.term) c.args.passed c.next_entry-place.result c.requires c.next_entry-place.ensures none
    (omega (arith, c.if-place-entries.false, c.entries.ensures)) (c.is_composed.ensures ∙ ap (λ (b : Bool). cond b one none) c.if-is_composed.false)
