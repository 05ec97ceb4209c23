use Rattle.std.proofs.Common.{map}
use Rattle.dps_terms.specs.Seen.{seen}
use Rattle.dps_theory.specs.Held.{shape_of}
use Rattle.dps_theory.proofs.Forms.{destructor_root}
use Rattle.dps_theory.proofs.form.has_destructor_root.Goals as goal

pub returns-in-App : goal.returns-in-App
returns-in-App c =
    let both = destructor_root (map shape_of c.args.known.now) (seen c.args.left) c.in-App.sym c.arity.result c.in-App.ensures c.arity.ensures.number in
    (λ e. both.0 (c.has_shape.ensures.0 e), λ h. c.has_shape.ensures.1 (both.1 h))
