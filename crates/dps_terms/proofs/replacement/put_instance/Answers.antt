use Rattle.std.proofs.lemmas.Result.{on_ok_weaker}
use Rattle.dps_terms.proofs.Instances.{instance_app}
use Rattle.dps_terms.proofs.replacement.put_instance.Goals as goal

pub returns-in-App : goal.returns-in-App
returns-in-App g c = λ ts e.
    rw c.in-App.is (on_ok_weaker c.apply.result (instance_app
    (g.R.Replacement.becomes c.args.by.now) c.in-App.sym c.in-App.arity c.in-App.field-2 c.args.stack.now c.apply.new.self ts e) c.apply.ensures.ok)
