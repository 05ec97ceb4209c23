use Rattle.std.proofs.Common.{refl}
use Rattle.dps_syntax.proofs.Building.{opened_now}
use Rattle.dps_syntax.proofs.builder.Builder.open.Goals as goal

pub returns-clause-opened : goal.returns-clause-opened
returns-clause-opened c =
    opened_now
    c.args.self.now
    (record { levels = c.push.new.self; parts = c.replace-before.new.dest })
    (record { production = c.args.production; before = c.replace-before.result })
    c.args.production
    c.in_ok-push.ensures.items
    refl
