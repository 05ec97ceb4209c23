use Rattle.std.proofs.Common.{refl, arith}
use Rattle.dps_unify.specs.declared.place.Place.{Place}
use Rattle.dps_unify.proofs.solution.put_behind.Goals as goal

pub returns : goal.returns
returns c =
    let place : Place = record { term = c.args.term; left = c.node_count.result } in
    record {
      place = place;
      new_is = c.in_ok-push.ensures.items;
      term = refl;
      none = c.node_count.ensures.end;
      inside = omega (arith, c.node_count.ensures.count);
    }
