use Rattle.std.proofs.Common.{◌<◌, length, arith, refl}
use Rattle.std.proofs.lemmas.List.{length-map}
use Rattle.std.proofs.lemmas.Option.{slice_get_read}
use Rattle.dps_theory.proofs.Accepting.{set_listed}
use Rattle.dps_theory.proofs.index.RootIndex.add.Goals as goal

pub returns : goal.returns
returns c =
    let within = rw (← c.self.view_is) at c.requires in
    let inside : c.args.symbol < length c.self.inside.by_root.items = omega (arith, within, length-map c.self.inside.by_root.items (λ v. v.items)) in
    rw (← c.self.view_is)
    (set_listed (λ v. v.items) c.self.inside.by_root.items c.args.symbol c.args.place c.index_mut-places.result.now c.push.new.self
    (slice_get_read _ _ _ _ refl inside c.index_mut-places.ensures.value) c.in_ok-push.ensures.items)
