use Rattle.std.proofs.Common.{◌≡◌, [], ◌++◌, sym, subst, ◌∙◌}
use Rattle.dps_terms.specs.Bindings.{image}
use Rattle.dps_renewal.specs.Putting.{PutsFor, renewed, numbers_in, fresh_in}
use Rattle.dps_renewal.proofs.Puts.{nothing_put}
use Rattle.dps_renewal.proofs.Fresh.{fresh_are, levels_are, puts_are}
use Rattle.dps_renewal.proofs.renewal.renew.Goals as goal

pub returns : goal.returns
returns c =
    let ps = c.args.variables.now in
    let b = image c.args.bindings.now in
    let fresh = c.in_ok-fresh.fresh.keys in
    let z = renewed c.args.first fresh b in
    let by = c.put_renewed-2.new.by in
    let own_is : c.deref.result.now ≡ numbers_in ps = c.deref.ensures.value ∙ c.in_ok-own.ensures in
    let own_too : c.deref-2.result.now ≡ numbers_in ps = c.deref-2.ensures.value ∙ c.in_ok-own.ensures in
    let fresh_is : fresh ≡ fresh_in ps b = fresh_are ps b c.deref.result.now fresh own_is c.in_ok-fresh.ensures in
    let none : PutsFor z [] c.empty-by.result = subst (PutsFor z []) (sym c.empty-by.ensures) (nothing_put z) in
    let one : PutsFor z c.deref-2.result.now c.put_renewed.new.by = c.in_ok-put_renewed.ensures [] none in
    let two : PutsFor z (c.deref-2.result.now ++ c.as_slice-2.result.now) by = c.in_ok-put_renewed-2.ensures c.deref-2.result.now one in
    record {
      own = c.in_ok-own.ensures;
      fresh = fresh_is;
      levels = levels_are ps b c.deref.result.now c.as_slice.result.now c.in_ok-levels.levels.items (c.as_slice.ensures.keys ∙ fresh_is) c.in_ok-levels.ensures;
      put = puts_are ps b c.deref-2.result.now fresh c.args.first by own_too fresh_is (subst (λ ys. PutsFor z (c.deref-2.result.now ++ ys) by) c.as_slice-2.ensures.keys two);
    }
