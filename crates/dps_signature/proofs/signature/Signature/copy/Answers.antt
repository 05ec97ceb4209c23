use Rattle.std.proofs.Common.{◌∙◌, ap, sym, subst, arith}
use Rattle.dps_signature.specs.Signature.{privates_in}
use Rattle.dps_signature.specs.Spelled.{IsSpelled}
use Rattle.dps_signature.specs.Counted.{symbol_of, name_of}
use Rattle.dps_signature.proofs.Counting.{same_copies, counted_copies, same_symbol, same_name}
use Rattle.dps_signature.proofs.signature.Signature.copy.Goals as goal

pub invariant_of-result : goal.invariant_of-result
invariant_of-result c =
    let symbols = same_copies symbol_of same_symbol c.self.inside.symbols.entries c.in_ok-clone.field-0.entries c.in_ok-clone.ensures.cases in
    let names = same_copies name_of same_name c.self.inside.names.entries c.in_ok-clone-2.field-0.entries c.in_ok-clone-2.ensures.cases in
    let counted = counted_copies 0 c.self.inside.names.entries c.in_ok-clone-2.field-0.entries c.in_ok-clone-2.ensures.cases c.self.invariant.2.0 in
    (omega (arith, symbols.1, c.self.invariant.0), omega (arith, names.1, c.self.invariant.1), (counted, c.self.invariant.2.1 ∙ ap privates_in (sym names.0)), subst IsSpelled (λ i. record { symbols = sym symbols.0 i; names = sym names.0 i }) c.self.invariant.3)

pub returns : goal.returns
returns c =
    let symbols = same_copies symbol_of same_symbol c.self.inside.symbols.entries c.in_ok-clone.field-0.entries c.in_ok-clone.ensures.cases in
    let names = same_copies name_of same_name c.self.inside.names.entries c.in_ok-clone-2.field-0.entries c.in_ok-clone-2.ensures.cases in
    rw (← c.self.view_is) (λ i. record { symbols = symbols.0 i; names = names.0 i })
