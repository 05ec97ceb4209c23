use Rattle.std.proofs.Common.{◌≡◌, ◌∙◌, ◌++◌, ◌-◌, take, ap, sym, arith, string_bytes, codes, subst}
use Rattle.std.specs.Prelude.{reverse}
use Rattle.std.proofs.lemmas.List.{append-nil}
use Rattle.dps_signature.specs.Unwritten.{IsWriting, IsBehindTerm}
use Rattle.dps_signature.proofs.Unwriting.{close, next, none_open, push_ok, pop_last, push_last}
use Rattle.dps_signature.proofs.printing.write_behind_term.Goals as goal

pub returns-then-left-gt1 : goal.returns-then-left-gt1
returns-then-left-gt1 c = λ leaves signature ts whole b.
    let here = subst (λ ks. IsBehindTerm leaves signature (string_bytes c.loop-left.text) ks ts whole)
    (pop_last c.loop-left.brackets.items c.pop.new.self.items c.in-Some.left c.in-Some.ensures.items) (c.loop-left.invariant leaves signature ts whole b) in
    let on = next leaves signature (string_bytes c.loop-left.text) (reverse c.pop.new.self.items) c.in-Some.left ts whole c.if-left-gt1.true here in
    push_ok leaves signature c.push_str.result (string_bytes c.loop-left.text) (string_bytes c.push_str.new.self) (codes ",")
    (reverse c.push.new.self.items) ts whole c.push_str.ensures.bytes
    (subst (λ ks. IsWriting leaves signature (string_bytes c.loop-left.text ++ codes ",") ks ts whole) (push_last c.pop.new.self.items c.push.new.self.items _ c.in_ok-push.ensures.items) on)

pub loop-left-preserved : goal.loop-left-preserved
loop-left-preserved c = λ leaves signature ts whole b.
    let here = subst (λ ks. IsBehindTerm leaves signature (string_bytes c.loop-left.text) ks ts whole)
    (pop_last c.loop-left.brackets.items c.pop.new.self.items c.in-Some.left c.in-Some.ensures.items) (c.loop-left.invariant leaves signature ts whole b) in
    let closed = close leaves signature (string_bytes c.loop-left.text) (reverse c.pop.new.self.items) c.in-Some.left ts whole (omega (arith, c.if-left-gt1.false)) here in
    subst (λ text. IsBehindTerm leaves signature text (reverse c.pop.new.self.items) ts whole) (sym c.in_ok-push_str.ensures.bytes) closed

pub returns : goal.returns
returns c = λ leaves signature ts whole b.
    let here = c.loop-left.invariant leaves signature ts whole b in
    let same : reverse c.loop-left.brackets.items ≡ reverse c.pop.new.self.items = ap reverse (c.in_default.ensures.items ∙ append-nil c.pop.new.self.items) in
    none_open leaves signature (string_bytes c.loop-left.text) (reverse c.pop.new.self.items) ts whole
    (ap reverse (c.in_default.ensures.rest ∙ ap (λ n. take (n - 1) c.loop-left.brackets.items) c.in_default.ensures.cases.0))
    (subst (λ ks. IsBehindTerm leaves signature (string_bytes c.loop-left.text) ks ts whole) same here)
