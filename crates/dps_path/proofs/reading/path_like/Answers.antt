use Rattle.std.proofs.Common.{◌≡◌, ℕ, List, ◌∷◌, Some, length, refl, ap, ◌∙◌, sym, arith}
use Rattle.std.proofs.lemmas.Bool.Decides.{nat_tests}
use Rattle.dps_path.proofs.Scans.{root-alone, behind-slash}
use Rattle.dps_path.proofs.reading.path_like.Goals as goal

pub returns-then-is_empty : goal.returns-then-is_empty
returns-then-is_empty c = λ p all text.
    let e : c.args.bytes.now ≡ 47 ∷ c.in-Some.rest.now = c.in-Some.ensures.cases.0 ∙ ap (λ b. b ∷ c.in-Some.rest.now) c.if-first-ne47.false in
    let z : length c.in-Some.rest.now ≡ 0 = grind (arith, nat_tests, sym c.is_empty.ensures ∙ c.if-is_empty.true) in
    ap (λ q. Some q) (c.root.ensures ∙ root-alone p c.in-Some.rest.now c.args.bytes.now e z all text)

pub returns : goal.returns
returns c = λ p all text.
    let e : c.args.bytes.now ≡ 47 ∷ c.in-Some.rest.now = c.in-Some.ensures.cases.0 ∙ ap (λ b. b ∷ c.in-Some.rest.now) c.if-first-ne47.false in
    let more = λ (z : length c.in-Some.rest.now ≡ 0). let clash : ⊥ = grind (arith, nat_tests, sym c.is_empty.ensures ∙ c.if-is_empty.false) in clash in
    c.in_ok-path.ensures ∙ behind-slash p c.in-Some.rest.now c.args.bytes.now e more all text
