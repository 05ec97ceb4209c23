use Rattle.std.proofs.Common.{◌≡◌, ℕ, List, ◌+◌, ◌++◌, ◌∷◌, [], drop, true, false, sym, ap, ◌∙◌, rules, append_assoc}
use Rattle.std.specs.Prelude.{slice_get, Some}
use Rattle.std.specs.Option.{option_map}
use Rattle.dps_elab.specs.Expansion.{private_numbers}
use Rattle.dps_elab.proofs.Checking.{private_next, public_next}
use Rattle.dps_elab.proofs.expanding.private_names.Goals as goal
use Rattle.dps_elab.proofs.expanding.private_names.Goals.{then-is_private+in_ok-push, else-is_private}

pub loop-number-preserved : goal.loop-number-preserved
loop-number-preserved c =
    let rest : List ℕ = private_numbers (c.loop-number.number + 1) (drop (c.loop-number.number + 1) c.args.signature.now.names) in
    elim c.if-is_private.branch [
      | then-is_private+in_ok-push w ↦
          let is : option_map (λ x. x.is_private) (slice_get c.args.signature.now.names c.loop-number.number) ≡ Some true = search rules in
          let items : c.if-is_private.found.items ≡ c.loop-number.found.items ++ c.loop-number.number ∷ [] = search rules in
          ap (λ ys. ys ++ rest) items
          ∙ append_assoc c.loop-number.found.items (c.loop-number.number ∷ []) rest
          ∙ ap (λ ys. c.loop-number.found.items ++ ys) (sym (private_next c.loop-number.number c.args.signature.now.names c.loop-number.number is))
          ∙ c.loop-number.invariant
      | else-is_private w ↦
          let is : option_map (λ x. x.is_private) (slice_get c.args.signature.now.names c.loop-number.number) ≡ Some false = search rules in
          let items : c.if-is_private.found.items ≡ c.loop-number.found.items = search rules in
          ap (λ ys. ys ++ rest) items
          ∙ ap (λ ys. c.loop-number.found.items ++ ys) (sym (public_next c.loop-number.number c.args.signature.now.names c.loop-number.number is))
          ∙ c.loop-number.invariant
    ]
