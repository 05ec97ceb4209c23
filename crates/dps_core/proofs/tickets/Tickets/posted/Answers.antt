use Rattle.std.proofs.Common.{◌≡◌, ℕ, List, ◌+◌, ◌++◌, ◌∷◌, [], ap, ◌∙◌, append_assoc}
use Rattle.dps_core.specs.Pool.{tickets, without}
use Rattle.dps_core.proofs.Lists.{tickets-next}
use Rattle.dps_core.proofs.tickets.Tickets.posted.Goals as goal

pub loop-number-preserved : goal.loop-number-preserved
loop-number-preserved c =
    let left : List ℕ = without c.args.ticket c.args.self.now in
    let n = c.loop-number.number in
    let first = c.args.first in
    c.in_ok-add.ensures.added
    ∙ ap (λ k. c.loop-number.hand ++ (first + k) ∷ []) c.from.ensures
    ∙ ap (λ (hand : List ℕ). hand ++ (first + n) ∷ []) c.loop-number.invariant
    ∙ append_assoc left (tickets first n) ((first + n) ∷ [])
    ∙ ap (λ (new : List ℕ). left ++ new) (tickets-next first n)
