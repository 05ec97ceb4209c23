use Rattle.std.proofs.Common.{ℕ, List, map, ◌∙◌, ◌∷◌, ◌++◌, [], ap}
use Rattle.std.proofs.lemmas.List.{map-append}
use Rattle.dps_theory.proofs.Walking.{replicate_next}
use Rattle.dps_theory.proofs.index.RootIndex.empty.Goals as goal

pub loop-preserved : goal.loop-preserved
loop-preserved c =
    replicate_next [] (map (λ v. v.items) c.loop.by_root.items) (map (λ v. v.items) c.push.new.self.items) c.loop.counter c.loop.invariant
    (ap (map (λ v. v.items)) c.in_ok-push.ensures.items ∙ map-append (λ v. v.items) c.loop.by_root.items _ ∙ ap (λ (l : List ℕ). map (λ v. v.items) c.loop.by_root.items ++ l ∷ []) c.new.ensures.items)
