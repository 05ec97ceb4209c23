use Rattle.std.proofs.Common.{ℕ, max, map, ap, ◌∙◌}
use Rattle.std.specs.List.{flat_map}
use Rattle.std.proofs.lemmas.Result.{IfOk-weaker}
use Rattle.dps_terms.specs.Variables.{occurrences}
use Rattle.dps_know.specs.Know.{compositions}
use Rattle.dps_solver.specs.Search.{least_above, entry_numbers, disequation_numbers}
use Rattle.dps_solver.specs.Code.{disequation_of}
use Rattle.dps_solver.specs.declared.scene.Disequation.{Disequation}
use Rattle.dps_search.proofs.Above.{system_is, flat_map-map}
use Rattle.dps_search.proofs.numbers.above_system.Goals as goal

pub returns : goal.returns
returns c =
    let s = c.args.scene.now in
    let ds = s.disequations.items in
    let one = c.in_ok-levels.levels in
    let two = c.in_ok-entries.entries in
    let three = c.in_ok-labels.labels in
    IfOk-weaker c.above_disequations.result _ _
    (λ n h. system_is (map (λ (p : ℕ × ℕ). p.0) s.levels.items) (flat_map entry_numbers s.know.entries) (flat_map occurrences (compositions s.know)) (flat_map occurrences s.know.handles)
    (flat_map occurrences s.labels.items) (flat_map disequation_numbers (map disequation_of ds)) one two three n
    (c.in_ok-levels.ensures ∙ ap (λ ps. max 0 (least_above (map (λ (p : ℕ × ℕ). p.0) ps))) c.deref.ensures.value)
    c.in_ok-entries.ensures
    (c.in_ok-labels.ensures ∙ ap (λ ts. max two (least_above (flat_map occurrences ts))) c.deref-2.ensures.value)
    (h ∙ ap (λ es. max three (least_above (flat_map (λ (e : Disequation). disequation_numbers (disequation_of e)) es))) c.deref-3.ensures.value
    ∙ ap (λ ns. max three (least_above ns)) (flat_map-map disequation_numbers disequation_of ds)))
    c.above_disequations.ensures
