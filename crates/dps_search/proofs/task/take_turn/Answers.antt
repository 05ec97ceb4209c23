use Rattle.std.proofs.Common.{rules, ◌≡◌, ◌<◌, ◌∙◌, List, [], ◌∷◌, length, vec_len, refl, sym, arith}
use Rattle.std.proofs.lemmas.Bool.{eqb-true}
use Rattle.dps_solver.specs.declared.scene.Target.{Target}
use Rattle.dps_search.specs.Code.{scene_of, ask_of}
use Rattle.dps_search.proofs.Turns.{finished, go_nowhere, room_result}
use Rattle.dps_search.proofs.task.take_turn.Goals as goal

nothing : (ts : List Target) → length ts ≡ 0 → ts ≡ []
nothing [] e = refl
nothing (t ∷ ts) e = absurd (omega (arith, e))

pub returns-then-is_empty : goal.returns-then-is_empty
returns-then-is_empty c =
    let old = c.args.task.now in
    let empty : vec_len old.branch.targets ≡ 0 = eqb-true (vec_len old.branch.targets) 0 (sym c.is_empty.ensures ∙ c.if-is_empty.true) in
    let none : length old.branch.targets.items ≡ 0 = omega (arith, old.branch.targets.ok, empty) in
    finished (scene_of c.args.scene.now) (ask_of c.args.ask.now) old old c.args.room (nothing old.branch.targets.items none) c.in_ok-found.found c.in_ok-found.ensures

pub returns-then-room : goal.returns-then-room
returns-then-room c =
    let some : 0 < length c.args.task.now.branch.targets.items = search rules in
    room_result (scene_of c.args.scene.now) c.args.task.now c.move_on.new.task some (ask_of c.args.ask.now) c.args.room c.move_on.result c.if-room.true c.move_on.ensures

pub returns-in-None : goal.returns-in-None
returns-in-None c =
    let old = c.args.task.now in
    let scene = scene_of c.args.scene.now in
    let some : 0 < length old.branch.targets.items = search rules in
    go_nowhere scene (ask_of c.args.ask.now) old old some c.args.room
    c.in-None.ensures
