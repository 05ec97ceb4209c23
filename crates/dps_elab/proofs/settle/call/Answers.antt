use Rattle.std.proofs.Common.{rules, refl, ap, ◌∙◌, arith, ◌≡◌, get_or}
use Rattle.std.proofs.lemmas.List.{get_or-drop}
use Rattle.dps_elab.proofs.Turns.{call_turned, call_lighter, call_nothing_turned}
use Rattle.dps_elab.proofs.settle.call.Goals as goal

pub returns-then-scope-number : goal.returns-then-scope-number
returns-then-scope-number c =
    λ name. (call_nothing_turned c.args.scope c.args.stack.now.items c.args.number c.args.arguments.now name (search rules) (search rules), tt)

pub returns : goal.returns
returns c =
    let there : c.index-rest-0.result ≡ get_or c.args.scope.definitions.now c.args.number c.index-rest-0.result =
    c.index-rest-0.is ∙ ap (λ ds. get_or ds 0 c.index-rest-0.result) c.split_at.ensures.back ∙ get_or-drop c.args.number c.args.scope.definitions.now 0 c.index-rest-0.result
    ∙ ap (λ k. get_or c.args.scope.definitions.now k c.index-rest-0.result) (omega arith) in
    let body : c.definition.inside.body ≡ c.index-rest-0.result.body = search rules in
    λ name. (
      call_turned c.args.scope _ c.args.stack.now.items c.push_arguments.new.stack.items c.args.number c.args.arguments.now name c.index-rest-0.result c.definition.inside.body
          (omega arith) there body refl c.split_at.ensures.front (search rules) (search rules) (search rules),
      call_lighter c.args.scope.definitions.now c.split_at.result.0.now c.args.number c.args.arguments.now c.index-rest-0.result c.definition.inside.body (omega arith) there
          c.split_at.ensures.front body,
    )
