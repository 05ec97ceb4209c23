use Rattle.std.proofs.Common.{rules, ℕ, ◌+◌, List, Vec, Global, get_or, ap, sym, subst, ◌∙◌}
use Rattle.std.proofs.lemmas.Option.{slice_get-get_or}
use Rattle.dps_terms.specs.Bindings.{image}
use Rattle.dps_bindings.proofs.Newly.{AreListed, listed_same, listed_more, listed_all}
use Rattle.dps_bindings.proofs.unified.newly_bound.Goals.{in-Some+in_ok-push, in_default}
use Rattle.dps_bindings.proofs.unified.newly_bound.Goals as goal

pub loop-variable-preserved : goal.loop-variable-preserved
loop-variable-preserved c =
    let levels = c.args.order.now.levels.items in
    let before = image c.args.before.now in
    let after = image c.args.after.now in
    let xs = c.args.variables.now in
    let i = c.loop-variable.variable-index in
    let x = get_or xs i 0 in
    let there = slice_get-get_or xs i 0 c.loop-variable-test.true in
    let listed = λ (b : List (ℕ × ℕ)). AreListed levels before after xs (i + 1) b in
    let items = λ (v : Vec (ℕ × ℕ) Global). v.items in
    elim c.match-new_level.branch [
      | in-Some+in_ok-push w ↦
          let l = w.in-Some.level in
          subst listed (sym (ap items w.bound-is ∙ w.in_ok-push.ensures.items))
          (listed_more levels before after xs c.requires.ascending i x l c.loop-variable.bound.items c.loop-variable.invariant there ((c.new_level.ensures l).0 w.in-Some.is))
      | in_default w ↦
          subst listed (sym (ap items w.bound-is))
          (listed_same levels before after xs i x c.loop-variable.bound.items c.loop-variable.invariant there (λ l h. let e = (c.new_level.ensures l).1 h in first_of (cc, search rules)))
    ]

pub returns : goal.returns
returns c =
    listed_all c.args.order.now.levels.items (image c.args.before.now) (image c.args.after.now) c.args.variables.now c.loop-variable.variable-index
    c.loop-variable.bound.items c.loop-variable.invariant c.loop-variable-test.false c.requires.all
