use Rattle.std.proofs.Common.{◌≡◌, [], ◌∷◌, ◌++◌, None, true, false, refl, sym, subst, ◌∙◌, inr}
use Rattle.dps_terms.specs.Bindings.{bound}
use Rattle.dps_renewal.specs.Putting.{PutsFor}
use Rattle.dps_renewal.proofs.Puts.{put_kept, put_more, put_found, not_found}
use Rattle.dps_renewal.proofs.renewal.put.Goals as goal

pub returns-then-is_variable : goal.returns-then-is_variable
returns-then-is_variable c = λ z xs e h.
    put_kept z xs c.args.variable c.args.by.now h (inr (sym e ∙ (sym c.whole.ensures ∙ c.if-is_variable.ensures.0 refl)))

pub returns-in_ok-bind : goal.returns-in_ok-bind
returns-in_ok-bind c = λ z xs e h.
    let none : bound c.args.by.now c.args.variable ≡ None = not_found c.get.result (bound c.args.by.now c.args.variable) c.if-is_none.ensures c.get.ensures in
    subst (PutsFor z (xs ++ c.args.variable ∷ [])) (sym c.in_ok-bind.ensures.ok)
    (put_more z xs c.args.variable c.args.tree c.args.by.now h none e (λ k. let e : false ≡ true = c.if-is_variable.ensures.1 (c.whole.ensures ∙ k) in cc))

pub returns-else-is_none : goal.returns-else-is_none
returns-else-is_none c = λ z xs e h. put_found z xs c.args.variable c.args.by.now c.get.result c.if-is_none.ensures c.get.ensures h
