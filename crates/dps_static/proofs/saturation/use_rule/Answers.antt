use Rattle.std.proofs.Common.{◌≡◌, ◌∙◌, ◌++◌, ◌∷◌, [], length, slice_get, get_or, Some, refl, sym, ap, subst, arith}
use Rattle.std.specs.Prelude.{All, Contains}
use Rattle.std.proofs.lemmas.Option.{slice_get-get_or}
use Rattle.std.proofs.lemmas.List.Elements.{Contains-get_or}
use Rattle.dps_terms.specs.Tree.{Tree}
use Rattle.dps_terms.specs.Replace.{substitute}
use Rattle.dps_terms.specs.Variables.{variables}
use Rattle.dps_theory.specs.Theory.{Rule, HasRule}
use Rattle.dps_static.specs.Ways.{IsNotComposed}
use Rattle.dps_static.specs.Generic.{generic}
use Rattle.dps_static.specs.Binding.{BindsParts}
use Rattle.dps_static.specs.Cuts.{CoversNewLeft}
use Rattle.dps_static.specs.Uses.{IsUse}
use Rattle.dps_static.specs.Replies.{IsNewTree}
use Rattle.dps_static.specs.Asking.{IsAsked}
use Rattle.dps_static.proofs.AskingARule.{IsAsking}
use Rattle.dps_static.proofs.AskingARule.{asking_first, asking_waits, asking_uses, asking_gives, asked_now, used_up}
use Rattle.dps_static.proofs.saturation.use_rule.Goals as goal

pub new_ways-requires : goal.new_ways-requires
new_ways-requires c =
    let rule = c.index-rules-place.result in
    let rules = c.args.theory.now.rules in
    let is : rule ≡ get_or rules c.args.place rule = c.index-rules-place.is ∙ ap (λ xs. get_or xs c.args.place rule) c.rules.ensures.list in
    let there : slice_get rules c.args.place ≡ Some rule = slice_get-get_or rules c.args.place rule c.requires.place ∙ ap Some (sym is) in
    let a : IsAsked c.args.knowledge.now.kept c.args.knowledge.now.uses.items rule c.args.asked.now = c.requires.asked rule there in
    a.within

pub loop-by-init : goal.loop-by-init
loop-by-init c =
    let rule = c.index-rules-place.result in
    let rules = c.args.theory.now.rules in
    let kept = c.args.knowledge.now.kept in
    let asked = c.args.asked.now in
    let new = c.in_ok-ways.ways.items in
    let is : rule ≡ get_or rules c.args.place rule = c.index-rules-place.is ∙ ap (λ xs. get_or xs c.args.place rule) c.rules.ensures.list in
    let there : slice_get rules c.args.place ≡ Some rule = slice_get-get_or rules c.args.place rule c.requires.place ∙ ap Some (sym is) in
    let left_is : c.rule.inside.left ≡ rule.left = ap (λ (r : Rule). r.left) c.rule.view_is in
    let covers : CoversNewLeft kept asked.trees rule.left new =
    subst (λ (t : Tree). CoversNewLeft kept asked.trees t new) left_is c.in_ok-ways.ensures.covers in
    let parts : All (BindsParts kept (variables rule.left)) new =
    subst (λ (t : Tree). All (BindsParts kept (variables t)) new) left_is c.in_ok-ways.ensures.parts in
    rw (c.in_ok-append.ensures.items, c.in_ok-append.ensures.other_items)
    (asking_first c.args.theory.now rule c.len-asked.result c.args.knowledge.now.recipes.items kept c.args.knowledge.now.uses.items asked new c.len-asked.ensures
    (c.requires.asked rule there) covers parts)

-- the way waits
pub loop-by-preserved-in-Continue-branch-5 : goal.loop-by-preserved-in-Continue-branch-5
loop-by-preserved-in-Continue-branch-5 c =
    let theory = c.args.theory.now in
    let rule = c.index-rules-place.result in
    let old = c.args.knowledge.now in
    let now = c.loop-by.knowledge in
    let asked = c.loop-by.asked in
    let rest = c.pop.new.self.items in
    let asking : IsAsking theory rule asked.trees c.loop-by.more old.recipes.items old.kept old.uses.items now.recipes.items now.kept now.uses.items (rest ++ c.in-Some.by ∷ []) asked.waiting.items =
    subst (λ ws. IsAsking theory rule asked.trees c.loop-by.more old.recipes.items old.kept old.uses.items now.recipes.items now.kept now.uses.items ws asked.waiting.items)
    c.in-Some.ensures.items c.loop-by.invariant in
    let nothing : IsNotComposed now.kept (substitute (generic c.in-Some.by) rule.left) = rw c.in-Waits.is at c.in_ok-ask.ensures in
    rw c.in_ok-push-in-Waits.ensures.items
    (asking_waits theory rule asked.trees c.loop-by.more old.recipes.items old.kept old.uses.items now.recipes.items now.kept now.uses.items rest asked.waiting.items c.in-Some.by asking nothing)

-- both sides are built
pub loop-by-preserved-in-Uses-1 : goal.loop-by-preserved-in-Uses-1
loop-by-preserved-in-Uses-1 c =
    let theory = c.args.theory.now in
    let rule = c.index-rules-place.result in
    let rules = theory.rules in
    let old = c.args.knowledge.now in
    let now = c.loop-by.knowledge in
    let asked = c.loop-by.asked in
    let rest = c.pop.new.self.items in
    let is : rule ≡ get_or rules c.args.place rule = c.index-rules-place.is ∙ ap (λ xs. get_or xs c.args.place rule) c.rules.ensures.list in
    let listed : HasRule theory rule = subst (Contains rules) (sym is) (Contains-get_or rules c.args.place rule c.requires.place) in
    let asking : IsAsking theory rule asked.trees c.loop-by.more old.recipes.items old.kept old.uses.items now.recipes.items now.kept now.uses.items (rest ++ c.in-Some.by ∷ []) asked.waiting.items =
    subst (λ ws. IsAsking theory rule asked.trees c.loop-by.more old.recipes.items old.kept old.uses.items now.recipes.items now.kept now.uses.items ws asked.waiting.items)
    c.in-Some.ensures.items c.loop-by.invariant in
    let is_use : IsUse now.kept rule c.in-Some.by c.in-Uses.one = rw c.in-Uses.is at c.in_ok-ask.ensures in
    rw c.in_ok-push-in-Uses.ensures.items
    (asking_uses theory rule asked.trees c.loop-by.more old.recipes.items old.kept old.uses.items now.recipes.items now.kept now.uses.items rest asked.waiting.items c.in-Some.by asking
    c.in-Uses.one listed is_use)

-- the right side is kept
pub loop-by-preserved : goal.loop-by-preserved
loop-by-preserved c =
    let theory = c.args.theory.now in
    let rule = c.index-rules-place.result in
    let rules = theory.rules in
    let old = c.args.knowledge.now in
    let now = c.loop-by.knowledge in
    let asked = c.loop-by.asked in
    let rest = c.pop.new.self.items in
    let is : rule ≡ get_or rules c.args.place rule = c.index-rules-place.is ∙ ap (λ xs. get_or xs c.args.place rule) c.rules.ensures.list in
    let listed : HasRule theory rule = subst (Contains rules) (sym is) (Contains-get_or rules c.args.place rule c.requires.place) in
    let asking : IsAsking theory rule asked.trees c.loop-by.more old.recipes.items old.kept old.uses.items now.recipes.items now.kept now.uses.items (rest ++ c.in-Some.by ∷ []) asked.waiting.items =
    subst (λ ws. IsAsking theory rule asked.trees c.loop-by.more old.recipes.items old.kept old.uses.items now.recipes.items now.kept now.uses.items ws asked.waiting.items)
    c.in-Some.ensures.items c.loop-by.invariant in
    let made : IsNewTree rule now.recipes.items now.kept c.in-Some.by c.in-Gives.new = rw c.deref.ensures.value at (rw c.in-Gives.is at c.in_ok-ask.ensures) in
    rw (c.in_ok-keep-in-Gives.ensures.recipes, c.in_ok-keep-in-Gives.ensures.kept, c.in_ok-keep-in-Gives.ensures.uses)
    (asking_gives theory rule asked.trees c.loop-by.more old.recipes.items old.kept old.uses.items now.recipes.items now.kept now.uses.items rest asked.waiting.items c.in-Some.by asking
    c.rules.ensures.accepted c.rules.ensures.plain listed c.in-Gives.new made)

pub returns : goal.returns
returns c =
    let theory = c.args.theory.now in
    let rule = c.index-rules-place.result in
    let rules = theory.rules in
    let old = c.args.knowledge.now in
    let now = c.loop-by.knowledge in
    let asked = c.loop-by.asked in
    let ways = c.loop-by.ways.items in
    let is : rule ≡ get_or rules c.args.place rule = c.index-rules-place.is ∙ ap (λ xs. get_or xs c.args.place rule) c.rules.ensures.list in
    let there : slice_get rules c.args.place ≡ Some rule = slice_get-get_or rules c.args.place rule c.requires.place ∙ ap Some (sym is) in
    let none : length ways ≡ 0 = omega (arith, c.in_default.ensures.cases, c.loop-by.ways.ok) in
    record {
      asked = λ other at.
          let same : Some rule ≡ Some other = sym there ∙ at in
          let equal : rule ≡ other = cc in
          subst (λ (x : Rule). IsAsked now.kept now.uses.items x asked) equal
          (asked_now theory rule asked.trees c.loop-by.more old.recipes.items old.kept old.uses.items now.recipes.items now.kept now.uses.items ways asked refl c.loop-by.invariant none);
      uses = c.loop-by.invariant.uses;
      more =
          used_up
          theory
          rule
          asked.trees
          c.loop-by.more
          old.recipes.items
          old.kept
          old.uses.items
          now.recipes.items
          now.kept
          now.uses.items
          ways
          asked.waiting.items
          c.args.place
          there
          c.loop-by.invariant
          none;
    }
