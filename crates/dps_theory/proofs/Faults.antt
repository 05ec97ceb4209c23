-- Rules with a first fault make no accepted theory.
use Rattle.std.proofs.Common.{◌≡◌, ℕ, zero, suc, ◌+◌, List, ◌++◌, sym, ◌∙◌, subst, Some}
use Rattle.std.specs.Prelude.{slice_get, Contains}
use Rattle.std.proofs.lemmas.List.Elements.{Contains-append_right, Contains-get_or}
use Rattle.std.proofs.lemmas.Option.{slice_get_within, get_or_from_slice_get}
use Rattle.dps_terms.specs.Tree.{Tree, leaf, var}
use Rattle.dps_terms.specs.Replace.{substitute}
use Rattle.dps_terms.specs.Bindings.{image}
use Rattle.dps_signature.specs.Signature.{Shape}
use Rattle.dps_unify.specs.Renaming.{raised}
use Rattle.dps_unify.proofs.Trees.{substitute_in_turn}
use Rattle.dps_theory.specs.Theory.{Rule, Agree, IsAccepted}
use Rattle.dps_theory.specs.Overlaps.{room, IsOverlap}
use Rattle.dps_theory.specs.Checking.{numbered_rule, IsFault, by_itself, by_overlap}
use Rattle.dps_theory.specs.Laws.{FaultyRulesAreNotAccepted}
use Rattle.dps_theory.specs.declared.form.FormFault.{FormFault}
use Rattle.dps_theory.specs.declared.form.FormFault.TheVariants.{RootNotDestructor, ArgumentNotConstructor, RightNotConstructor, NotSubterm}

pub listed_there : (rules : List Rule) (k : ℕ) (r : Rule) → slice_get rules k ≡ Some r → Contains rules r
listed_there rules k r e = subst (Contains rules) (get_or_from_slice_get rules k r r e) (Contains-get_or rules k r (slice_get_within rules k r e))

numbered_there : (rules : List Rule) (n : ℕ) (r : Rule) → numbered_rule rules n ≡ Some r → Contains rules r
numbered_there rules zero r e = cc
numbered_there rules (suc k) r e = listed_there rules k r e

-- rules that overlap do not agree
pub overlapping_disagree : (r q : Rule) (u : List (ℕ × Tree)) → IsOverlap r q u → ¬ Agree r q
overlapping_disagree r q u o agree =
    let by = room r in
    let z : ℕ → Tree = λ n. image u (n + by) in
    let turn : (t : Tree) → substitute (image u) (raised by t) ≡ substitute z t = λ t. substitute_in_turn (image u) (λ n. leaf (var (n + by))) t in
    o.different_right (agree (image u) z (o.same_left ∙ turn q.left) ∙ sym (turn q.right))

-- a rule that is refused by itself stands in no accepted theory
pub faulty_rule : (shapes : List Shape) (rules : List Rule) (r : Rule) (fault : FormFault) → Contains rules r → IsFault shapes r fault → ¬ IsAccepted (record { shapes = shapes; rules = rules })
faulty_rule shapes rules r RootNotDestructor k f a = f (a.root r k)
faulty_rule shapes rules r ArgumentNotConstructor k f a = f.1 (a.arguments r k)
faulty_rule shapes rules r RightNotConstructor k f a = f.2 (a.constructed r k)
faulty_rule shapes rules r NotSubterm k f a = f.3 (a.bounded r k)

pub faulty_rules : FaultyRulesAreNotAccepted
faulty_rules = λ shapes others rules fault accepted.
    elim fault [
      | by_itself n fault f ↦ faulty_rule shapes (others ++ rules) f.rule fault (Contains-append_right others rules f.rule (numbered_there rules n f.rule f.is)) f.faulty accepted
      | by_overlap m n u f ↦
          overlapping_disagree f.earlier f.rule u f.overlap
          (accepted.agreeing f.earlier f.rule (Contains-append_right others rules f.earlier (numbered_there rules m f.earlier f.is_earlier)) (Contains-append_right others rules f.rule (numbered_there rules n f.rule f.is)))
    ]
