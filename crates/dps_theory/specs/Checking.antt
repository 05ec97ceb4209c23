-- When rules make an accepted theory, and the first fault where they do not. Rules are counted from 1.
use Rattle.std.specs.Prelude.{◌≡◌, ◌<◌, ◌-◌, ℕ, zero, suc, List, slice_get, Some, Option, None, take, ⊤}
use Rattle.dps_terms.specs.Tree.{Tree}
use Rattle.dps_signature.specs.Signature.{Shape}
use Rattle.dps_signature.specs.Kinds.{IsConstructorTerm}
use Rattle.dps_theory.specs.Theory.{Rule, Agree, IsAccepted, HasDestructorRoot, HasConstructorArguments, IsBounded}
use Rattle.dps_theory.specs.Overlaps.{IsOverlap}
use Rattle.dps_theory.specs.declared.form.FormFault.{FormFault}
use Rattle.dps_theory.specs.declared.form.FormFault.TheVariants.{RootNotDestructor, ArgumentNotConstructor, RightNotConstructor, NotSubterm}
use Rattle.dps_theory.specs.declared.check.TheoryRefusal.{TheoryRefusal}
use Rattle.dps_theory.specs.declared.check.TheoryRefusal.TheVariants.{Form, Overlap, Memory}

-- the rule of a number
abbrev pub numbered_rule : List Rule → ℕ → Option Rule
numbered_rule rules zero = None
numbered_rule rules (suc i) = slice_get rules i

-- what is asked of a rule by itself, in the order in which it is asked
pub record HasForm (shapes : List Shape) (r : Rule) : Type 0 where
  pub root : HasDestructorRoot shapes r.left
  pub arguments : HasConstructorArguments shapes r.left
  pub constructed : IsConstructorTerm shapes r.right
  pub bounded : IsBounded r

-- the first of these conditions that the rule does not meet
abbrev pub IsFault : List Shape → Rule → FormFault → Type 0
IsFault shapes r RootNotDestructor = ¬ HasDestructorRoot shapes r.left
IsFault shapes r ArgumentNotConstructor = HasDestructorRoot shapes r.left × (¬ HasConstructorArguments shapes r.left)
IsFault shapes r RightNotConstructor = HasDestructorRoot shapes r.left × HasConstructorArguments shapes r.left × (¬ IsConstructorTerm shapes r.right)
IsFault shapes r NotSubterm = HasDestructorRoot shapes r.left × HasConstructorArguments shapes r.left × IsConstructorTerm shapes r.right × (¬ IsBounded r)

-- the rules before that of a number are accepted by themselves
abbrev pub AreAcceptedBefore : List Shape → List Rule → ℕ → Type 0
AreAcceptedBefore shapes rules number = IsAccepted (record { shapes = shapes; rules = take (number - 1) rules })

-- the first fault: the rules before are accepted, and this one is refused by itself
pub record IsFirstFault (shapes : List Shape) (rules : List Rule) (number : ℕ) (fault : FormFault) : Type 0 where
  pub rule : Rule
  pub is : numbered_rule rules number ≡ Some rule
  pub before : AreAcceptedBefore shapes rules number
  pub faulty : IsFault shapes rule fault

-- the first fault: the rules before are accepted, this one is not refused by itself, and it overlaps with one before,
-- while it agrees with all rules before that one
pub record IsFirstOverlap (shapes : List Shape) (rules : List Rule) (first second : ℕ) (unifier : List (ℕ × Tree)) : Type 0 where
  pub earlier : Rule
  pub rule : Rule
  pub is_earlier : numbered_rule rules first ≡ Some earlier
  pub is : numbered_rule rules second ≡ Some rule
  pub in_order : first < second
  pub before : AreAcceptedBefore shapes rules second
  pub form : HasForm shapes rule
  pub agrees : (n : ℕ) (r : Rule) → n < first → numbered_rule rules n ≡ Some r → Agree r rule
  pub overlap : IsOverlap earlier rule unifier

-- what a refusal says; out of memory says nothing
abbrev pub IsRefused : List Shape → List Rule → TheoryRefusal → Type 0
IsRefused shapes rules (Form number fault) = IsFirstFault shapes rules number fault
IsRefused shapes rules (Overlap first second unifier) = IsFirstOverlap shapes rules first second unifier
IsRefused shapes rules Memory = ⊤

-- the rules have a first fault: one that is refused by itself, or two that overlap
pub data HaveFault (shapes : List Shape) (rules : List Rule) : Type 0 where
  by_itself : (number : ℕ) (fault : FormFault) → IsFirstFault shapes rules number fault → HaveFault shapes rules
  by_overlap : (first second : ℕ) (unifier : List (ℕ × Tree)) → IsFirstOverlap shapes rules first second unifier → HaveFault shapes rules
