-- A node with some of its configurations keeps the invariant, and a partition gives each instance to one kid.
use Rattle.std.proofs.Common.{◌≡◌, ℕ, ◌+◌, List, [], ◌∷◌, ◌++◌, length, refl, sym, ap, subst, inl, inr, arith, Bool, true, false}
use Rattle.std.specs.Prelude.{◌⊎◌, Contains, All}
use Rattle.std.proofs.lemmas.List.Elements.{All-contains, All-weaker}
use Rattle.dps_branch.specs.declared.Side.{Side}
use Rattle.dps_terms.specs.Tree.{Tree}
use Rattle.dps_process.specs.Process.{Process}
use Rattle.dps_process.specs.Problem.{Problem}
use Rattle.dps_process.specs.Steps.{Config}
use Rattle.dps_know.specs.Know.{compositions}
use Rattle.dps_know.proofs.Listing.{all_of}
use Rattle.dps_solver.specs.Scene.{Disequation}
use Rattle.dps_symeval.proofs.Listed.{contains_none, contains_first, contains_later, contains_cases}
use Rattle.dps_directions.specs.Valid.{IsComposed}
use Rattle.dps_node.specs.Node.{SymbolicConfig, Node, with_configs}
use Rattle.dps_node.specs.Splits.{IsConfigUnder, chosen, where_any, partition}
use Rattle.dps_node.specs.Meaning.{IsSolutionOf, IsInstance, IsClosedInMeaning, SeparatesInstances}
use Rattle.dps_node.specs.Invariant.{messages_in, HasLevels, HasOlderParts, HasFacts, IsNodeTree, IsNodePart, IsNodeMessage, IsNodeDisequation, IsSound}
use Rattle.dps_faithful.specs.Laws.{AreApart}

module _ (problem : Problem) (node : Node) (cs : List SymbolicConfig) (among : (c : SymbolicConfig) → Contains cs c → Contains node.configs c) where
  abbrev fewer : Node
  fewer = with_configs node cs

  pub solves_node : (s : ℕ → Tree) → IsSolutionOf problem.signature fewer s → IsSolutionOf problem.signature node s
  solves_node s h = record { solution = h.solution; over = h.over }

  pub solves_fewer : (s : ℕ → Tree) → IsSolutionOf problem.signature node s → IsSolutionOf problem.signature fewer s
  solves_fewer s h = record { solution = h.solution; over = h.over }

  under_node : (s : ℕ → Tree) (k l : SymbolicConfig) → IsConfigUnder fewer s k l → IsConfigUnder node s k l
  under_node s k l h = record { side = h.side; values = h.values; frame = h.frame; parts = h.parts; mixed = h.mixed }

  under_fewer : (s : ℕ → Tree) (k l : SymbolicConfig) → IsConfigUnder node s k l → IsConfigUnder fewer s k l
  under_fewer s k l h = record { side = h.side; values = h.values; frame = h.frame; parts = h.parts; mixed = h.mixed }

  pub instance_of_node : (s : ℕ → Tree) (side : Side) (c : Config) → IsInstance fewer s side c → IsInstance node s side c
  instance_of_node s side c h =
      record { config = h.config; listed = among h.config h.listed; of_side = h.of_side; ground = h.ground; under = under_node s h.config h.ground h.under; parts = h.parts; frame = h.frame }

  pub instance_of_fewer : (s : ℕ → Tree) (side : Side) (c : Config) → (h : IsInstance node s side c) → Contains cs h.config → IsInstance fewer s side c
  instance_of_fewer s side c h there =
      record { config = h.config; listed = there; of_side = h.of_side; ground = h.ground; under = under_fewer s h.config h.ground h.under; parts = h.parts; frame = h.frame }

  tree_of_fewer : (l : ℕ) (t : Tree) → IsNodeTree problem.signature node l t → IsNodeTree problem.signature fewer l t
  tree_of_fewer l t h = record { over = h.over; declared_names = h.declared_names; level = h.level }

  part_of_fewer : (p : Process) → IsNodePart problem.signature node p → IsNodePart problem.signature fewer p
  part_of_fewer p h = record { terms = h.terms; channels = h.channels; binders = h.binders; free = h.free }

  disequation_of_fewer : (d : Disequation) → IsNodeDisequation problem.signature node d → IsNodeDisequation problem.signature fewer d
  disequation_of_fewer d h = record {
    trees =
        All-weaker (λ (p : Tree × Tree). IsNodeTree problem.signature node node.m p.0)
        (λ (p : Tree × Tree). IsNodeTree problem.signature fewer node.m p.0) (λ p k. tree_of_fewer node.m p.0 k) d.pairs
        h.trees;
    patterns = h.patterns;
    free = h.free;
  }

  levels_of_fewer : HasLevels problem.signature node → HasLevels problem.signature fewer
  levels_of_fewer h = record {
    length = h.length;
    rising = h.rising;
    entries = h.entries;
    variables = h.variables;
    labels = λ before after c t e. tree_of_fewer (messages_in before) t (h.labels before after c t e);
    in_work = h.in_work;
  }

  each : (P : SymbolicConfig → Type 0) → All P node.configs → All P cs
  each P h = all_of P cs (λ c k. All-contains P node.configs c h (among c k))

  older_of_fewer : HasOlderParts problem.signature node → HasOlderParts problem.signature fewer
  older_of_fewer h = record {
    recipes = h.recipes;
    values = λ c i e v there at value. h.values c i e v (among c there) at value;
    each_value = each (λ (c : SymbolicConfig). length c.values ≡ length node.know.entries) h.each_value;
    each_message = each (λ (c : SymbolicConfig). length c.frame ≡ node.m) h.each_message;
    messages = each (λ (c : SymbolicConfig). All (IsNodeMessage problem.signature node) c.values × All (IsNodeMessage problem.signature node) c.frame) h.messages;
    parts = all_of (λ (c : SymbolicConfig). All (IsNodePart problem.signature fewer) c.parts) cs (λ c k.
        All-weaker (IsNodePart problem.signature node) (IsNodePart problem.signature fewer) part_of_fewer c.parts
        (All-contains (λ (c : SymbolicConfig). All (IsNodePart problem.signature node) c.parts) node.configs c h.parts (among c k)));
    recorded = All-weaker (λ t. IsComposed t × IsNodeTree problem.signature node node.m t) (λ t. IsComposed t × IsNodeTree problem.signature fewer node.m t)
        (λ t k. (k.0, tree_of_fewer node.m t k.1)) (compositions node.know) h.recorded;
    handles = All-weaker (IsNodeTree problem.signature node node.m) (IsNodeTree problem.signature fewer node.m) (tree_of_fewer node.m) node.know.handles h.handles;
    examined = h.examined;
    disequations = All-weaker (IsNodeDisequation problem.signature node) (IsNodeDisequation problem.signature fewer) disequation_of_fewer node.disequations h.disequations;
  }

  facts_of_fewer : (s : ℕ → Tree) (l : SymbolicConfig) → HasFacts node s l → HasFacts fewer s l
  facts_of_fewer s l h =
      record { new = h.new; recorded = h.recorded; arguments = h.arguments; unique = h.unique; simple = h.simple; handles = h.handles }

  closed_of_fewer : IsClosedInMeaning problem node → IsClosedInMeaning problem fewer
  closed_of_fewer h = record {
    equivalent = λ s one two c d solves first second.
        h.equivalent s one two c d (solves_node s solves) (instance_of_node s one c first) (instance_of_node s two d second);
    unique = λ s k l solves there under. h.unique s k l (solves_node s solves) (among k there) (under_node s k l under);
    computed = λ s side c r solves first recipe succeeds.
        let n = h.computed s side c r (solves_node s solves) (instance_of_node s side c first) recipe succeeds in
        record {
          tree = n.tree;
          over = n.over;
          ground = n.ground;
          normal = n.normal;
          value = λ k l there under. n.value k l (among k there) (under_node s k l under);
        };
  }

  pub sound_with_fewer : IsSound problem node → IsSound problem fewer
  sound_with_fewer h = record {
    levels = levels_of_fewer h.levels;
    older = older_of_fewer h.older;
    consistent = h.consistent;
    unmixed = λ open'. each (λ (c : SymbolicConfig). c.mixed ≡ false) (h.unmixed open');
    facts = λ s k l solves there under. facts_of_fewer s l (h.facts s k l solves (among k there) (under_node s k l under));
    recipes = λ s k l solves there under. h.recipes s k l (solves_node s solves) (among k there) (under_node s k l under);
    closed = λ e. closed_of_fewer (h.closed e);
    done = h.done;
  }

-- what is chosen is of the list, and all of it is chosen for one truth value
pub from_chosen : {A : Type 0} (b : Bool) (bs : List Bool) (cs : List A) (c : A) → Contains (chosen b bs cs) c → Contains cs c
from_chosen true [] cs c h = absurd (contains_none c h)
from_chosen false [] cs c h = absurd (contains_none c h)
from_chosen true (true ∷ bs) [] c h = absurd (contains_none c h)
from_chosen true (false ∷ bs) [] c h = absurd (contains_none c h)
from_chosen false (true ∷ bs) [] c h = absurd (contains_none c h)
from_chosen false (false ∷ bs) [] c h = absurd (contains_none c h)
from_chosen {A} true (true ∷ bs) (x ∷ cs) c h = elim (contains_cases x (chosen true bs cs) c h) [
  | inl e ↦ subst (λ (y : A). Contains (x ∷ cs) y) (sym e) (contains_first x cs)
  | inr k ↦ contains_later x cs c (from_chosen true bs cs c k)
]
from_chosen true (false ∷ bs) (x ∷ cs) c h = contains_later x cs c (from_chosen true bs cs c h)
from_chosen false (true ∷ bs) (x ∷ cs) c h = contains_later x cs c (from_chosen false bs cs c h)
from_chosen {A} false (false ∷ bs) (x ∷ cs) c h = elim (contains_cases x (chosen false bs cs) c h) [
  | inl e ↦ subst (λ (y : A). Contains (x ∷ cs) y) (sym e) (contains_first x cs)
  | inr k ↦ contains_later x cs c (from_chosen false bs cs c k)
]

to_chosen : {A : Type 0} (bs : List Bool) (cs : List A) (c : A) → length bs ≡ length cs → Contains cs c → Contains (chosen true bs cs) c ⊎ Contains (chosen false bs cs) c
to_chosen bs [] c e h = absurd (contains_none c h)
to_chosen [] (x ∷ cs) c e h = absurd (omega (arith, e))
to_chosen {A} (true ∷ bs) (x ∷ cs) c e h = elim (contains_cases x cs c h) [
  | inl d ↦ inl (subst (λ (y : A). Contains (x ∷ chosen true bs cs) y) (sym d) (contains_first x (chosen true bs cs)))
  | inr k ↦ elim (to_chosen bs cs c (omega (arith, e)) k) [ inl i ↦ inl (contains_later x (chosen true bs cs) c i) | inr i ↦ inr i ]
]
to_chosen {A} (false ∷ bs) (x ∷ cs) c e h = elim (contains_cases x cs c h) [
  | inl d ↦ inr (subst (λ (y : A). Contains (x ∷ chosen false bs cs) y) (sym d) (contains_first x (chosen false bs cs)))
  | inr k ↦ elim (to_chosen bs cs c (omega (arith, e)) k) [ inl i ↦ inl i | inr i ↦ inr (contains_later x (chosen false bs cs) c i) ]
]

-- two kids are those of both truth values
pub two_kids : (node one two : Node) (ts fs : List SymbolicConfig) → one ∷ two ∷ [] ≡ where_any node ts ++ where_any node fs → (one ≡ with_configs node ts) × (two ≡ with_configs node fs)
two_kids node one two [] [] e = absurd (omega (arith, ap length e))
two_kids node one two [] (f ∷ fs) e = absurd (omega (arith, ap length e))
two_kids node one two (t ∷ ts) [] e = absurd (omega (arith, ap length e))
two_kids node one two (t ∷ ts) (f ∷ fs) e = (first, second)
  where
    first : one ≡ with_configs node (t ∷ ts)
    first = cc

    second : two ≡ with_configs node (f ∷ fs)
    second = cc

parted : (problem : Problem) (node : Node) (holds : List Bool) → length holds ≡ length node.configs
    → AreApart problem node (with_configs node (chosen true holds node.configs)) (with_configs node (chosen false holds node.configs))
    → SeparatesInstances problem node (with_configs node (chosen true holds node.configs)) (with_configs node (chosen false holds node.configs))
parted problem node holds long apart =
    let one : (c : SymbolicConfig) → Contains (chosen true holds node.configs) c → Contains node.configs c = from_chosen true holds node.configs in
    let two : (c : SymbolicConfig) → Contains (chosen false holds node.configs) c → Contains node.configs c = from_chosen false holds node.configs in
    record {
      solutions = λ s. (
        (solves_fewer problem node (chosen true holds node.configs) one s, solves_node problem node (chosen true holds node.configs) one s),
        (solves_fewer problem node (chosen false holds node.configs) two s, solves_node problem node (chosen false holds node.configs) two s),
      );
      words = λ s. (refl, refl);
      instances = λ s side c. (
        λ h. elim (to_chosen holds node.configs h.config long h.listed) [
          | inl k ↦ inl (instance_of_fewer problem node (chosen true holds node.configs) one s side c h k)
          | inr k ↦ inr (instance_of_fewer problem node (chosen false holds node.configs) two s side c h k)
        ],
        λ h. elim h [
          | inl k ↦ instance_of_node problem node (chosen true holds node.configs) one s side c k
          | inr k ↦ instance_of_node problem node (chosen false holds node.configs) two s side c k
        ],
      );
      apart = apart;
    }

pub partition_parts : (problem : Problem) (node one two : Node) (holds : List Bool) → one ∷ two ∷ [] ≡ partition node holds → length holds ≡ length node.configs
    → AreApart problem node one two → SeparatesInstances problem node one two
partition_parts problem node one two holds e long apart =
    let k = two_kids node one two (chosen true holds node.configs) (chosen false holds node.configs) e in
    subst (λ (q : Node). SeparatesInstances problem node q two) (sym k.0)
    (subst (λ (q : Node). SeparatesInstances problem node (with_configs node (chosen true holds node.configs)) q) (sym k.1)
    (parted problem node holds long
    (subst (λ (q : Node). AreApart problem node (with_configs node (chosen true holds node.configs)) q) k.1 (subst (λ (q : Node). AreApart problem node q two) k.0 apart))))

pub partition_sound : (problem : Problem) (node one two : Node) (holds : List Bool) → IsSound problem node → one ∷ two ∷ [] ≡ partition node holds
    → IsSound problem one × IsSound problem two
partition_sound problem node one two holds sound e =
    let k = two_kids node one two (chosen true holds node.configs) (chosen false holds node.configs) e in (
      subst (λ (q : Node). IsSound problem q) (sym k.0) (sound_with_fewer problem node (chosen true holds node.configs) (from_chosen true holds node.configs) sound),
      subst (λ (q : Node). IsSound problem q) (sym k.1) (sound_with_fewer problem node (chosen false holds node.configs) (from_chosen false holds node.configs) sound),
    )
