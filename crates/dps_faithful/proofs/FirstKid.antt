-- The first kid of a split keeps the invariant.
use Rattle.std.proofs.Common.{◌≡◌, [], ◌∷◌, sym, ◌∙◌, subst, false}
use Rattle.std.proofs.lemmas.List.Elements.{All-contains}
use Rattle.dps_terms.specs.Kinds.{NoRigidName}
use Rattle.dps_process.specs.Problem.{Problem}
use Rattle.dps_know.proofs.Listing.{all_of}
use Rattle.dps_solver.specs.Scene.{Ask}
use Rattle.dps_solver.specs.Search.{GeneralSolution}
use Rattle.dps_directions.specs.Shapes.{IsListedFor}
use Rattle.dps_node.specs.Node.{SymbolicConfig, Node, scene_of}
use Rattle.dps_node.specs.Splits.{binding, IsConfigUnder, Applies, excluded, IsSplit}
use Rattle.dps_node.specs.Invariant.{IsSound}
use Rattle.dps_faithful.specs.Laws.{HasLowNumbers, BindsTrees}
use Rattle.dps_faithful.proofs.Instances.{zip_left}
use Rattle.dps_faithful.proofs.InheritedFacts.{kid_meaning}
use Rattle.dps_faithful.proofs.KidTrees.{kid_has_levels}
use Rattle.dps_faithful.proofs.KidOlder.{kid_has_older}
use Rattle.dps_faithful.proofs.KidConsistent.{kid_is_consistent}

kid_is_sound : (problem : Problem) (node : Node) (c : SymbolicConfig) (ask : Ask) (solution : GeneralSolution) (kid : Node) → IsSound problem node
    → IsListedFor NoRigidName (scene_of node c) ask solution → BindsTrees problem.signature solution → Applies node solution.bindings kid → HasLowNumbers kid → IsSound problem kid
kid_is_sound problem node c ask solution kid sound found binds applies low =
    let meaning = kid_meaning problem node sound c ask solution found kid applies binds low in
    record {
      levels = kid_has_levels problem node sound c ask solution found kid applies binds low;
      older = kid_has_older problem node sound c ask solution found kid applies binds low;
      consistent = kid_is_consistent problem node sound c ask solution found kid applies;
      unmixed = λ open'. all_of (λ (k : SymbolicConfig). k.mixed ≡ false) kid.configs (λ k h.
          let q = zip_left (IsConfigUnder node (binding node solution.bindings)) node.configs kid.configs k applies.configs h in
          q.2.mixed ∙ All-contains (λ (k : SymbolicConfig). k.mixed ≡ false) node.configs q.0 (sound.unmixed (sym applies.closed ∙ open')) q.1);
      facts = meaning.facts;
      recipes = meaning.recipes;
      closed = meaning.closed;
      done = λ e. applies.examine ∙ sound.done (sym applies.closed ∙ e);
    }

pub first_is_sound : (problem : Problem) (node first second : Node) (c : SymbolicConfig) (ask : Ask) (solution : GeneralSolution) → IsSound problem node
    → IsListedFor NoRigidName (scene_of node c) ask solution → BindsTrees problem.signature solution → IsSplit node solution.bindings (first ∷ second ∷ []) → HasLowNumbers first
    → IsSound problem first
first_is_sound problem node first second c ask solution sound found binds split low =
    let one : split.0 ≡ first = at first second split.0 (excluded node solution.bindings) split.2 in
    subst (λ (q : Node). IsSound problem q) one (kid_is_sound problem node c ask solution split.0 sound found binds split.1 (subst HasLowNumbers (sym one) low))
  where
    at : (x y z w : Node) → x ∷ y ∷ [] ≡ z ∷ w ∷ [] → z ≡ x
    at x y z w e = cc
