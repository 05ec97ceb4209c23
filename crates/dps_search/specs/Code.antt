-- What the code's structures stand for.
use Rattle.std.specs.Prelude.{map}
use Rattle.dps_terms.specs.Bindings.{image}
use Rattle.dps_solver.specs.Scene.{System, Scene, Ask}
use Rattle.dps_solver.specs.Code.{disequation_of}
use Rattle.dps_solver.specs.Search.{GeneralSolution, Branch}
use Rattle.dps_search.specs.declared.scene.Scene.{Scene as CodeScene}
use Rattle.dps_search.specs.declared.scene.Ask.{Ask as CodeAsk}
use Rattle.dps_search.specs.declared.scene.Mgs.{Mgs}
use Rattle.dps_search.specs.declared.branch.Branch.{Branch as CodeBranch}
use Rattle.dps_bindings.specs.Putting.{in_turn}
use Rattle.dps_bindings.specs.Pieces.{pairs_of}

abbrev pub system_of : CodeScene → System
system_of s =
    record {
      m = s.m;
      levels = s.levels.items;
      know = s.know;
      labels = s.labels.items;
      disequations = map disequation_of s.disequations.items;
    }

abbrev pub scene_of : CodeScene → Scene
scene_of s = record { system = system_of s; values = s.values.items }

abbrev pub ask_of : CodeAsk → Ask
ask_of a = record { equations = a.equations.items; targets = a.targets.items }

-- a solution with the substitutions that its lists of pairs are
abbrev pub solution_seen : Mgs → GeneralSolution
solution_seen g = record { bindings = image g.bindings; answers = g.answers.items; theta = image g.theta }

abbrev pub branch_of : CodeBranch → Branch
branch_of b =
    record {
      theta = image b.theta;
      trees = in_turn (pairs_of b.trees.items);
      targets = b.targets.items;
      levels = b.order.levels.items;
      next = b.next;
    }
