-- Kept trees that are closed under the rules pass against themselves.
use Rattle.std.proofs.Common.{◌≡◌, ℕ, List, sym}
use Rattle.dps_terms.specs.declared.Sym.{Sym}
use Rattle.dps_terms.specs.Tree.{Tree, Trees, app}
use Rattle.dps_terms.specs.Replace.{substitute_all}
use Rattle.dps_theory.specs.Theory.{Rule, Theory, HasRule}
use Rattle.dps_static.specs.Generic.{generic}
use Rattle.dps_static.specs.Saturation.{IsDone, IsClosedUnder}
use Rattle.dps_static.proofs.Covering.{ways_built}
use Rattle.dps_static.proofs.Moving.{IsPassed}
use Rattle.dps_static.proofs.Carrying.{ArePassed}

passed_itself :
    (theory : Theory) (kept : List Tree) (rule : Rule) (g : Sym) (patterns : Trees) (s : List (ℕ × Tree)) → HasRule theory rule → rule.left ≡ app g patterns
    → IsDone kept patterns rule.right s → IsPassed theory kept kept g patterns rule.right s
passed_itself theory kept rule g patterns s listed left d = record {
  passed = λ ways are e.
      let b = d.done (ways_built kept ways (substitute_all (generic s) patterns) are e) in
      record {
        way = b.way;
        is_way = b.is_way;
        gives = b.gives;
        reduces = record { rule = rule; listed = listed; patterns = patterns; left = left; by = generic s; matched = sym e; right = sym b.gives };
      };
}

pub closed_passes : (theory : Theory) (kept : List Tree) → IsClosedUnder theory kept → ArePassed theory kept kept
closed_passes theory kept closed = record {
  follows = record { stays = λ one other h k e. e };
  rules = λ rule g patterns listed left.
      let r = closed.rules rule g patterns listed left in
      record { found = r.found; covers = r.covers; passed = λ s c. passed_itself theory kept rule g patterns s listed left (r.done s c) };
}
