-- What is answered of a side of a problem and labels.
use Rattle.std.specs.Prelude.{◌≡◌, ℕ, List, Contains, slice_get, Some}
use Rattle.dps_branch.specs.declared.Side.{Side}
use Rattle.dps_branch.specs.Sides.{opposite}
use Rattle.dps_theory.specs.Frames.{AreStaticallyEquivalent}
use Rattle.dps_process.specs.Problem.{Problem}
use Rattle.dps_process.specs.Steps.{Config, Label, AreOneBag}
use Rattle.dps_process.specs.Traces.{IsAttack}
use Rattle.dps_semantics.specs.Settling.{IsInSomeOrder}
use Rattle.dps_semantics.specs.Words.{EndsIn, IsStuckAt}
use Rattle.dps_static.specs.declared.Test.{Test}
use Rattle.dps_static.specs.Answer.{test_of, TellsApart}
use Rattle.dps_replay.specs.declared.outcome.Replay.{Replay}
use Rattle.dps_replay.specs.declared.outcome.Replay.TheVariants.{NoRun, Attack, Matched}

-- a run of the side with these labels ends so, with only inputs and outputs left, in some order
abbrev pub IsEnd : Problem → Side → List Label → Config → Type 0
IsEnd problem side word c = IsInSomeOrder (EndsIn problem side word) c

-- no attacker tells the frames apart
abbrev pub LookAlike : Problem → Config → Config → Type 0
LookAlike problem c d = AreStaticallyEquivalent problem.signature problem.theory c.frame d.frame

-- the test holds in just one of the frames
abbrev pub IsToldBy : Problem → Config → Config → Test → Type 0
IsToldBy problem c d test = TellsApart problem.signature problem.theory c.frame d.frame (test_of test)

-- no item stands at two places
abbrev pub AreDistinct : {A : Type 0} → List A → Type 0
AreDistinct {A} xs = (i j : ℕ) (x : A) → slice_get xs i ≡ Some x → slice_get xs j ≡ Some x → i ≡ j

-- An end of the side to which no end of the other looks alike. Each of these is told from it by some test of the list, each
-- test of the list tells some of them from it, and no test stands twice.
pub record IsUnmatched (problem : Problem) (side : Side) (word : List Label) (end : Config) (tests : List Test) : Type 0 where
  pub reached : IsEnd problem side word end
  pub unlike : (d : Config) → IsEnd problem (opposite side) word d → ¬ LookAlike problem end d
  pub told : (d : Config) → IsEnd problem (opposite side) word d → (test : Test) × Contains tests test × IsToldBy problem end d test
  pub useful : (test : Test) → Contains tests test → (d : Config) × IsEnd problem (opposite side) word d × IsToldBy problem end d test
  pub distinct : AreDistinct tests

-- Each pair is an end of the side and one of the other that look alike, and each end of the side stands first in a pair. There
-- is an end, and no attack.
pub record AreMatched (problem : Problem) (side : Side) (word : List Label) (pairs : List (Config × Config)) : Type 0 where
  pub run : (c : Config) × IsEnd problem side word c
  pub no_attack : ¬ IsAttack problem side word
  pub alike : (c d : Config) → Contains pairs (c, d) → IsEnd problem side word c × IsEnd problem (opposite side) word d × LookAlike problem c d
  pub complete : (c : Config) → IsEnd problem side word c → (first : Config) × (second : Config) × Contains pairs (first, second) × AreOneBag first c

-- The answer: the first label that no run passes, an attack with an end that shows it, or the pairs of ends that look alike.
abbrev pub IsReplay : Problem → Side → List Label → Replay → Type 0
IsReplay problem side word (NoRun n) = IsStuckAt problem side word n
IsReplay problem side word (Attack end tests) = IsAttack problem side word × IsUnmatched problem side word end tests.items
IsReplay problem side word (Matched pairs) = AreMatched problem side word pairs.items
