-- Lists of configurations, each of which is compared with those of another list by its frame alone.
use Rattle.std.specs.Prelude.{◌≡◌, ◌<◌, ◌≤◌, ◌+◌, ◌^◌, ℕ, Bool, true, false, List, length, get_or, Contains}
use Rattle.dps_terms.specs.Tree.{Tree}
use Rattle.dps_theory.specs.Theory.{Theory}
use Rattle.dps_process.specs.Steps.{Config}
use Rattle.dps_semantics.specs.Once.{config_at}
use Rattle.dps_static.specs.declared.Test.{Test}
use Rattle.dps_static.specs.declared.Comparison.TheVariants.{Same, Differ}
use Rattle.dps_static.specs.Answer.{IsAnswerUnder}
use Rattle.dps_replay.specs.Answers.{AreDistinct}
use Rattle.dps_replay.specs.declared.matching.Partner.{Partner}
use Rattle.dps_replay.specs.declared.matching.Partner.TheVariants.{At, Missing}
use Rattle.dps_replay.specs.declared.matching.Matching.{Matching}
use Rattle.dps_replay.specs.declared.matching.Matching.TheVariants.{All, Lone}
use Rattle.dps_replay.specs.declared.outcome.Replay.{Replay}
use Rattle.dps_replay.specs.declared.outcome.Replay.TheVariants.{NoRun, Attack, Matched}

-- the frame of the configuration at the place
abbrev pub frame_at : List Config → ℕ → List Tree
frame_at configs i = (config_at configs i).frame

-- the frames are statically equivalent, over each signature over which the theory and both are
abbrev pub AreAlike : Theory → List Tree → List Tree → Type 0
AreAlike theory one other = IsAnswerUnder theory one other Same

-- the test tells them apart, over each such signature
abbrev pub AreToldBy : Theory → List Tree → List Tree → Test → Type 0
AreToldBy theory one other test = IsAnswerUnder theory one other (Differ test)

-- all frames have so many messages
abbrev pub HaveSize : ℕ → List Config → Type 0
HaveSize size configs = (i : ℕ) → i < length configs → length (frame_at configs i) ≡ size

-- all frames of both lists have one length
pub record AreLevel (ends others : List Config) : Type 0 where
  pub size : ℕ
  pub few : size < 2 ^ 32
  pub ends_have : HaveSize size ends
  pub others_have : HaveSize size others

-- the frame stands at the place, which is below the limit
pub record IsFrameAt (configs : List Config) (limit : ℕ) (frame : List Tree) (place : ℕ) : Type 0 where
  pub below : place < limit
  pub within : place < length configs
  pub same : frame_at configs place ≡ frame

-- the frame stands here for the first time, or at this place before
abbrev pub IsFirst : List Config → ℕ → ℕ → Type 0
IsFirst configs place first = (first ≤ place) × (frame_at configs first ≡ frame_at configs place)

-- for each of the first so many configurations the place of one with the same frame, not behind it
pub record AreFirsts (configs : List Config) (count : ℕ) (firsts : List ℕ) : Type 0 where
  pub counted : length firsts ≡ count
  pub before : (i : ℕ) → i < count → get_or firsts i 0 ≤ i
  pub same : (i : ℕ) → i < count → frame_at configs (get_or firsts i 0) ≡ frame_at configs i

-- Each of the first so many others is told from the frame by some of the tests, each test tells some of them from it, and no
-- test stands twice.
pub record TellApart (theory : Theory) (frame : List Tree) (others : List Config) (count : ℕ) (tests : List Test) : Type 0 where
  pub told : (i : ℕ) → i < count → (test : Test) × Contains tests test × AreToldBy theory frame (frame_at others i) test
  pub useful : (test : Test) → Contains tests test → (i : ℕ) × (i < count) × AreToldBy theory frame (frame_at others i) test
  pub distinct : AreDistinct tests

-- the other at this place looks alike
pub record IsPartnerAt (theory : Theory) (frame : List Tree) (others : List Config) (place : ℕ) : Type 0 where
  pub within : place < length others
  pub alike : AreAlike theory frame (frame_at others place)

-- the other at the place looks alike, or it is told apart too
abbrev pub IsToldNext : Theory → List Tree → List Config → ℕ → List Test → Bool → Type 0
IsToldNext theory frame others place tests true = IsPartnerAt theory frame others place
IsToldNext theory frame others place tests false = TellApart theory frame others (place + 1) tests

-- the place of one of the others that looks alike, or tests that tell all of them apart
abbrev pub IsPartner : Theory → List Tree → List Config → Partner → Type 0
IsPartner theory frame others (At place) = IsPartnerAt theory frame others place
IsPartner theory frame others (Missing tests) = TellApart theory frame others (length others) tests.items

-- each of the first so many ends has a partner
pub record HavePartners (theory : Theory) (ends others : List Config) (count : ℕ) (partners : List ℕ) : Type 0 where
  pub counted : length partners ≡ count
  pub partner : (i : ℕ) → i < count → IsPartnerAt theory (frame_at ends i) others (get_or partners i 0)

-- a partner for each end, or an end without one
abbrev pub IsMatching : Theory → List Config → List Config → Matching → Type 0
IsMatching theory ends others (All partners) = HavePartners theory ends others (length ends) partners.items
IsMatching theory ends others (Lone place tests) = (place < length ends) × TellApart theory (frame_at ends place) others (length others) tests.items

-- a partner's place for each end
pub record AreWithin (ends others : List Config) (partners : List ℕ) : Type 0 where
  pub counted : length partners ≡ length ends
  pub within : (i : ℕ) → i < length ends → get_or partners i 0 < length others

-- the end at the place, and the other at its partner's place
abbrev pub pair_at : List Config → List Config → List ℕ → ℕ → Config × Config
pair_at ends others partners i = (config_at ends i, config_at others (get_or partners i 0))

-- the list has such a pair for each end from this place on, and no other pair
pub record ArePaired (ends others : List Config) (partners : List ℕ) (from : ℕ) (pairs : List (Config × Config)) : Type 0 where
  pub sound : (pair : Config × Config) → Contains pairs pair → (i : ℕ) × (i < length ends) × (pair_at ends others partners i ≡ pair)
  pub complete : (i : ℕ) → from ≤ i → i < length ends → Contains pairs (pair_at ends others partners i)

-- each pair is an end and one of the others that look alike, and each end stands first in a pair
pub record ArePairs (theory : Theory) (ends others : List Config) (pairs : List (Config × Config)) : Type 0 where
  pub alike : (c d : Config) → Contains pairs (c, d) → Contains ends c × Contains others d × AreAlike theory c.frame d.frame
  pub complete : (i : ℕ) → i < length ends → (d : Config) × Contains pairs (config_at ends i, d)

-- an end without a partner, or all pairs
abbrev pub IsVerdict : Theory → List Config → List Config → Replay → Type 0
IsVerdict theory ends others (NoRun n) = ⊥
IsVerdict theory ends others (Attack end tests) = Contains ends end × TellApart theory end.frame others (length others) tests.items
IsVerdict theory ends others (Matched pairs) = ArePairs theory ends others pairs.items
