use Rattle.std.proofs.Common.{ℕ, List, length, subst}
use Rattle.dps_process.specs.Steps.{Config}
use Rattle.dps_replay.specs.declared.matching.Matching.{Matching}
use Rattle.dps_replay.specs.Matching.{HavePartners, ArePaired, IsMatching}
use Rattle.dps_replay.proofs.Partners.{paired_alike}
use Rattle.dps_replay.proofs.pairing.verdict.Goals as goal

pub returns-in_ok-found-in-All : goal.returns-in_ok-found-in-All
returns-in_ok-found-in-All c =
    let theory = c.args.theory.now in
    let ends = c.args.ends.items in
    let others = c.args.others.now in
    let partners = c.in-All.partners.items in
    let pairs = c.in_ok-found-in-All.found.items in
    let matching = subst (λ (m : Matching). IsMatching theory c.deref.result.now others m) c.in-All.is c.in_ok-place.ensures in
    let have = subst (λ (cs : List Config). HavePartners theory cs others (length cs) partners) c.deref.ensures.value matching in
    let paired = subst (λ (ps : List ℕ). ArePaired ends others ps 0 pairs) c.deref-in-All.ensures.value c.in_ok-found-in-All.ensures in
    paired_alike theory ends others partners pairs have paired
