use Rattle.std.proofs.Common.{subst, sym}
use Rattle.dps_branch.specs.declared.Side.TheVariants.{Left}
use Rattle.dps_process.specs.Models.{Private, Classic}
use Rattle.dps_examples.specs.Differences.{AreAlikeIn, IsAttackedIn}
use Rattle.dps_examples.specs.declared.models.ModelName.{ModelName}
use Rattle.dps_examples.specs.declared.models.Difference.TheVariants.{OneByOne}
use Rattle.dps_examples.proofs.OneByOne.{sequences_alike, overheard_attack}
use Rattle.dps_examples.proofs.models.side_with_one_by_one.Goals as goal

pub returns-in-Private : goal.returns-in-Private
returns-in-Private c = subst (λ (m : ModelName). AreAlikeIn m OneByOne) (sym c.in-Private.is) (sequences_alike Private (λ e. cc))

pub returns-in-Classic : goal.returns-in-Classic
returns-in-Classic c = subst (λ (m : ModelName). AreAlikeIn m OneByOne) (sym c.in-Classic.is) (sequences_alike Classic (λ e. cc))

pub returns-in-Eavesdrop : goal.returns-in-Eavesdrop
returns-in-Eavesdrop c = subst (λ (m : ModelName). IsAttackedIn m OneByOne Left) (sym c.in-Eavesdrop.is) overheard_attack
