use Rattle.std.proofs.Common.{subst, sym}
use Rattle.dps_branch.specs.declared.Side.TheVariants.{Right}
use Rattle.dps_process.specs.Models.{Private, Eavesdrop}
use Rattle.dps_examples.specs.Differences.{AreAlikeIn, IsAttackedIn}
use Rattle.dps_examples.specs.declared.models.ModelName.{ModelName}
use Rattle.dps_examples.specs.declared.models.Difference.TheVariants.{UnseenFirst}
use Rattle.dps_examples.proofs.UnseenFirst.{unseen_attack, unseen_alike}
use Rattle.dps_examples.proofs.models.side_with_unseen_first.Goals as goal

pub returns-in-Private : goal.returns-in-Private
returns-in-Private c = subst (λ (m : ModelName). IsAttackedIn m UnseenFirst Right) (sym c.in-Private.is) (unseen_attack Private (λ e. cc))

pub returns-in-Classic : goal.returns-in-Classic
returns-in-Classic c = subst (λ (m : ModelName). AreAlikeIn m UnseenFirst) (sym c.in-Classic.is) unseen_alike

pub returns-in-Eavesdrop : goal.returns-in-Eavesdrop
returns-in-Eavesdrop c = subst (λ (m : ModelName). IsAttackedIn m UnseenFirst Right) (sym c.in-Eavesdrop.is) (unseen_attack Eavesdrop (λ e. cc))
