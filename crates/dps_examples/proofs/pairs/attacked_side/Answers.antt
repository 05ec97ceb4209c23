use Rattle.std.proofs.Common.{subst, sym}
use Rattle.dps_branch.specs.declared.Side.TheVariants.{Left, Right}
use Rattle.dps_examples.specs.declared.pairs.ProcessPair.{ProcessPair}
use Rattle.dps_examples.specs.Examples.{AreEquivalent, IsAttacked}
use Rattle.dps_examples.proofs.HiddenNames.{private_names_equivalent}
use Rattle.dps_examples.proofs.Attacks.{names_attack, test_attack, choice_attack, channel_attack}
use Rattle.dps_examples.proofs.HiddenTest.{private_test_equivalent}
use Rattle.dps_examples.proofs.pairs.attacked_side.Goals as goal

pub returns-in-PublicNames : goal.returns-in-PublicNames
returns-in-PublicNames c = subst (λ (p : ProcessPair). IsAttacked p Left) (sym c.in-PublicNames.is) names_attack

pub returns-in-PrivateNames : goal.returns-in-PrivateNames
returns-in-PrivateNames c = subst AreEquivalent (sym c.in-PrivateNames.is) private_names_equivalent

pub returns-in-PublicTest : goal.returns-in-PublicTest
returns-in-PublicTest c = subst (λ (p : ProcessPair). IsAttacked p Left) (sym c.in-PublicTest.is) test_attack

pub returns-in-PrivateTest : goal.returns-in-PrivateTest
returns-in-PrivateTest c = subst AreEquivalent (sym c.in-PrivateTest.is) private_test_equivalent

pub returns-in-OneOfTwo : goal.returns-in-OneOfTwo
returns-in-OneOfTwo c = subst (λ (p : ProcessPair). IsAttacked p Right) (sym c.in-OneOfTwo.is) choice_attack

pub returns-in-TwoChannels : goal.returns-in-TwoChannels
returns-in-TwoChannels c = subst (λ (p : ProcessPair). IsAttacked p Left) (sym c.in-TwoChannels.is) channel_attack
