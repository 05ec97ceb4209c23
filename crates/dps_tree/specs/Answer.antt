-- What the answer says of a problem.
use Rattle.std.specs.Prelude.{◌≡◌, ℕ, List, Option, Some, None}
use Rattle.dps_branch.specs.declared.Side.{Side}
use Rattle.dps_branch.specs.declared.Side.TheVariants.{Left, Right}
use Rattle.dps_process.specs.Problem.{Problem}
use Rattle.dps_process.specs.Steps.{Label}
use Rattle.dps_process.specs.Traces.{IsEquivalent, IsAttack}
use Rattle.dps_tree.specs.Words.{word_of, IsUpTo}
use Rattle.dps_tree.specs.declared.PlainAttack.{PlainAttack}

-- The outputs on these channels are an attack of the side, the least one of any side; of two sides it is the left one.
pub record IsLeastAttack (problem : Problem) (side : Side) (channels : List ℕ) : Type 0 where
  pub attack : IsAttack problem side (word_of channels)
  pub least :
      (other : Side) (word : List Label) → IsAttack problem other word
      → (others : List ℕ) × (word ≡ word_of others) × IsUpTo channels others
  pub left_first : side ≡ Right → ¬ IsAttack problem Left (word_of channels)

-- there is no attack, and the problem is equivalent; or the attack is the least
abbrev pub IsPlainAnswer : Problem → Option PlainAttack → Type 0
IsPlainAnswer problem None = IsEquivalent problem × ((side : Side) (word : List Label) → ¬ IsAttack problem side word)
IsPlainAnswer problem (Some attack) = IsLeastAttack problem attack.side attack.channels.items
