use Rattle.dps_signature.proofs.Instances.{knowledge_becomes_recipes}
use Rattle.dps_signature.proofs.laws.knowledge_becomes_recipes.Goals as goal

pub returns : goal.returns
returns c = knowledge_becomes_recipes
