-- How a signature grows while a text is read, also where the text has a fault or memory runs out.
use Rattle.std.specs.Prelude.{◌≡◌, ◌≤◌, ℕ, List, ◌++◌}
use Rattle.dps_signature.specs.Signature.{Signature}
use Rattle.dps_scopes.specs.Scopes.{with_tuple}

-- The second signature is the first with the symbols of tuples of some lengths from 2 to 8, those of each length whole and
-- where they aren't there yet, and with nothing else. So all symbols and names stay in their places, and where the tuples
-- are there already, nothing changes.
pub data GrowsByTuples (signature : Signature) : Signature → Type 0 where
  same : GrowsByTuples signature signature
  one_more :
      {before after : Signature} {n : ℕ} → GrowsByTuples signature before → 2 ≤ n → n ≤ 8
      → after ≡ (with_tuple before n).signature → GrowsByTuples signature after

-- the first texts come first in the second
pub record HasTextsOf (before after : List (List ℕ)) : Type 0 where
  pub more : List (List ℕ)
  pub texts : after ≡ before ++ more
