-- The signature with the symbols of the tuples of a length.
use Rattle.std.proofs.Common.{◌≤◌, ℕ, ◌+◌}
use Rattle.dps_signature.specs.Signature.{Signature, HasArity, shapes}
use Rattle.dps_scopes.specs.Scopes.{with_tuple}
use Rattle.dps_names.proofs.SignatureGrowth.{Grows, HasTuples, grows_tuple, tuples_tuple, tuple_arity, projection_arity}

-- the signature behind grew from the one before, and has the tuple's symbol and its projections
pub record IsTupled (signature : Signature) (n symbol : ℕ) (after : Signature) : Type 0 where
  pub grows : Grows signature after
  pub tuples : HasTuples after
  pub builds : HasArity (shapes after) (record { number = symbol }) n
  pub takes : (i : ℕ) → 1 ≤ i → i ≤ n → HasArity (shapes after) (record { number = symbol + i }) 1

pub tupled : (s : Signature) (n : ℕ) → HasTuples s → IsTupled s n (with_tuple s n).symbol (with_tuple s n).signature
tupled s n h = record {
  grows = grows_tuple s n;
  tuples = tuples_tuple s n h;
  builds = tuple_arity s n h;
  takes = λ i low high. projection_arity s n i h low high;
}
