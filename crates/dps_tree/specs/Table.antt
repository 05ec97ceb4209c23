-- What the numbers of a table stand for.
use Rattle.std.specs.Prelude.{◌≡◌, ℕ, List, [], ◌∷◌, ◌++◌, map, Option, Some, None, slice_get}
use Rattle.dps_terms.specs.Tree.{Tree}
use Rattle.dps_terms.specs.Seen.{seen}
use Rattle.dps_signature.specs.Signature.{Signature}
use Rattle.dps_terms.specs.declared.borrowed.TermRef.{TermRef}
use Rattle.dps_process.specs.Process.{Process, output}
use Rattle.dps_process.specs.Steps.{IsReordered}
use Rattle.dps_tree.specs.Plain.{HasOutputsAlone}
use Rattle.dps_tree.specs.Playing.{settled}
use Rattle.dps_tree.specs.declared.table.Output.{Output}
use Rattle.dps_tree.specs.declared.table.Table.{Table}

-- the messages, by their numbers
abbrev pub messages_of : Table → List Tree
messages_of table = map seen table.messages.items

-- The numbers stand for the parts, one by one. A number stands for an output on the channel of the table's output, of its
-- message, which comes to what the numbers in it stand for, in any order.
pub data StandFor (table : Table) : List ℕ → List Process → Type 0 where
  no_parts : StandFor table [] []
  a_part :
      {n : ℕ} {o : Output} {u : Tree} {q : Process} {ns : List ℕ} {qs ps : List Process}
      → slice_get table.outputs.items n ≡ Some o
      → slice_get (messages_of table) o.message ≡ Some u
      → StandFor table o.then.items qs
      → IsReordered qs (settled q)
      → StandFor table ns ps
      → StandFor table (n ∷ ns) (output o.channel u q ∷ ps)

-- they stand for the parts in some order
abbrev pub StandForBag : Table → List ℕ → List Process → Type 0
StandForBag table ns ps = (qs : List Process) × StandFor table ns qs × IsReordered qs ps

-- what stands in the first table stands at its place in the second
pub record IsGrown (old new : Table) : Type 0 where
  pub outputs : (n : ℕ) (o : Output) → slice_get old.outputs.items n ≡ Some o → slice_get new.outputs.items n ≡ Some o
  pub messages : (n : ℕ) (u : Tree) → slice_get (messages_of old) n ≡ Some u → slice_get (messages_of new) n ≡ Some u

-- the new table has the message at the number
pub record HasMessage (old new : Table) (u : Tree) (n : ℕ) : Type 0 where
  pub grown : IsGrown old new
  pub there : slice_get (messages_of new) n ≡ Some u

-- the two say the same
pub record AreOneOutput (o other : Output) : Type 0 where
  pub channel : o.channel ≡ other.channel
  pub message : o.message ≡ other.message
  pub then : o.then.items ≡ other.then.items

-- the message stands at the number, and an output that says the same
abbrev pub IsMessageThere : List TermRef → Tree → ℕ → Type 0
IsMessageThere messages u n = (x : TermRef) × (slice_get messages n ≡ Some x) × (seen x ≡ u)

abbrev pub IsOutputThere : List Output → Output → ℕ → Type 0
IsOutputThere outputs wanted n = (o : Output) × (slice_get outputs n ≡ Some o) × AreOneOutput o wanted

-- the new table has the output at the number
pub record HasOutput (old new : Table) (wanted : Output) (n : ℕ) : Type 0 where
  pub grown : IsGrown old new
  pub there : IsOutputThere new.outputs.items wanted n

-- the numbers of the outputs to which the process comes are added
pub record IsSettled (p : Process) (old new : Table) (before after : List ℕ) : Type 0 where
  pub grown : IsGrown old new
  pub added :
      (signature : Signature) → HasOutputsAlone signature p
      → (ns : List ℕ) × (after ≡ before ++ ns) × StandForBag new ns (settled p)

-- the numbers are those of the outputs to which the process comes
pub record IsBagOf (p : Process) (old new : Table) (ns : List ℕ) : Type 0 where
  pub grown : IsGrown old new
  pub parts : (signature : Signature) → HasOutputsAlone signature p → StandForBag new ns (settled p)

-- the messages with the numbers; a number of none adds none
abbrev pub listed : Option Tree → List Tree
listed None = []
listed (Some u) = u ∷ []

abbrev pub frame_of : Table → List ℕ → List Tree
frame_of table [] = []
frame_of table (n ∷ ns) = listed (slice_get (messages_of table) n) ++ frame_of table ns
