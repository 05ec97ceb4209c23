-- What is written within limits on the nodes.
use Rattle.std.specs.Prelude.{◌≡◌, ◌⊎◌, ℕ, ◌+◌, ◌<◌, ◌≤◌, List, [], ◌∷◌, ◌++◌, take, Option, Some, None, unwrap_or, false}
use Rattle.std.specs.Option.{option_copied}
use Rattle.dps_terms.specs.Tree.{Tree, trees, node_count, node_counts}
use Rattle.dps_process.specs.Process.{Process, size}
use Rattle.dps_scopes.specs.Body.{Body, nil}
use Rattle.dps_scopes.specs.declared.body.Step.{Step}
use Rattle.dps_elab.specs.Expansion.{Value, Numbers, Expansion, Expanding, one_variable, and_copies, taken_apart, expansion_of}
use Rattle.dps_elab.specs.Limits.{height, heights, process_height, is_too_large}
use Rattle.dps_elab.specs.Locals.{locals_from}
use Rattle.dps_elab.specs.Turns.{written_in}
use Rattle.dps_elab.specs.declared.found.PrivateUse.{PrivateUse}
use Rattle.dps_elab.specs.declared.found.ChannelUse.{ChannelUse}
use Rattle.dps_elab.specs.declared.local.Local.{Local}
use Rattle.dps_elab.specs.declared.local.Local.TheVariants.{Variable}
use Rattle.dps_elab.specs.declared.settle.Scope.{Scope}
use Rattle.dps_elab.specs.declared.writer.Pattern.{Pattern}
use Rattle.dps_elab.specs.declared.writer.Writer.{Writer}

-- The numbers that come next.
abbrev pub numbers_of : Writer → Numbers
numbers_of writer = record { variable = writer.variable; name = writer.name }

-- What is found was added behind what had been found, `next` are the numbers that come next, and so many nodes were taken
-- from those that were left.
pub record IsAdded (old new : Writer) (channels : List ChannelUse) (privates : List PrivateUse) (next : Numbers) (nodes : ℕ) : Type 0 where
  pub channels_then : new.channels.items ≡ old.channels.items ++ channels
  pub privates_then : new.privates.items ≡ old.privates.items ++ privates
  pub numbers : numbers_of new ≡ next
  pub taken : new.nodes_left + nodes ≡ old.nodes_left

-- A process was written: it is the expansion's, and what the expansion adds was added. What is on the stack then is `left`.
pub record IsWritten (old new : Writer) (depth : ℕ) (left : List Local) (e : Expansion) (p : Process) : Type 0 where
  pub same : p ≡ e.process
  pub stack : new.stack.items ≡ left
  pub added : IsAdded old new e.channels e.privates e.next (size e.process)
  pub low : process_height e.process ≤ depth

-- A side was written.
pub record IsSideWritten (old new : Writer) (e : Expansion) (p : Process) : Type 0 where
  pub same : p ≡ e.process
  pub stack : new.stack.items ≡ []
  pub channels_then : new.channels.items ≡ old.channels.items ++ e.channels
  pub privates_then : new.privates.items ≡ old.privates.items ++ e.privates
  pub numbers : numbers_of new ≡ e.next
  pub fits : is_too_large e.process ≡ false

-- a term was built, and its private names were added
pub record IsTermWritten (old new : Writer) (depth : ℕ) (value : Value) (t : Tree) : Type 0 where
  pub same : t ≡ value.tree
  pub stack : new.stack.items ≡ old.stack.items
  pub added : IsAdded old new [] value.privates (numbers_of old) (node_count value.tree)
  pub low : height value.tree ≤ depth

-- a channel was added
pub record IsChannelAdded (old new : Writer) (channel : ChannelUse) (number : ℕ) : Type 0 where
  pub number_is : number ≡ unwrap_or channel.name 0
  pub stack : new.stack.items ≡ old.stack.items
  pub added : IsAdded old new (channel ∷ []) [] (numbers_of old) 0

-- the next variable is the next local
pub record IsVariablePushed (old new : Writer) (variable : ℕ) : Type 0 where
  pub variable_is : variable ≡ old.variable
  pub stack : new.stack.items ≡ old.stack.items ++ Variable variable ∷ []
  pub added : IsAdded old new [] [] (one_variable (numbers_of old)) 0

-- a node was taken
pub record IsNodeTaken (old new : Writer) (depth below : ℕ) : Type 0 where
  pub deeper : below + 1 ≡ depth
  pub stack : new.stack.items ≡ old.stack.items
  pub added : IsAdded old new [] [] (numbers_of old) 1

-- Too many nodes for those that are left, or too many on a path.
abbrev pub IsTooLargeTerm : ℕ → ℕ → Tree → Type 0
IsTooLargeTerm nodes_left depth t = (nodes_left < node_count t) ⊎ (depth < height t)

abbrev pub AreTooLarge : ℕ → ℕ → List Tree → Type 0
AreTooLarge nodes_left depth ts = (nodes_left < node_counts (trees ts)) ⊎ (depth < heights (trees ts))

abbrev pub IsTooLargeSide : ℕ → ℕ → Process → Type 0
IsTooLargeSide nodes_left depth p = (nodes_left < size p) ⊎ (depth < process_height p)

-- A term was built: its nodes were taken from those that were left, and no path has more than `depth` of them.
pub record IsBuiltWithin (before after depth : ℕ) (t built : Tree) : Type 0 where
  pub same : built ≡ t
  pub nodes : after + node_count t ≡ before
  pub low : height t ≤ depth

-- the same of a term that was put before others
pub record IsPut (before after depth : ℕ) (t : Tree) (old new : List Tree) : Type 0 where
  pub put : new ≡ t ∷ old
  pub nodes : after + node_count t ≡ before
  pub low : height t ≤ depth

-- and of arguments
pub record ArePut (before after depth : ℕ) (ts old new : List Tree) : Type 0 where
  pub put : new ≡ ts ++ old
  pub nodes : after + node_counts (trees ts) ≡ before
  pub low : heights (trees ts) ≤ depth

-- the body that a value that does not fit goes on with
abbrev pub other_body : Option Body → Body
other_body (Some p) = p
other_body None = nil

-- what takes a value apart: the locals outside the pattern are those below `outside` on the stack
abbrev pub taken_apart_in : Scope → List Local → List Step → Body → Body → List Local → Expanding
taken_apart_in scope stack steps fits other outside =
    taken_apart scope.private_names.now steps (locals_from scope.first stack)
    (expansion_of scope.private_names.now scope.definitions.now fits)
    (written_in scope outside other)

-- The body was written: its expansion over the locals on the stack, from the numbers that come next.
abbrev pub IsBodyWritten : Writer → Writer → Scope → ℕ → Body → Process → Type 0
IsBodyWritten old new scope depth body p = IsWritten old new depth old.stack.items (written_in scope old.stack.items body (numbers_of old)) p

abbrev pub IsTooLargeBody : Writer → Scope → ℕ → Body → Type 0
IsTooLargeBody old scope depth body = IsTooLargeSide old.nodes_left depth (written_in scope old.stack.items body (numbers_of old)).process

-- The body and so many further copies of it were written.
abbrev pub AreCopiesWritten : Writer → Writer → Scope → ℕ → ℕ → Body → Process → Type 0
AreCopiesWritten old new scope depth further body p =
    IsWritten old new depth old.stack.items (and_copies further (written_in scope old.stack.items body) (numbers_of old)) p

abbrev pub AreTooLargeCopies : Writer → Scope → ℕ → ℕ → Body → Type 0
AreTooLargeCopies old scope depth further body =
    IsTooLargeSide old.nodes_left depth (and_copies further (written_in scope old.stack.items body) (numbers_of old)).process

-- What takes a value apart by these steps was written, and what is outside the pattern is on the stack then.
abbrev pub apart_in : Writer → Scope → List Step → Pattern → Expansion
apart_in old scope steps pattern =
    let outside = take pattern.outside old.stack.items in
    taken_apart_in scope old.stack.items steps pattern.then.now (other_body (option_copied pattern.otherwise)) outside (numbers_of old)

abbrev pub IsTakenApart : Writer → Writer → Scope → ℕ → List Step → Pattern → Process → Type 0
IsTakenApart old new scope depth steps pattern p = IsWritten old new depth (take pattern.outside old.stack.items) (apart_in old scope steps pattern) p

abbrev pub IsTooLargeApart : Writer → Scope → ℕ → List Step → Pattern → Type 0
IsTooLargeApart old scope depth steps pattern = IsTooLargeSide old.nodes_left depth (apart_in old scope steps pattern).process
