-- Processes written out: calls are replaced by what they call, copies stand side by side, patterns are taken apart, and
-- each binder has a number of its own.
use Rattle.std.specs.Prelude.{ℕ, zero, suc, ◌+◌, ◌-◌, ◌^◌, if◌then◌else◌, List, [], ◌∷◌, ◌++◌, length, Option, Some, None, slice_get, unwrap_or}
use Rattle.dps_terms.specs.declared.PublicName.TheVariants.{Declared, At}
use Rattle.dps_terms.specs.Tree.{Leaf, public, private, var, ax, entry, rigid, Tree, leaf, app, trees}
use Rattle.dps_terms.specs.Replace.{substitute}
use Rattle.dps_signature.specs.Signature.{Name}
use Rattle.dps_process.specs.Process as process
use Rattle.dps_process.specs.Process.{Process}
use Rattle.dps_scopes.specs.declared.written.Use.{Use}
use Rattle.dps_scopes.specs.declared.written.Use.TheVariants.{PrivateName, Local}
use Rattle.dps_scopes.specs.declared.body.Channel.{Channel}
use Rattle.dps_scopes.specs.declared.body.Step.{Step}
use Rattle.dps_scopes.specs.declared.body.Step.TheVariants.{Project, Test}
use Rattle.dps_names.specs.Program.{Written, Body, Bodies, nil, parallel, choice, copies, fresh, input, output, conditional, bind, call, none, more, Definition, Program}
use Rattle.dps_elab.specs.declared.found.PrivateUse.{PrivateUse}
use Rattle.dps_elab.specs.declared.found.ChannelUse.{ChannelUse}

-- What a local stands for: a term, and the private names that the text writes in it, in order.
pub record Value : Type 0 where
  pub tree : Tree
  pub privates : List PrivateUse

-- The numbers that come next: of a bound variable, and of a private name.
pub record Numbers : Type 0 where
  pub variable : ℕ
  pub name : ℕ

-- A process that is written out, with what stands in the places of its channels, and the private names in its terms,
-- in text order; and the numbers behind it.
pub record Expansion : Type 0 where
  pub process : Process
  pub channels : List ChannelUse
  pub privates : List PrivateUse
  pub next : Numbers

abbrev pub Expanding : Type 0
Expanding = Numbers → Expansion

-- What the locals stand for, by their numbers.
abbrev pub no_value : Value
no_value = record { tree = leaf (var 0); privates = [] }

abbrev pub value_at : List Value → ℕ → Value
value_at locals i = unwrap_or (slice_get locals i) no_value

-- a term with what its locals stand for
abbrev pub tree_in : List Value → Tree → Tree
tree_in locals t = substitute (λ i. (value_at locals i).tree) t

abbrev pub privates_of : List Value → List Use → List PrivateUse
privates_of locals [] = []
privates_of locals (PrivateName n place ∷ uses) = record { name = n; place = place } ∷ privates_of locals uses
privates_of locals (Local i ∷ uses) = (value_at locals i).privates ++ privates_of locals uses

abbrev pub value_of : List Value → Written → Value
value_of locals w = record { tree = tree_in locals w.tree; privates = privates_of locals w.uses }

abbrev pub values_of : List Value → List Written → List Value
values_of locals [] = []
values_of locals (w ∷ ws) = value_of locals w ∷ values_of locals ws

-- a variable or a name that a binder makes
abbrev pub made : Leaf → Value
made x = record { tree = leaf x; privates = [] }

-- the numbers behind one more variable, and behind one more name
abbrev pub one_variable : Numbers → Numbers
one_variable next = record { variable = next.variable + 1; name = next.name }

abbrev pub one_name : Numbers → Numbers
one_name next = record { variable = next.variable; name = next.name + 1 }

-- `0`
abbrev pub nothing : Expanding
nothing next = record { process = process.nil; channels = []; privates = []; next = next }

-- one process behind the other
abbrev pub beside : (Process → Process → Process) → Expansion → Expanding → Expansion
beside join first second =
    let last = second first.next in
    record { process = join first.process last.process; channels = first.channels ++ last.channels; privates = first.privates ++ last.privates; next = last.next }

-- terms, and a channel, in front of an expansion
abbrev pub with_terms : List PrivateUse → (Process → Process) → Expansion → Expansion
with_terms privates make behind =
    record { process = make behind.process; channels = behind.channels; privates = privates ++ behind.privates; next = behind.next }

abbrev pub with_channel : ChannelUse → Expansion → Expansion
with_channel channel behind =
    record { process = behind.process; channels = channel ∷ behind.channels; privates = behind.privates; next = behind.next }

-- so many further copies, joined by `|` to the right
abbrev pub and_copies : ℕ → Expanding → Expanding
and_copies zero p next = p next
and_copies (suc n) p next = beside process.parallel (p next) (and_copies n p)

-- The numbers of the private names among the declared ones, which are numbered from n on.
abbrev pub private_numbers : ℕ → List Name → List ℕ
private_numbers n [] = []
private_numbers n (x ∷ names) = if x.is_private then n ∷ private_numbers (n + 1) names else private_numbers (n + 1) names

-- Below, `privates` has the numbers of the declared private names: `private i` is the i-th of these.
module _ (privates : List ℕ) where
  -- The declared name that a term is, by its number in the signature.
  abbrev pub declared_leaf : Leaf → Option ℕ
  declared_leaf (public (Declared n)) = Some n
  declared_leaf (public (At k)) = None
  declared_leaf (private i) = slice_get privates i
  declared_leaf (var n) = None
  declared_leaf (ax j) = None
  declared_leaf (entry i) = None
  declared_leaf (rigid n) = None

  abbrev pub declared_name : Tree → Option ℕ
  declared_name (leaf x) = declared_leaf x
  declared_name (app f ts) = None

  -- a channel with what its locals stand for, and its number; where it is no channel a fault is answered
  abbrev pub channel_in : List Value → Channel → ChannelUse
  channel_in locals c = record { name = declared_name (tree_in locals c.tree); place = c.place }

  abbrev pub channel_number : List Value → Channel → ℕ
  channel_number locals c = unwrap_or (declared_name (tree_in locals c.tree)) 0

  -- Taking a value apart: each projection is a `let`, each test an `if`, and each has a copy of `otherwise` as its other
  -- branch. What fits goes on with the locals behind the last step.
  abbrev pub taken_apart : List Step → List Value → (List Value → Expanding) → Expanding → Expanding
  taken_apart [] locals fits otherwise next = fits locals next
  taken_apart (Project f i ∷ steps) locals fits otherwise next =
      beside (process.bind next.variable (app f (trees ((value_at locals i).tree ∷ []))))
      (taken_apart steps (locals ++ made (var next.variable) ∷ []) fits otherwise (one_variable next))
      otherwise
  taken_apart (Test i w ∷ steps) locals fits otherwise next =
      with_terms (value_of locals w).privates (λ p. p)
      (beside (process.conditional (value_at locals i).tree (value_of locals w).tree)
      (taken_apart steps locals fits otherwise next)
      otherwise)

  -- what the definitions mean: a process for each list of arguments
  module _ (definitions : List (List Value → Expanding)) where
    abbrev pub called : ℕ → List Value → Expanding
    called n arguments = unwrap_or (slice_get definitions n) (λ values. nothing) arguments

    abbrev mutual
      pub expand : Body → List Value → Expanding
      expand nil locals next = nothing next
      expand (parallel ps) locals next = chain process.parallel ps locals next
      expand (choice ps) locals next = chain process.choice ps locals next
      expand (copies n p) locals next = and_copies (n - 1) (expand p locals) next
      expand (fresh p) locals next = expand p (locals ++ made (private next.name) ∷ []) (one_name next)
      expand (input c steps p) locals next =
          with_channel (channel_in locals c) (with_terms [] (process.input (channel_number locals c) next.variable)
          (taken_apart steps (locals ++ made (var next.variable) ∷ []) (expand p) nothing (one_variable next)))
      expand (output c u p) locals next =
          with_channel (channel_in locals c) (with_terms (value_of locals u).privates (process.output (channel_number locals c) (value_of locals u).tree)
          (expand p locals next))
      expand (conditional u v p q) locals next =
          with_terms ((value_of locals u).privates ++ (value_of locals v).privates) (λ x. x)
          (beside (process.conditional (value_of locals u).tree (value_of locals v).tree) (expand p locals next) (expand q locals))
      expand (bind u steps p q) locals next =
          with_terms (value_of locals u).privates (λ x. x)
          (beside (process.bind next.variable (value_of locals u).tree)
          (taken_apart steps (locals ++ made (var next.variable) ∷ []) (expand p) (expand q locals) (one_variable next))
          (expand q locals))
      expand (call n arguments) locals next = called n (values_of locals arguments) next

      -- a chain of `|` or `+`, joined to the right
      pub chain : (Process → Process → Process) → Bodies → List Value → Expanding
      chain join none locals next = nothing next
      chain join (more p ps) locals next = chain_behind join (expand p locals) ps locals next

      pub chain_behind : (Process → Process → Process) → Expanding → Bodies → List Value → Expanding
      chain_behind join p none locals next = p next
      chain_behind join p (more q qs) locals next = beside join (p next) (chain_behind join (expand q locals) qs locals)

  -- What definitions mean, behind those before them, which they may call.
  abbrev pub meanings : List (List Value → Expanding) → List Definition → List (List Value → Expanding)
  meanings earlier [] = earlier
  meanings earlier (d ∷ definitions) = meanings (earlier ++ (λ arguments. expand earlier d.body arguments) ∷ []) definitions

  -- the process of a body that may call these definitions
  abbrev pub expansion_of : List Definition → Body → List Value → Expanding
  expansion_of definitions body locals = expand (meanings [] definitions) body locals

-- The process of a side: it has no locals.
abbrev pub private_names : Program → List ℕ
private_names program = private_numbers 0 program.signature.names

abbrev pub expansion : Program → Body → Expanding
expansion program body = expansion_of (private_names program) program.definitions body []

-- Bound variables are numbered from 2^63 on, and private names behind the declared ones: first those of the left side,
-- and then those of the right.
abbrev pub first_numbers : Program → Numbers
first_numbers program = record { variable = 2 ^ 63; name = length (private_names program) }

abbrev pub left_expansion : Program → Expansion
left_expansion program = expansion program program.left.body (first_numbers program)

abbrev pub right_expansion : Program → Expansion
right_expansion program = expansion program program.right.body (left_expansion program).next
