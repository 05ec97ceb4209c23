-- A small problem: `out(c,a)` against `out(c,b)`, over the public names c, a and b.
use Rattle.std.specs.Prelude.{◌≡◌, ℕ, [], ◌∷◌, codes, true, false, None, List}
use Rattle.dps_branch.specs.declared.Side.{Side}
use Rattle.dps_branch.specs.declared.Side.TheVariants.{Left, Right}
use Rattle.dps_terms.specs.declared.PublicName.TheVariants.{Declared}
use Rattle.dps_signature.specs.declared.SymKind.TheVariants.{Constructor, Destructor}
use Rattle.dps_terms.specs.Tree.{public, private, var, ax, entry, Tree, leaf, app, none, more}
use Rattle.dps_signature.specs.Signature.{Signature}
use Rattle.dps_process.specs.Process.{Process, nil, conditional, output}
use Rattle.dps_process.specs.Models.{Private}
use Rattle.dps_process.specs.Problem.{Problem}
use Rattle.dps_process.specs.Steps.{inputs, outputs}
use Rattle.dps_theory.specs.Theory.{Theory}
use Rattle.dps_node.specs.Node.{SymbolicConfig, Node}
use Rattle.dps_node.specs.Words.{ground_word}
use Rattle.dps_node.specs.Outcome.{changed, kids}
use Rattle.dps_node.specs.Settling.{Settles}
use Rattle.dps_node.specs.Knowing.{Knows}
use Rattle.dps_node.specs.Expansion.{attack, spent, Looks, stop, IsAt}

abbrev pub a : Tree
a = leaf (public (Declared 1))

abbrev pub b : Tree
b = leaf (public (Declared 2))

abbrev pub signature : Signature
signature = record {
  symbols = [];
  names =
      record { name = codes "c"; is_private = false }
      ∷ record { name = codes "a"; is_private = false }
      ∷ record { name = codes "b"; is_private = false }
      ∷ [];
}

abbrev pub two_names : Problem
two_names =
    record {
      signature = signature;
      theory = record { shapes = []; rules = [] };
      model = Private;
      left = output 0 a nil;
      right = output 0 b nil;
    }

-- with a budget of 6 the tree stops at `/0/0` for an attack of the left side, with the word `out(c,ax1)`
pub record AttackIsFound : Type 0 where
  pub node : Node
  pub place : IsAt two_names 6 (0 ∷ 0 ∷ []) node
  pub looks : Looks two_names 6 node (stop (attack Left))
  pub word : ground_word node ≡ outputs 0 1 ∷ []

-- with a budget of 5 it is spent at `/0`
pub record BudgetIsSpent : Type 0 where
  pub node : Node
  pub place : IsAt two_names 5 (0 ∷ []) node
  pub looks : Looks two_names 5 node (stop spent)

-- `in(c,x); if x = a then out(c,a) else out(c,b)` against `in(c,x); out(c,b)`, after the input of variable 1
abbrev pub nothing_known : Theory
nothing_known = record { shapes = []; rules = [] }

abbrev pub in_config : Side → Process → SymbolicConfig
in_config side p = record { side = side; parts = p ∷ []; frame = []; values = []; mixed = false }

abbrev pub tests_input : Tree → Process
tests_input t = conditional t a (output 0 a nil) (output 0 b nil)

abbrev pub after_one_input : Node
after_one_input =
    record {
      labels = inputs 0 (leaf (var 1)) ∷ [];
      levels = 0 ∷ [];
      know = record { entries = []; handles = [] };
      disequations = [];
      configs = in_config Left (tests_input (leaf (var 1))) ∷ in_config Right (output 0 b nil) ∷ [];
      m = 0;
      closed = true;
      examine = false;
      count = 0;
    }

-- what the node becomes where it has a as input, and where it has anything else
abbrev pub first_kid : Node
first_kid =
    record after_one_input {
      labels = inputs 0 a ∷ [];
      configs = in_config Left (tests_input a) ∷ in_config Right (output 0 b nil) ∷ [];
      count = 2;
    }

abbrev pub second_kid : Node
second_kid =
    record after_one_input {
      disequations = record { free = []; pairs = (leaf (var 1), a) ∷ [] } ∷ [];
      count = 2;
    }

abbrev pub decided_kid : Node → Process → ℕ → Node
decided_kid node p n = record node { configs = in_config Left p ∷ in_config Right (output 0 b nil) ∷ []; count = n }

-- The test of the input divides it, with two steps. In the first kid the test is true, with one step more, and in the second
-- it is false, with two.
pub record InputIsDivided : Type 0 where
  pub divided : Settles nothing_known after_one_input (kids 2 (first_kid ∷ second_kid ∷ []))
  pub true_in_first : Settles nothing_known first_kid (changed (decided_kid first_kid (output 0 a nil) 3))
  pub false_in_second : Settles nothing_known second_kid (changed (decided_kid second_kid (output 0 b nil) 4))

-- a node after the output of a ciphertext of a under a private key, in both configurations
abbrev pub senc : Tree → Tree → Tree
senc t u = app (record { number = 0 }) (more t (more u none))

abbrev pub ciphertext : ℕ → Tree
ciphertext x = senc a (leaf (private x))

abbrev pub told : Side → ℕ → List Tree → SymbolicConfig
told side x values = record { side = side; parts = []; frame = ciphertext x ∷ []; values = values; mixed = false }

abbrev pub one_message : Node
one_message =
    record {
      labels = outputs 0 1 ∷ [];
      levels = [];
      know = record { entries = []; handles = [] };
      disequations = [];
      configs = told Left 0 [] ∷ told Right 1 [] ∷ [];
      m = 1;
      closed = false;
      examine = true;
      count = 0;
    }

abbrev pub one_entry : Node
one_entry =
    record one_message {
      know = record {
        entries = record { recipe = leaf (ax 1); level = 1; composition = None } ∷ [];
        handles = leaf (entry 1) ∷ [];
      };
      configs = told Left 0 (ciphertext 0 ∷ []) ∷ told Right 1 (ciphertext 1 ∷ []) ∷ [];
      examine = false;
      count = 6;
    }

-- No tree has the ciphertexts as values: `tree` takes three steps in each configuration, and the message becomes an entry. No
-- composition has them: that takes four in each. Without rules the node is then closed.
pub record EntryIsFound : Type 0 where
  pub found : Knows nothing_known one_message (changed one_entry)
  pub closes : Knows nothing_known one_entry (changed (record one_entry { closed = true; count = 14 }))

-- A destructor that opens ciphertexts without a key, `opens(senc(x,y)) -> x`.
abbrev pub opens : Tree → Tree
opens t = app (record { number = 1 }) (more t none)

abbrev pub opening : Theory
opening =
    record {
      shapes = record { kind = Constructor; arity = 2 } ∷ record { kind = Destructor; arity = 1 } ∷ [];
      rules = record { left = opens (senc (leaf (var 0)) (leaf (var 1))); right = leaf (var 0) } ∷ [];
    }

-- a node with one entry, a ciphertext of a private name under another
abbrev pub secret : Side → ℕ → ℕ → List Tree → SymbolicConfig
secret side p q more_values =
    record {
      side = side;
      parts = [];
      frame = senc (leaf (private p)) (leaf (private q)) ∷ [];
      values = senc (leaf (private p)) (leaf (private q)) ∷ more_values;
      mixed = false;
    }

abbrev pub one_secret : Node
one_secret = record one_entry { configs = secret Left 0 1 [] ∷ secret Right 2 3 [] ∷ []; count = 0 }

abbrev pub opened_secret : Node
opened_secret =
    record one_secret {
      know = record {
        entries =
            record { recipe = leaf (ax 1); level = 1; composition = None }
            ∷ record { recipe = opens (leaf (entry 1)); level = 1; composition = None }
            ∷ [];
        handles = leaf (entry 1) ∷ [];
      };
      configs = secret Left 0 1 (leaf (private 0) ∷ []) ∷ secret Right 2 3 (leaf (private 2) ∷ []) ∷ [];
      count = 15;
    }

-- What the destructor computes becomes an entry: no composition of the ciphertext is found in two steps a configuration; the
-- rule takes five and finds the entry first; its success takes one in each configuration, and a tree with its value two.
pub record SecretIsOpened : Type 0 where
  pub opened : Knows opening one_secret (changed opened_secret)
