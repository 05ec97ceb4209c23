-- Levels of trees: when the attacker could build them.
use Rattle.std.specs.Prelude.{◌≡◌, ◌≤◌, ℕ, List, [], Some, ⊤}
use Rattle.dps_terms.specs.Tree.{Leaf, public, private, var, ax, entry, rigid, Tree}
use Rattle.dps_terms.specs.Kinds.{IsBuiltOf, AnySymbol}
use Rattle.dps_unify.specs.Order.{level_of}
use Rattle.dps_know.specs.Know.{Knowledge, entry_at}
use Rattle.dps_know.specs.declared.know.Entry.{Entry}

-- the variable has a level of at most l
abbrev pub IsVariableUpTo : List (ℕ × ℕ) → ℕ → ℕ → Type 0
IsVariableUpTo levels l x = (k : ℕ) × (level_of levels x ≡ Some k) × (k ≤ l)

-- the entry is there and has a level of at most l
abbrev pub IsEntryUpTo : Knowledge → ℕ → ℕ → Type 0
IsEntryUpTo know l i = (e : Entry) × (entry_at know i ≡ Some e) × (e.level ≤ l)

-- What may stand in a tree of level at most l, where the frame has m messages: public names, variables and entries of
-- at most that level, and the allowed rigid names where l reaches m.
abbrev pub IsLeafUpTo : (ℕ → Type 0) → ℕ → Knowledge → List (ℕ × ℕ) → ℕ → Leaf → Type 0
IsLeafUpTo names m know levels l (public n) = ⊤
IsLeafUpTo names m know levels l (var x) = IsVariableUpTo levels l x
IsLeafUpTo names m know levels l (entry i) = IsEntryUpTo know l i
IsLeafUpTo names m know levels l (rigid k) = names k × (m ≤ l)
IsLeafUpTo names m know levels l (private n) = ⊥
IsLeafUpTo names m know levels l (ax j) = ⊥

-- a tree of level at most l, over variables with these levels
abbrev pub IsTreeUpTo : (ℕ → Type 0) → ℕ → Knowledge → List (ℕ × ℕ) → ℕ → Tree → Type 0
IsTreeUpTo names m know levels l t = IsBuiltOf (IsLeafUpTo names m know levels l) AnySymbol t

-- a tree of level at most l without variables
abbrev pub IsGroundUpTo : (ℕ → Type 0) → ℕ → Knowledge → ℕ → Tree → Type 0
IsGroundUpTo names m know l t = IsTreeUpTo names m know [] l t

-- any rigid name may stand
abbrev pub AnyRigidName : ℕ → Type 0
AnyRigidName k = ⊤
