-- The ways that are left at a branch when some are passed.
use Rattle.std.specs.Prelude.{◌≡◌, ◌+◌, ◌<◌, ◌≤◌, ℕ, nat_eq, if◌then◌else◌, List, [], ◌∷◌, ◌++◌, Option, Some, None, length, slice_get, drop}
use Rattle.dps_terms.specs.Tree.{public, private, var, ax, entry, rigid, Tree, leaf, app}
use Rattle.dps_know.specs.Know.{Knowledge}
use Rattle.dps_know.specs.declared.know.Entry.{Entry}
use Rattle.dps_solver.specs.Scene.{System}
use Rattle.dps_solver.specs.Search.{Way, follow, use_entry, compose, entry_ways}
use Rattle.dps_search.specs.declared.step.Step.{Step}
use Rattle.dps_search.specs.declared.step.Step.TheVariants.{Follow, Use, Compose}

-- the last way, for a symbol, a public name, or at level m a rigid name
abbrev pub composing : ℕ → ℕ → Tree → List Way
composing m l (leaf (public n)) = compose ∷ []
composing m l (leaf (rigid k)) = if nat_eq l m then compose ∷ [] else []
composing m l (leaf (private n)) = []
composing m l (leaf (var w)) = []
composing m l (leaf (ax j)) = []
composing m l (leaf (entry i)) = []
composing m l (app f ts) = compose ∷ []

-- the ways that are left when so many entries are passed
abbrev pub ways_behind : System → ℕ → Tree → ℕ → List Way
ways_behind system l (leaf (var w)) passed = follow ∷ []
ways_behind system l (leaf (public n)) passed = entry_ways l (passed + 1) (drop passed system.know.entries) ++ composing system.m l (leaf (public n))
ways_behind system l (leaf (rigid k)) passed = entry_ways l (passed + 1) (drop passed system.know.entries) ++ composing system.m l (leaf (rigid k))
ways_behind system l (leaf (private n)) passed = entry_ways l (passed + 1) (drop passed system.know.entries) ++ composing system.m l (leaf (private n))
ways_behind system l (leaf (ax j)) passed = entry_ways l (passed + 1) (drop passed system.know.entries) ++ composing system.m l (leaf (ax j))
ways_behind system l (leaf (entry i)) passed = entry_ways l (passed + 1) (drop passed system.know.entries) ++ composing system.m l (leaf (entry i))
ways_behind system l (app f ts) passed = entry_ways l (passed + 1) (drop passed system.know.entries) ++ composing system.m l (app f ts)

-- no entry between has a level of at most l, and the next one has, where there is one
pub record IsNextEntry (know : Knowledge) (l passed place : ℕ) : Type 0 where
  pub ways : entry_ways l (passed + 1) (drop passed know.entries) ≡ entry_ways l (place + 1) (drop place know.entries)
  pub level : place < length know.entries → (e : Entry) × (slice_get know.entries place ≡ Some e) × (e.level ≤ l)

-- the step is the next way
abbrev pub IsNextStep : System → ℕ → Tree → ℕ → Option Step → Type 0
IsNextStep system l t passed None = ways_behind system l t passed ≡ []
IsNextStep system l t passed (Some (Follow w)) = t ≡ leaf (var w)
IsNextStep system l t passed (Some (Use i)) = ways_behind system l t passed ≡ use_entry i ∷ ways_behind system l t i
IsNextStep system l t passed (Some Compose) = ways_behind system l t passed ≡ compose ∷ []
