-- Steps by which ways are put on a stack, the next one in front.
use Rattle.std.specs.Prelude.{◌≡◌, ◌⊎◌, ◌≤◌, ◌<◌, ◌-◌, ◌+◌, ◌*◌, ℕ, suc, List, [], ◌∷◌, take, drop, length, reverse, ⊤}
use Rattle.dps_terms.specs.Tree.{Tree, app, trees, node_count}
use Rattle.dps_terms.specs.Seen.{seen}
use Rattle.dps_static.specs.declared.build.Step.{Step}
use Rattle.dps_static.specs.declared.build.Step.TheVariants.{Build, Apply}
use Rattle.dps_static.specs.Ways.{Builds, IsNotBuilt}

-- each symbol finds its arguments, where so many ways are in front
abbrev pub CanTake : List Step → ℕ → Type 0
CanTake [] n = ⊤
CanTake (Build t ∷ steps) n = CanTake steps (suc n)
CanTake (Apply f arity ∷ steps) n = (arity ≤ 8) × (arity ≤ n) × CanTake steps (suc (n - arity))

-- the steps put a way for each tree in front, and each symbol over the ways that are in front by then
abbrev pub AreTaken : List Tree → List Step → List Tree → List Tree → Type 0
AreTaken kept [] old new = new ≡ old
AreTaken kept (Build t ∷ steps) old new = (way : Tree) × Builds kept (seen t) way × AreTaken kept steps (way ∷ old) new
AreTaken kept (Apply f arity ∷ steps) old new = AreTaken kept steps (app f (trees (take arity old)) ∷ drop arity old) new

-- one of the trees is built in no way
abbrev pub HasNoWay : List Tree → List Step → Type 0
HasNoWay kept [] = ⊥
HasNoWay kept (Build t ∷ steps) = IsNotBuilt kept (seen t) ⊎ HasNoWay kept steps
HasNoWay kept (Apply f arity ∷ steps) = HasNoWay kept steps

-- how much is left to do at most
abbrev pub work : List Step → ℕ
work [] = 0
work (Build t ∷ steps) = work steps + 2 * node_count (seen t)
work (Apply f arity ∷ steps) = suc (work steps)

-- The later steps, the next one last, put such a way in front of the old stack and then do what the steps before do. They
-- are less work than a tree of this size.
pub record Leads (IsSuch : Tree → Type 0) (kept : List Tree) (size : ℕ) (steps : List Step) (old : List Tree) (later : List Step) (new : List Tree) : Type 0 where
  pub ready : CanTake (reverse steps) (suc (length old)) → CanTake (reverse later) (length new)
  pub way : (end : List Tree) → AreTaken kept (reverse later) new end → (way : Tree) × IsSuch way × AreTaken kept (reverse steps) (way ∷ old) end
  pub none : HasNoWay kept (reverse later) → ((way : Tree) → ¬ IsSuch way) ⊎ HasNoWay kept (reverse steps)
  pub less : work (reverse later) < work (reverse steps) + 2 * size
