-- Lists of outputs, by their channels, and their order.
use Rattle.std.specs.Prelude.{◌≡◌, ◌⊎◌, ◌<◌, ◌+◌, ℕ, List, [], ◌∷◌, ⊤}
use Rattle.dps_process.specs.Steps.{Label, outputs}

-- `out(c1,axj)`, `out(c2,axk)` and so on, with the handles from j on
abbrev pub outputs_from : ℕ → List ℕ → List Label
outputs_from j [] = []
outputs_from j (c ∷ cs) = outputs c j ∷ outputs_from (j + 1) cs

-- the labels of the outputs on these channels
abbrev pub word_of : List ℕ → List Label
word_of channels = outputs_from 1 channels

-- the first list is the second, or comes before it: channels compared by number, a front first
abbrev pub IsUpTo : List ℕ → List ℕ → Type 0
IsUpTo [] ds = ⊤
IsUpTo (c ∷ cs) [] = ⊥
IsUpTo (c ∷ cs) (d ∷ ds) = (c < d) ⊎ ((c ≡ d) × IsUpTo cs ds)

-- the lists have a common front, and then the channel of the first is below that of the second
abbrev pub IsAhead : List ℕ → List ℕ → Type 0
IsAhead [] ds = ⊥
IsAhead (c ∷ cs) [] = ⊥
IsAhead (c ∷ cs) (d ∷ ds) = (c < d) ⊎ ((c ≡ d) × IsAhead cs ds)
