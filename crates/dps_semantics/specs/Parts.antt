-- What numbers of parts stand for.
use Rattle.std.specs.Prelude.{◌≡◌, ◌⊎◌, ◌<◌, ◌+◌, ℕ, List, [], ◌∷◌, ◌++◌, length, map, get_or, take, drop, Contains}
use Rattle.dps_bags.specs.Apart.{StandOnce}
use Rattle.dps_process.specs.Process.{Process, nil}
use Rattle.dps_process.specs.Steps.{IsReordered}

-- the part with the number, and `0` where there is none
abbrev pub part_of : List Process → ℕ → Process
part_of table n = get_or table n nil

abbrev pub parts_of : List Process → List ℕ → List Process
parts_of table ns = map (part_of table) ns

-- each number is of some part
abbrev pub AreNumbers : List Process → List ℕ → Type 0
AreNumbers table ns = (n : ℕ) → Contains ns n → n < length table

abbrev pub AreAllNumbers : List Process → List (List ℕ) → Type 0
AreAllNumbers table bags = (bag : List ℕ) → Contains bags bag → AreNumbers table bag

-- the part has the number
abbrev pub IsPartAt : List Process → ℕ → Process → Type 0
IsPartAt table n p = (n < length table) × (part_of table n ≡ p)

-- it has none of these numbers
abbrev pub IsNowhere : List Process → List ℕ → Process → Type 0
IsNowhere table ns p = (k : ℕ) → k < length ns → ¬ IsPartAt table (get_or ns k 0) p

-- the new table has the parts of the old one, with the same numbers; no part stands there twice where none did before
pub record IsGrown (old new : List Process) : Type 0 where
  pub more : List Process
  pub grown : new ≡ old ++ more
  pub once : StandOnce nil old → StandOnce nil new

-- the part is not new and has the number, or it is the new one at the end
abbrev pub IsNumbered : List Process → List Process → Process → ℕ → Type 0
IsNumbered old new p n =
    ((new ≡ old) × IsPartAt old n p) ⊎ ((new ≡ old ++ p ∷ []) × (n ≡ length old) × (¬ Contains old p))

-- some bag stands for the parts, in some order
abbrev pub OneStandsFor : List Process → List (List ℕ) → List Process → Type 0
OneStandsFor table bags ps = (bag : List ℕ) × Contains bags bag × IsReordered (parts_of table bag) ps

-- P holds of the parts in some order
abbrev pub HoldsInOrder : (List Process → Type 0) → List Process → Type 0
HoldsInOrder P ps = (qs : List Process) × P qs × IsReordered qs ps

-- The table has grown, and the bags stand for just the lists of parts for which P holds, each in some order.
pub record StandForJust (P : List Process → Type 0) (old new : List Process) (bags : List (List ℕ)) : Type 0 where
  pub grown : IsGrown old new
  pub numbers : AreAllNumbers new bags
  pub complete : (ps : List Process) → P ps → OneStandsFor new bags ps
  pub sound : (bag : List ℕ) → Contains bags bag → HoldsInOrder P (parts_of new bag)

-- the list without the item at the place
abbrev pub left_at : {A : Type 0} → ℕ → List A → List A
left_at i xs = take i xs ++ drop (i + 1) xs

-- P holds of the first parts, and Q of the others
abbrev pub Both : (List Process → Type 0) → (List Process → Type 0) → List Process → Type 0
Both P Q rs = (ps : List Process) × (qs : List Process) × P ps × Q qs × (rs ≡ ps ++ qs)
