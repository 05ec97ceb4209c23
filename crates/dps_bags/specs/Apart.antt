-- Lists of which no two items are in some sense the same.
use Rattle.std.specs.Prelude.{◌≡◌, ◌<◌, ℕ, List, length, get_or}

-- R holds of no two items; past the end of the list stands d
abbrev pub AreApart : {A : Type 0} → (A → A → Type 0) → A → List A → Type 0
AreApart R d xs = (i j : ℕ) → i < j → j < length xs → ¬ R (get_or xs i d) (get_or xs j d)

-- no item stands twice
abbrev pub StandOnce : {A : Type 0} → A → List A → Type 0
StandOnce {A} d xs = AreApart (λ (x y : A). x ≡ y) d xs
