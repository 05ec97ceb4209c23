-- Lists of channels, their order and their labels.
use Rattle.std.proofs.Common.{◌≡◌, ℕ, ◌<◌, ◌+◌, List, [], ◌∷◌, ◌++◌, refl, sym, ◌∙◌, ap, inl, inr}
use Rattle.dps_tree.specs.Words.{outputs_from, IsUpTo, IsAhead}

pub ahead_by : (w : List ℕ) (c d : ℕ) → c < d → IsAhead (w ++ c ∷ []) (w ++ d ∷ [])
ahead_by [] c d h = inl h
ahead_by (x ∷ w) c d h = inr (refl, ahead_by w c d h)

pub ahead_longer : (v w x : List ℕ) → IsAhead v w → IsAhead (v ++ x) w
ahead_longer [] w x h = absurd h
ahead_longer (c ∷ v) [] x h = absurd h
ahead_longer (c ∷ v) (d ∷ w) x h = elim h [ inl l ↦ inl l | inr p ↦ inr (p.0, ahead_longer v w x p.1) ]

pub up_to_front : (v x : List ℕ) → IsUpTo v (v ++ x)
up_to_front [] x = tt
up_to_front (c ∷ v) x = inr (refl, up_to_front v x)

pub up_to_ahead : (v w x : List ℕ) → IsAhead v w → IsUpTo v (w ++ x)
up_to_ahead [] w x h = absurd h
up_to_ahead (c ∷ v) [] x h = absurd h
up_to_ahead (c ∷ v) (d ∷ w) x h = elim h [ inl l ↦ inl l | inr p ↦ inr (p.0, up_to_ahead v w x p.1) ]

pub outputs_from-inj : (j : ℕ) (cs ds : List ℕ) → outputs_from j cs ≡ outputs_from j ds → cs ≡ ds
outputs_from-inj j [] [] e = refl
outputs_from-inj j [] (d ∷ ds) e = absurd (cc)
outputs_from-inj j (c ∷ cs) [] e = absurd (cc)
outputs_from-inj j (c ∷ cs) (d ∷ ds) e =
    let h : c ≡ d = cc in
    let t : outputs_from (j + 1) cs ≡ outputs_from (j + 1) ds = cc in
    λ i. h i ∷ outputs_from-inj (j + 1) cs ds t i

-- a list that goes on is the front itself, or the front with one more channel goes on
pub longer : (w ds cs : List ℕ) (c : ℕ) → cs ≡ w ++ c ∷ ds → cs ≡ (w ++ c ∷ []) ++ ds
longer w ds cs c e = e ∙ sym (grown w)
  where
    grown : (v : List ℕ) → (v ++ c ∷ []) ++ ds ≡ v ++ c ∷ ds
    grown [] = refl
    grown (x ∷ v) = ap (λ z. x ∷ z) (grown v)
