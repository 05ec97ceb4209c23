-- The last byte of a text.
use Rattle.std.proofs.Common.{◌≡◌, ◌≢◌, ℕ, List, [], ◌∷◌, ◌++◌, ap, sym, ◌∙◌, get_or, drop}
use Rattle.std.specs.Prelude.{IsTrue, ◌==◌}
use Rattle.std.proofs.lemmas.Bool.{eqb-true, eq-eqb}
use Rattle.dps_report.specs.Outcomes.{EndsLine}

some_front : (f : List ℕ) (x : ℕ) → f ++ (x ∷ []) ≢ []
some_front [] x e = cc
some_front (b ∷ f) x e = cc

-- what stands last is one
pub one_last : (f g : List ℕ) (x y : ℕ) → f ++ (x ∷ []) ≡ g ++ (y ∷ []) → x ≡ y
one_last [] [] x y e = ap (λ xs. get_or xs 0 0) e
one_last [] (c ∷ g) x y e = absurd (some_front g y (sym (ap (drop 1) e)))
one_last (b ∷ f) [] x y e = absurd (some_front f x (ap (drop 1) e))
one_last (b ∷ f) (c ∷ g) x y e = one_last f g x y (ap (drop 1) e)

pub ends_there : (text front : List ℕ) (last : ℕ) → text ≡ front ++ (last ∷ []) → IsTrue (last == 10) → EndsLine text
ends_there text front last e t = (front, e ∙ ap (λ b. front ++ (b ∷ [])) (eqb-true last 10 t))

pub last_is_newline : (text front : List ℕ) (last : ℕ) → text ≡ front ++ (last ∷ []) → EndsLine text → IsTrue (last == 10)
last_is_newline text front last e ends = eq-eqb last 10 (one_last front ends.0 last 10 (sym e ∙ ends.1))

pub none_last : (text : List ℕ) → text ≡ [] → ¬ EndsLine text
none_last text e ends = some_front ends.0 10 (sym ends.1 ∙ e)

pub ruleset for_ends_line = (ends_there, last_is_newline, none_last)
