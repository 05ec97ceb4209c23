-- Comments: `(*`, then a mixture of comments and other bytes, then `*)`.
use Rattle.std.specs.Prelude.{◌≡◌, ℕ, List, ◌∷◌, ◌++◌, Bool, false, ◌&&◌, ◌||◌, ◌==◌, codes}
use Rattle.std.specs.Str.{byte}

-- what opens a comment
abbrev pub opening : List ℕ
opening = codes "(*"

-- what closes it
abbrev pub closing : List ℕ
closing = codes "*)"

-- the bytes begin with `(*` or with `*)`
abbrev pub begins_mark : List ℕ → Bool
begins_mark (a ∷ b ∷ bs) = (a == byte "(" && b == byte "*") || (a == byte "*" && b == byte ")")
begins_mark _ = false

-- What stands behind the `(*` of a comment, up to its own `*)` and with it. It is read from left to right: a byte
-- is no part of two marks, so that the `)` of `(*)` closes nothing.
pub data IsInside : List ℕ → Type 0 where
  closed : {text : List ℕ} → text ≡ closing → IsInside text
  nested : {text inner rest : List ℕ} → text ≡ opening ++ (inner ++ rest) → IsInside inner → IsInside rest → IsInside text
  other : {text rest : List ℕ} {b : ℕ} → text ≡ b ∷ rest → begins_mark text ≡ false → IsInside rest → IsInside text

-- a whole comment
abbrev pub IsComment : List ℕ → Type 0
IsComment text = (inside : List ℕ) × (text ≡ opening ++ inside) × IsInside inside
