-- The text of a path.
use Rattle.std.specs.Prelude.{ℕ, ◌<◌, ◌^◌, List, [], ◌∷◌, ◌++◌, codes}
use Rattle.std.specs.Fmt.{decimal}
use Rattle.std.specs.List.{All}

-- `/` and the number, for each part
abbrev pub parts_text : List ℕ → List ℕ
parts_text [] = []
parts_text (n ∷ path) = codes "/" ++ (decimal n ++ parts_text path)

-- the root's text is `/`
abbrev pub path_text : List ℕ → List ℕ
path_text [] = codes "/"
path_text (n ∷ path) = parts_text (n ∷ path)

-- the list is a path: its numbers are those of kids
abbrev pub IsPath : List ℕ → Type 0
IsPath path = All (λ n. n < 2 ^ 32) path
