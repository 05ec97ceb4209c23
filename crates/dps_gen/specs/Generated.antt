-- The file of a number. Its two sides differ at the end of a chain of inputs, and at the end of a chain of outputs.
use Rattle.std.specs.Prelude.{ℕ, zero, suc, ◌+◌, ◌-◌, ◌/◌, ◌%◌, List, [], ◌∷◌, ◌++◌, codes}
use Rattle.std.specs.Fmt.{decimal}

-- the line of a process by this name and the number last + 1, which goes on to the number last
abbrev pub step_line : List ℕ → ℕ → List ℕ
step_line name last =
    codes "let " ++ (name ++ (decimal (last + 1) ++ (codes " = in(a,x); if x = s then K" ++ (decimal last ++ (codes " else " ++ (name ++ (decimal last ++ codes ".\n")))))))

-- the lines of the numbers 1 to this one
abbrev pub step_lines : List ℕ → ℕ → List ℕ
step_lines name zero = []
step_lines name (suc last) = step_lines name last ++ step_line name last

-- so many outputs of `s` on `b`, one after another
abbrev pub outputs : ℕ → List ℕ
outputs zero = []
outputs (suc n) = outputs n ++ codes "out(b,s); "

-- one side: the chain of inputs by this name, or so many outputs and one of the last constant
abbrev pub side_text : List ℕ → List ℕ → ℕ → ℕ → List ℕ
side_text name last depth width = codes "out(a,s); " ++ (name ++ (decimal depth ++ (codes " + " ++ (outputs width ++ (codes "out(b," ++ (last ++ codes ")"))))))

abbrev pub query_line : ℕ → ℕ → List ℕ
query_line depth width =
    codes "query trace_equiv(" ++ (side_text (codes "A") (codes "s") depth width ++ (codes ", " ++ (side_text (codes "B") (codes "t") depth width ++ codes ").\n")))

abbrev pub file_text : ℕ → ℕ → List ℕ
file_text depth width =
    codes "free a, b.\nconst s, t.\nlet K0 = out(a,s).\n" ++ (step_lines (codes "K") (depth - 1)
    ++ (codes "let A0 = out(a,s).\n" ++ (step_lines (codes "A") depth
    ++ (codes "let B0 = out(a,t).\n" ++ (step_lines (codes "B") depth ++ query_line depth width)))))

abbrev pub generated_text : ℕ → List ℕ
generated_text number = file_text (number / 8 + 1) (number % 8)
