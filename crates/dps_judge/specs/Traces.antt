-- The texts of traces.
use Rattle.std.specs.Prelude.{ℕ, List, [], ◌∷◌, ◌++◌, codes}
use Rattle.std.specs.Fmt.{decimal}
use Rattle.dps_branch.specs.declared.Side.{Side}
use Rattle.dps_branch.specs.declared.Side.TheVariants.{Left, Right}
use Rattle.dps_signature.specs.Signature.{Signature}
use Rattle.dps_signature.specs.Text.{name_text, term_text}
use Rattle.dps_process.specs.Models.{Model, Private, Classic, Eavesdrop}
use Rattle.dps_process.specs.Steps.{Label, inputs, outputs, overhears}

-- `in(c,R)`, `out(c,axj)` and `eav(c,axj)`
abbrev pub label_text : Signature → Label → List ℕ
label_text signature (inputs c r) = codes "in(" ++ (name_text signature c ++ (codes "," ++ (term_text signature r ++ codes ")")))
label_text signature (outputs c j) = codes "out(" ++ (name_text signature c ++ (codes ",ax" ++ (decimal j ++ codes ")")))
label_text signature (overhears c j) = codes "eav(" ++ (name_text signature c ++ (codes ",ax" ++ (decimal j ++ codes ")")))

-- a line for each label
abbrev pub label_lines : Signature → List Label → List ℕ
label_lines signature [] = []
label_lines signature (label ∷ labels) = label_text signature label ++ (10 ∷ label_lines signature labels)

abbrev pub side_text : Side → List ℕ
side_text Left = codes "left"
side_text Right = codes "right"

-- the lines before the name of the side, with the model's name
abbrev pub head_text : Model → List ℕ
head_text Private = codes "trace 2\nmodel: private\nside: "
head_text Classic = codes "trace 2\nmodel: classic\nside: "
head_text Eavesdrop = codes "trace 2\nmodel: eavesdrop\nside: "

-- the trace of a side with these labels, in format 2
abbrev pub trace_text : Signature → Model → Side → List Label → List ℕ
trace_text signature model side labels = head_text model ++ (side_text side ++ (10 ∷ label_lines signature labels))
