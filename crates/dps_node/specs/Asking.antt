-- What the code's questions and answers stand for.
use Rattle.std.specs.Prelude.{◌≡◌, ◌<◌, ℕ, Bool, not, if◌then◌else◌, List, [], Some, None, length, get_or}
use Rattle.std.specs.List.{list_all}
use Rattle.dps_terms.specs.Tree.{var, Tree, leaf}
use Rattle.dps_terms.specs.Same.{same}
use Rattle.dps_terms.specs.Bindings.{image}
use Rattle.dps_search.specs.Code.{ask_of, solution_seen}
use Rattle.dps_search.specs.declared.scene.Mgs.{Mgs}
use Rattle.dps_node.specs.declared.asking.Query.{Query as CodeQuery}
use Rattle.dps_node.specs.declared.asking.Found.{Found as CodeFound}
use Rattle.dps_node.specs.declared.asking.Answer.{Answer as CodeAnswer}
use Rattle.dps_node.specs.declared.asking.Answer.TheVariants.{True, False, Open}
use Rattle.dps_node.specs.Questions.{Query, Question, Found, Answer, decided, undecided}

abbrev pub query_of : CodeQuery → Query
query_of q = record { ask = ask_of q.ask; result = q.result }

-- the code's solution at a place
abbrev pub found_at : ℕ → Mgs → CodeFound
found_at place s = record { place = place; solution = s }

-- the code's solution is that of the question's query at its place
abbrev pub no_query : Query
no_query = record { ask = record { equations = []; targets = [] }; result = leaf (var 0) }

abbrev pub found_in : Question → CodeFound → Found
found_in question f = (get_or question f.place no_query, solution_seen f.solution)

-- the code's answer is this one
abbrev pub IsAnswer : Question → CodeAnswer → Answer → Type 0
IsAnswer question (True f) answer = (f.place < length question) × (answer ≡ decided (Some (found_in question f)))
IsAnswer question False answer = answer ≡ decided None
IsAnswer question (Open solution) answer = answer ≡ undecided (solution_seen solution)

-- none of the variables is bound to another tree
abbrev pub binds_nothing : List (ℕ × ℕ) → List (ℕ × Tree) → Bool
binds_nothing levels bindings = list_all (λ (p : ℕ × ℕ). same (image bindings p.0) (leaf (var p.0))) levels

-- the code's solution is plain, or it is not
abbrev pub is_plain_as : List (ℕ × ℕ) → Bool → CodeFound → Bool
is_plain_as levels plain f = if plain then binds_nothing levels f.solution.bindings else not (binds_nothing levels f.solution.bindings)
