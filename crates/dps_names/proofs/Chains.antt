-- Chains of processes, read one by one.
use Rattle.std.proofs.Common.{◌≡◌, ◌<◌, ℕ, ◌+◌, List, [], ◌∷◌, ◌++◌, refl, ap, ◌∙◌, length, get_or, drop}
use Rattle.dps_signature.specs.Signature.{Signature}
use Rattle.dps_syntax.specs.declared.tree.Part.{Part}
use Rattle.dps_syntax.specs.declared.tree.Part.TheVariants.{Inner}
use Rattle.dps_syntax.specs.Tree.{Derivation, Parts}
use Rattle.dps_syntax.specs.Parts.{parts_of}
use Rattle.dps_scopes.specs.declared.fault.NameFault.{NameFault}
use Rattle.dps_scopes.specs.Outcome.{Outcome, done, faulty, and_then}
use Rattle.dps_scopes.specs.Scopes.{Locals}
use Rattle.dps_scopes.proofs.Rows.{IsRow, Reads, past_inner, faulted}
use Rattle.dps_names.specs.Program.{Definition, Body, choice}
use Rattle.dps_names.specs.Processes.{joined, choices, parallels, process}

pub choices_are_row : (definitions : List Definition) (scope : Locals) → IsRow (process definitions scope) (choices definitions scope)
choices_are_row definitions scope = record { ended = λ s. refl; passed = λ l ps s. refl; taken = λ t ps s. refl }

-- a choice of a chain of `|`
abbrev pub chosen : List Definition → Locals → Parts → Signature → Outcome Signature Body
chosen definitions scope parts s = and_then (choices definitions scope parts s) (λ ps after. done (joined choice ps) after)

pub parallels_are_row : (definitions : List Definition) (scope : Locals) → IsRow (chosen definitions scope) (parallels definitions scope)
parallels_are_row definitions scope = record {
  ended = λ s. refl;
  passed = λ l ps s. refl;
  taken = λ t ps s. one (choices definitions scope t.parts s) (λ after. parallels definitions scope ps after);
}
  where
    one :
        (o : Outcome Signature (List Body)) (more : Signature → Outcome Signature (List Body))
        → and_then o (λ ps after. and_then (more after) (λ qs last. done (joined choice ps ∷ qs) last)) ≡ and_then (and_then o (λ ps after. done (joined choice ps) after))
        (λ w after. and_then (more after) (λ ws last. done (w ∷ ws) last))
    one (done ps after) more = refl
    one (faulty f) more = refl

pub parallels_inner :
    (definitions : List Definition) (scope : Locals) (all : Parts) (start : Signature) (found new : List Body) (xs : List Part) (i : ℕ) (d : Part) (t : Derivation) (now : Signature)
    (ps : List Body) (w : Body) (after : Signature)
    → Reads (parallels definitions scope) all start found (parts_of (drop i xs)) now → i < length xs → get_or xs i d ≡ Inner t
    → choices definitions scope t.parts now ≡ done ps after → w ≡ joined choice ps → new ≡ found ++ w ∷ []
    → Reads (parallels definitions scope) all start new (parts_of (drop (i + 1) xs)) after
parallels_inner definitions scope all start found new xs i d t now ps w after r h e o j n =
    past_inner (chosen definitions scope) (parallels definitions scope) (parallels_are_row definitions scope) all start found new xs i d t now (joined choice ps) after r h e
    (ap (λ o. and_then o (λ ps after. done (joined choice ps) after)) o) (n ∙ ap (λ b. found ++ b ∷ []) j)

pub parallels_fault :
    (definitions : List Definition) (scope : Locals) (all : Parts) (start : Signature) (found : List Body) (xs : List Part) (i : ℕ) (d : Part) (t : Derivation) (now : Signature) (f : NameFault)
    → Reads (parallels definitions scope) all start found (parts_of (drop i xs)) now → i < length xs → get_or xs i d ≡ Inner t
    → choices definitions scope t.parts now ≡ faulty f → parallels definitions scope all start ≡ faulty f
parallels_fault definitions scope all start found xs i d t now f r h e o =
    faulted (chosen definitions scope) (parallels definitions scope) (parallels_are_row definitions scope) all start found xs i d t now f r h e
    (ap (λ o. and_then o (λ ps after. done (joined choice ps) after)) o)

pub ruleset for_choices = (choices_are_row)

pub ruleset for_parallels = (parallels_are_row, parallels_inner, parallels_fault)
