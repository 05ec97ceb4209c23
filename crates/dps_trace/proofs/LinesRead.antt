-- Reading the lines of labels, and a whole trace.
use Rattle.std.proofs.Common.{◌≡◌, ◌≢◌, ◌⊎◌, inl, inr, ℕ, ◌+◌, ◌-◌, ◌<◌, ◌≤◌, ◌^◌, Bool, true, false, List, [], ◌∷◌, ◌++◌, Option, Some, None, Ok, Err, Result, refl, ap, sym, subst, ◌∙◌, length, map, arith, length-append}
use Rattle.std.specs.Prelude.{◌==◌, if◌then◌else◌}
use Rattle.std.proofs.lemmas.Bool.{eqb-true, eq-eqb}
use Rattle.std.proofs.lemmas.Option.{none-some}
use Rattle.dps_signature.specs.Signature.{Signature}
use Rattle.dps_signature.specs.Spelled.{IsSpelled}
use Rattle.dps_branch.specs.declared.Side.{Side}
use Rattle.dps_branch.specs.declared.Side.TheVariants.{Left, Right}
use Rattle.dps_process.specs.Steps.{Label, inputs, outputs, overhears}
use Rattle.dps_process.specs.Labels.{label_of}
use Rattle.dps_process.specs.declared.label.Label.{Label as LabelValue}
use Rattle.dps_trace.specs.declared.model.ModelName.{ModelName}
use Rattle.dps_trace.specs.declared.model.ModelName.TheVariants.{Private, Classic, Eavesdrop}
use Rattle.dps_trace.specs.declared.fault.TraceKind.TheVariants as kinds
use Rattle.dps_trace.specs.declared.fault.TraceRefusal.{TraceRefusal}
use Rattle.dps_trace.specs.declared.fault.TraceRefusal.TheVariants.{Fault, Memory}
use Rattle.dps_trace.specs.Cut.{newlines, IsCut, IsWithout}
use Rattle.dps_trace.specs.Traces.{Trace}
use Rattle.dps_trace.specs.Text.{line, label_text, label_lines, side_line, heading, AreLabelLines, IsTraceText}
use Rattle.dps_trace.specs.Written.{IsWrittenLabel, IsInTurn, AreWritten, outputs_behind, outputs_after}
use Rattle.dps_trace.specs.Faults.{BeginsWith, BeginsLabel, BeginsOutOfTurn, IsWrongNext, HasWrongLabel, HasWrongTurn, HasWrongLine, IsRefusedFor, heading_lines}
use Rattle.dps_trace.proofs.Cuts.{one_cut, stands_there}
use Rattle.dps_trace.proofs.OneTrace.{one_trace, faulty_is_none}
use Rattle.dps_trace.proofs.Unbroken.{label_unbroken}

-- the next line

-- no newline is left
pub no_line : (S : Signature) (here sent : ℕ) (lines : List ℕ) → IsWithout 10 lines → IsWrongNext S here sent lines (Fault here kinds.Label)
no_line S here sent lines h = (refl, λ label over b. stands_there 10 (label_text S label) b.0 (subst (IsWithout 10) b.1 h))

-- the line is that of no label
pub no_label :
    (S : Signature) (spelled : IsSpelled S) (here sent : ℕ) (lines text behind : List ℕ) → IsCut 10 lines text behind
    → ((label : Label) → IsWrittenLabel S label → text ≡ label_text S label → None ≡ Some label)
    → IsWrongNext S here sent lines (Fault here kinds.Label)
no_label S spelled here sent lines text behind cut none = (
  refl,
  λ label over b.
      let same = one_cut 10 text (label_text S label) behind b.0 cut.without (label_unbroken S spelled label over) (sym cut.whole ∙ b.1) in
      none-some label (none label over same.0),
)

pub not_in_turn :
    (S : Signature) (here sent : ℕ) (lines text behind : List ℕ) (label : Label) → IsCut 10 lines text behind → IsWrittenLabel S label → text ≡ label_text S label
    → ¬ IsInTurn sent label → IsWrongNext S here sent lines (Fault here kinds.Ax)
not_in_turn S here sent lines text behind label cut over is out =
    (refl, record { label = label; rest = behind; over = over; out_of_turn = out; text = cut.whole ∙ ap (λ t. line t behind) is })

pub in_turn :
    (S : Signature) (sent : ℕ) (lines text behind : List ℕ) (label : Label) → IsCut 10 lines text behind → IsWrittenLabel S label → text ≡ label_text S label
    → IsInTurn sent label → BeginsLabel S sent label behind lines
in_turn S sent lines text behind label cut over is turn =
    record { over = over; in_turn = turn; text = cut.whole ∙ ap (λ t. line t behind) is }

pub ruleset for_next_label = (no_line, no_label, not_in_turn, in_turn)

-- the lines of labels

-- The labels were read that stand before the rest.
pub record AreRead (S : Signature) (first : ℕ) (bytes : List ℕ) (labels : List Label) (here sent : ℕ) (rest : List ℕ) : Type 0 where
  pub written : AreWritten S 0 labels
  pub text : bytes ≡ label_lines S labels rest
  pub place : here ≡ first + length labels
  pub outputs_are : sent ≡ outputs_after 0 labels
  pub few : sent ≤ length labels
  pub room : length labels + newlines rest ≤ newlines bytes

pub none_read : (S : Signature) (first : ℕ) (bytes : List ℕ) → AreRead S first bytes [] first 0 bytes
none_read S first bytes = record { written = tt; text = refl; place = omega arith; outputs_are = refl; few = omega arith; room = omega arith }

lines_on : (S : Signature) (xs : List Label) (x : Label) (rest : List ℕ) → label_lines S xs (line (label_text S x) rest) ≡ label_lines S (xs ++ x ∷ []) rest
lines_on S [] x rest = refl
lines_on S (y ∷ xs) x rest = ap (line (label_text S y)) (lines_on S xs x rest)

written_on : (S : Signature) (m : ℕ) (xs : List Label) (x : Label) → AreWritten S m xs → IsWrittenLabel S x → IsInTurn (outputs_after m xs) x → AreWritten S m (xs ++ x ∷ [])
written_on S m [] x h over turn = (over, turn, tt)
written_on S m (y ∷ xs) x h over turn = (h.0, h.1, written_on S (outputs_behind m y) xs x h.2 over turn)

outputs_on : (m : ℕ) (xs : List Label) (x : Label) → outputs_after m (xs ++ x ∷ []) ≡ outputs_behind (outputs_after m xs) x
outputs_on m [] x = refl
outputs_on m (y ∷ xs) x = outputs_on (outputs_behind m y) xs x

one_more_output : (m : ℕ) (x : Label) → outputs_behind m x ≤ m + 1
one_more_output m (inputs c r) = omega arith
one_more_output m (outputs c j) = omega arith
one_more_output m (overhears c j) = omega arith

newlines-append : (xs ys : List ℕ) → newlines (xs ++ ys) ≡ newlines xs + newlines ys
newlines-append [] ys = omega arith
newlines-append (x ∷ xs) ys = omega (arith, newlines-append xs ys)

pub newlines_few : (bytes : List ℕ) → newlines bytes ≤ length bytes
newlines_few [] = omega arith
newlines_few (b ∷ bytes) = omega (arith, newlines_few bytes, at_most_one (b == 10))
  where
    at_most_one : (test : Bool) → (if test then 1 else 0) ≤ 1
    at_most_one true = omega arith
    at_most_one false = omega arith

a_newline : (text rest : List ℕ) → newlines rest + 1 ≤ newlines (line text rest)
a_newline text rest = omega (arith, newlines-append text (10 ∷ rest))

-- behind lines that were read there is room for the next one
pub room_for_line :
    (S : Signature) (first : ℕ) (bytes : List ℕ) (labels : List Label) (here sent : ℕ) (rest behind : List ℕ) (label : Label) → AreRead S first bytes labels here sent rest
    → BeginsLabel S sent label behind rest → first + newlines bytes < 2 ^ 32 → here + 1 < 2 ^ 32
room_for_line S first bytes labels here sent rest behind label h b l =
    omega (arith, h.place, h.room, l, a_newline (label_text S label) behind, ap newlines b.text)

pub room_for_output :
    (S : Signature) (first : ℕ) (bytes : List ℕ) (labels : List Label) (here sent : ℕ) (rest behind : List ℕ) (label : Label) → AreRead S first bytes labels here sent rest
    → BeginsLabel S sent label behind rest → first + newlines bytes < 2 ^ 32 → sent < 2 ^ 32 - 1
room_for_output S first bytes labels here sent rest behind label h b l =
    omega (arith, h.few, h.room, l, a_newline (label_text S label) behind, ap newlines b.text)

map_on : (items : List LabelValue) (item : LabelValue) → map label_of (items ++ item ∷ []) ≡ map label_of items ++ label_of item ∷ []
map_on [] item = refl
map_on (x ∷ items) item = ap (λ ls. label_of x ∷ ls) (map_on items item)

-- one more label
pub one_more :
    (S : Signature) (first : ℕ) (bytes : List ℕ) (items new : List LabelValue) (here sent next : ℕ) (rest behind : List ℕ) (item : LabelValue)
    → AreRead S first bytes (map label_of items) here sent rest → BeginsLabel S sent (label_of item) behind rest → next ≡ outputs_behind sent (label_of item)
    → new ≡ items ++ item ∷ [] → AreRead S first bytes (map label_of new) (here + 1) next behind
one_more S first bytes items new here sent next rest behind item h b n e =
    subst (λ ls. AreRead S first bytes ls (here + 1) next behind) (sym (ap (map label_of) e ∙ map_on items item)) (
    let xs = map label_of items in
    let x = label_of item in
    let longer : length (xs ++ x ∷ []) ≡ length xs + 1 = length-append xs (x ∷ []) in
    record {
      written = written_on S 0 xs x h.written b.over (subst (λ m. IsInTurn m x) h.outputs_are b.in_turn);
      text = h.text ∙ ap (label_lines S xs) b.text ∙ lines_on S xs x behind;
      place = omega (arith, h.place, longer);
      outputs_are = n ∙ ap (λ m. outputs_behind m x) h.outputs_are ∙ sym (outputs_on 0 xs x);
      few = omega (arith, h.few, n, one_more_output sent x, longer);
      room = omega (arith, h.room, longer, a_newline (label_text S x) behind, ap newlines b.text);
    })

some_left : (rest : List ℕ) → (length rest == 0) ≡ false → rest ≢ []
some_left rest h e = let f : (length rest == 0) ≡ true = eq-eqb (length rest) 0 (ap length e) in cc

none_left : (rest : List ℕ) → (length rest == 0) ≡ true → rest ≡ []
none_left [] e = refl
none_left (b ∷ bs) e = absurd (longer_than_none (eqb-true (length (b ∷ bs)) 0 e))
  where
    longer_than_none : length (b ∷ bs) ≡ 0 → ⊥
    longer_than_none f = omega (arith, f)

-- the next line is wrong
pub wrong_next :
    (S : Signature) (first : ℕ) (bytes : List ℕ) (labels : List Label) (here sent : ℕ) (rest : List ℕ) (refusal : TraceRefusal) → AreRead S first bytes labels here sent rest
    → (length rest == 0) ≡ false → IsWrongNext S here sent rest refusal → HasWrongLine S first bytes refusal
wrong_next S first bytes labels here sent rest (Fault at kinds.NoTrace) h more w = w
wrong_next S first bytes labels here sent rest (Fault at kinds.Header) h more w = w
wrong_next S first bytes labels here sent rest (Fault at kinds.Model) h more w = w
wrong_next S first bytes labels here sent rest (Fault at kinds.Side) h more w = w
wrong_next S first bytes labels here sent rest (Fault at kinds.Label) h more w =
    record { labels = labels; rest = rest; place = w.0 ∙ h.place; written = h.written; good = h.text; more = some_left rest more; wrong = w.1 }
wrong_next S first bytes labels here sent rest (Fault at kinds.Ax) h more w =
    record { labels = labels; rest = rest; place = w.0 ∙ h.place; written = h.written; good = h.text; wrong = subst (λ m. BeginsOutOfTurn S m rest) h.outputs_are w.1 }
wrong_next S first bytes labels here sent rest Memory h more w = tt

-- nothing is left
pub all_read : (S : Signature) (first : ℕ) (bytes : List ℕ) (labels : List Label) (here sent : ℕ) (rest : List ℕ) → AreRead S first bytes labels here sent rest → (length rest == 0) ≡ true → AreLabelLines S 0 labels bytes
all_read S first bytes labels here sent rest h e = record { written = h.written; text = h.text ∙ ap (label_lines S labels) (none_left rest e) }

-- what is behind a line is shorter
pub shorter : (S : Signature) (sent : ℕ) (label : Label) (behind rest : List ℕ) → BeginsLabel S sent label behind rest → length behind < length rest
shorter S sent label behind rest b = omega (arith, ap length b.text, length-append (label_text S label) (10 ∷ behind))

pub ruleset for_read_labels = (none_read, room_for_line, room_for_output, one_more, wrong_next, all_read, shorter)

-- a whole trace

pub no_side_there :
    (S : Signature) (bytes rest : List ℕ) (model : Option ModelName) (lines here : ℕ) → bytes ≡ heading model rest → lines ≡ heading_lines model → here ≡ lines + 1
    → ((side : Side) → ¬ BeginsWith (side_line side) rest) → IsRefusedFor S bytes (Fault here kinds.Side)
no_side_there S bytes rest model lines here e n p none = record { model = model; place = p ∙ ap (λ k. k + 1) n; rest = rest; good = e; no_side = none }

pub wrong_line :
    (S : Signature) (bytes rest labels : List ℕ) (model : Option ModelName) (side : Side) (lines first : ℕ) (refusal : TraceRefusal) → bytes ≡ heading model rest → lines ≡ heading_lines model
    → first ≡ lines + 2 → rest ≡ line (side_line side) labels → HasWrongLine S first labels refusal → IsRefusedFor S bytes refusal
wrong_line S bytes rest labels model side lines first (Fault at kinds.NoTrace) e n p f w = w
wrong_line S bytes rest labels model side lines first (Fault at kinds.Header) e n p f w = absurd w
wrong_line S bytes rest labels model side lines first (Fault at kinds.Model) e n p f w = absurd w
wrong_line S bytes rest labels model side lines first (Fault at kinds.Side) e n p f w = absurd w
wrong_line S bytes rest labels model side lines first (Fault at kinds.Label) e n p f w =
    record { model = model; side = side; lines = labels; good = e ∙ ap (heading model) f; wrong = subst (λ k. HasWrongLabel S k labels at) (p ∙ ap (λ k. k + 2) n) w }
wrong_line S bytes rest labels model side lines first (Fault at kinds.Ax) e n p f w =
    record { model = model; side = side; lines = labels; good = e ∙ ap (heading model) f; wrong = subst (λ k. HasWrongTurn S k labels at) (p ∙ ap (λ k. k + 2) n) w }
wrong_line S bytes rest labels model side lines first Memory e n p f w = tt

pub whole_trace :
    (S : Signature) (bytes rest lines : List ℕ) (trace : Trace) → bytes ≡ heading trace.model rest → rest ≡ line (side_line trace.side) lines → AreLabelLines S 0 trace.labels lines
    → IsTraceText S trace bytes
whole_trace S bytes rest lines trace e f h =
    record { written = h.written; text = e ∙ ap (heading trace.model) (f ∙ ap (line (side_line trace.side)) h.text) }

-- a text of a trace is read as this trace, or there was no memory
abbrev pub IsOnly : Result Trace TraceRefusal → Trace → Type 0
IsOnly result trace = (result ≡ Ok trace) ⊎ (result ≡ Err Memory)

pub only_this :
    (S : Signature) (spelled : IsSpelled S) (bytes : List ℕ) (found trace : Trace) → IsTraceText S found bytes → IsTraceText S trace bytes → IsOnly (Ok found) trace
only_this S spelled bytes found trace h k = inl (ap Ok (one_trace S spelled bytes found trace h k))

pub only_memory :
    (S : Signature) (spelled : IsSpelled S) (bytes : List ℕ) (refusal : TraceRefusal) (trace : Trace) → IsRefusedFor S bytes refusal → IsTraceText S trace bytes
    → IsOnly (Err refusal) trace
only_memory S spelled bytes (Fault at kind) trace h k = absurd (faulty_is_none S spelled bytes at kind h trace k)
only_memory S spelled bytes Memory trace h k = inr refl

heading_newlines : (model : Option ModelName) (rest : List ℕ) → heading_lines model + newlines rest ≡ newlines (heading model rest)
heading_newlines None rest = omega arith
heading_newlines (Some Private) rest = omega arith
heading_newlines (Some Classic) rest = omega arith
heading_newlines (Some Eavesdrop) rest = omega arith

side_newlines : (side : Side) (rest : List ℕ) → 1 + newlines rest ≡ newlines (line (side_line side) rest)
side_newlines Left rest = omega arith
side_newlines Right rest = omega arith

-- the numbers of the label lines are below the bound
pub lines_room :
    (model : Option ModelName) (side : Side) (lines first : ℕ) (bytes rest labels : List ℕ) → bytes ≡ heading model rest → lines ≡ heading_lines model
    → first ≡ lines + 2 → rest ≡ line (side_line side) labels → newlines bytes + 1 < 2 ^ 32 → first + newlines labels < 2 ^ 32
lines_room model side lines first bytes rest labels e n p f l =
    omega (arith, ap newlines e, heading_newlines model rest, ap newlines f, side_newlines side labels, n, p, l)

few_heading : (model : Option ModelName) → heading_lines model ≤ 2
few_heading None = omega arith
few_heading (Some model) = omega arith

pub heading_room : (model : Option ModelName) (lines : ℕ) → lines ≡ heading_lines model → lines + 2 < 2 ^ 32
heading_room model lines n = omega (arith, n, few_heading model)

pub ruleset for_read_trace = (no_side_there, wrong_line, whole_trace, only_this, only_memory, lines_room, heading_room)
