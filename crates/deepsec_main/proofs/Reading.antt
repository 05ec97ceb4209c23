-- From what was read of files to what the run comes to.
use Rattle.std.proofs.Common.{◌≡◌, ℕ, ◌≤◌, List, [], ◌∷◌, Option, Some, None, length, get_or, ap, refl, sym, ◌∙◌, subst, inr, arith}
use Rattle.std.specs.Prelude.{String, string_bytes}
use Rattle.std.specs.declared.alloc.Global.{Global}
use Rattle.dps_io.specs.Files.{FilesState}
use Rattle.dps_lex.specs.declared.vocabulary.Place.{Place}
use Rattle.dps_process.specs.Problem.{Problem}
use Rattle.dps_process.specs.declared.model.CommModel.{CommModel}
use Rattle.dps_judge.specs.Judgement.{HasNoMeaning, HasNoTheory, IsAttacked, IsRefused}
use Rattle.dps_report.specs.declared.outcome.Outcome.{Outcome}
use Rattle.dps_report.specs.declared.outcome.Outcome.TheVariants.{NotEquivalent, Refused, Stopped, Attack, Matched, NoRun, NoMemory}
use Rattle.dps_report.specs.declared.outcome.StopName.TheVariants.{TooLong, OpenFault, ReadFault, WordsRefused}
use Rattle.dps_witness.specs.Answers.{IsWitness}
use Rattle.dps_words.specs.declared.command.Command.{Command}
use Rattle.dps_words.specs.declared.command.Command.TheVariants.{Check, Replay, Theory, Gen}
use Rattle.dps_words.specs.declared.command.Plan.{Plan}
use Rattle.dps_words.specs.Words.{AsksToReplay, AsksToGenerate, IsModelOf, IsNumberOf, plan_numbers, replay_numbers, HasPlan, plan_model}
use Rattle.deepsec_main.specs.Answers.{AsksOfWord, AsksOfWords, NamesWord, alone, with_trace, IsPlan, IsPlanned, IsRead, HasReadText, IsFaultless, AreKept, IsBeside, first, second, IsReplayed, checked, of_theory, of_problem, of_trace, checked_model, IsUnread, IsProblemRead, IsProblemMissing, IsSeen, seen, unseen, IsOutOfMemory, IsReportCaused}

-- plans

pub plan_of_file : (words : List (List ℕ)) (number : ℕ) → NamesWord words number → IsPlanned words
plan_of_file words number (alone command o p) = (command, number ∷ [], p)
plan_of_file words number (with_trace model trace p) = (Replay, number ∷ trace ∷ [], ((model, p.asks), (model, p.asks, p.numbers)))

pub plan_of_both : (words : List (List ℕ)) (model : Option CommModel) (file trace : ℕ) → AsksOfWords words model file trace → HasPlan words Replay (file ∷ trace ∷ [])
plan_of_both words model file trace p = ((model, p.asks), (model, p.asks, p.numbers))

pub faultless_on : (old middle new : FilesState) → IsFaultless old middle → IsFaultless middle new → IsFaultless old new
faultless_on old middle new h k = record { no_open_fault = k.no_open_fault ∙ h.no_open_fault; no_read_fault = k.no_read_fault ∙ h.no_read_fault }

-- a file that was not read to its end stops the run
pub unread_caused : (old new : FilesState) (words : List (List ℕ)) (number : ℕ) (outcome : Outcome) → NamesWord words number → IsUnread old new words number outcome → IsReportCaused old new words outcome
unread_caused old new words number (Stopped TooLong word) named h = subst (λ k. IsReportCaused old new words (Stopped TooLong k)) (sym h.0) (first named h.1)
unread_caused old new words number (Stopped OpenFault word) named h = subst (λ k. IsReportCaused old new words (Stopped OpenFault k)) (sym h.0) (first named h.1)
unread_caused old new words number (Stopped ReadFault word) named h = subst (λ k. IsReportCaused old new words (Stopped ReadFault k)) (sym h.0) (first named h.1)
unread_caused old new words number (Stopped WordsRefused word) named h = absurd h
unread_caused old new words number NoMemory named h = record { planned = plan_of_file words number named; used = inr (number, first named h.once); faultless = h.faultless }
unread_caused old new words number outcome named h = absurd h

module _ (old new : FilesState) (words : List (List ℕ)) (file : ℕ) (text : List ℕ) (read : IsRead old new words file text) where
  pub read_as : (command : Command) (P : List ℕ → Type 0) → AsksOfWord words command file → P text → HasReadText old new words command file P
  read_as command P asks means = record { planned = asks; text = text; read = read; means = means }

  pub check_refused :
      (place : Place) (cause : String Global) (outcome : Outcome) → outcome ≡ Refused file place.line place.column (string_bytes cause) → AsksOfWord words Check file
      → IsRefused text place (string_bytes cause) → IsReportCaused old new words outcome
  check_refused place cause outcome e asks means =
      subst (IsReportCaused old new words) (sym e) (checked (read_as Check (λ bytes. IsRefused bytes (record { line = place.line; column = place.column }) (string_bytes cause)) asks means))

  pub check_attacked :
      (trace : List ℕ) (outcome : Outcome) → outcome ≡ NotEquivalent checked_model [] trace → AsksOfWord words Check file → IsAttacked (plan_model words) text trace → IsReportCaused old new words outcome
  check_attacked trace outcome e asks means =
      subst (IsReportCaused old new words) (sym e)
      (record { file = file; text = read_as Check (λ bytes. IsAttacked (plan_model words) bytes trace) asks means; in_model = refl; at_root = refl })

  pub theory_refused :
      (place : Place) (cause : String Global) (outcome : Outcome) → outcome ≡ Refused file place.line place.column (string_bytes cause) → AsksOfWord words Theory file
      → HasNoTheory text place (string_bytes cause) → IsReportCaused old new words outcome
  theory_refused place cause outcome e asks means =
      subst (IsReportCaused old new words) (sym e) (of_theory (read_as Theory (λ bytes. HasNoTheory bytes (record { line = place.line; column = place.column }) (string_bytes cause)) asks means))

  pub file_without_memory : NamesWord words file → IsOutOfMemory old new words
  file_without_memory named = record { planned = plan_of_file words file named; used = inr (file, first named read.once); faultless = read.faultless }

  pub problem_refused :
      (place : Place) (cause : String Global) (outcome : Outcome) → outcome ≡ Refused file place.line place.column (string_bytes cause) → HasNoMeaning text place (string_bytes cause)
      → IsProblemMissing old new words file outcome
  problem_refused place cause outcome e none = subst (IsProblemMissing old new words file) (sym e) (refl, record { text = text; read = read; meaningless = none })

-- the file of a trace has no problem
pub missing_caused :
    (old new : FilesState) (words : List (List ℕ)) (model : Option CommModel) (file trace : ℕ) (outcome : Outcome) → AsksOfWords words model file trace → IsProblemMissing old new words file outcome
    → IsReportCaused old new words outcome
missing_caused old new words model file trace (Refused named line column cause) p h =
    subst (λ k. IsReportCaused old new words (Refused k line column cause)) (sym h.0)
    (of_problem (record { model = model; trace = trace; planned = p; text = h.1.text; read = h.1.read; meaningless = h.1.meaningless }))
missing_caused old new words model file trace (Stopped name word) p h = unread_caused old new words file (Stopped name word) (with_trace model trace p) h
missing_caused old new words model file trace NoMemory p h = unread_caused old new words file NoMemory (with_trace model trace p) h
missing_caused old new words model file trace outcome p h = absurd h

module _ (old middle new : FilesState) (words : List (List ℕ)) (model : Option CommModel) (trace : ℕ) (problem : Problem) (b : IsBeside old middle words model trace problem) where
  pub unseen_caused : (outcome : Outcome) → IsUnread middle new words trace outcome → IsReportCaused old new words outcome
  unseen_caused (Stopped TooLong word) h = subst (λ k. IsReportCaused old new words (Stopped TooLong k)) (sym h.0) (second middle model problem b h.1)
  unseen_caused (Stopped OpenFault word) h = subst (λ k. IsReportCaused old new words (Stopped OpenFault k)) (sym h.0) (second middle model problem b h.1)
  unseen_caused (Stopped ReadFault word) h = subst (λ k. IsReportCaused old new words (Stopped ReadFault k)) (sym h.0) (second middle model problem b h.1)
  unseen_caused (Stopped WordsRefused word) h = absurd h
  unseen_caused NoMemory h =
      record {
        planned = (Replay, b.file ∷ trace ∷ [], plan_of_both words model b.file trace b.planned);
        used = inr (trace, second middle model problem b h.once);
        faultless = faultless_on old middle new b.read.faultless h.faultless;
      }
  unseen_caused outcome h = absurd h

  module _ (text : List ℕ) (read : IsRead middle new words trace text) where
    replayed : (outcome : Outcome) → IsWitness problem model trace text outcome → IsReplayed old new words outcome
    replayed outcome w = record { middle = middle; model = model; trace = trace; problem = problem; beside = b; text = text; read = read; witness = w }

    pub seen_caused : (outcome : Outcome) → IsWitness problem model trace text outcome → IsReportCaused old new words outcome
    seen_caused (Attack m s t) w = replayed (Attack m s t) w
    seen_caused (Matched m s) w = replayed (Matched m s) w
    seen_caused (NoRun m l) w = replayed (NoRun m l) w
    seen_caused (Refused file line column cause) w = of_trace (replayed (Refused file line column cause) w)
    seen_caused NoMemory w =
        record {
          planned = (Replay, b.file ∷ trace ∷ [], plan_of_both words model b.file trace b.planned);
          used = inr (trace, second middle model problem b read.once);
          faultless = faultless_on old middle new b.read.faultless read.faultless;
        }
    seen_caused outcome w = absurd w

  pub beside_caused : (outcome : Outcome) → IsSeen middle new words problem model trace outcome → IsReportCaused old new words outcome
  beside_caused outcome (seen text read w) = seen_caused text read outcome w
  beside_caused outcome (unseen h) = unseen_caused outcome h

pub kept_on : (old middle new : FilesState) → AreKept old middle → AreKept middle new → AreKept old new
kept_on old middle new h k =
    record {
      told = λ name. k.told name ∙ h.told name;
      opens = omega (arith, h.opens, k.opens);
      calls = omega (arith, h.calls, k.calls);
      open_faults = omega (arith, h.open_faults, k.open_faults);
      read_faults = omega (arith, h.read_faults, k.read_faults);
    }

pub beside_of :
    (old middle : FilesState) (words : List (List ℕ)) (model : Option CommModel) (file trace : ℕ) (problem : Problem) → AsksOfWords words model file trace
    → IsProblemRead old middle words file problem → AreKept old middle → IsBeside old middle words model trace problem
beside_of old middle words model file trace problem p r kept = record { file = file; planned = p; text = r.text; read = r.read; means = r.means; kept = kept }

-- what is planned
pub planned_files : (words : List (List ℕ)) (plan : Plan) → IsPlan words plan → (command : Command) → plan.command ≡ command → HasPlan words command plan.words.items
planned_files words plan h command e = subst (λ k. HasPlan words k plan.words.items) e h.planned

pub planned_numbers : (words : List (List ℕ)) (plan : Plan) → IsPlan words plan → (command : Command) → plan.command ≡ command → plan.words.items ≡ plan_numbers command plan.model
planned_numbers words plan h command e = h.files ∙ ap (λ k. plan_numbers k plan.model) e

pub check_planned : (words : List (List ℕ)) (plan : Plan) → IsPlan words plan → plan.command ≡ Check → (file : ℕ) → file ≡ get_or plan.words.items 0 0 → AsksOfWord words Check file
check_planned words plan h e file at =
    let p = planned_files words plan h Check e in
    let is : file ≡ 2 = at ∙ ap (λ ns. get_or ns 0 0) (planned_numbers words plan h Check e) in
    (p.0, ap (λ k. k ∷ []) is)

pub theory_planned : (words : List (List ℕ)) (plan : Plan) → IsPlan words plan → plan.command ≡ Theory → (file : ℕ) → file ≡ get_or plan.words.items 0 0 → AsksOfWord words Theory file
theory_planned words plan h e file at =
    let p = planned_files words plan h Theory e in
    let is : file ≡ 2 = at ∙ ap (λ ns. get_or ns 0 0) (planned_numbers words plan h Theory e) in
    (p.0, ap (λ k. k ∷ []) is)

pub made_planned : (words : List (List ℕ)) (plan : Plan) → IsPlan words plan → plan.command ≡ Gen → AsksToGenerate words plan.number
made_planned words plan h e = subst (λ k. IsNumberOf words k plan.number) e h.number

pub replay_planned :
    (words : List (List ℕ)) (plan : Plan) → IsPlan words plan → plan.command ≡ Replay → (file trace : ℕ) → file ≡ get_or plan.words.items 0 0 → trace ≡ get_or plan.words.items 1 0
    → AsksOfWords words plan.model file trace
replay_planned words plan h e file trace at behind =
    let asks : AsksToReplay words plan.model = subst (λ k. IsModelOf words k plan.model) e h.model in
    let numbers = planned_numbers words plan h Replay e in
    record { asks = asks; numbers = by_model plan.model (at ∙ ap (λ ns. get_or ns 0 0) numbers) (behind ∙ ap (λ ns. get_or ns 1 0) numbers) }
  where
    by_model : (model : Option CommModel) → file ≡ get_or (replay_numbers model) 0 0 → trace ≡ get_or (replay_numbers model) 1 0 → file ∷ trace ∷ [] ≡ replay_numbers model
    by_model None p q = ap (λ k. k ∷ trace ∷ []) p ∙ ap (λ k. 2 ∷ k ∷ []) q
    by_model (Some m) p q = ap (λ k. k ∷ trace ∷ []) p ∙ ap (λ k. 4 ∷ k ∷ []) q

-- how many words there are
pub one_word : (words : List (List ℕ)) (plan : Plan) → IsPlan words plan → 1 ≤ length plan.words.items
one_word words plan h = by_command plan.command plan.model h.files
  where
    by_command : (command : Command) (model : Option CommModel) → plan.words.items ≡ plan_numbers command model → 1 ≤ length plan.words.items
    by_command Check model e = omega (arith, ap length e)
    by_command Replay None e = omega (arith, ap length e)
    by_command Replay (Some m) e = omega (arith, ap length e)
    by_command Theory model e = omega (arith, ap length e)
    by_command Gen model e = omega (arith, ap length e)

pub two_words : (words : List (List ℕ)) (plan : Plan) → IsPlan words plan → plan.command ≡ Replay → 2 ≤ length plan.words.items
two_words words plan h e = by_model plan.model (planned_numbers words plan h Replay e)
  where
    by_model : (model : Option CommModel) → plan.words.items ≡ replay_numbers model → 2 ≤ length plan.words.items
    by_model None e = omega (arith, ap length e)
    by_model (Some m) e = omega (arith, ap length e)

pub ruleset for_planned = (check_planned, theory_planned, made_planned, replay_planned, one_word, two_words)
