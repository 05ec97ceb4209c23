-- The outcomes and their causes, in a run from the files as they were, `old`, to the files as they are, `new`.
use Rattle.std.specs.Prelude.{◌≡◌, ◌⊎◌, ℕ, ◌+◌, ◌<◌, ◌≤◌, List, [], ◌∷◌, length, Option, Some, IfSome, string_bytes, ⊤}
use Rattle.std.specs.Io.KnownBytes.{append_known}
use Rattle.dps_io.specs.Counts.{Rose, CountsCall}
use Rattle.dps_io.specs.Bytes.{TellsTheSame, AppendsFront}
use Rattle.dps_io.specs.Files.{FilesState}
use Rattle.dps_gen.specs.Generated.{generated_text}
use Rattle.dps_lex.specs.declared.vocabulary.Place.{Place}
use Rattle.dps_process.specs.Problem.{Problem}
use Rattle.dps_process.specs.declared.model.CommModel.{CommModel}
use Rattle.dps_meaning.specs.Meaning.{MeansTheory, Means}
use Rattle.dps_trace.specs.declared.model.ModelName.{ModelName}
use Rattle.dps_trace.specs.declared.model.ModelName.TheVariants as names
use Rattle.dps_judge.specs.Meaning.{MeansEquivalent, MeansDifferent}
use Rattle.dps_judge.specs.Judgement.{HasNoMeaning, HasNoTheory, IsAttacked, IsRefused}
use Rattle.dps_words.specs.declared.command.Command.{Command}
use Rattle.dps_words.specs.declared.command.Plan.{Plan}
use Rattle.dps_words.specs.declared.command.Command.TheVariants.{Check, Replay, Theory, Gen}
use Rattle.dps_report.specs.declared.outcome.Outcome.{Outcome}
use Rattle.dps_report.specs.declared.outcome.Outcome.TheVariants.{Equivalent, NotEquivalent, Spent, Refused, Stopped, TheoryAccepted, Attack, Matched, NoRun, NoMemory}
use Rattle.dps_report.specs.declared.outcome.StopName.{StopName}
use Rattle.dps_report.specs.declared.outcome.StopName.TheVariants.{TooLong, OpenFault, ReadFault, WordsRefused}
use Rattle.dps_witness.specs.Answers.{IsWitness}
use Rattle.dps_words.specs.Words.{word_at, plan_numbers, replay_numbers, IsModelOf, IsNumberOf, AsksToReplay, AsksToGenerate, HasPlan, HasNoPlan, IsFirstWrong, plan_model}
use Rattle.deepsec_main.specs.declared.answer.Answer.{Answer}
use Rattle.deepsec_main.specs.declared.answer.Answer.TheVariants.{Report, Made}
use Rattle.deepsec_main.specs.Reports.{answer_text, status_of}

-- the most bytes of a file
abbrev pub limit : ℕ
limit = 1048576

-- the text is refused at some place for some cause
abbrev pub IsRefusedSomewhere : List ℕ → Type 0
IsRefusedSomewhere bytes = (place : Place) × ((cause : List ℕ) × IsRefused bytes place cause)

-- the text has a fault up to its rules, at some place
abbrev pub HasNoTheorySomewhere : List ℕ → Type 0
HasNoTheorySomewhere bytes = (place : Place) × ((cause : List ℕ) × HasNoTheory bytes place cause)

-- the words ask for this of the file of this word's number
abbrev pub AsksOfWord : List (List ℕ) → Command → ℕ → Type 0
AsksOfWord words command number = HasPlan words command (number ∷ [])

-- they ask to replay the trace of one word beside the file of another
pub record AsksOfWords (words : List (List ℕ)) (model : Option CommModel) (file trace : ℕ) : Type 0 where
  pub asks : AsksToReplay words model
  pub numbers : file ∷ trace ∷ [] ≡ replay_numbers model

-- the command reads one file
abbrev pub IsOfFile : Command → Type 0
IsOfFile Check = ⊤
IsOfFile Replay = ⊥
IsOfFile Theory = ⊤
IsOfFile Gen = ⊥

-- The words ask for something of this file, which is read first.
pub data NamesWord (words : List (List ℕ)) (number : ℕ) : Type 0 where
  alone : (command : Command) → IsOfFile command → AsksOfWord words command number → NamesWord words number
  with_trace : (model : Option CommModel) (trace : ℕ) → AsksOfWords words model number trace → NamesWord words number

-- they ask for something
abbrev pub IsPlanned : List (List ℕ) → Type 0
IsPlanned words = (command : Command) × (numbers : List ℕ) × HasPlan words command numbers

-- Some file was opened, by one call, and read, by at most so many calls as there are bytes up to the limit, and two.
pub record IsReadOnce (old new : FilesState) : Type 0 where
  pub opened_once : CountsCall old.opens new.opens
  pub counted_calls : old.calls ≤ new.calls
  pub few_calls : new.calls ≤ old.calls + 1 + (limit + 2)

-- no fault of the files was counted
pub record IsFaultless (old new : FilesState) : Type 0 where
  pub no_open_fault : new.open_faults ≡ old.open_faults
  pub no_read_fault : new.read_faults ≡ old.read_faults

-- The file of this word was read to its end, and its text is so. Where the object tells the file's bytes, the text is those.
pub record IsRead (old new : FilesState) (words : List (List ℕ)) (number : ℕ) (text : List ℕ) : Type 0 where
  pub told_text : IfSome (old.told (word_at words number)) (λ bytes. text ≡ bytes)
  pub taken_all : new.taken ≡ length text
  pub short : length text ≤ limit
  pub once : IsReadOnce old new
  pub faultless : IsFaultless old new

-- the file of which the words ask this was read, and its text is so
pub record HasReadText (old new : FilesState) (words : List (List ℕ)) (command : Command) (number : ℕ) (P : List ℕ → Type 0) : Type 0 where
  pub planned : AsksOfWord words command number
  pub text : List ℕ
  pub read : IsRead old new words number text
  pub means : P text

-- what the files tell is kept, and no count of theirs falls
pub record AreKept (old new : FilesState) : Type 0 where
  pub told : TellsTheSame old.told new.told
  pub opens : old.opens ≤ new.opens
  pub calls : old.calls ≤ new.calls
  pub open_faults : old.open_faults ≤ new.open_faults
  pub read_faults : old.read_faults ≤ new.read_faults

-- The words ask to replay a trace, and the file beside it was read to its end and means the problem.
pub record IsBeside (old new : FilesState) (words : List (List ℕ)) (model : Option CommModel) (trace : ℕ) (problem : Problem) : Type 0 where
  pub file : ℕ
  pub planned : AsksOfWords words model file trace
  pub text : List ℕ
  pub read : IsRead old new words file text
  pub means : Means text problem
  pub kept : AreKept old new

-- It happens from the start at the file of this word; or, behind the file of a trace, at the trace of this word.
pub data Happens (old : FilesState) (words : List (List ℕ)) (number : ℕ) (P : FilesState → Type 0) : Type 0 where
  first : NamesWord words number → P old → Happens old words number P
  second : (middle : FilesState) (model : Option CommModel) (problem : Problem) → IsBeside old middle words model number problem → P middle → Happens old words number P

-- The trace was read to its end behind its file, and this is reported of it.
pub record IsReplayed (old new : FilesState) (words : List (List ℕ)) (outcome : Outcome) : Type 0 where
  pub middle : FilesState
  pub model : Option CommModel
  pub trace : ℕ
  pub problem : Problem
  pub beside : IsBeside old middle words model trace problem
  pub text : List ℕ
  pub read : IsRead middle new words trace text
  pub witness : IsWitness problem model trace text outcome

-- the file of a trace was read, and its text means no problem
pub record HasNoProblem (old new : FilesState) (words : List (List ℕ)) (file line column : ℕ) (cause : List ℕ) : Type 0 where
  pub model : Option CommModel
  pub trace : ℕ
  pub planned : AsksOfWords words model file trace
  pub text : List ℕ
  pub read : IsRead old new words file text
  pub meaningless : HasNoMeaning text (record { line = line; column = column }) cause

-- A file of the words is refused, at this place for this cause: a text that is checked means no problem that is judged; one
-- whose theory is asked for has none; the file of a trace means no problem; or the trace is none over its signature.
pub data IsRefusedFile (old new : FilesState) (words : List (List ℕ)) (file line column : ℕ) (cause : List ℕ) : Type 0 where
  checked : HasReadText old new words Check file (λ bytes. IsRefused bytes (record { line = line; column = column }) cause) → IsRefusedFile old new words file line column cause
  of_theory : HasReadText old new words Theory file (λ bytes. HasNoTheory bytes (record { line = line; column = column }) cause) → IsRefusedFile old new words file line column cause
  of_problem : HasNoProblem old new words file line column cause → IsRefusedFile old new words file line column cause
  of_trace : IsReplayed old new words (Refused file line column cause) → IsRefusedFile old new words file line column cause

-- the file of this word has more bytes than the limit, and just one more was read
pub record IsTooLong (old new : FilesState) (words : List (List ℕ)) (number : ℕ) : Type 0 where
  pub taken_more : new.taken ≡ limit + 1
  pub longer : IfSome (old.told (word_at words number)) (λ bytes. limit < length bytes)
  pub once : IsReadOnce old new
  pub faultless : IsFaultless old new

-- a fault of a file was counted: this count, and no other
pub record HasFault (old new : FilesState) (fault other : FilesState → ℕ) : Type 0 where
  pub rose : Rose (fault old) (fault new)
  pub only : other new ≡ other old
  pub taken_less : new.taken ≤ limit
  pub once : IsReadOnce old new

abbrev pub HasOpenFault : FilesState → FilesState → Type 0
HasOpenFault old new = HasFault old new (λ files. files.open_faults) (λ files. files.read_faults)

abbrev pub HasReadFault : FilesState → FilesState → Type 0
HasReadFault old new = HasFault old new (λ files. files.read_faults) (λ files. files.open_faults)

-- a file was read, and there was no memory
pub record IsWithoutMemory (old new : FilesState) : Type 0 where
  pub once : IsReadOnce old new
  pub faultless : IsFaultless old new

-- why the file of this word was not read to its end
abbrev pub IsUnread : FilesState → FilesState → List (List ℕ) → ℕ → Outcome → Type 0
IsUnread old new words number (Stopped TooLong word) = (word ≡ number) × IsTooLong old new words number
IsUnread old new words number (Stopped OpenFault word) = (word ≡ number) × HasOpenFault old new
IsUnread old new words number (Stopped ReadFault word) = (word ≡ number) × HasReadFault old new
IsUnread old new words number (Stopped WordsRefused word) = ⊥
IsUnread old new words number NoMemory = IsWithoutMemory old new
IsUnread old new words number (Equivalent model) = ⊥
IsUnread old new words number (NotEquivalent model node trace) = ⊥
IsUnread old new words number (Spent model node steps) = ⊥
IsUnread old new words number (Refused file line column cause) = ⊥
IsUnread old new words number (TheoryAccepted rules) = ⊥
IsUnread old new words number (Attack model side tests) = ⊥
IsUnread old new words number (Matched model side) = ⊥
IsUnread old new words number (NoRun model label) = ⊥

-- the file of this word was read to its end, and means the problem
pub record IsProblemRead (old new : FilesState) (words : List (List ℕ)) (number : ℕ) (problem : Problem) : Type 0 where
  pub text : List ℕ
  pub read : IsRead old new words number text
  pub means : Means text problem

-- the file of this word was read to its end, and means no problem: this is its fault
pub record IsProblemRefused (old new : FilesState) (words : List (List ℕ)) (number line column : ℕ) (cause : List ℕ) : Type 0 where
  pub text : List ℕ
  pub read : IsRead old new words number text
  pub meaningless : HasNoMeaning text (record { line = line; column = column }) cause

-- why there is no problem of the file of this word
abbrev pub IsProblemMissing : FilesState → FilesState → List (List ℕ) → ℕ → Outcome → Type 0
IsProblemMissing old new words number (Refused file line column cause) = (file ≡ number) × IsProblemRefused old new words number line column cause
IsProblemMissing old new words number outcome = IsUnread old new words number outcome

-- the trace of this word was read to its end beside the problem, and this is reported of it; or it was not read
pub data IsSeen (old new : FilesState) (words : List (List ℕ)) (problem : Problem) (model : Option CommModel) (trace : ℕ) (outcome : Outcome) : Type 0 where
  seen : (text : List ℕ) → IsRead old new words trace text → IsWitness problem model trace text outcome → IsSeen old new words problem model trace outcome
  unseen : IsUnread old new words trace outcome → IsSeen old new words problem model trace outcome

-- the words have this plan
pub record IsPlan (words : List (List ℕ)) (plan : Plan) : Type 0 where
  pub planned : HasPlan words plan.command plan.words.items
  pub files : plan.words.items ≡ plan_numbers plan.command plan.model
  pub model : IsModelOf words plan.command plan.model
  pub number : IsNumberOf words plan.command plan.number

-- a status of a match, of an attack and of a trace without a run
pub data IsReplayStatus (status : ℕ) : Type 0 where
  is_match : status ≡ 0 → IsReplayStatus status
  is_attack : status ≡ 1 → IsReplayStatus status
  is_stuck : status ≡ 9 → IsReplayStatus status

-- the words have no plan, and no file was touched
pub record AreRefused (old new : FilesState) (words : List (List ℕ)) (number : ℕ) : Type 0 where
  pub first_wrong : IsFirstWrong words number
  pub untouched : new ≡ old

-- what stopped the run
abbrev pub IsStopped : FilesState → FilesState → List (List ℕ) → StopName → ℕ → Type 0
IsStopped old new words TooLong word = Happens old words word (λ from. IsTooLong from new words word)
IsStopped old new words OpenFault word = Happens old words word (λ from. HasOpenFault from new)
IsStopped old new words ReadFault word = Happens old words word (λ from. HasReadFault from new)
IsStopped old new words WordsRefused word = AreRefused old new words word

-- There was no memory: for what the words ask for, and not in place of a fault.
pub record IsOutOfMemory (old new : FilesState) (words : List (List ℕ)) : Type 0 where
  pub planned : IsPlanned words
  pub used : (new ≡ old) ⊎ ((number : ℕ) × Happens old words number (λ from. IsReadOnce from new))
  pub faultless : IsFaultless old new

-- the words ask for the file of a number, and the text is that file; no file was touched
pub record IsGenerated (old new : FilesState) (words : List (List ℕ)) (text : List ℕ) : Type 0 where
  pub number : ℕ
  pub planned : AsksToGenerate words number
  pub made : text ≡ generated_text number
  pub untouched : new ≡ old

-- the model under which files are checked
abbrev pub checked_model : Option ModelName
checked_model = Some names.Private

-- a file was checked, and has an attack, which was found at the root
pub record IsAttackFound (old new : FilesState) (words : List (List ℕ)) (model : Option ModelName) (node trace : List ℕ) : Type 0 where
  pub file : ℕ
  pub text : HasReadText old new words Check file (λ bytes. IsAttacked (plan_model words) bytes trace)
  pub in_model : model ≡ checked_model
  pub at_root : node ≡ []

-- The cause of each report, in the run of these words.
abbrev pub IsReportCaused : FilesState → FilesState → List (List ℕ) → Outcome → Type 0
IsReportCaused old new words (Equivalent model) = (number : ℕ) × HasReadText old new words Check number (MeansEquivalent (plan_model words)) × (model ≡ checked_model)
IsReportCaused old new words (NotEquivalent model node trace) = IsAttackFound old new words model node trace
IsReportCaused old new words (Spent model node steps) = ⊥
IsReportCaused old new words (TheoryAccepted rules) = (number : ℕ) × HasReadText old new words Theory number (λ bytes. MeansTheory bytes rules)
IsReportCaused old new words (Refused file line column cause) = IsRefusedFile old new words file line column cause
IsReportCaused old new words (Stopped name word) = IsStopped old new words name word
IsReportCaused old new words (Attack model side tests) = IsReplayed old new words (Attack model side tests)
IsReportCaused old new words (Matched model side) = IsReplayed old new words (Matched model side)
IsReportCaused old new words (NoRun model label) = IsReplayed old new words (NoRun model label)
IsReportCaused old new words NoMemory = IsOutOfMemory old new words

-- the same of each answer
abbrev pub IsCaused : FilesState → FilesState → List (List ℕ) → Answer → Type 0
IsCaused old new words (Report outcome) = IsReportCaused old new words outcome
IsCaused old new words (Made text) = IsGenerated old new words (string_bytes text)

-- How the files were used: not at all, or one that the words name was read, or that and the trace behind it.
pub data IsUsed (old new : FilesState) (words : List (List ℕ)) : Type 0 where
  untouched : new ≡ old → IsUsed old new words
  read_once : (number : ℕ) → Happens old words number (λ from. IsReadOnce from new) → IsUsed old new words

-- The answer is given: its text is written behind what was written, and its status is answered. Or a write failed, behind a
-- front of the text.
module _ {W : Type 0} (written : W → Option (List ℕ)) (faults : W → ℕ) where
  pub record IsWritten (old new : W) (answer : Answer) (status : ℕ) : Type 0 where
    pub all : written new ≡ append_known (written old) (answer_text answer)
    pub no_fault : faults new ≡ faults old
    pub status_is : status ≡ status_of answer

  pub record IsCutOff (old new : W) (answer : Answer) (status : ℕ) : Type 0 where
    pub front : AppendsFront (written old) (written new) (answer_text answer)
    pub rose : Rose (faults old) (faults new)
    pub status_is : status ≡ 5

  abbrev pub IsReported : W → W → Answer → ℕ → Type 0
  IsReported old new answer status = IsWritten old new answer status ⊎ IsCutOff old new answer status

-- What the counts say of the status: 4 where a fault of the files was counted, 5 where one of the sink was, and 6 only where
-- none was.
pub record FollowsCounts (old new : FilesState) (before after status : ℕ) : Type 0 where
  pub file_fault : status ≡ 4 → Rose old.open_faults new.open_faults ⊎ Rose old.read_faults new.read_faults
  pub file_counted : (old.open_faults < new.open_faults) ⊎ (old.read_faults < new.read_faults) → (status ≡ 4) ⊎ (status ≡ 5)
  pub write_fault : status ≡ 5 → Rose before after
  pub write_counted : before < after → status ≡ 5
  pub no_memory : status ≡ 6 → IsFaultless old new × (after ≡ before)

-- Where nothing of the outside fails, the outcome is that of the words and of the file that they name, or that there was no
-- memory.
module _ (old new : FilesState) (before after : ℕ) where
  -- no fault was counted
  pub record NothingFails : Type 0 where
    pub no_open_fault : ¬ Rose old.open_faults new.open_faults
    pub no_read_fault : ¬ Rose old.read_faults new.read_faults
    pub no_write_fault : ¬ Rose before after

  -- the words ask this of a file that the object tells
  pub record NamesText (words : List (List ℕ)) (command : Command) (bytes : List ℕ) : Type 0 where
    pub number : ℕ
    pub planned : AsksOfWord words command number
    pub is_told : old.told (word_at words number) ≡ Some bytes

  abbrev pub IsOr : ℕ → ℕ → Type 0
  IsOr status want = (status ≡ want) ⊎ (status ≡ status_of (Report NoMemory))

  pub record IsComplete (words : List (List ℕ)) (status : ℕ) : Type 0 where
    pub equivalent : (bytes : List ℕ) → NamesText words Check bytes → length bytes ≤ limit → MeansEquivalent (plan_model words) bytes → NothingFails → IsOr status 0
    pub not_equivalent : (bytes : List ℕ) → NamesText words Check bytes → length bytes ≤ limit → MeansDifferent (plan_model words) bytes → NothingFails → IsOr status 1
    pub refused : (bytes : List ℕ) → NamesText words Check bytes → length bytes ≤ limit → IsRefusedSomewhere bytes → NothingFails → IsOr status 3
    pub theory_accepted : (bytes : List ℕ) (rules : ℕ) → NamesText words Theory bytes → length bytes ≤ limit → MeansTheory bytes rules → NothingFails → IsOr status 0
    pub theory_refused : (bytes : List ℕ) → NamesText words Theory bytes → length bytes ≤ limit → HasNoTheorySomewhere bytes → NothingFails → IsOr status 3
    pub generated : (number : ℕ) → AsksToGenerate words number → NothingFails → IsOr status 0
    pub too_long : (bytes : List ℕ) (command : Command) → IsOfFile command → NamesText words command bytes → limit < length bytes → NothingFails → IsOr status 8
    pub words_refused : HasNoPlan words → ¬ Rose before after → status ≡ 7
