-- What the words of the command line ask for.
use Rattle.std.specs.Prelude.{◌≡◌, ℕ, zero, suc, ◌+◌, ◌<◌, ◌≤◌, List, [], ◌∷◌, ◌++◌, codes, take, length, Option, Some, None, String, string_bytes, map, unwrap_or, slice_get}
use Rattle.std.specs.Fmt.{decimal}
use Rattle.std.specs.declared.alloc.Global.{Global}
use Rattle.dps_process.specs.Models.{Model, Private}
use Rattle.dps_process.specs.declared.model.CommModel.{CommModel}
use Rattle.dps_process.specs.declared.model.CommModel.TheVariants as models
use Rattle.dps_words.specs.declared.command.Command.{Command}
use Rattle.dps_words.specs.declared.command.Command.TheVariants.{Check, Replay, Theory, Gen}
use Rattle.dps_words.specs.declared.command.PlanRefusal.{PlanRefusal}
use Rattle.dps_words.specs.declared.words.Asked.{Asked}
use Rattle.dps_words.specs.declared.command.PlanRefusal.TheVariants.{Wrong, Memory}

abbrev pub texts : List (String Global) → List (List ℕ)
texts words = map (λ word. string_bytes word) words

-- the word of that number, from 1
abbrev pub word_at : List (List ℕ) → ℕ → List ℕ
word_at words zero = []
word_at words (suc n) = unwrap_or (slice_get words n) []

-- the word begins as an option does
abbrev pub IsOption : List ℕ → Type 0
IsOption word = (rest : List ℕ) × (word ≡ codes "--" ++ rest)

-- `check FILE`
pub record AsksToCheck (words : List (List ℕ)) : Type 0 where
  pub file : List ℕ
  pub all : words ≡ codes "check" ∷ file ∷ []
  pub no_option : ¬ IsOption file

-- a model as the option names it
abbrev pub model_word : CommModel → List ℕ
model_word models.Private = codes "private"
model_word models.Classic = codes "classic"

-- the command `replay` and its option
abbrev pub replay_front : Option CommModel → List (List ℕ)
replay_front None = codes "replay" ∷ []
replay_front (Some model) = codes "replay" ∷ codes "--semantics" ∷ model_word model ∷ []

-- `replay FILE TRACE`, or `replay --semantics M FILE TRACE`. TRACE is any word.
pub record AsksToReplay (words : List (List ℕ)) (model : Option CommModel) : Type 0 where
  pub file : List ℕ
  pub trace : List ℕ
  pub all : words ≡ replay_front model ++ (file ∷ trace ∷ [])
  pub no_option : ¬ IsOption file

-- the numbers of FILE and TRACE
abbrev pub replay_numbers : Option CommModel → List ℕ
replay_numbers None = 2 ∷ 3 ∷ []
replay_numbers (Some model) = 4 ∷ 5 ∷ []

-- `theory FILE`: a command without options takes any word as the name of its file
pub record AsksForTheory (words : List (List ℕ)) : Type 0 where
  pub file : List ℕ
  pub all : words ≡ codes "theory" ∷ file ∷ []

-- `gen N`, with a number of a file that can be made, as it is printed
pub record AsksToGenerate (words : List (List ℕ)) (number : ℕ) : Type 0 where
  pub made : number ≤ 87
  pub all : words ≡ codes "gen" ∷ decimal number ∷ []

abbrev pub Asks : List (List ℕ) → Command → Type 0
Asks words Check = AsksToCheck words
Asks words Replay = (model : Option CommModel) × AsksToReplay words model
Asks words Theory = AsksForTheory words
Asks words Gen = (number : ℕ) × AsksToGenerate words number

-- the number of `gen` that the words give, and 0 for the other commands
abbrev pub IsNumberOf : List (List ℕ) → Command → ℕ → Type 0
IsNumberOf words Check number = number ≡ 0
IsNumberOf words Replay number = number ≡ 0
IsNumberOf words Theory number = number ≡ 0
IsNumberOf words Gen number = AsksToGenerate words number

-- the model that the option of the words names
abbrev pub IsModelOf : List (List ℕ) → Command → Option CommModel → Type 0
IsModelOf words Check model = model ≡ None
IsModelOf words Replay model = AsksToReplay words model
IsModelOf words Theory model = model ≡ None
IsModelOf words Gen model = model ≡ None

-- the words ask for the command with this option and this number
pub record AsksWith (words : List (List ℕ)) (command : Command) (model : Option CommModel) (number : ℕ) : Type 0 where
  pub asks : Asks words command
  pub model_is : IsModelOf words command model
  pub number_is : IsNumberOf words command number

-- the numbers, from 1, are those of the words behind the command that belong to no option
abbrev pub AreFiles : List (List ℕ) → Command → List ℕ → Type 0
AreFiles words Check numbers = numbers ≡ 2 ∷ []
AreFiles words Replay numbers = (model : Option CommModel) × AsksToReplay words model × (numbers ≡ replay_numbers model)
AreFiles words Theory numbers = numbers ≡ 2 ∷ []
AreFiles words Gen numbers = numbers ≡ 2 ∷ []

-- the same numbers of words whose option is so
abbrev pub plan_numbers : Command → Option CommModel → List ℕ
plan_numbers Check model = 2 ∷ []
plan_numbers Replay model = replay_numbers model
plan_numbers Theory model = 2 ∷ []
plan_numbers Gen model = 2 ∷ []

-- the words ask for the command, with these words behind it
abbrev pub HasPlan : List (List ℕ) → Command → List ℕ → Type 0
HasPlan words command numbers = Asks words command × AreFiles words command numbers

-- this is the first word
pub record BeginsWith (word : List ℕ) (words : List (List ℕ)) : Type 0 where
  pub rest : List (List ℕ)
  pub all : words ≡ word ∷ rest

-- the first words are those of `replay` and the name of its option
pub record BeginsWithOption (words : List (List ℕ)) : Type 0 where
  pub rest : List (List ℕ)
  pub all : words ≡ codes "replay" ∷ codes "--semantics" ∷ rest

-- the first words are those of `replay` and its option
pub record BeginsWithModel (model : CommModel) (words : List (List ℕ)) : Type 0 where
  pub rest : List (List ℕ)
  pub all : words ≡ replay_front (Some model) ++ rest

-- the words can go on to words with a plan
pub record CanGoOn (front : List (List ℕ)) : Type 0 where
  pub more : List (List ℕ)
  pub command : Command
  pub numbers : List ℕ
  pub plan : HasPlan (front ++ more) command numbers

-- the words ask for nothing
abbrev pub HasNoPlan : List (List ℕ) → Type 0
HasNoPlan words = (command : Command) (numbers : List ℕ) → ¬ HasPlan words command numbers

-- The words have no plan, and this is the number, from 1, of the first that is wrong: with the words before it one can
-- go on to words with a plan, and with it one can not. A word that is missing has the number after the last.
pub record IsFirstWrong (words : List (List ℕ)) (number : ℕ) : Type 0 where
  pub before : ℕ
  pub is_next : number ≡ before + 1
  pub within : before ≤ length words
  pub right : CanGoOn (take before words)
  pub wrong : before < length words → ¬ CanGoOn (take (before + 1) words)
  pub no_plan : HasNoPlan words

-- the command and the number that the words ask for
abbrev pub AsksFor : List (List ℕ) → Asked → Type 0
AsksFor words asked = AsksWith words asked.command asked.model asked.number

-- why no plan is answered: the words have none; or they have one, and there was no memory for it
abbrev pub RefusesWords : List (List ℕ) → PlanRefusal → Type 0
RefusesWords words (Wrong number) = IsFirstWrong words number
RefusesWords words Memory = (command : Command) × (numbers : List ℕ) × HasPlan words command numbers

-- The model of communication under which the words ask. No option names one yet, so it is the private one.
abbrev pub plan_model : List (List ℕ) → Model
plan_model words = Private
