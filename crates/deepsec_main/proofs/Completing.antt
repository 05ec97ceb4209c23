-- Where nothing of the outside fails, the words and the file decide the status.
use Rattle.std.proofs.Common.{◌≡◌, ◌⊎◌, ℕ, ◌<◌, ◌≤◌, List, [], ◌∷◌, ◌++◌, length, Option, Some, None, refl, sym, ◌∙◌, ap, subst, inl, inr, arith}
use Rattle.std.specs.Prelude.{IfSome, codes}
use Rattle.dps_io.specs.Counts.{Rose}
use Rattle.dps_io.specs.Files.{FilesState}
use Rattle.dps_lex.specs.declared.vocabulary.Place.{Place}
use Rattle.dps_process.specs.Models.{Model}
use Rattle.dps_process.specs.Traces.{IsEquivalent}
use Rattle.dps_meaning.specs.Meaning.{MeansTheory}
use Rattle.dps_meaning.specs.Laws.{NoTextMeansTwoProblems}
use Rattle.dps_judge.specs.Meaning.{MeansEquivalent, MeansDifferent}
use Rattle.dps_judge.specs.Judgement.{HasNoTheory, IsAttacked, IsRefused}
use Rattle.dps_judge.specs.LawsOfTexts.{NoTextHasTheoryAndNone, NoTextIsRefusedAndJudged, NoTextIsEquivalentAndAttacked}
use Rattle.dps_words.specs.declared.command.Command.{Command}
use Rattle.dps_words.specs.declared.command.Command.TheVariants.{Check, Replay, Theory, Gen}
use Rattle.dps_report.specs.declared.outcome.Outcome.TheVariants.{Equivalent, NotEquivalent, Spent, Refused, Stopped, TheoryAccepted, Attack, Matched, NoRun, NoMemory}
use Rattle.dps_report.specs.declared.outcome.StopName.TheVariants.{TooLong, OpenFault, ReadFault, WordsRefused}
use Rattle.dps_process.specs.declared.model.CommModel.{CommModel}
use Rattle.deepsec_main.specs.declared.answer.Answer.{Answer}
use Rattle.deepsec_main.specs.declared.answer.Answer.TheVariants.{Report, Made}
use Rattle.dps_words.specs.Words.{word_at, model_word, replay_front, AsksToReplay, AsksToGenerate, HasPlan, HasNoPlan, plan_model}
use Rattle.deepsec_main.specs.Reports.{status_of}
use Rattle.deepsec_main.specs.Answers.{limit, IsRefusedSomewhere, HasNoTheorySomewhere, IsOfFile, AsksOfWord, AsksOfWords, alone, with_trace, IsRead, HasReadText, HasOpenFault, HasReadFault, Happens, first, second, checked, of_theory, of_problem, of_trace, IsTooLong, IsCaused, NothingFails, NamesText, IsComplete}
use Rattle.dps_words.proofs.Planning.{words_differ, check_or_gen, theory_or_gen, check_or_replay, replay_or_theory, replay_or_gen}
use Rattle.deepsec_main.proofs.Reading.{plan_of_both, plan_of_file}

-- no text has two of these verdicts, in one model
pub record IsOneVerdict (model : Model) : Type 0 where
  pub not_attacked : (bytes trace : List ℕ) → MeansEquivalent model bytes → IsAttacked model bytes trace → ⊥
  pub not_different : (bytes : List ℕ) → MeansEquivalent model bytes → MeansDifferent model bytes → ⊥
  pub equivalent_unrefused : (bytes cause : List ℕ) (place : Place) → MeansEquivalent model bytes → IsRefused bytes place cause → ⊥
  pub different_unrefused : (bytes cause : List ℕ) (place : Place) → MeansDifferent model bytes → IsRefused bytes place cause → ⊥
  pub attacked_unrefused : (bytes trace cause : List ℕ) (place : Place) → IsAttacked model bytes trace → IsRefused bytes place cause → ⊥
  pub theory_or_none : (bytes cause : List ℕ) (place : Place) (rules : ℕ) → MeansTheory bytes rules → HasNoTheory bytes place cause → ⊥

pub one_verdict : NoTextMeansTwoProblems → NoTextHasTheoryAndNone → NoTextIsRefusedAndJudged → NoTextIsEquivalentAndAttacked → (model : Model) → IsOneVerdict model
one_verdict problems theories refusals attacks model = record {
  not_attacked = attacks model;
  not_different = λ bytes e d. d.different (subst IsEquivalent (problems bytes e.problem d.problem e.means.means d.means.means (e.means.in_model ∙ sym d.means.in_model)) e.equivalent);
  equivalent_unrefused = λ bytes cause place e r. refusals model bytes place cause e.problem r e.means;
  different_unrefused = λ bytes cause place d r. refusals model bytes place cause d.problem r d.means;
  attacked_unrefused = λ bytes trace cause place a r. refusals model bytes place cause a.problem r a.means;
  theory_or_none = λ bytes cause place rules m h. theories bytes place cause rules h m;
}

-- the words name one file, and ask for one command
module _ (words : List (List ℕ)) where
  second_word : (command : Command) (n : ℕ) → IsOfFile command → AsksOfWord words command n → n ∷ [] ≡ 2 ∷ []
  second_word Check n o p = p.1
  second_word Replay n o p = absurd o
  second_word Theory n o p = p.1
  second_word Gen n o p = absurd o

  pub one_file : (command other : Command) (m n : ℕ) → IsOfFile command → IsOfFile other → AsksOfWord words command m → AsksOfWord words other n → m ≡ n
  one_file command other m n o k p q = let e : ◌≡◌ {A = List ℕ} (m ∷ []) (n ∷ []) = second_word command m o p ∙ sym (second_word other n k q) in cc

  pub one_command : (m n : ℕ) → AsksOfWord words Check m → AsksOfWord words Theory n → ⊥
  one_command m n p q = words_differ (let e = p.0.all in let d = q.0.all in cc)

  pub made_of_no_file : (command : Command) (n number : ℕ) → IsOfFile command → AsksOfWord words command n → AsksToGenerate words number → ⊥
  made_of_no_file Check n number f p g = check_or_gen (let e = p.0.all in let d = g.all in cc)
  made_of_no_file Theory n number f p g = theory_or_gen (let e = p.0.all in let d = g.all in cc)
  made_of_no_file Replay n number f p g = absurd f
  made_of_no_file Gen n number f p g = absurd f

  -- words that ask to replay ask for nothing else
  replay_first : (model : Option CommModel) (rest : List (List ℕ)) → (tail : List (List ℕ)) × (replay_front model ++ rest ≡ codes "replay" ∷ tail)
  replay_first None rest = (rest, refl)
  replay_first (Some m) rest = (codes "--semantics" ∷ model_word m ∷ rest, refl)

  pub replay_or_check : (model : Option CommModel) (n : ℕ) → AsksToReplay words model → AsksOfWord words Check n → ⊥
  replay_or_check model n p q =
      let f = replay_first model (p.file ∷ p.trace ∷ []) in
      check_or_replay (let e = sym q.0.all ∙ (p.all ∙ f.1) in cc)

  pub replay_no_theory : (model : Option CommModel) (n : ℕ) → AsksToReplay words model → AsksOfWord words Theory n → ⊥
  replay_no_theory model n p q =
      let f = replay_first model (p.file ∷ p.trace ∷ []) in
      replay_or_theory (let e = sym q.0.all ∙ (p.all ∙ f.1) in cc)

  pub replay_or_made : (model : Option CommModel) (number : ℕ) → AsksToReplay words model → AsksToGenerate words number → ⊥
  replay_or_made model number p g =
      let f = replay_first model (p.file ∷ p.trace ∷ []) in
      replay_or_gen (let e = sym g.all ∙ (p.all ∙ f.1) in cc)

  pub replay_or_file : (command : Command) (model : Option CommModel) (n : ℕ) → IsOfFile command → AsksToReplay words model → AsksOfWord words command n → ⊥
  replay_or_file Check model n o p q = replay_or_check model n p q
  replay_or_file Replay model n o p q = absurd o
  replay_or_file Theory model n o p q = replay_no_theory model n p q
  replay_or_file Gen model n o p q = absurd o

  pub made_plan : (number : ℕ) → AsksToGenerate words number → HasPlan words Gen (2 ∷ [])
  made_plan number g = ((number, g), refl)

abbrev pub place_at : ℕ → ℕ → Place
place_at line column = record { line = line; column = column }

module _ (old new : FilesState) (words : List (List ℕ)) (one : IsOneVerdict (plan_model words)) (before after : ℕ) where
  abbrev model : Model
  model = plan_model words

  abbrev Faultless : Type 0
  Faultless = NothingFails old new before after

  abbrev Named : Command → List ℕ → Type 0
  Named command bytes = NamesText old new before after words command bytes

  abbrev Read : Command → ℕ → (List ℕ → Type 0) → Type 0
  Read command number P = HasReadText old new words command number P

  abbrev Cause : Answer → Type 0
  Cause answer = IsCaused old new words answer

  -- what was read of a file that is told is what is told
  told_as : (command other : Command) (bytes : List ℕ) (number : ℕ) → IsOfFile command → IsOfFile other → Named command bytes → AsksOfWord words other number → old.told (word_at words number) ≡ Some bytes
  told_as command other bytes number o k n p =
      let same : number ≡ n.number = one_file words other command number n.number k o p n.planned in
      ap (λ m. old.told (word_at words m)) same ∙ n.is_told

  same_text :
      (command other : Command) (bytes : List ℕ) (number : ℕ) (text : List ℕ) → IsOfFile command → IsOfFile other → Named command bytes → AsksOfWord words other number
      → IsRead old new words number text → text ≡ bytes
  same_text command other bytes number text o k n p r = subst (λ (t : Option (List ℕ)). IfSome t (λ b. text ≡ b)) (told_as command other bytes number o k n p) r.told_text

  told_read : (command : Command) (bytes : List ℕ) (number : ℕ) (P : List ℕ → Type 0) → IsOfFile command → Named command bytes → Read command number P → P bytes
  told_read command bytes number P o n r = subst P (same_text command command bytes number r.text o o n r.planned r.read) r.means

  told_short : (command other : Command) (bytes : List ℕ) (number : ℕ) (P : List ℕ → Type 0) → IsOfFile command → IsOfFile other → Named command bytes → Read other number P → length bytes ≤ limit
  told_short command other bytes number P o k n r = subst (λ (b : List ℕ). length b ≤ limit) (same_text command other bytes number r.text o k n r.planned r.read) r.read.short

  -- a file that is told and asked for alone is answered as too long only where it is
  told_longer : (command : Command) (bytes : List ℕ) (number : ℕ) → IsOfFile command → Named command bytes → Happens old words number (λ from. IsTooLong from new words number) → limit < length bytes
  told_longer command bytes number o n (first (alone other k p) r) =
      subst (λ (t : Option (List ℕ)). IfSome t (λ b. limit < length b)) (told_as command other bytes number o k n p) r.longer
  told_longer command bytes number o n (first (with_trace other trace p) r) = absurd (replay_or_file words command other n.number o p.asks n.planned)
  told_longer command bytes number o n (second middle other problem b r) = absurd (replay_or_file words command other n.number o b.planned.asks n.planned)

  -- no fault of a file happened
  no_open_fault : (word : ℕ) → Faultless → Happens old words word (λ from. HasOpenFault from new) → ⊥
  no_open_fault word f (first named h) = f.no_open_fault h.rose
  no_open_fault word f (second middle other problem b h) = f.no_open_fault (subst (λ k. Rose k new.open_faults) b.read.faultless.no_open_fault h.rose)

  no_read_fault : (word : ℕ) → Faultless → Happens old words word (λ from. HasReadFault from new) → ⊥
  no_read_fault word f (first named h) = f.no_read_fault h.rose
  no_read_fault word f (second middle other problem b h) = f.no_read_fault (subst (λ k. Rose k new.read_faults) b.read.faultless.no_read_fault h.rose)

  -- the status of a file whose text means a problem with equivalent sides
  equivalent_status :
      (answer : Answer) (bytes : List ℕ) → Named Check bytes → length bytes ≤ limit → MeansEquivalent model bytes → Faultless → Cause answer
      → (status_of answer ≡ 0) ⊎ (answer ≡ Report NoMemory)
  equivalent_status (Report (Equivalent m)) bytes n l h f c = inl refl
  equivalent_status (Report (NotEquivalent m node trace)) bytes n l h f c = absurd (one.not_attacked bytes trace h (told_read Check bytes c.file (λ b. IsAttacked model b trace) tt n c.text))
  equivalent_status (Report (Spent m node steps)) bytes n l h f c = absurd c
  equivalent_status (Report (TheoryAccepted rules)) bytes n l h f c = absurd (one_command words n.number c.0 n.planned c.1.planned)
  equivalent_status (Report (Refused file line column cause)) bytes n l h f (checked c) = absurd (one.equivalent_unrefused bytes cause (place_at line column) h (told_read Check bytes file (λ b. IsRefused b (place_at line column) cause) tt n c))
  equivalent_status (Report (Refused file line column cause)) bytes n l h f (of_theory c) = absurd (one_command words n.number file n.planned c.planned)
  equivalent_status (Report (Refused file line column cause)) bytes n l h f (of_problem c) = absurd (replay_or_check words c.model n.number c.planned.asks n.planned)
  equivalent_status (Report (Refused file line column cause)) bytes n l h f (of_trace c) = absurd (replay_or_check words c.model n.number c.beside.planned.asks n.planned)
  equivalent_status (Report (Stopped TooLong word)) bytes n l h f c = absurd (let k = told_longer Check bytes word tt n c in omega arith)
  equivalent_status (Report (Stopped OpenFault word)) bytes n l h f c = absurd (no_open_fault word f c)
  equivalent_status (Report (Stopped ReadFault word)) bytes n l h f c = absurd (no_read_fault word f c)
  equivalent_status (Report (Stopped WordsRefused word)) bytes n l h f c = absurd (c.first_wrong.no_plan Check (n.number ∷ []) n.planned)
  equivalent_status (Report (Attack m side tests)) bytes n l h f c = absurd (replay_or_check words c.model n.number c.beside.planned.asks n.planned)
  equivalent_status (Report (Matched m side)) bytes n l h f c = absurd (replay_or_check words c.model n.number c.beside.planned.asks n.planned)
  equivalent_status (Report (NoRun m label)) bytes n l h f c = absurd (replay_or_check words c.model n.number c.beside.planned.asks n.planned)
  equivalent_status (Report NoMemory) bytes n l h f c = inr refl
  equivalent_status (Made text) bytes n l h f c = absurd (made_of_no_file words Check n.number c.number tt n.planned c.planned)

  different_status :
      (answer : Answer) (bytes : List ℕ) → Named Check bytes → length bytes ≤ limit → MeansDifferent model bytes → Faultless → Cause answer
      → (status_of answer ≡ 1) ⊎ (answer ≡ Report NoMemory)
  different_status (Report (Equivalent m)) bytes n l h f c = absurd (one.not_different bytes (told_read Check bytes c.0 (MeansEquivalent model) tt n c.1) h)
  different_status (Report (NotEquivalent m node trace)) bytes n l h f c = inl refl
  different_status (Report (Spent m node steps)) bytes n l h f c = absurd c
  different_status (Report (TheoryAccepted rules)) bytes n l h f c = absurd (one_command words n.number c.0 n.planned c.1.planned)
  different_status (Report (Refused file line column cause)) bytes n l h f (checked c) = absurd (one.different_unrefused bytes cause (place_at line column) h (told_read Check bytes file (λ b. IsRefused b (place_at line column) cause) tt n c))
  different_status (Report (Refused file line column cause)) bytes n l h f (of_theory c) = absurd (one_command words n.number file n.planned c.planned)
  different_status (Report (Refused file line column cause)) bytes n l h f (of_problem c) = absurd (replay_or_check words c.model n.number c.planned.asks n.planned)
  different_status (Report (Refused file line column cause)) bytes n l h f (of_trace c) = absurd (replay_or_check words c.model n.number c.beside.planned.asks n.planned)
  different_status (Report (Stopped TooLong word)) bytes n l h f c = absurd (let k = told_longer Check bytes word tt n c in omega arith)
  different_status (Report (Stopped OpenFault word)) bytes n l h f c = absurd (no_open_fault word f c)
  different_status (Report (Stopped ReadFault word)) bytes n l h f c = absurd (no_read_fault word f c)
  different_status (Report (Stopped WordsRefused word)) bytes n l h f c = absurd (c.first_wrong.no_plan Check (n.number ∷ []) n.planned)
  different_status (Report (Attack m side tests)) bytes n l h f c = absurd (replay_or_check words c.model n.number c.beside.planned.asks n.planned)
  different_status (Report (Matched m side)) bytes n l h f c = absurd (replay_or_check words c.model n.number c.beside.planned.asks n.planned)
  different_status (Report (NoRun m label)) bytes n l h f c = absurd (replay_or_check words c.model n.number c.beside.planned.asks n.planned)
  different_status (Report NoMemory) bytes n l h f c = inr refl
  different_status (Made text) bytes n l h f c = absurd (made_of_no_file words Check n.number c.number tt n.planned c.planned)

  refused_status :
      (answer : Answer) (bytes : List ℕ) → Named Check bytes → length bytes ≤ limit → IsRefusedSomewhere bytes → Faultless → Cause answer
      → (status_of answer ≡ 3) ⊎ (answer ≡ Report NoMemory)
  refused_status (Report (Equivalent m)) bytes n l h f c = absurd (one.equivalent_unrefused bytes h.1.0 h.0 (told_read Check bytes c.0 (MeansEquivalent model) tt n c.1) h.1.1)
  refused_status (Report (NotEquivalent m node trace)) bytes n l h f c = absurd (one.attacked_unrefused bytes trace h.1.0 h.0 (told_read Check bytes c.file (λ b. IsAttacked model b trace) tt n c.text) h.1.1)
  refused_status (Report (Spent m node steps)) bytes n l h f c = absurd c
  refused_status (Report (TheoryAccepted rules)) bytes n l h f c = absurd (one_command words n.number c.0 n.planned c.1.planned)
  refused_status (Report (Refused file line column cause)) bytes n l h f (checked c) = inl refl
  refused_status (Report (Refused file line column cause)) bytes n l h f (of_theory c) = inl refl
  refused_status (Report (Refused file line column cause)) bytes n l h f (of_problem c) = absurd (replay_or_check words c.model n.number c.planned.asks n.planned)
  refused_status (Report (Refused file line column cause)) bytes n l h f (of_trace c) = absurd (replay_or_check words c.model n.number c.beside.planned.asks n.planned)
  refused_status (Report (Stopped TooLong word)) bytes n l h f c = absurd (let k = told_longer Check bytes word tt n c in omega arith)
  refused_status (Report (Stopped OpenFault word)) bytes n l h f c = absurd (no_open_fault word f c)
  refused_status (Report (Stopped ReadFault word)) bytes n l h f c = absurd (no_read_fault word f c)
  refused_status (Report (Stopped WordsRefused word)) bytes n l h f c = absurd (c.first_wrong.no_plan Check (n.number ∷ []) n.planned)
  refused_status (Report (Attack m side tests)) bytes n l h f c = absurd (replay_or_check words c.model n.number c.beside.planned.asks n.planned)
  refused_status (Report (Matched m side)) bytes n l h f c = absurd (replay_or_check words c.model n.number c.beside.planned.asks n.planned)
  refused_status (Report (NoRun m label)) bytes n l h f c = absurd (replay_or_check words c.model n.number c.beside.planned.asks n.planned)
  refused_status (Report NoMemory) bytes n l h f c = inr refl
  refused_status (Made text) bytes n l h f c = absurd (made_of_no_file words Check n.number c.number tt n.planned c.planned)

  -- the same of a theory
  accepted_status :
      (answer : Answer) (bytes : List ℕ) (rules : ℕ) → Named Theory bytes → length bytes ≤ limit → MeansTheory bytes rules → Faultless → Cause answer
      → (status_of answer ≡ 0) ⊎ (answer ≡ Report NoMemory)
  accepted_status (Report (Equivalent m)) bytes rules n l h f c = absurd (one_command words c.0 n.number c.1.planned n.planned)
  accepted_status (Report (NotEquivalent m node trace)) bytes rules n l h f c = absurd (one_command words c.file n.number c.text.planned n.planned)
  accepted_status (Report (Spent m node steps)) bytes rules n l h f c = absurd c
  accepted_status (Report (TheoryAccepted count)) bytes rules n l h f c = inl refl
  accepted_status (Report (Refused file line column cause)) bytes rules n l h f (checked c) = absurd (one_command words file n.number c.planned n.planned)
  accepted_status (Report (Refused file line column cause)) bytes rules n l h f (of_theory c) = absurd (one.theory_or_none bytes cause (place_at line column) rules h (told_read Theory bytes file (λ b. HasNoTheory b (place_at line column) cause) tt n c))
  accepted_status (Report (Refused file line column cause)) bytes rules n l h f (of_problem c) = absurd (replay_no_theory words c.model n.number c.planned.asks n.planned)
  accepted_status (Report (Refused file line column cause)) bytes rules n l h f (of_trace c) = absurd (replay_no_theory words c.model n.number c.beside.planned.asks n.planned)
  accepted_status (Report (Stopped TooLong word)) bytes rules n l h f c = absurd (let k = told_longer Theory bytes word tt n c in omega arith)
  accepted_status (Report (Stopped OpenFault word)) bytes rules n l h f c = absurd (no_open_fault word f c)
  accepted_status (Report (Stopped ReadFault word)) bytes rules n l h f c = absurd (no_read_fault word f c)
  accepted_status (Report (Stopped WordsRefused word)) bytes rules n l h f c = absurd (c.first_wrong.no_plan Theory (n.number ∷ []) n.planned)
  accepted_status (Report (Attack m side tests)) bytes rules n l h f c = absurd (replay_no_theory words c.model n.number c.beside.planned.asks n.planned)
  accepted_status (Report (Matched m side)) bytes rules n l h f c = absurd (replay_no_theory words c.model n.number c.beside.planned.asks n.planned)
  accepted_status (Report (NoRun m label)) bytes rules n l h f c = absurd (replay_no_theory words c.model n.number c.beside.planned.asks n.planned)
  accepted_status (Report NoMemory) bytes rules n l h f c = inr refl
  accepted_status (Made text) bytes rules n l h f c = absurd (made_of_no_file words Theory n.number c.number tt n.planned c.planned)

  unruled_status :
      (answer : Answer) (bytes : List ℕ) → Named Theory bytes → length bytes ≤ limit → HasNoTheorySomewhere bytes → Faultless → Cause answer
      → (status_of answer ≡ 3) ⊎ (answer ≡ Report NoMemory)
  unruled_status (Report (Equivalent m)) bytes n l h f c = absurd (one_command words c.0 n.number c.1.planned n.planned)
  unruled_status (Report (NotEquivalent m node trace)) bytes n l h f c = absurd (one_command words c.file n.number c.text.planned n.planned)
  unruled_status (Report (Spent m node steps)) bytes n l h f c = absurd c
  unruled_status (Report (TheoryAccepted rules)) bytes n l h f c = absurd (one.theory_or_none bytes h.1.0 h.0 rules (told_read Theory bytes c.0 (λ b. MeansTheory b rules) tt n c.1) h.1.1)
  unruled_status (Report (Refused file line column cause)) bytes n l h f (checked c) = inl refl
  unruled_status (Report (Refused file line column cause)) bytes n l h f (of_theory c) = inl refl
  unruled_status (Report (Refused file line column cause)) bytes n l h f (of_problem c) = absurd (replay_no_theory words c.model n.number c.planned.asks n.planned)
  unruled_status (Report (Refused file line column cause)) bytes n l h f (of_trace c) = absurd (replay_no_theory words c.model n.number c.beside.planned.asks n.planned)
  unruled_status (Report (Stopped TooLong word)) bytes n l h f c = absurd (let k = told_longer Theory bytes word tt n c in omega arith)
  unruled_status (Report (Stopped OpenFault word)) bytes n l h f c = absurd (no_open_fault word f c)
  unruled_status (Report (Stopped ReadFault word)) bytes n l h f c = absurd (no_read_fault word f c)
  unruled_status (Report (Stopped WordsRefused word)) bytes n l h f c = absurd (c.first_wrong.no_plan Theory (n.number ∷ []) n.planned)
  unruled_status (Report (Attack m side tests)) bytes n l h f c = absurd (replay_no_theory words c.model n.number c.beside.planned.asks n.planned)
  unruled_status (Report (Matched m side)) bytes n l h f c = absurd (replay_no_theory words c.model n.number c.beside.planned.asks n.planned)
  unruled_status (Report (NoRun m label)) bytes n l h f c = absurd (replay_no_theory words c.model n.number c.beside.planned.asks n.planned)
  unruled_status (Report NoMemory) bytes n l h f c = inr refl
  unruled_status (Made text) bytes n l h f c = absurd (made_of_no_file words Theory n.number c.number tt n.planned c.planned)

  never_long : (command other : Command) (bytes : List ℕ) (number : ℕ) (P : List ℕ → Type 0) → IsOfFile command → IsOfFile other → Named command bytes → limit < length bytes → Read other number P → ⊥
  never_long command other bytes number P o k n l r = let h = told_short command other bytes number P o k n r in omega arith

  -- a file that is made is not read
  made_unread : (word number : ℕ) → AsksToGenerate words number → Happens old words word (λ from. IsTooLong from new words word) → ⊥
  made_unread word number g (first (alone command o p) h) = made_of_no_file words command word number o p g
  made_unread word number g (first (with_trace other trace p) h) = replay_or_made words other number p.asks g
  made_unread word number g (second middle other problem b h) = replay_or_made words other number b.planned.asks g

  made_status :
      (answer : Answer) (number : ℕ) → AsksToGenerate words number → Faultless → Cause answer → (status_of answer ≡ 0) ⊎ (answer ≡ Report NoMemory)
  made_status (Report (Equivalent m)) number g f c = inl refl
  made_status (Report (NotEquivalent m node trace)) number g f c = absurd (made_of_no_file words Check c.file number tt c.text.planned g)
  made_status (Report (Spent m node steps)) number g f c = absurd c
  made_status (Report (TheoryAccepted rules)) number g f c = inl refl
  made_status (Report (Refused file line column cause)) number g f (checked c) = absurd (made_of_no_file words Check file number tt c.planned g)
  made_status (Report (Refused file line column cause)) number g f (of_theory c) = absurd (made_of_no_file words Theory file number tt c.planned g)
  made_status (Report (Refused file line column cause)) number g f (of_problem c) = absurd (replay_or_made words c.model number c.planned.asks g)
  made_status (Report (Refused file line column cause)) number g f (of_trace c) = absurd (replay_or_made words c.model number c.beside.planned.asks g)
  made_status (Report (Stopped TooLong word)) number g f c = absurd (made_unread word number g c)
  made_status (Report (Stopped OpenFault word)) number g f c = absurd (no_open_fault word f c)
  made_status (Report (Stopped ReadFault word)) number g f c = absurd (no_read_fault word f c)
  made_status (Report (Stopped WordsRefused word)) number g f c = absurd (c.first_wrong.no_plan Gen (2 ∷ []) (made_plan words number g))
  made_status (Report (Attack m side tests)) number g f c = absurd (replay_or_made words c.model number c.beside.planned.asks g)
  made_status (Report (Matched m side)) number g f c = absurd (replay_or_made words c.model number c.beside.planned.asks g)
  made_status (Report (NoRun m label)) number g f c = absurd (replay_or_made words c.model number c.beside.planned.asks g)
  made_status (Report NoMemory) number g f c = inr refl
  made_status (Made text) number g f c = inl refl

  long_status :
      (answer : Answer) (command : Command) (bytes : List ℕ) → IsOfFile command → Named command bytes → limit < length bytes → Faultless → Cause answer
      → (status_of answer ≡ 8) ⊎ (answer ≡ Report NoMemory)
  long_status (Report (Equivalent m)) command bytes o n l f c = absurd (never_long command Check bytes c.0 (MeansEquivalent model) o tt n l c.1)
  long_status (Report (NotEquivalent m node trace)) command bytes o n l f c = absurd (never_long command Check bytes c.file (λ b. IsAttacked model b trace) o tt n l c.text)
  long_status (Report (Spent m node steps)) command bytes o n l f c = absurd c
  long_status (Report (TheoryAccepted rules)) command bytes o n l f c = absurd (never_long command Theory bytes c.0 (λ b. MeansTheory b rules) o tt n l c.1)
  long_status (Report (Refused file line column cause)) command bytes o n l f (checked c) = absurd (never_long command Check bytes file (λ b. IsRefused b (place_at line column) cause) o tt n l c)
  long_status (Report (Refused file line column cause)) command bytes o n l f (of_theory c) = absurd (never_long command Theory bytes file (λ b. HasNoTheory b (place_at line column) cause) o tt n l c)
  long_status (Report (Refused file line column cause)) command bytes o n l f (of_problem c) = absurd (replay_or_file words command c.model n.number o c.planned.asks n.planned)
  long_status (Report (Refused file line column cause)) command bytes o n l f (of_trace c) = absurd (replay_or_file words command c.model n.number o c.beside.planned.asks n.planned)
  long_status (Report (Stopped TooLong word)) command bytes o n l f c = inl refl
  long_status (Report (Stopped OpenFault word)) command bytes o n l f c = absurd (no_open_fault word f c)
  long_status (Report (Stopped ReadFault word)) command bytes o n l f c = absurd (no_read_fault word f c)
  long_status (Report (Stopped WordsRefused word)) command bytes o n l f c = absurd (c.first_wrong.no_plan command (n.number ∷ []) n.planned)
  long_status (Report (Attack m side tests)) command bytes o n l f c = absurd (replay_or_file words command c.model n.number o c.beside.planned.asks n.planned)
  long_status (Report (Matched m side)) command bytes o n l f c = absurd (replay_or_file words command c.model n.number o c.beside.planned.asks n.planned)
  long_status (Report (NoRun m label)) command bytes o n l f c = absurd (replay_or_file words command c.model n.number o c.beside.planned.asks n.planned)
  long_status (Report NoMemory) command bytes o n l f c = inr refl
  long_status (Made text) command bytes o n l f c = absurd (made_of_no_file words command n.number c.number o n.planned c.planned)

  -- words without a plan name no file
  planless : HasNoPlan words → (word : ℕ) (Q : FilesState → Type 0) → Happens old words word Q → ⊥
  planless n word Q (first named h) = let p = plan_of_file words word named in n p.0 p.1 p.2
  planless n word Q (second middle other problem b h) = n Replay (b.file ∷ word ∷ []) (plan_of_both words other b.file word b.planned)

  planless_replay : HasNoPlan words → (other : Option CommModel) (file trace : ℕ) → AsksOfWords words other file trace → ⊥
  planless_replay n other file trace p = n Replay (file ∷ trace ∷ []) (plan_of_both words other file trace p)

  planless_status :
      (answer : Answer) → HasNoPlan words → Cause answer → status_of answer ≡ 7
  planless_status (Report (Equivalent m)) n c = absurd (n Check (c.0 ∷ []) c.1.planned)
  planless_status (Report (NotEquivalent m node trace)) n c = absurd (n Check (c.file ∷ []) c.text.planned)
  planless_status (Report (Spent m node steps)) n c = absurd c
  planless_status (Report (TheoryAccepted rules)) n c = absurd (n Theory (c.0 ∷ []) c.1.planned)
  planless_status (Report (Refused file line column cause)) n (checked c) = absurd (n Check (file ∷ []) c.planned)
  planless_status (Report (Refused file line column cause)) n (of_theory c) = absurd (n Theory (file ∷ []) c.planned)
  planless_status (Report (Refused file line column cause)) n (of_problem c) = absurd (planless_replay n c.model file c.trace c.planned)
  planless_status (Report (Refused file line column cause)) n (of_trace c) = absurd (planless_replay n c.model c.beside.file c.trace c.beside.planned)
  planless_status (Report (Stopped TooLong word)) n c = absurd (planless n word (λ from. IsTooLong from new words word) c)
  planless_status (Report (Stopped OpenFault word)) n c = absurd (planless n word (λ from. HasOpenFault from new) c)
  planless_status (Report (Stopped ReadFault word)) n c = absurd (planless n word (λ from. HasReadFault from new) c)
  planless_status (Report (Stopped WordsRefused word)) n c = refl
  planless_status (Report (Attack m side tests)) n c = absurd (planless_replay n c.model c.beside.file c.trace c.beside.planned)
  planless_status (Report (Matched m side)) n c = absurd (planless_replay n c.model c.beside.file c.trace c.beside.planned)
  planless_status (Report (NoRun m label)) n c = absurd (planless_replay n c.model c.beside.file c.trace c.beside.planned)
  planless_status (Report NoMemory) n c = absurd (n c.planned.0 c.planned.1 c.planned.2)
  planless_status (Made text) n c = absurd (n Gen (2 ∷ []) (made_plan words c.number c.planned))

  status_or : (answer : Answer) (status want : ℕ) → status ≡ status_of answer → (status_of answer ≡ want) ⊎ (answer ≡ Report NoMemory) → (status ≡ want) ⊎ (status ≡ status_of (Report NoMemory))
  status_or answer status want e (inl s) = inl (e ∙ s)
  status_or answer status want e (inr n) = inr (e ∙ ap status_of n)

  module _ (answer : Answer) (status : ℕ) (c : Cause answer) (own : ¬ Rose before after → status ≡ status_of answer) where
    pub complete : IsComplete old new before after words status
    complete = record {
      equivalent = λ bytes n l m f. status_or answer status 0 (own f.no_write_fault) (equivalent_status answer bytes n l m f c);
      not_equivalent = λ bytes n l m f. status_or answer status 1 (own f.no_write_fault) (different_status answer bytes n l m f c);
      refused = λ bytes n l m f. status_or answer status 3 (own f.no_write_fault) (refused_status answer bytes n l m f c);
      theory_accepted = λ bytes rules n l m f. status_or answer status 0 (own f.no_write_fault) (accepted_status answer bytes rules n l m f c);
      theory_refused = λ bytes n l m f. status_or answer status 3 (own f.no_write_fault) (unruled_status answer bytes n l m f c);
      generated = λ number g f. status_or answer status 0 (own f.no_write_fault) (made_status answer number g f c);
      too_long = λ bytes command o n l f. status_or answer status 8 (own f.no_write_fault) (long_status answer command bytes o n l f c);
      words_refused = λ n w. own w ∙ planless_status answer n c;
    }
