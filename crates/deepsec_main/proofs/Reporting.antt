-- What the status says of the run.
use Rattle.std.proofs.Common.{◌≡◌, ℕ, ◌≤◌, List, Option, None, refl, sym, ◌∙◌, ap, subst, inl, inr, arith}
use Rattle.std.specs.Io.KnownBytes.{append_known}
use Rattle.dps_io.specs.Counts.{Rose}
use Rattle.dps_io.specs.Files.{FilesState}
use Rattle.dps_gen.specs.Generated.{generated_text}
use Rattle.dps_meaning.specs.Meaning.{MeansTheory}
use Rattle.dps_judge.specs.Meaning.{MeansEquivalent}
use Rattle.dps_judge.specs.Judgement.{IsAttacked}
use Rattle.dps_report.specs.declared.format.Format.TheVariants.{Second}
use Rattle.dps_report.specs.declared.outcome.Outcome.{Outcome}
use Rattle.dps_report.specs.declared.outcome.Outcome.TheVariants.{Equivalent, NotEquivalent, Spent, Refused, Stopped, TheoryAccepted, Attack, Matched, NoRun, NoMemory}
use Rattle.dps_report.specs.declared.outcome.StopName.{StopName}
use Rattle.dps_report.specs.declared.outcome.StopName.TheVariants.{TooLong, OpenFault, ReadFault, WordsRefused}
use Rattle.dps_report.specs.Reports.{report_text}
use Rattle.dps_words.specs.declared.command.Command.{Command}
use Rattle.dps_words.specs.declared.command.Command.TheVariants.{Check, Replay, Theory, Gen}
use Rattle.dps_words.specs.Words.{Asks, AsksToGenerate, HasNoPlan, IsFirstWrong, plan_model}
use Rattle.deepsec_main.specs.declared.answer.Answer.{Answer}
use Rattle.deepsec_main.specs.declared.answer.Answer.TheVariants.{Report, Made}
use Rattle.deepsec_main.specs.Reports.{answer_text, stop_status, status_of, attack_report, theory_report}
use Rattle.deepsec_main.specs.Answers.{AsksOfWord, HasReadText, Happens, IsReplayed, IsRefusedFile, IsTooLong, IsReplayStatus, is_match, is_attack, is_stuck, IsCaused, IsReported, IsUsed, FollowsCounts}
use Rattle.deepsec_main.proofs.Completing.{one_file, one_command, made_of_no_file, replay_or_check, replay_no_theory, replay_or_made}
use Rattle.deepsec_main.proofs.Counting.{fault_read, counted_read, not_five, memory_read, used, unused}

-- what stops a run has a status from 4 on
stop_high : (name : StopName) → 4 ≤ stop_status name
stop_high TooLong = omega arith
stop_high OpenFault = omega arith
stop_high ReadFault = omega arith
stop_high WordsRefused = omega arith

-- and none of a trace's answers
stop_unreplayed : (name : StopName) → IsReplayStatus (stop_status name) → ⊥
stop_unreplayed name (is_match e) = omega (arith, e, stop_high name)
stop_unreplayed name (is_attack e) = omega (arith, e, stop_high name)
stop_unreplayed TooLong (is_stuck e) = omega (arith, e)
stop_unreplayed OpenFault (is_stuck e) = omega (arith, e)
stop_unreplayed ReadFault (is_stuck e) = omega (arith, e)
stop_unreplayed WordsRefused (is_stuck e) = omega (arith, e)

three_is_none : IsReplayStatus 3 → ⊥
three_is_none (is_match e) = omega (arith, e)
three_is_none (is_attack e) = omega (arith, e)
three_is_none (is_stuck e) = omega (arith, e)

five_is_none : IsReplayStatus 5 → ⊥
five_is_none (is_match e) = omega (arith, e)
five_is_none (is_attack e) = omega (arith, e)
five_is_none (is_stuck e) = omega (arith, e)

six_is_none : IsReplayStatus 6 → ⊥
six_is_none (is_match e) = omega (arith, e)
six_is_none (is_attack e) = omega (arith, e)
six_is_none (is_stuck e) = omega (arith, e)

module _ (old new : FilesState) (words : List (List ℕ)) where
  abbrev Reads : Command → ℕ → (List ℕ → Type 0) → Type 0
  Reads command number P = HasReadText old new words command number P

  abbrev Caused : Answer → Type 0
  Caused answer = IsCaused old new words answer

  -- status 0 of `check`
  equivalent_read : (answer : Answer) (file : ℕ) → Caused answer → AsksOfWord words Check file → status_of answer ≡ 0 → Reads Check file (MeansEquivalent (plan_model words))
  equivalent_read (Report (Equivalent m)) file c p e = subst (λ k. Reads Check k (MeansEquivalent (plan_model words))) (one_file words Check Check c.0 file tt tt c.1.planned p) c.1
  equivalent_read (Report (NotEquivalent m node trace)) file c p e = absurd (omega (arith, e))
  equivalent_read (Report (Spent m node steps)) file c p e = absurd c
  equivalent_read (Report (TheoryAccepted rules)) file c p e = absurd (one_command words file c.0 p c.1.planned)
  equivalent_read (Report (Refused named line column cause)) file c p e = absurd (omega (arith, e))
  equivalent_read (Report (Stopped name word)) file c p e = absurd (omega (arith, e, stop_high name))
  equivalent_read (Report (Attack m side tests)) file c p e = absurd (replay_or_check words c.model file c.beside.planned.asks p)
  equivalent_read (Report (Matched m side)) file c p e = absurd (replay_or_check words c.model file c.beside.planned.asks p)
  equivalent_read (Report (NoRun m label)) file c p e = absurd (replay_or_check words c.model file c.beside.planned.asks p)
  equivalent_read (Report NoMemory) file c p e = absurd (omega (arith, e))
  equivalent_read (Made text) file c p e = absurd (made_of_no_file words Check file c.number tt p c.planned)

  -- and of `theory`
  abbrev IsTheoryRead : Answer → ℕ → Type 0
  IsTheoryRead answer file = (rules : ℕ) × Reads Theory file (λ bytes. MeansTheory bytes rules) × (answer_text answer ≡ theory_report rules)

  theory_read : (answer : Answer) (file : ℕ) → Caused answer → AsksOfWord words Theory file → status_of answer ≡ 0 → IsTheoryRead answer file
  theory_read (Report (Equivalent m)) file c p e = absurd (one_command words c.0 file c.1.planned p)
  theory_read (Report (NotEquivalent m node trace)) file c p e = absurd (omega (arith, e))
  theory_read (Report (Spent m node steps)) file c p e = absurd c
  theory_read (Report (TheoryAccepted rules)) file c p e = (rules, subst (λ k. Reads Theory k (λ bytes. MeansTheory bytes rules)) (one_file words Theory Theory c.0 file tt tt c.1.planned p) c.1, refl)
  theory_read (Report (Refused named line column cause)) file c p e = absurd (omega (arith, e))
  theory_read (Report (Stopped name word)) file c p e = absurd (omega (arith, e, stop_high name))
  theory_read (Report (Attack m side tests)) file c p e = absurd (replay_no_theory words c.model file c.beside.planned.asks p)
  theory_read (Report (Matched m side)) file c p e = absurd (replay_no_theory words c.model file c.beside.planned.asks p)
  theory_read (Report (NoRun m label)) file c p e = absurd (replay_no_theory words c.model file c.beside.planned.asks p)
  theory_read (Report NoMemory) file c p e = absurd (omega (arith, e))
  theory_read (Made text) file c p e = absurd (made_of_no_file words Theory file c.number tt p c.planned)

  -- and of `gen`
  abbrev IsMade : Answer → Type 0
  IsMade answer = (number : ℕ) × AsksToGenerate words number × (answer_text answer ≡ generated_text number)

  made_read : (answer : Answer) (number : ℕ) → Caused answer → AsksToGenerate words number → status_of answer ≡ 0 → IsMade answer
  made_read (Report (Equivalent m)) number c g e = absurd (made_of_no_file words Check c.0 number tt c.1.planned g)
  made_read (Report (NotEquivalent m node trace)) number c g e = absurd (omega (arith, e))
  made_read (Report (Spent m node steps)) number c g e = absurd c
  made_read (Report (TheoryAccepted rules)) number c g e = absurd (made_of_no_file words Theory c.0 number tt c.1.planned g)
  made_read (Report (Refused file line column cause)) number c g e = absurd (omega (arith, e))
  made_read (Report (Stopped name word)) number c g e = absurd (omega (arith, e, stop_high name))
  made_read (Report (Attack m side tests)) number c g e = absurd (replay_or_made words c.model number c.beside.planned.asks g)
  made_read (Report (Matched m side)) number c g e = absurd (replay_or_made words c.model number c.beside.planned.asks g)
  made_read (Report (NoRun m label)) number c g e = absurd (replay_or_made words c.model number c.beside.planned.asks g)
  made_read (Report NoMemory) number c g e = absurd (omega (arith, e))
  made_read (Made text) number c g e = (c.number, c.planned, c.made)

  -- status 1 of `check` is that of an attack
  abbrev IsAttackRead : Answer → Type 0
  IsAttackRead answer = (file : ℕ) × ((trace : List ℕ) × Reads Check file (λ bytes. IsAttacked (plan_model words) bytes trace) × (answer_text answer ≡ attack_report trace))

  attack_read : (answer : Answer) → Caused answer → Asks words Check → status_of answer ≡ 1 → IsAttackRead answer
  attack_read (Report (Equivalent m)) c asks e = absurd (omega (arith, e))
  attack_read (Report (NotEquivalent m node trace)) c asks e = (c.file, (trace, c.text, ap (λ n. report_text Second (NotEquivalent None n trace)) c.at_root))
  attack_read (Report (Spent m node steps)) c asks e = absurd c
  attack_read (Report (TheoryAccepted rules)) c asks e = absurd (omega (arith, e))
  attack_read (Report (Refused file line column cause)) c asks e = absurd (omega (arith, e))
  attack_read (Report (Stopped name word)) c asks e = absurd (omega (arith, e, stop_high name))
  attack_read (Report (Attack m side tests)) c asks e = absurd (replay_or_check words c.model 2 c.beside.planned.asks (asks, refl))
  attack_read (Report (Matched m side)) c asks e = absurd (replay_or_check words c.model 2 c.beside.planned.asks (asks, refl))
  attack_read (Report (NoRun m label)) c asks e = absurd (replay_or_check words c.model 2 c.beside.planned.asks (asks, refl))
  attack_read (Report NoMemory) c asks e = absurd (omega (arith, e))
  attack_read (Made text) c asks e = absurd (omega (arith, e))

  -- what is answered of a trace
  abbrev IsTraceRead : Answer → Type 0
  IsTraceRead answer = (outcome : Outcome) × IsReplayed old new words outcome × (answer_text answer ≡ report_text Second outcome)

  trace_read : (answer : Answer) → Caused answer → Asks words Replay → IsReplayStatus (status_of answer) → IsTraceRead answer
  trace_read (Report (Equivalent m)) c asks e = absurd (replay_or_check words asks.0 c.0 asks.1 c.1.planned)
  trace_read (Report (NotEquivalent m node trace)) c asks e = absurd (replay_or_check words asks.0 c.file asks.1 c.text.planned)
  trace_read (Report (Spent m node steps)) c asks e = absurd c
  trace_read (Report (TheoryAccepted rules)) c asks e = absurd (replay_no_theory words asks.0 c.0 asks.1 c.1.planned)
  trace_read (Report (Refused file line column cause)) c asks e = absurd (three_is_none e)
  trace_read (Report (Stopped name word)) c asks e = absurd (stop_unreplayed name e)
  trace_read (Report (Attack m side tests)) c asks e = (Attack m side tests, c, refl)
  trace_read (Report (Matched m side)) c asks e = (Matched m side, c, refl)
  trace_read (Report (NoRun m label)) c asks e = (NoRun m label, c, refl)
  trace_read (Report NoMemory) c asks e = absurd (six_is_none e)
  trace_read (Made text) c asks e = absurd (replay_or_made words asks.0 c.number asks.1 c.planned)

  -- status 3 is that of a refused file
  abbrev IsRefusalRead : Type 0
  IsRefusalRead = (file line column : ℕ) × (cause : List ℕ) × IsRefusedFile old new words file line column cause

  refused_read : (answer : Answer) → Caused answer → status_of answer ≡ 3 → IsRefusalRead
  refused_read (Report (Equivalent m)) c e = absurd (omega (arith, e))
  refused_read (Report (NotEquivalent m node trace)) c e = absurd (omega (arith, e))
  refused_read (Report (Spent m node steps)) c e = absurd (omega (arith, e))
  refused_read (Report (TheoryAccepted rules)) c e = absurd (omega (arith, e))
  refused_read (Report (Refused file line column cause)) c e = (file, line, column, cause, c)
  refused_read (Report (Stopped name word)) c e = absurd (omega (arith, e, stop_high name))
  refused_read (Report (Attack m side tests)) c e = absurd (omega (arith, e))
  refused_read (Report (Matched m side)) c e = absurd (omega (arith, e))
  refused_read (Report (NoRun m label)) c e = absurd (omega (arith, e))
  refused_read (Report NoMemory) c e = absurd (omega (arith, e))
  refused_read (Made text) c e = absurd (omega (arith, e))

  -- statuses 7 and 8 are those of refused words and of a long file
  words_read : (answer : Answer) → Caused answer → status_of answer ≡ 7 → (wrong : ℕ) × IsFirstWrong words wrong
  words_read (Report (Equivalent m)) c e = absurd (omega (arith, e))
  words_read (Report (NotEquivalent m node trace)) c e = absurd (omega (arith, e))
  words_read (Report (Spent m node steps)) c e = absurd (omega (arith, e))
  words_read (Report (TheoryAccepted rules)) c e = absurd (omega (arith, e))
  words_read (Report (Refused file line column cause)) c e = absurd (omega (arith, e))
  words_read (Report (Stopped TooLong word)) c e = absurd (omega (arith, e))
  words_read (Report (Stopped OpenFault word)) c e = absurd (omega (arith, e))
  words_read (Report (Stopped ReadFault word)) c e = absurd (omega (arith, e))
  words_read (Report (Stopped WordsRefused word)) c e = (word, c.first_wrong)
  words_read (Report (Attack m side tests)) c e = absurd (omega (arith, e))
  words_read (Report (Matched m side)) c e = absurd (omega (arith, e))
  words_read (Report (NoRun m label)) c e = absurd (omega (arith, e))
  words_read (Report NoMemory) c e = absurd (omega (arith, e))
  words_read (Made text) c e = absurd (omega (arith, e))

  long_read : (answer : Answer) → Caused answer → status_of answer ≡ 8 → (file : ℕ) × Happens old words file (λ from. IsTooLong from new words file)
  long_read (Report (Equivalent m)) c e = absurd (omega (arith, e))
  long_read (Report (NotEquivalent m node trace)) c e = absurd (omega (arith, e))
  long_read (Report (Spent m node steps)) c e = absurd (omega (arith, e))
  long_read (Report (TheoryAccepted rules)) c e = absurd (omega (arith, e))
  long_read (Report (Refused file line column cause)) c e = absurd (omega (arith, e))
  long_read (Report (Stopped TooLong word)) c e = (word, c)
  long_read (Report (Stopped OpenFault word)) c e = absurd (omega (arith, e))
  long_read (Report (Stopped ReadFault word)) c e = absurd (omega (arith, e))
  long_read (Report (Stopped WordsRefused word)) c e = absurd (omega (arith, e))
  long_read (Report (Attack m side tests)) c e = absurd (omega (arith, e))
  long_read (Report (Matched m side)) c e = absurd (omega (arith, e))
  long_read (Report (NoRun m label)) c e = absurd (omega (arith, e))
  long_read (Report NoMemory) c e = absurd (omega (arith, e))
  long_read (Made text) c e = absurd (omega (arith, e))

  -- the status of the answer that is given
  module _ {W : Type 0} (written : W → Option (List ℕ)) (faults : W → ℕ) (before after : W) (answer : Answer) (status : ℕ) (c : Caused answer)
      (r : IsReported written faults before after answer status) where
    -- where it is no write fault's, it is the answer's, which is written whole
    record IsSent : Type 0 where
      pub whole : written after ≡ append_known (written before) (answer_text answer)
      pub own : status_of answer ≡ status

    sent : (status ≡ 5 → ⊥) → IsSent
    sent n = elim r [ inl w ↦ record { whole = w.all; own = sym w.status_is } | inr w ↦ absurd (n w.status_is) ]

    pub own_status : ¬ Rose (faults before) (faults after) → status ≡ status_of answer
    own_status n = elim r [ inl w ↦ w.status_is | inr w ↦ absurd (n w.rose) ]

    pub equivalent_only : (file : ℕ) → AsksOfWord words Check file → status ≡ 0 → Reads Check file (MeansEquivalent (plan_model words))
    equivalent_only file p e = let s = sent (λ d. omega (arith, d, e)) in equivalent_read answer file c p (s.own ∙ e)

    pub theory_only :
        (file : ℕ) → AsksOfWord words Theory file → status ≡ 0
        → (rules : ℕ) × Reads Theory file (λ bytes. MeansTheory bytes rules) × (written after ≡ append_known (written before) (theory_report rules))
    theory_only file p e =
        let s = sent (λ d. omega (arith, d, e)) in
        let t = theory_read answer file c p (s.own ∙ e) in
        (t.0, t.1, s.whole ∙ ap (append_known (written before)) t.2)

    pub made_only : Asks words Gen → status ≡ 0 → (number : ℕ) × AsksToGenerate words number × (written after ≡ append_known (written before) (generated_text number))
    made_only g e =
        let s = sent (λ d. omega (arith, d, e)) in
        let t = made_read answer g.0 c g.1 (s.own ∙ e) in
        (t.0, t.1, s.whole ∙ ap (append_known (written before)) t.2)

    pub attack_only :
        Asks words Check → status ≡ 1
        → (file : ℕ) × (trace : List ℕ) × Reads Check file (λ bytes. IsAttacked (plan_model words) bytes trace) × (written after ≡ append_known (written before) (attack_report trace))
    attack_only asks e =
        let s = sent (λ d. omega (arith, d, e)) in
        let t = attack_read answer c asks (s.own ∙ e) in
        (t.0, t.1.0, t.1.1, s.whole ∙ ap (append_known (written before)) t.1.2)

    -- no status of a trace's answer is a write fault's
    pub trace_only :
        Asks words Replay → IsReplayStatus status → (outcome : Outcome) × IsReplayed old new words outcome × (written after ≡ append_known (written before) (report_text Second outcome))
    trace_only asks e =
        let s = sent (λ d. five_is_none (subst IsReplayStatus d e)) in
        let t = trace_read answer c asks (subst IsReplayStatus (sym s.own) e) in
        (t.0, t.1, s.whole ∙ ap (append_known (written before)) t.2)

    pub refused_only : status ≡ 3 → IsRefusalRead
    refused_only e = let s = sent (λ d. omega (arith, d, e)) in refused_read answer c (s.own ∙ e)

    pub words_only : status ≡ 7 → (wrong : ℕ) × IsFirstWrong words wrong
    words_only e = let s = sent (λ d. omega (arith, d, e)) in words_read answer c (s.own ∙ e)

    pub long_only : status ≡ 8 → (file : ℕ) × Happens old words file (λ from. IsTooLong from new words file)
    long_only e = let s = sent (λ d. omega (arith, d, e)) in long_read answer c (s.own ∙ e)

    pub follows : FollowsCounts old new (faults before) (faults after) status
    follows = record {
      file_fault = λ e. (let s = sent (λ d. omega (arith, d, e)) in fault_read old new words answer c (s.own ∙ e));
      file_counted = λ h. elim r [ inl w ↦ inl (w.status_is ∙ counted_read old new words answer c h) | inr w ↦ inr w.status_is ];
      write_fault = λ e. elim r [ inl w ↦ absurd (not_five old new words answer (sym w.status_is ∙ e)) | inr w ↦ w.rose ];
      write_counted = λ h. elim r [ inl w ↦ absurd (omega (arith, h, w.no_fault)) | inr w ↦ w.status_is ];
      no_memory = λ e. elim r [ inl w ↦ (memory_read old new words answer c (sym w.status_is ∙ e), w.no_fault) | inr w ↦ absurd (omega (arith, e, w.status_is)) ];
    }

    pub used_files : IsUsed old new words
    used_files = used old new words answer c

    pub unused_files : HasNoPlan words → new ≡ old
    unused_files n = unused old new words answer c n
