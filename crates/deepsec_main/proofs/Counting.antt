-- What the counts of the files say of the run, and how the files were used.
use Rattle.std.proofs.Common.{◌≡◌, ◌⊎◌, ℕ, ◌<◌, List, [], ◌∷◌, refl, sym, ap, subst, inl, inr, arith}
use Rattle.dps_io.specs.Counts.{Rose}
use Rattle.dps_io.specs.Files.{FilesState}
use Rattle.dps_meaning.specs.Meaning.{MeansTheory}
use Rattle.dps_judge.specs.Meaning.{MeansEquivalent}
use Rattle.dps_judge.specs.Judgement.{HasNoTheory, IsAttacked, IsRefused}
use Rattle.dps_report.specs.declared.outcome.Outcome.{Outcome}
use Rattle.dps_report.specs.declared.outcome.Outcome.TheVariants.{Equivalent, NotEquivalent, Spent, Refused, Stopped, TheoryAccepted, Attack, Matched, NoRun, NoMemory}
use Rattle.dps_report.specs.declared.outcome.StopName.TheVariants.{TooLong, OpenFault, ReadFault, WordsRefused}
use Rattle.dps_words.specs.declared.command.Command.{Command}
use Rattle.dps_words.specs.declared.command.Command.TheVariants.{Check, Replay, Theory, Gen}
use Rattle.dps_words.specs.Words.{HasNoPlan, plan_model}
use Rattle.deepsec_main.specs.declared.answer.Answer.{Answer}
use Rattle.deepsec_main.specs.declared.answer.Answer.TheVariants.{Report, Made}
use Rattle.deepsec_main.specs.Reports.{status_of, NeedsMemory}
use Rattle.deepsec_main.specs.Answers.{IsOfFile, alone, with_trace, HasReadText, IsReadOnce, IsFaultless, Happens, first, second, IsReplayed, checked, of_theory, of_problem, of_trace, IsTooLong, HasOpenFault, HasReadFault, IsOutOfMemory, IsCaused, IsUsed, untouched, read_once}
use Rattle.deepsec_main.proofs.Completing.{made_plan, place_at}
use Rattle.deepsec_main.proofs.Reading.{plan_of_file, plan_of_both, faultless_on}

module _ (old new : FilesState) (words : List (List ℕ)) where
  abbrev Reads : Command → ℕ → (List ℕ → Type 0) → Type 0
  Reads command number P = HasReadText old new words command number P

  abbrev Caused : Answer → Type 0
  Caused answer = IsCaused old new words answer

  -- the counts of the files

  untouched_faultless : new ≡ old → IsFaultless old new
  untouched_faultless e = record { no_open_fault = ap (λ files. files.open_faults) e; no_read_fault = ap (λ files. files.read_faults) e }

  replayed_faultless : (outcome : Outcome) → IsReplayed old new words outcome → IsFaultless old new
  replayed_faultless outcome r = faultless_on old r.middle new r.beside.read.faultless r.read.faultless

  long_faultless : (word : ℕ) → Happens old words word (λ from. IsTooLong from new words word) → IsFaultless old new
  long_faultless word (first named h) = h.faultless
  long_faultless word (second middle model problem b h) = faultless_on old middle new b.read.faultless h.faultless

  abbrev AreCounted : Type 0
  AreCounted = Rose old.open_faults new.open_faults ⊎ Rose old.read_faults new.read_faults

  open_counted : (word : ℕ) → Happens old words word (λ from. HasOpenFault from new) → AreCounted
  open_counted word (first named h) = inl h.rose
  open_counted word (second middle model problem b h) = inl (subst (λ k. Rose k new.open_faults) b.read.faultless.no_open_fault h.rose)

  read_counted : (word : ℕ) → Happens old words word (λ from. HasReadFault from new) → AreCounted
  read_counted word (first named h) = inr h.rose
  read_counted word (second middle model problem b h) = inr (subst (λ k. Rose k new.read_faults) b.read.faultless.no_read_fault h.rose)

  -- a fault has status 4, and elsewhere none was counted
  counted : (answer : Answer) → Caused answer → ((status_of answer ≡ 4) × AreCounted) ⊎ IsFaultless old new
  counted (Report (Equivalent m)) c = inr c.1.read.faultless
  counted (Report (NotEquivalent m node trace)) c = inr c.text.read.faultless
  counted (Report (Spent m node steps)) c = absurd c
  counted (Report (TheoryAccepted rules)) c = inr c.1.read.faultless
  counted (Report (Refused file line column cause)) (checked c) = inr c.read.faultless
  counted (Report (Refused file line column cause)) (of_theory c) = inr c.read.faultless
  counted (Report (Refused file line column cause)) (of_problem c) = inr c.read.faultless
  counted (Report (Refused file line column cause)) (of_trace c) = inr (replayed_faultless (Refused file line column cause) c)
  counted (Report (Stopped TooLong word)) c = inr (long_faultless word c)
  counted (Report (Stopped OpenFault word)) c = inl (refl, open_counted word c)
  counted (Report (Stopped ReadFault word)) c = inl (refl, read_counted word c)
  counted (Report (Stopped WordsRefused word)) c = inr (untouched_faultless c.untouched)
  counted (Report (Attack m side tests)) c = inr (replayed_faultless (Attack m side tests) c)
  counted (Report (Matched m side)) c = inr (replayed_faultless (Matched m side) c)
  counted (Report (NoRun m label)) c = inr (replayed_faultless (NoRun m label) c)
  counted (Report NoMemory) c = inr c.faultless
  counted (Made text) c = inr (untouched_faultless c.untouched)

  pub not_five : (answer : Answer) → status_of answer ≡ 5 → ⊥
  not_five (Report (Equivalent m)) e = omega (arith, e)
  not_five (Report (NotEquivalent m node trace)) e = omega (arith, e)
  not_five (Report (Spent m node steps)) e = omega (arith, e)
  not_five (Report (TheoryAccepted rules)) e = omega (arith, e)
  not_five (Report (Refused file line column cause)) e = omega (arith, e)
  not_five (Report (Stopped TooLong word)) e = omega (arith, e)
  not_five (Report (Stopped OpenFault word)) e = omega (arith, e)
  not_five (Report (Stopped ReadFault word)) e = omega (arith, e)
  not_five (Report (Stopped WordsRefused word)) e = omega (arith, e)
  not_five (Report (Attack m side tests)) e = omega (arith, e)
  not_five (Report (Matched m side)) e = omega (arith, e)
  not_five (Report (NoRun m label)) e = omega (arith, e)
  not_five (Report NoMemory) e = omega (arith, e)
  not_five (Made text) e = omega (arith, e)

  -- status 4 is that of a fault, unless a later fault of the sink is answered
  not_four : (answer : Answer) → IsFaultless old new → Caused answer → status_of answer ≡ 4 → AreCounted
  not_four (Report (Equivalent m)) f c e = absurd (omega (arith, e))
  not_four (Report (NotEquivalent m node trace)) f c e = absurd (omega (arith, e))
  not_four (Report (Spent m node steps)) f c e = absurd (omega (arith, e))
  not_four (Report (TheoryAccepted rules)) f c e = absurd (omega (arith, e))
  not_four (Report (Refused file line column cause)) f c e = absurd (omega (arith, e))
  not_four (Report (Stopped TooLong word)) f c e = absurd (omega (arith, e))
  not_four (Report (Stopped OpenFault word)) f c e = open_counted word c
  not_four (Report (Stopped ReadFault word)) f c e = read_counted word c
  not_four (Report (Stopped WordsRefused word)) f c e = absurd (omega (arith, e))
  not_four (Report (Attack m side tests)) f c e = absurd (omega (arith, e))
  not_four (Report (Matched m side)) f c e = absurd (omega (arith, e))
  not_four (Report (NoRun m label)) f c e = absurd (omega (arith, e))
  not_four (Report NoMemory) f c e = absurd (omega (arith, e))
  not_four (Made text) f c e = absurd (omega (arith, e))

  pub fault_read : (answer : Answer) → Caused answer → status_of answer ≡ 4 → AreCounted
  fault_read answer c e = elim (counted answer c) [ inl h ↦ h.1 | inr f ↦ not_four answer f c e ]

  pub counted_read : (answer : Answer) → Caused answer → (old.open_faults < new.open_faults) ⊎ (old.read_faults < new.read_faults) → status_of answer ≡ 4
  counted_read answer c h = elim (counted answer c) [ inl k ↦ k.0 | inr f ↦ absurd (never f h) ]
    where
      never : IsFaultless old new → (old.open_faults < new.open_faults) ⊎ (old.read_faults < new.read_faults) → ⊥
      never f (inl l) = omega (arith, l, f.no_open_fault)
      never f (inr l) = omega (arith, l, f.no_read_fault)

  pub memory_read : (answer : Answer) → Caused answer → status_of answer ≡ 6 → IsFaultless old new
  memory_read answer c e = elim (counted answer c) [ inl k ↦ absurd (omega (arith, e, k.0)) | inr f ↦ f ]

  -- how the files were used

  happens_so : (word : ℕ) (P Q : FilesState → Type 0) → ((from : FilesState) → P from → Q from) → Happens old words word P → Happens old words word Q
  happens_so word P Q f (first named h) = first named (f old h)
  happens_so word P Q f (second middle model problem b h) = second middle model problem b (f middle h)

  abbrev ReadsFrom : FilesState → Type 0
  ReadsFrom from = IsReadOnce from new

  alone_read : (command : Command) (number : ℕ) (P : List ℕ → Type 0) → Reads command number P → IsOfFile command → Happens old words number ReadsFrom
  alone_read command number P r o = first (alone command o r.planned) r.read.once

  replayed_read : (outcome : Outcome) (r : IsReplayed old new words outcome) → Happens old words r.trace ReadsFrom
  replayed_read outcome r = second r.middle r.model r.problem r.beside r.read.once

  pub used : (answer : Answer) → Caused answer → IsUsed old new words
  used (Report (Equivalent m)) c = read_once c.0 (alone_read Check c.0 (MeansEquivalent (plan_model words)) c.1 tt)
  used (Report (NotEquivalent m node trace)) c = read_once c.file (alone_read Check c.file (λ bytes. IsAttacked (plan_model words) bytes trace) c.text tt)
  used (Report (Spent m node steps)) c = absurd c
  used (Report (TheoryAccepted rules)) c = read_once c.0 (alone_read Theory c.0 (λ bytes. MeansTheory bytes rules) c.1 tt)
  used (Report (Refused file line column cause)) (checked c) = read_once file (alone_read Check file (λ bytes. IsRefused bytes (place_at line column) cause) c tt)
  used (Report (Refused file line column cause)) (of_theory c) = read_once file (alone_read Theory file (λ bytes. HasNoTheory bytes (place_at line column) cause) c tt)
  used (Report (Refused file line column cause)) (of_problem c) = read_once file (first (with_trace c.model c.trace c.planned) c.read.once)
  used (Report (Refused file line column cause)) (of_trace c) = read_once c.trace (replayed_read (Refused file line column cause) c)
  used (Report (Stopped TooLong word)) c = read_once word (happens_so word (λ from. IsTooLong from new words word) ReadsFrom (λ from h. h.once) c)
  used (Report (Stopped OpenFault word)) c = read_once word (happens_so word (λ from. HasOpenFault from new) ReadsFrom (λ from h. h.once) c)
  used (Report (Stopped ReadFault word)) c = read_once word (happens_so word (λ from. HasReadFault from new) ReadsFrom (λ from h. h.once) c)
  used (Report (Stopped WordsRefused word)) c = untouched c.untouched
  used (Report (Attack m side tests)) c = read_once c.trace (replayed_read (Attack m side tests) c)
  used (Report (Matched m side)) c = read_once c.trace (replayed_read (Matched m side) c)
  used (Report (NoRun m label)) c = read_once c.trace (replayed_read (NoRun m label) c)
  used (Report NoMemory) c = elim c.used [ inl e ↦ untouched e | inr r ↦ read_once r.0 r.1 ]
  used (Made text) c = untouched c.untouched

  named_plan : (word : ℕ) (Q : FilesState → Type 0) → HasNoPlan words → Happens old words word Q → ⊥
  named_plan word Q n (first named h) = let p = plan_of_file words word named in n p.0 p.1 p.2
  named_plan word Q n (second middle model problem b h) = n Replay (b.file ∷ word ∷ []) (plan_of_both words model b.file word b.planned)

  pub unused : (answer : Answer) → Caused answer → HasNoPlan words → new ≡ old
  unused answer c n = elim (used answer c) [ untouched e ↦ e | read_once number h ↦ absurd (named_plan number ReadsFrom n h) ]

  -- an answer whose text finds no memory

  alone_out : (command : Command) (number : ℕ) (P : List ℕ → Type 0) → Reads command number P → IsOfFile command → IsOutOfMemory old new words
  alone_out command number P r o = record { planned = (command, number ∷ [], r.planned); used = inr (number, alone_read command number P r o); faultless = r.read.faultless }

  replayed_out : (outcome : Outcome) → IsReplayed old new words outcome → IsOutOfMemory old new words
  replayed_out outcome r =
      record {
        planned = (Replay, r.beside.file ∷ r.trace ∷ [], plan_of_both words r.model r.beside.file r.trace r.beside.planned);
        used = inr (r.trace, replayed_read outcome r);
        faultless = replayed_faultless outcome r;
      }

  out_of_memory : (answer : Answer) → NeedsMemory answer → Caused answer → IsOutOfMemory old new words
  out_of_memory (Report (Equivalent m)) n c = absurd n
  out_of_memory (Report (NotEquivalent m node trace)) n c = alone_out Check c.file (λ bytes. IsAttacked (plan_model words) bytes trace) c.text tt
  out_of_memory (Report (Spent m node steps)) n c = absurd c
  out_of_memory (Report (TheoryAccepted rules)) n c = absurd n
  out_of_memory (Report (Refused file line column cause)) n (checked c) = alone_out Check file (λ bytes. IsRefused bytes (place_at line column) cause) c tt
  out_of_memory (Report (Refused file line column cause)) n (of_theory c) = alone_out Theory file (λ bytes. HasNoTheory bytes (place_at line column) cause) c tt
  out_of_memory (Report (Refused file line column cause)) n (of_problem c) = record { planned = (Replay, file ∷ c.trace ∷ [], plan_of_both words c.model file c.trace c.planned); used = inr (file, first (with_trace c.model c.trace c.planned) c.read.once); faultless = c.read.faultless }
  out_of_memory (Report (Refused file line column cause)) n (of_trace c) = replayed_out (Refused file line column cause) c
  out_of_memory (Report (Stopped name word)) n c = absurd n
  out_of_memory (Report (Attack m side tests)) n c = replayed_out (Attack m side tests) c
  out_of_memory (Report (Matched m side)) n c = absurd n
  out_of_memory (Report (NoRun m label)) n c = absurd n
  out_of_memory (Report NoMemory) n c = absurd n
  out_of_memory (Made text) n c = record { planned = (Gen, 2 ∷ [], made_plan words c.number c.planned); used = inl c.untouched; faultless = untouched_faultless c.untouched }

  pub caused_kept : (one two : Answer) → (two ≡ one) ⊎ ((two ≡ Report NoMemory) × NeedsMemory one) → Caused one → Caused two
  caused_kept one two (inl e) c = subst Caused (sym e) c
  caused_kept one two (inr e) c = subst Caused (sym e.0) (out_of_memory one e.1 c)
