-- From the calls to what a text means.
use Rattle.std.proofs.Common.{◌≡◌, ℕ, List, refl, sym, subst}
use Rattle.dps_lex.specs.declared.vocabulary.Place.{Place}
use Rattle.dps_lex.specs.declared.vocabulary.Fault.{Fault}
use Rattle.dps_lex.specs.Spelling.{fault_words}
use Rattle.dps_syntax.specs.declared.tree.Decl.{Decl}
use Rattle.dps_syntax.specs.Files.{IsFirstFault}
use Rattle.dps_process.specs.Models.{Model}
use Rattle.dps_process.specs.Problem.{Problem}
use Rattle.dps_meaning.specs.Causes.{Cause, reading, cause_text}
use Rattle.dps_meaning.specs.Meaning.{IsProblemOf}
use Rattle.dps_meaning.specs.Faults.{IsFaultOf, unread, declared}
use Rattle.dps_judge.specs.declared.reading.Meaning.{Meaning}
use Rattle.dps_judge.specs.declared.reading.Meaning.TheVariants.{Found, Refused}
use Rattle.dps_judge.specs.Judgement.{HasNoMeaning}
use Rattle.dps_judge.specs.Reading.{IsMeaning, IsMeaningOf, RefusesMeaning}
use Rattle.dps_judge.proofs.Answering.{fault_place}

refused_meaning : (model : Model) (bytes : List ℕ) (place : Place) (text : List ℕ) → HasNoMeaning bytes place text → (m : Meaning) → RefusesMeaning place text m → IsMeaning model bytes m
refused_meaning model bytes place text n (Found problem) h = absurd h
refused_meaning model bytes place text n (Refused found why) h = subst (λ c. HasNoMeaning bytes found c) (sym h.1) (subst (λ p. HasNoMeaning bytes p text) (sym h.0) n)

pub unread_meaning : (model : Model) (bytes : List ℕ) (fault : Fault) → IsFirstFault bytes fault → (m : Meaning) → RefusesMeaning (fault_place fault) (fault_words fault.kind) m → IsMeaning model bytes m
unread_meaning model bytes fault first m h =
    refused_meaning model bytes (fault_place fault) (fault_words fault.kind) (record { cause = reading fault.kind; fault = unread fault first refl refl; printed = refl }) m h

pub faulty_meaning : (model : Model) (decls : List Decl) (place : Place) (cause : Cause) → IsFaultOf decls place cause → (m : Meaning) → RefusesMeaning place (cause_text cause) m → IsMeaningOf model decls m
faulty_meaning model decls place cause f m h bytes d =
    refused_meaning model bytes place (cause_text cause) (record { cause = cause; fault = declared decls d f; printed = refl }) m h

pub found_meaning : (model : Model) (decls : List Decl) (problem : Problem) → IsProblemOf decls problem → problem.model ≡ model → IsMeaningOf model decls (Found problem)
found_meaning model decls problem p e bytes d = record { means = record { decls = decls; text = d; problem_of = p }; in_model = e }
