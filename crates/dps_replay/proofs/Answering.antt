-- What two lists of ends say of the labels of a side.
use Rattle.std.proofs.Common.{◌≡◌, ℕ, suc, ◌+◌, ◌<◌, ◌≤◌, ◌^◌, List, [], ◌∷◌, length, take, drop, refl, sym, ◌∙◌, ap, subst, arith}
use Rattle.std.specs.Prelude.{◌↔◌, Contains}
use Rattle.std.proofs.lemmas.List.{get_or_default, take-append-drop}
use Rattle.std.proofs.lemmas.List.Elements.{Contains-get_or}
use Rattle.dps_branch.specs.declared.Side.{Side}
use Rattle.dps_branch.specs.Sides.{opposite}
use Rattle.dps_terms.specs.Tree.{Tree}
use Rattle.dps_signature.specs.Signature.{Signature}
use Rattle.dps_theory.specs.Frames.{AreStaticallyEquivalent}
use Rattle.dps_process.specs.Problem.{Problem, side_of, IsLawful}
use Rattle.dps_process.specs.Steps.{Config, Label, inputs, outputs, overhears, AreOneBag}
use Rattle.dps_process.specs.Traces.{IsTraceOf, IsAttack}
use Rattle.dps_process.specs.Lawful.{AreLawfulLabels}
use Rattle.dps_process.specs.Laws.{BagsReflexive, PrefixesAreTraces, TracesEndInFrames, TracesHaveLawfulLabels}
use Rattle.dps_semantics.specs.Words.{AreEnds, IsStuckAt}
use Rattle.dps_semantics.specs.Once.{config_at}
use Rattle.dps_static.specs.declared.Test.{Test}
use Rattle.dps_static.specs.declared.Comparison.TheVariants.{Same, Differ}
use Rattle.dps_static.specs.Answer.{test_of, TellsApart, AnswersDecide}
use Rattle.dps_static.specs.Saturation.{IsCommonSignature}
use Rattle.dps_replay.specs.declared.outcome.Replay.{Replay}
use Rattle.dps_replay.specs.declared.outcome.Replay.TheVariants.{NoRun, Attack, Matched}
use Rattle.dps_replay.specs.Answers.{IsEnd, LookAlike, IsToldBy, IsUnmatched, AreMatched, IsReplay}
use Rattle.dps_replay.specs.Laws.{SaysAttack, SaysNoRun}
use Rattle.dps_replay.specs.Ends.{HasAllEnds}
use Rattle.dps_replay.specs.Matching.{frame_at, AreAlike, AreToldBy, HaveSize, AreLevel, TellApart, ArePairs, IsVerdict}

-- how many messages the labels bring
abbrev pub brought : List Label → ℕ
brought [] = 0
brought (inputs c r ∷ word) = brought word
brought (outputs c j ∷ word) = suc (brought word)
brought (overhears c j ∷ word) = suc (brought word)

lawful_size : (signature : Signature) (m n : ℕ) (word : List Label) → AreLawfulLabels signature m word n → n ≡ m + brought word
lawful_size signature m n [] h = omega (arith, h)
lawful_size signature m n (inputs c r ∷ word) h = lawful_size signature m n word h.2
lawful_size signature m n (outputs c j ∷ word) h = omega (arith, lawful_size signature (m + 1) n word h.2)
lawful_size signature m n (overhears c j ∷ word) h = omega (arith, lawful_size signature (m + 1) n word h.2)

brings_few : (word : List Label) → brought word ≤ length word
brings_few [] = omega arith
brings_few (inputs c r ∷ word) = omega (arith, brings_few word)
brings_few (outputs c j ∷ word) = omega (arith, brings_few word)
brings_few (overhears c j ∷ word) = omega (arith, brings_few word)

-- all ends with these labels have frames of one length
ends_have : TracesHaveLawfulLabels → (problem : Problem) (side : Side) (word : List Label) (configs : List Config) → HasAllEnds problem side word configs → HaveSize (brought word) configs
ends_have labels problem side word configs h i l =
    let frame = frame_at configs i in
    let trace = (h.frames frame).0 (config_at configs i, Contains-get_or configs i _ l, refl) in
    omega (arith, lawful_size problem.signature 0 (length frame) word (labels problem.model problem.signature problem.theory (side_of problem side) word frame trace))

pub are_level : TracesHaveLawfulLabels → (problem : Problem) (side other : Side) (word : List Label) (ends others : List Config) → HasAllEnds problem side word ends
    → HasAllEnds problem other word others → length word < 2 ^ 31 → AreLevel ends others
are_level labels problem side other word ends others h k l = record {
  size = brought word;
  few = omega (arith, brings_few word, l);
  ends_have = ends_have labels problem side word ends h;
  others_have = ends_have labels problem other word others k;
}

pub all_ends : (problem : Problem) (side : Side) (word : List Label) (configs : List Config) → AreEnds problem side word configs → HasAllEnds problem side word configs
all_ends problem side word configs h = record { just = h.just; frames = h.frames }

-- where some label is stuck, there is no trace
pub no_trace : PrefixesAreTraces → (problem : Problem) (side : Side) (word : List Label) (n : ℕ) → IsStuckAt problem side word n → (frame : List Tree) → ¬ IsTraceOf problem side word frame
no_trace prefixes problem side word n h frame t =
    let whole = subst (λ (w : List Label). IsTraceOf problem side w frame) (sym (take-append-drop n word)) t in
    let front = prefixes problem.model problem.signature problem.theory (side_of problem side) (take n word) (drop n word) frame whole in
    h.stuck front.0 front.2

pub no_ends : PrefixesAreTraces → (problem : Problem) (side : Side) (word : List Label) (n : ℕ) → IsStuckAt problem side word n → HasAllEnds problem side word []
no_ends prefixes problem side word n h =
    let none = no_trace prefixes problem side word n h in record {
      just = λ k. (
        λ c. absurd (omega (arith, c.1.1)),
        λ e. absurd (none e.0.frame (e.0, e.1.run, refl)),
      );
      frames = λ frame. (λ c. absurd (omega (arith, c.1.1)), λ t. absurd (none frame t));
    }

-- what stands in a list stands at a place
pub place_of : (configs : List Config) (c : Config) → Contains configs c → (i : ℕ) × (i < length configs) × (config_at configs i ≡ c)
place_of configs c h = (h.0, h.1, get_or_default configs h.0 _ c h.1 ∙ h.2)

module _ (problem : Problem) (side : Side) (word : List Label) (ends others : List Config) (lawful : IsLawful problem) (framed : TracesEndInFrames) (bags : BagsReflexive)
    (has : HasAllEnds problem side word ends) (has_others : HasAllEnds problem (opposite side) word others) where
  common : (s : Side) (frame : List Tree) → IsTraceOf problem s word frame → IsCommonSignature problem.signature problem.theory frame
  common s frame t = record {
    same_symbols = lawful.theory.same_symbols;
    rules_over = lawful.theory.rules_over;
    is_frame = framed problem s word frame lawful t;
  }

  end_trace : (c : Config) → Contains ends c → IsTraceOf problem side word c.frame
  end_trace c h = (has.frames c.frame).0 (c, h, refl)

  other_trace : (c : Config) → Contains others c → IsTraceOf problem (opposite side) word c.frame
  other_trace c h = (has_others.frames c.frame).0 (c, h, refl)

  end_is : (c : Config) → Contains ends c → IsEnd problem side word c
  end_is c h = (has.just c).0 (c, h, bags c)

  other_is : (c : Config) → Contains others c → IsEnd problem (opposite side) word c
  other_is c h = (has_others.just c).0 (c, h, bags c)

  look_alike : (c d : Config) → Contains ends c → Contains others d → AreAlike problem.theory c.frame d.frame → LookAlike problem c d
  look_alike c d h k a = a problem.signature (common side c.frame (end_trace c h)) (common (opposite side) d.frame (other_trace d k))

  told_by : (c d : Config) (test : Test) → Contains ends c → Contains others d → AreToldBy problem.theory c.frame d.frame test → IsToldBy problem c d test
  told_by c d test h k a = a problem.signature (common side c.frame (end_trace c h)) (common (opposite side) d.frame (other_trace d k))

  told : (end : Config) (tests : List Test) → Contains ends end → TellApart problem.theory end.frame others (length others) tests
      → (d : Config) → IsEnd problem (opposite side) word d → (test : Test) × Contains tests test × IsToldBy problem end d test
  told end tests h t d e =
      let one = (has_others.just d).1 e in
      let spot = place_of others one.0 one.1 in
      let test = t.told spot.0 spot.1 in
      let here = told_by end (config_at others spot.0) test.0 h (Contains-get_or others spot.0 _ spot.1) test.2 in
      let same : frame_at others spot.0 ≡ d.frame = ap (λ (c : Config). c.frame) spot.2 ∙ one.2.frame in
      (test.0, test.1, subst (λ (f : List Tree). TellsApart problem.signature problem.theory end.frame f (test_of test.0)) same here)

  unmatched : AnswersDecide → (end : Config) (tests : List Test) → Contains ends end → TellApart problem.theory end.frame others (length others) tests → IsUnmatched problem side word end tests
  unmatched decide end tests h t = record {
    reached = end_is end h;
    unlike = λ d e a.
        (let test = told end tests h t d e in
        let same : Differ test.0 ≡ Same = (decide problem.signature problem.theory end.frame d.frame (Differ test.0) test.2).1 a in
        cc);
    told = told end tests h t;
    useful = λ test c.
        (let u = t.useful test c in
        let there = Contains-get_or others u.0 _ u.1 in
        (config_at others u.0, other_is (config_at others u.0) there, told_by end (config_at others u.0) test h there u.2));
    distinct = t.distinct;
  }

  attack : (end : Config) (tests : List Test) → Contains ends end → IsUnmatched problem side word end tests → IsAttack problem side word
  attack end tests h u = record {
    frame = end.frame;
    trace = end_trace end h;
    unmatched = λ m.
        (let one = (has_others.frames m.other).1 m.trace in
        let alike = subst (λ (f : List Tree). AreStaticallyEquivalent problem.signature problem.theory end.frame f) (sym one.2) m.equivalent in
        u.unlike one.0 (other_is one.0 one.1) alike);
  }

  matched : (pairs : List (Config × Config)) → 0 < length ends → ArePairs problem.theory ends others pairs → AreMatched problem side word pairs
  matched pairs some h = record {
    run = (config_at ends 0, end_is (config_at ends 0) (Contains-get_or ends 0 _ some));
    no_attack = λ a.
        (let one = (has.frames a.frame).1 a.trace in
        let spot = place_of ends one.0 one.1 in
        let pair = h.complete spot.0 spot.1 in
        let is = h.alike (config_at ends spot.0) pair.0 pair.1 in
        let alike = look_alike (config_at ends spot.0) pair.0 is.0 is.1 is.2 in
        let same : frame_at ends spot.0 ≡ a.frame = ap (λ (c : Config). c.frame) spot.2 ∙ one.2 in
        a.unmatched (record {
          other = pair.0.frame;
          trace = other_trace pair.0 is.1;
          equivalent = subst (λ (f : List Tree). AreStaticallyEquivalent problem.signature problem.theory f pair.0.frame) same alike;
        }));
    alike = λ c d k. (let is = h.alike c d k in (end_is c is.0, other_is d is.1, look_alike c d is.0 is.1 is.2));
    complete = λ c e.
        (let one = (has.just c).1 e in
        let spot = place_of ends one.0 one.1 in
        let pair = h.complete spot.0 spot.1 in
        (config_at ends spot.0, pair.0, pair.1, subst (λ (k : Config). AreOneBag k c) (sym spot.2) one.2));
  }

  pub answered : AnswersDecide → 0 < length ends → (answer : Replay) → IsVerdict problem.theory ends others answer → IsReplay problem side word answer
  answered decide some (NoRun n) h = absurd h
  answered decide some (Attack end tests) h = let u = unmatched decide end tests.items h.0 h.1 in (attack end tests.items h.0 u, u)
  answered decide some (Matched pairs) h = matched pairs.items some h

-- what the answers decide
pub attack_answered : PrefixesAreTraces → (problem : Problem) (side : Side) (word : List Label) (answer : Replay) → IsReplay problem side word answer
    → SaysAttack answer ↔ IsAttack problem side word
attack_answered prefixes problem side word (NoRun n) h = (λ x. absurd x, λ a. no_trace prefixes problem side word n h a.frame a.trace)
attack_answered prefixes problem side word (Attack end tests) h = (λ x. h.0, λ a. tt)
attack_answered prefixes problem side word (Matched pairs) h = (λ x. absurd x, λ a. h.no_attack a)

pub no_run_answered : PrefixesAreTraces → (problem : Problem) (side : Side) (word : List Label) (answer : Replay) → IsReplay problem side word answer
    → SaysNoRun answer ↔ ((frame : List Tree) → ¬ IsTraceOf problem side word frame)
no_run_answered prefixes problem side word (NoRun n) h = (λ x. no_trace prefixes problem side word n h, λ a. tt)
no_run_answered prefixes problem side word (Attack end tests) h = (λ x. absurd x, λ a. a h.0.frame h.0.trace)
no_run_answered prefixes problem side word (Matched pairs) h =
    let end = h.run.1 in (λ x. absurd x, λ a. a end.0.frame (end.0, end.1.run, refl))
