-- Which words have a plan, and which is the first wrong one.
use Rattle.std.proofs.Common.{◌≡◌, ◌≢◌, ℕ, zero, suc, ◌-◌, ◌<◌, ◌≤◌, List, [], ◌∷◌, ◌++◌, Some, length, get_or, unwrap_or, slice_get, option_map, Option, None, refl, sym, ◌∙◌, ap, subst, arith, String, string_bytes}
use Rattle.std.specs.Prelude.{codes}
use Rattle.std.specs.Fmt.{decimal}
use Rattle.std.proofs.lemmas.Option.{slice_get-map, slice_get_read, slice_get_past}
use Rattle.std.specs.declared.alloc.Global.{Global}
use Rattle.dps_process.specs.declared.model.CommModel.{CommModel}
use Rattle.dps_words.specs.declared.command.Command.{Command}
use Rattle.dps_words.specs.declared.command.PlanRefusal.TheVariants.{Memory}
use Rattle.dps_words.specs.declared.command.Command.TheVariants.{Check, Replay, Theory, Gen}
use Rattle.dps_words.specs.Words.{texts, word_at, replay_front, IsOption, AsksToGenerate, AsksWith, RefusesWords, plan_numbers, HasPlan, BeginsWith, CanGoOn, IsFirstWrong}

pub some_file_is_none : ¬ IsOption (codes "F")
some_file_is_none o = let e : ◌≡◌ {A = ℕ} 70 45 = (let f : codes "F" ≡ codes "--" ++ o.0 = o.1 in cc) in omega arith

pub words_differ : codes "check" ≡ codes "theory" → ⊥
words_differ e = let d : ◌≡◌ {A = ℕ} 99 116 = cc in omega arith

pub check_or_gen : codes "check" ≡ codes "gen" → ⊥
check_or_gen e = let d : ◌≡◌ {A = ℕ} 99 103 = cc in omega arith

pub theory_or_gen : codes "theory" ≡ codes "gen" → ⊥
theory_or_gen e = let d : ◌≡◌ {A = ℕ} 116 103 = cc in omega arith

pub check_or_replay : codes "check" ≡ codes "replay" → ⊥
check_or_replay e = let d : ◌≡◌ {A = ℕ} 99 114 = cc in omega arith

pub replay_or_theory : codes "replay" ≡ codes "theory" → ⊥
replay_or_theory e = let d : ◌≡◌ {A = ℕ} 114 116 = cc in omega arith

pub replay_or_gen : codes "replay" ≡ codes "gen" → ⊥
replay_or_gen e = let d : ◌≡◌ {A = ℕ} 114 103 = cc in omega arith

not_replay : (w word : List ℕ) → w ≡ word → (word ≡ codes "replay" → ⊥) → w ≢ codes "replay"
not_replay w word e n d = n (sym e ∙ d)

theory_or_replay : codes "theory" ≡ codes "replay" → ⊥
theory_or_replay e = replay_or_theory (sym e)

gen_or_replay : codes "gen" ≡ codes "replay" → ⊥
gen_or_replay e = replay_or_gen (sym e)

-- words that can go on
go_on_from_none : CanGoOn []
go_on_from_none = record {
  more = codes "check" ∷ codes "F" ∷ [];
  command = Check;
  numbers = 2 ∷ [];
  plan = (record { file = codes "F"; all = refl; no_option = some_file_is_none }, refl);
}

go_on_from_check : (w : List ℕ) → w ≡ codes "check" → CanGoOn (w ∷ [])
go_on_from_check w e = record {
  more = codes "F" ∷ [];
  command = Check;
  numbers = 2 ∷ [];
  plan = (record { file = codes "F"; all = ap (λ x. x ∷ codes "F" ∷ []) e; no_option = some_file_is_none }, refl);
}

go_on_from_file : (w f : List ℕ) → w ≡ codes "check" → ¬ IsOption f → CanGoOn (w ∷ f ∷ [])
go_on_from_file w f e n = record {
  more = [];
  command = Check;
  numbers = 2 ∷ [];
  plan = (record { file = f; all = ap (λ x. x ∷ f ∷ []) e; no_option = n }, refl);
}

go_on_from_theory : (w : List ℕ) → w ≡ codes "theory" → CanGoOn (w ∷ [])
go_on_from_theory w e = record {
  more = codes "F" ∷ [];
  command = Theory;
  numbers = 2 ∷ [];
  plan = (record { file = codes "F"; all = ap (λ x. x ∷ codes "F" ∷ []) e }, refl);
}

go_on_from_theory_file : (w f : List ℕ) → w ≡ codes "theory" → CanGoOn (w ∷ f ∷ [])
go_on_from_theory_file w f e = record { more = []; command = Theory; numbers = 2 ∷ []; plan = (record { file = f; all = ap (λ x. x ∷ f ∷ []) e }, refl) }

go_on_from_gen : (w : List ℕ) → w ≡ codes "gen" → CanGoOn (w ∷ [])
go_on_from_gen w e = record {
  more = decimal 0 ∷ [];
  command = Gen;
  numbers = 2 ∷ [];
  plan = ((0, record { made = omega arith; all = ap (λ x. x ∷ decimal 0 ∷ []) e }), refl);
}

go_on_from_number : (w f : List ℕ) (number : ℕ) → w ≡ codes "gen" → number ≤ 87 → f ≡ decimal number → CanGoOn (w ∷ f ∷ [])
go_on_from_number w f number e made i = record {
  more = [];
  command = Gen;
  numbers = 2 ∷ [];
  plan = ((number, record { made = made; all = cc }), refl);
}

-- what words with a plan are
pub check_is : (w : List ℕ) (rest : List (List ℕ)) (numbers : List ℕ) → HasPlan (w ∷ rest) Check numbers → w ≡ codes "check"
check_is w rest numbers p = let e = p.0.all in cc

pub replay_is : (w : List ℕ) (rest : List (List ℕ)) (numbers : List ℕ) → HasPlan (w ∷ rest) Replay numbers → w ≡ codes "replay"
replay_is w rest numbers p = by_model p.0.0 p.0.1.all
  where
    by_model : (model : Option CommModel) → w ∷ rest ≡ replay_front model ++ (p.0.1.file ∷ p.0.1.trace ∷ []) → w ≡ codes "replay"
    by_model None e = cc
    by_model (Some model) e = cc

pub theory_is : (w : List ℕ) (rest : List (List ℕ)) (numbers : List ℕ) → HasPlan (w ∷ rest) Theory numbers → w ≡ codes "theory"
theory_is w rest numbers p = let e = p.0.all in cc

pub gen_is : (w : List ℕ) (rest : List (List ℕ)) (numbers : List ℕ) → HasPlan (w ∷ rest) Gen numbers → w ≡ codes "gen"
gen_is w rest numbers p = let e = p.0.1.all in cc

one_file_is : (w : List ℕ) (rest : List (List ℕ)) (command : Command) (numbers : List ℕ) → w ≢ codes "replay" → HasPlan (w ∷ rest) command numbers → (f : List ℕ) × (rest ≡ f ∷ [])
one_file_is w rest Check numbers n p = let e = p.0.all in (p.0.file, (cc))
one_file_is w rest Replay numbers n p = absurd (n (replay_is w rest numbers p))
one_file_is w rest Theory numbers n p = let e = p.0.all in (p.0.file, (cc))
one_file_is w rest Gen numbers n p = let e = p.0.1.all in (decimal p.0.0, (cc))

checked_file_is : (w : List ℕ) (rest : List (List ℕ)) (command : Command) (numbers : List ℕ) → w ≡ codes "check" → HasPlan (w ∷ rest) command numbers → (f : List ℕ) × (rest ≡ f ∷ []) × ¬ IsOption f
checked_file_is w rest Check numbers e p = let d = p.0.all in (p.0.file, (cc), p.0.no_option)
checked_file_is w rest Replay numbers e p = absurd (check_or_replay (sym e ∙ replay_is w rest numbers p))
checked_file_is w rest Theory numbers e p = absurd (words_differ (let d : w ≡ codes "theory" = theory_is w rest numbers p in cc))
checked_file_is w rest Gen numbers e p = absurd (check_or_gen (let d : w ≡ codes "gen" = gen_is w rest numbers p in cc))

abbrev IsMade : List ℕ → ℕ → Type 0
IsMade f number = (number ≤ 87) × (f ≡ decimal number)

made_number_is : (w f : List ℕ) (rest : List (List ℕ)) (command : Command) (numbers : List ℕ) → w ≡ codes "gen" → HasPlan (w ∷ f ∷ rest) command numbers → (number : ℕ) × IsMade f number
made_number_is w f rest Check numbers e p = absurd (check_or_gen (let d : w ≡ codes "check" = check_is w (f ∷ rest) numbers p in cc))
made_number_is w f rest Replay numbers e p = absurd (gen_or_replay (sym e ∙ replay_is w (f ∷ rest) numbers p))
made_number_is w f rest Theory numbers e p = absurd (theory_or_gen (let d : w ≡ codes "theory" = theory_is w (f ∷ rest) numbers p in cc))
made_number_is w f rest Gen numbers e p = let d = p.0.1.all in (p.0.0, (p.0.1.made, (cc)))

nothing_asks : (command : Command) (numbers : List ℕ) → ¬ HasPlan [] command numbers
nothing_asks Check numbers p = let e = p.0.all in cc
nothing_asks Replay numbers p = by_model p.0.0 p.0.1.all
  where
    by_model : (model : Option CommModel) → [] ≡ replay_front model ++ (p.0.1.file ∷ p.0.1.trace ∷ []) → ⊥
    by_model None e = cc
    by_model (Some model) e = cc
nothing_asks Theory numbers p = let e = p.0.all in cc
nothing_asks Gen numbers p = let e = p.0.1.all in cc

-- the first word

pub begins : (ws : List (String Global)) (w : String Global) (word : List ℕ) → 1 ≤ length ws → w ≡ get_or ws 0 w → string_bytes w ≡ word → BeginsWith word (texts ws)
begins [] w word l e k = absurd (omega arith)
begins (v ∷ ws) w word l e k =
    let same : string_bytes v ≡ word = subst (λ (x : String Global). string_bytes x ≡ word) e k in
    record { rest = texts ws; all = ap (λ x. x ∷ texts ws) same }

first_is : (word v : List ℕ) (vs : List (List ℕ)) → BeginsWith word (v ∷ vs) → v ≡ word
first_is word v vs b = let e = b.all in cc

pub never_empty : (ws : List (String Global)) (word : List ℕ) → length ws ≡ 0 → BeginsWith word (texts ws) → ⊥
never_empty [] word l b = let e = b.all in cc
never_empty (v ∷ ws) word l b = omega arith

pub no_words : (ws : List (String Global)) → length ws ≡ 0 → IsFirstWrong (texts ws) 1
no_words [] l = record {
  before = 0;
  is_next = omega arith;
  within = omega arith;
  right = go_on_from_none;
  wrong = λ h. absurd (omega arith);
  no_plan = nothing_asks;
}
no_words (w ∷ ws) l = absurd (omega arith)

wrong_first : (w : List ℕ) (rest : List (List ℕ)) → w ≢ codes "check" → w ≢ codes "replay" → w ≢ codes "theory" → w ≢ codes "gen" → IsFirstWrong (w ∷ rest) 1
wrong_first w rest n k m o = record {
  before = 0;
  is_next = omega arith;
  within = omega arith;
  right = go_on_from_none;
  wrong = λ h g. never g.more g.command g.numbers g.plan;
  no_plan = never rest;
}
  where
    never : (behind : List (List ℕ)) (command : Command) (numbers : List ℕ) → HasPlan (w ∷ behind) command numbers → ⊥
    never behind Check numbers p = n (check_is w behind numbers p)
    never behind Replay numbers p = k (replay_is w behind numbers p)
    never behind Theory numbers p = m (theory_is w behind numbers p)
    never behind Gen numbers p = o (gen_is w behind numbers p)

pub wrong_command : (ws : List (String Global)) (w : String Global) → 1 ≤ length ws → w ≡ get_or ws 0 w → string_bytes w ≢ codes "check" → string_bytes w ≢ codes "replay" → string_bytes w ≢ codes "theory"
    → string_bytes w ≢ codes "gen"
    → IsFirstWrong (texts ws) 1
wrong_command [] w l e n k m o = absurd (omega arith)
wrong_command (v ∷ ws) w l e n k m o =
    wrong_first (string_bytes v) (texts ws) (subst (λ (x : String Global). string_bytes x ≢ codes "check") e n) (subst (λ (x : String Global). string_bytes x ≢ codes "replay") e k)
    (subst (λ (x : String Global). string_bytes x ≢ codes "theory") e m)
    (subst (λ (x : String Global). string_bytes x ≢ codes "gen") e o)

-- `check`

alone_wrong : (w : List ℕ) → w ≢ codes "replay" → CanGoOn (w ∷ []) → IsFirstWrong (w ∷ []) 2
alone_wrong w n g = record {
  before = 1;
  is_next = omega arith;
  within = omega arith;
  right = g;
  wrong = λ h. absurd (omega arith);
  no_plan = λ command numbers p. (let f = one_file_is w [] command numbers n p in let k = f.1 in cc);
}

pub no_file : (ws : List (String Global)) → length ws ≡ 1 → BeginsWith (codes "check") (texts ws) → IsFirstWrong (texts ws) 2
no_file [] l b = absurd (omega arith)
no_file (v ∷ []) l b =
    let e = first_is (codes "check") (string_bytes v) [] b in
    alone_wrong (string_bytes v) (not_replay (string_bytes v) (codes "check") e check_or_replay) (go_on_from_check (string_bytes v) e)
no_file (v ∷ u ∷ ws) l b = absurd (omega arith)

option_wrong : (w f : List ℕ) (rest : List (List ℕ)) → w ≡ codes "check" → IsOption f → IsFirstWrong (w ∷ f ∷ rest) 2
option_wrong w f rest e o = record {
  before = 1;
  is_next = omega arith;
  within = omega arith;
  right = go_on_from_check w e;
  wrong = λ h g. refused (f ∷ g.more) g.command g.numbers f g.more refl g.plan;
  no_plan = λ command numbers p. refused (f ∷ rest) command numbers f rest refl p;
}
  where
    refused : (behind : List (List ℕ)) (command : Command) (numbers : List ℕ) (g : List ℕ) (more : List (List ℕ)) → behind ≡ f ∷ more → HasPlan (w ∷ behind) command numbers → ⊥
    refused behind command numbers g more i p =
        let k = checked_file_is w behind command numbers e p in
        let same : f ≡ k.0 = (let a = k.1 in cc) in
        k.2 (subst IsOption same o)

pub option_for_file :
    (ws : List (String Global)) (f : String Global) → 2 ≤ length ws → BeginsWith (codes "check") (texts ws) → f ≡ get_or ws 1 f → IsOption (string_bytes f)
    → IsFirstWrong (texts ws) 2
option_for_file [] f l b i o = absurd (omega arith)
option_for_file (v ∷ []) f l b i o = absurd (omega arith)
option_for_file (v ∷ u ∷ ws) f l b i o =
    option_wrong (string_bytes v) (string_bytes u) (texts ws) (first_is (codes "check") (string_bytes v) (string_bytes u ∷ texts ws) b) (subst (λ (x : String Global). IsOption (string_bytes x)) i o)

surplus_wrong : (w f g : List ℕ) (rest : List (List ℕ)) → w ≢ codes "replay" → CanGoOn (w ∷ f ∷ []) → IsFirstWrong (w ∷ f ∷ g ∷ rest) 3
surplus_wrong w f g rest n r = record {
  before = 2;
  is_next = omega arith;
  within = omega arith;
  right = r;
  wrong = λ h k. (let p = one_file_is w (f ∷ g ∷ k.more) k.command k.numbers n k.plan in let q = p.1 in cc);
  no_plan = λ command numbers p. (let q = one_file_is w (f ∷ g ∷ rest) command numbers n p in let k = q.1 in cc);
}

pub surplus : (ws : List (String Global)) (f : String Global) → 3 ≤ length ws → BeginsWith (codes "check") (texts ws) → f ≡ get_or ws 1 f → ¬ IsOption (string_bytes f) → IsFirstWrong (texts ws) 3
surplus [] f l b i o = absurd (omega arith)
surplus (v ∷ []) f l b i o = absurd (omega arith)
surplus (v ∷ u ∷ []) f l b i o = absurd (omega arith)
surplus (v ∷ u ∷ t ∷ ws) f l b i o =
    surplus_wrong (string_bytes v) (string_bytes u) (string_bytes t) (texts ws)
    (not_replay (string_bytes v) (codes "check") (first_is (codes "check") (string_bytes v) (string_bytes u ∷ string_bytes t ∷ texts ws) b) check_or_replay)
    (go_on_from_file (string_bytes v) (string_bytes u) (first_is (codes "check") (string_bytes v) (string_bytes u ∷ string_bytes t ∷ texts ws) b)
    (subst (λ (x : String Global). ¬ IsOption (string_bytes x)) i o))

pub asks : (ws : List (String Global)) (f : String Global) → length ws ≡ 2 → BeginsWith (codes "check") (texts ws) → f ≡ get_or ws 1 f → ¬ IsOption (string_bytes f) → AsksWith (texts ws) Check None 0
asks [] f l b i o = absurd (omega arith)
asks (v ∷ []) f l b i o = absurd (omega arith)
asks (v ∷ u ∷ []) f l b i o =
    let c : string_bytes v ≡ codes "check" = first_is (codes "check") (string_bytes v) (string_bytes u ∷ []) b in
    record {
      asks = record { file = string_bytes u; all = ap (λ x. x ∷ string_bytes u ∷ []) c; no_option = subst (λ (x : String Global). ¬ IsOption (string_bytes x)) i o };
      model_is = refl;
      number_is = refl;
    }
asks (v ∷ u ∷ t ∷ ws) f l b i o = absurd (omega arith)

-- `theory`

pub no_theory_file : (ws : List (String Global)) → length ws ≡ 1 → BeginsWith (codes "theory") (texts ws) → IsFirstWrong (texts ws) 2
no_theory_file [] l b = absurd (omega arith)
no_theory_file (v ∷ []) l b =
    let e = first_is (codes "theory") (string_bytes v) [] b in
    alone_wrong (string_bytes v) (not_replay (string_bytes v) (codes "theory") e theory_or_replay) (go_on_from_theory (string_bytes v) e)
no_theory_file (v ∷ u ∷ ws) l b = absurd (omega arith)

pub theory_surplus : (ws : List (String Global)) → 3 ≤ length ws → BeginsWith (codes "theory") (texts ws) → IsFirstWrong (texts ws) 3
theory_surplus [] l b = absurd (omega arith)
theory_surplus (v ∷ []) l b = absurd (omega arith)
theory_surplus (v ∷ u ∷ []) l b = absurd (omega arith)
theory_surplus (v ∷ u ∷ t ∷ ws) l b =
    surplus_wrong (string_bytes v) (string_bytes u) (string_bytes t) (texts ws)
    (not_replay (string_bytes v) (codes "theory") (first_is (codes "theory") (string_bytes v) (string_bytes u ∷ string_bytes t ∷ texts ws) b) theory_or_replay)
    (go_on_from_theory_file (string_bytes v) (string_bytes u) (first_is (codes "theory") (string_bytes v) (string_bytes u ∷ string_bytes t ∷ texts ws) b))

pub asks_for_theory : (ws : List (String Global)) → length ws ≡ 2 → BeginsWith (codes "theory") (texts ws) → AsksWith (texts ws) Theory None 0
asks_for_theory [] l b = absurd (omega arith)
asks_for_theory (v ∷ []) l b = absurd (omega arith)
asks_for_theory (v ∷ u ∷ []) l b =
    record {
      asks = record { file = string_bytes u; all = ap (λ x. x ∷ string_bytes u ∷ []) (first_is (codes "theory") (string_bytes v) (string_bytes u ∷ []) b) };
      model_is = refl;
      number_is = refl;
    }
asks_for_theory (v ∷ u ∷ t ∷ ws) l b = absurd (omega arith)

-- `gen`

pub no_number : (ws : List (String Global)) → length ws ≡ 1 → BeginsWith (codes "gen") (texts ws) → IsFirstWrong (texts ws) 2
no_number [] l b = absurd (omega arith)
no_number (v ∷ []) l b =
    let e = first_is (codes "gen") (string_bytes v) [] b in
    alone_wrong (string_bytes v) (not_replay (string_bytes v) (codes "gen") e gen_or_replay) (go_on_from_gen (string_bytes v) e)
no_number (v ∷ u ∷ ws) l b = absurd (omega arith)

abbrev IsUnmade : List ℕ → Type 0
IsUnmade f = (n : ℕ) → n ≤ 87 → f ≢ decimal n

number_wrong : (w f : List ℕ) (rest : List (List ℕ)) → w ≡ codes "gen" → IsUnmade f → IsFirstWrong (w ∷ f ∷ rest) 2
number_wrong w f rest e o = record {
  before = 1;
  is_next = omega arith;
  within = omega arith;
  right = go_on_from_gen w e;
  wrong = λ h g. (let k = made_number_is w f g.more g.command g.numbers e g.plan in o k.0 k.1.0 k.1.1);
  no_plan = λ command numbers p. (let k = made_number_is w f rest command numbers e p in o k.0 k.1.0 k.1.1);
}

pub unmade : (ws : List (String Global)) (f : String Global) → 2 ≤ length ws → BeginsWith (codes "gen") (texts ws) → f ≡ get_or ws 1 f → IsUnmade (string_bytes f) → IsFirstWrong (texts ws) 2
unmade [] f l b i o = absurd (omega arith)
unmade (v ∷ []) f l b i o = absurd (omega arith)
unmade (v ∷ u ∷ ws) f l b i o =
    number_wrong (string_bytes v) (string_bytes u) (texts ws) (first_is (codes "gen") (string_bytes v) (string_bytes u ∷ texts ws) b)
    (subst (λ (x : String Global). IsUnmade (string_bytes x)) i o)

pub number_surplus :
    (ws : List (String Global)) (f : String Global) (number : ℕ) → 3 ≤ length ws → BeginsWith (codes "gen") (texts ws) → f ≡ get_or ws 1 f → IsMade (string_bytes f) number
    → IsFirstWrong (texts ws) 3
number_surplus [] f number l b i o = absurd (omega arith)
number_surplus (v ∷ []) f number l b i o = absurd (omega arith)
number_surplus (v ∷ u ∷ []) f number l b i o = absurd (omega arith)
number_surplus (v ∷ u ∷ t ∷ ws) f number l b i o =
    let made = subst (λ (x : String Global). IsMade (string_bytes x) number) i o in
    surplus_wrong (string_bytes v) (string_bytes u) (string_bytes t) (texts ws)
    (not_replay (string_bytes v) (codes "gen") (first_is (codes "gen") (string_bytes v) (string_bytes u ∷ string_bytes t ∷ texts ws) b) gen_or_replay)
    (go_on_from_number (string_bytes v) (string_bytes u) number (first_is (codes "gen") (string_bytes v) (string_bytes u ∷ string_bytes t ∷ texts ws) b) made.0 made.1)

pub asks_for_number :
    (ws : List (String Global)) (f : String Global) (number : ℕ) → length ws ≡ 2 → BeginsWith (codes "gen") (texts ws) → f ≡ get_or ws 1 f → IsMade (string_bytes f) number
    → AsksWith (texts ws) Gen None number
asks_for_number [] f number l b i o = absurd (omega arith)
asks_for_number (v ∷ []) f number l b i o = absurd (omega arith)
asks_for_number (v ∷ u ∷ []) f number l b i o =
    let made = subst (λ (x : String Global). IsMade (string_bytes x) number) i o in
    let first = first_is (codes "gen") (string_bytes v) (string_bytes u ∷ []) b in
    let asks : AsksToGenerate (string_bytes v ∷ string_bytes u ∷ []) number = record { made = made.0; all = (let k = made.1 in cc) } in
    record { asks = (number, asks); model_is = refl; number_is = asks }
asks_for_number (v ∷ u ∷ t ∷ ws) f number l b i o = absurd (omega arith)

word_there : (words : List (String Global)) (n : ℕ) (word : String Global) → slice_get words n ≡ Some word → word_at (texts words) (suc n) ≡ string_bytes word
word_there words n word e = ap (λ x. unwrap_or x []) (slice_get-map (λ w. string_bytes w) words n ∙ ap (λ x. option_map (λ w. string_bytes w) x) e)

pub word_at_index :
    (words : List (String Global)) (number : ℕ) (word : String Global) → 0 < number → number - 1 < length words → word ≡ get_or words (number - 1) word
    → word_at (texts words) number ≡ string_bytes word
word_at_index words zero word above within e = absurd (omega arith)
word_at_index words (suc n) word above within e =
    let same : suc n - 1 ≡ n = omega arith in
    let found : slice_get words (suc n - 1) ≡ Some word = slice_get_read words (length words) (suc n - 1) word refl within e in
    word_there words n word (rw same at found)

pub word_past : (words : List (String Global)) (number : ℕ) → 0 < number → length words ≤ number - 1 → word_at (texts words) number ≡ []
word_past words zero above past = refl
word_past words (suc n) above past =
    let within : length words ≤ n = omega arith in
    ap (λ x. unwrap_or x []) (slice_get-map (λ w. string_bytes w) words n ∙ ap (λ x. option_map (λ w. string_bytes w) x) (slice_get_past words n within))

pub ruleset for_word_of = (word_at_index, word_past)

-- words that ask for a command with an option have a plan
pub planned : (words : List (List ℕ)) (command : Command) (model : Option CommModel) (number : ℕ) → AsksWith words command model number → HasPlan words command (plan_numbers command model)
planned words Check model number h = (h.asks, refl)
planned words Replay model number h = ((model, h.model_is), (model, h.model_is, refl))
planned words Theory model number h = (h.asks, refl)
planned words Gen model number h = (h.asks, refl)

pub planned_so : (words : List (List ℕ)) (command : Command) (model : Option CommModel) (number : ℕ) (numbers : List ℕ) → AsksWith words command model number → numbers ≡ plan_numbers command model → HasPlan words command numbers
planned_so words command model number numbers h e = subst (HasPlan words command) (sym e) (planned words command model number h)

pub unplanned : (words : List (List ℕ)) (command : Command) (model : Option CommModel) (number : ℕ) → AsksWith words command model number → RefusesWords words Memory
unplanned words command model number h = (command, plan_numbers command model, planned words command model number h)

pub ruleset for_plan = (planned_so, unplanned)
