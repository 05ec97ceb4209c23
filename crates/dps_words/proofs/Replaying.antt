-- Words behind `replay`.
use Rattle.std.proofs.Common.{◌≡◌, ◌≢◌, ℕ, ◌+◌, ◌≤◌, List, [], ◌∷◌, ◌++◌, Option, Some, None, length, get_or, refl, sym, ◌∙◌, ap, subst, arith, String, string_bytes}
use Rattle.std.specs.Prelude.{codes}
use Rattle.std.specs.declared.alloc.Global.{Global}
use Rattle.dps_process.specs.declared.model.CommModel.{CommModel}
use Rattle.dps_process.specs.declared.model.CommModel.TheVariants.{Private, Classic}
use Rattle.dps_words.specs.declared.command.Command.{Command}
use Rattle.dps_words.specs.declared.command.Command.TheVariants.{Check, Replay, Theory, Gen}
use Rattle.dps_words.specs.Words.{texts, IsOption, model_word, replay_front, replay_numbers, AsksToReplay, AsksWith, HasPlan, BeginsWith, BeginsWithOption, BeginsWithModel, CanGoOn, IsFirstWrong}
use Rattle.dps_words.proofs.Planning.{some_file_is_none, check_or_replay, replay_or_theory, replay_or_gen, check_is, theory_is, gen_is}

pub no_model : (word : List ℕ) → word ≢ codes "private" → word ≢ codes "classic" → (model : CommModel) → word ≢ model_word model
no_model word n m Private e = n e
no_model word n m Classic e = m e

-- a word that is not the option's name stands behind `replay`, where no option was given
abbrev pub IsFree : Option CommModel → List (List ℕ) → Type 0
IsFree None [] = Unit {0}
IsFree None (w ∷ rest) = w ≢ codes "--semantics"
IsFree (Some model) rest = Unit {0}

semantics_is_option : IsOption (codes "--semantics")
semantics_is_option = (codes "semantics", refl)

-- FILE and TRACE behind the option
pub record AreTwo (rest : List (List ℕ)) : Type 0 where
  pub file : List ℕ
  pub trace : List ℕ
  pub all : rest ≡ file ∷ trace ∷ []
  pub no_option : ¬ IsOption file

-- what asks to replay has two words behind the option
replayed : (model other : Option CommModel) (rest : List (List ℕ)) (f t : List ℕ) → IsFree model rest → replay_front model ++ rest ≡ replay_front other ++ (f ∷ t ∷ []) → ¬ IsOption f → AreTwo rest
replayed None None rest f t free e n = record { file = f; trace = t; all = cc; no_option = n }
replayed None (Some o) [] f t free e n = cc
replayed None (Some o) (w ∷ rest) f t free e n = absurd (free (let k : w ≡ codes "--semantics" = cc in k))
replayed (Some m) None rest f t free e n = absurd (n (subst IsOption (let k : codes "--semantics" ≡ f = cc in k) semantics_is_option))
replayed (Some m) (Some o) rest f t free e n = record { file = f; trace = t; all = cc; no_option = n }

front_is : (model : Option CommModel) (rest : List (List ℕ)) → (tail : List (List ℕ)) × (replay_front model ++ rest ≡ codes "replay" ∷ tail)
front_is None rest = (rest, refl)
front_is (Some m) rest = (codes "--semantics" ∷ model_word m ∷ rest, refl)

two_behind : (model : Option CommModel) (rest : List (List ℕ)) (command : Command) (numbers : List ℕ) → IsFree model rest → HasPlan (replay_front model ++ rest) command numbers → AreTwo rest
two_behind model rest Check numbers free p =
    let f = front_is model rest in
    absurd (check_or_replay (sym (check_is (codes "replay") f.0 numbers (subst (λ ws. HasPlan ws Check numbers) f.1 p))))
two_behind model rest Replay numbers free p = replayed model p.0.0 rest p.0.1.file p.0.1.trace free p.0.1.all p.0.1.no_option
two_behind model rest Theory numbers free p =
    let f = front_is model rest in
    absurd (replay_or_theory (theory_is (codes "replay") f.0 numbers (subst (λ ws. HasPlan ws Theory numbers) f.1 p)))
two_behind model rest Gen numbers free p =
    let f = front_is model rest in
    absurd (replay_or_gen (gen_is (codes "replay") f.0 numbers (subst (λ ws. HasPlan ws Gen numbers) f.1 p)))

asks_with : (model : Option CommModel) (f t : List ℕ) → ¬ IsOption f → AsksToReplay (replay_front model ++ (f ∷ t ∷ [])) model
asks_with model f t n = record { file = f; trace = t; all = refl; no_option = n }

plan_with : (model : Option CommModel) (f t : List ℕ) → ¬ IsOption f → HasPlan (replay_front model ++ (f ∷ t ∷ [])) Replay (replay_numbers model)
plan_with model f t n = ((model, asks_with model f t n), (model, asks_with model f t n, refl))

pub asks_to_replay : (model : Option CommModel) (words : List (List ℕ)) (f t : List ℕ) → words ≡ replay_front model ++ (f ∷ t ∷ []) → ¬ IsOption f → AsksWith words Replay model 0
asks_to_replay model words f t e n =
    subst (λ ws. AsksWith ws Replay model 0) (sym e) (record { asks = (model, asks_with model f t n); model_is = asks_with model f t n; number_is = refl })

-- the front alone can go on, and with a file
go_on : (model : Option CommModel) → CanGoOn (replay_front model)
go_on model = record { more = codes "F" ∷ codes "T" ∷ []; command = Replay; numbers = replay_numbers model; plan = plan_with model (codes "F") (codes "T") some_file_is_none }

go_on_with_file : (model : Option CommModel) (f : List ℕ) → ¬ IsOption f → CanGoOn (replay_front model ++ (f ∷ []))
go_on_with_file None f n = record { more = codes "T" ∷ []; command = Replay; numbers = replay_numbers None; plan = plan_with None f (codes "T") n }
go_on_with_file (Some m) f n = record { more = codes "T" ∷ []; command = Replay; numbers = replay_numbers (Some m); plan = plan_with (Some m) f (codes "T") n }

go_on_with_both : (model : Option CommModel) (f t : List ℕ) → ¬ IsOption f → CanGoOn (replay_front model ++ (f ∷ t ∷ []))
go_on_with_both None f t n = record { more = []; command = Replay; numbers = replay_numbers None; plan = plan_with None f t n }
go_on_with_both (Some m) f t n = record { more = []; command = Replay; numbers = replay_numbers (Some m); plan = plan_with (Some m) f t n }

go_on_with_name : CanGoOn (codes "replay" ∷ codes "--semantics" ∷ [])
go_on_with_name =
    record { more = codes "private" ∷ codes "F" ∷ codes "T" ∷ []; command = Replay; numbers = replay_numbers (Some Private); plan = plan_with (Some Private) (codes "F") (codes "T") some_file_is_none }

-- the number of the first word behind the option
abbrev pub front_length : Option CommModel → ℕ
front_length None = 1
front_length (Some model) = 3

-- nothing is behind the option
pub none_behind : (model : Option CommModel) (words : List (List ℕ)) → words ≡ replay_front model ++ [] → IsFirstWrong words (front_length model + 1)
none_behind model words e = subst (λ ws. IsFirstWrong ws (front_length model + 1)) (sym e) (by_model model)
  where
    no_two : AreTwo [] → ⊥
    no_two two = let k = two.all in cc

    by_model : (model : Option CommModel) → IsFirstWrong (replay_front model ++ []) (front_length model + 1)
    by_model None = record {
      before = 1;
      is_next = omega arith;
      within = omega arith;
      right = go_on None;
      wrong = λ h. absurd (omega arith);
      no_plan = λ command numbers p. no_two (two_behind None [] command numbers tt p);
    }
    by_model (Some m) = record {
      before = 3;
      is_next = omega arith;
      within = omega arith;
      right = go_on (Some m);
      wrong = λ h. absurd (omega arith);
      no_plan = λ command numbers p. no_two (two_behind (Some m) [] command numbers tt p);
    }

not_two_with_option : (f : List ℕ) (rest : List (List ℕ)) → IsOption f → AreTwo (f ∷ rest) → ⊥
not_two_with_option f rest o two = two.no_option (subst IsOption (let k = two.all in let same : f ≡ two.file = cc in same) o)

-- an option stands for the file
pub option_behind : (model : Option CommModel) (words : List (List ℕ)) (f : List ℕ) (rest : List (List ℕ)) → words ≡ replay_front model ++ (f ∷ rest) → IsFree model (f ∷ rest) → IsOption f → IsFirstWrong words (front_length model + 1)
option_behind model words f rest e free o = subst (λ ws. IsFirstWrong ws (front_length model + 1)) (sym e) (by_model model free)
  where
    by_model : (model : Option CommModel) → IsFree model (f ∷ rest) → IsFirstWrong (replay_front model ++ (f ∷ rest)) (front_length model + 1)
    by_model None free = record {
      before = 1;
      is_next = omega arith;
      within = omega arith;
      right = go_on None;
      wrong = λ h g. not_two_with_option f g.more o (two_behind None (f ∷ g.more) g.command g.numbers free g.plan);
      no_plan = λ command numbers p. not_two_with_option f rest o (two_behind None (f ∷ rest) command numbers free p);
    }
    by_model (Some m) free = record {
      before = 3;
      is_next = omega arith;
      within = omega arith;
      right = go_on (Some m);
      wrong = λ h g. not_two_with_option f g.more o (two_behind (Some m) (f ∷ g.more) g.command g.numbers tt g.plan);
      no_plan = λ command numbers p. not_two_with_option f rest o (two_behind (Some m) (f ∷ rest) command numbers tt p);
    }

not_one : (f : List ℕ) → AreTwo (f ∷ []) → ⊥
not_one f two = let k = two.all in cc

-- only the file is there
pub one_behind : (model : Option CommModel) (words : List (List ℕ)) (f : List ℕ) → words ≡ replay_front model ++ (f ∷ []) → IsFree model (f ∷ []) → ¬ IsOption f → IsFirstWrong words (front_length model + 2)
one_behind model words f e free n = subst (λ ws. IsFirstWrong ws (front_length model + 2)) (sym e) (by_model model free)
  where
    by_model : (model : Option CommModel) → IsFree model (f ∷ []) → IsFirstWrong (replay_front model ++ (f ∷ [])) (front_length model + 2)
    by_model None free = record {
      before = 2;
      is_next = omega arith;
      within = omega arith;
      right = go_on_with_file None f n;
      wrong = λ h. absurd (omega arith);
      no_plan = λ command numbers p. not_one f (two_behind None (f ∷ []) command numbers free p);
    }
    by_model (Some m) free = record {
      before = 4;
      is_next = omega arith;
      within = omega arith;
      right = go_on_with_file (Some m) f n;
      wrong = λ h. absurd (omega arith);
      no_plan = λ command numbers p. not_one f (two_behind (Some m) (f ∷ []) command numbers tt p);
    }

not_three : (f t g : List ℕ) (rest : List (List ℕ)) → AreTwo (f ∷ t ∷ g ∷ rest) → ⊥
not_three f t g rest two = let k = two.all in cc

-- more than two are there
pub three_behind :
    (model : Option CommModel) (words : List (List ℕ)) (f t g : List ℕ) (rest : List (List ℕ)) → words ≡ replay_front model ++ (f ∷ t ∷ g ∷ rest) → IsFree model (f ∷ t ∷ g ∷ rest) → ¬ IsOption f
    → IsFirstWrong words (front_length model + 3)
three_behind model words f t g rest e free n = subst (λ ws. IsFirstWrong ws (front_length model + 3)) (sym e) (by_model model free)
  where
    by_model : (model : Option CommModel) → IsFree model (f ∷ t ∷ g ∷ rest) → IsFirstWrong (replay_front model ++ (f ∷ t ∷ g ∷ rest)) (front_length model + 3)
    by_model None free = record {
      before = 3;
      is_next = omega arith;
      within = omega arith;
      right = go_on_with_both None f t n;
      wrong = λ h k. not_three f t g k.more (two_behind None (f ∷ t ∷ g ∷ k.more) k.command k.numbers free k.plan);
      no_plan = λ command numbers p. not_three f t g rest (two_behind None (f ∷ t ∷ g ∷ rest) command numbers free p);
    }
    by_model (Some m) free = record {
      before = 5;
      is_next = omega arith;
      within = omega arith;
      right = go_on_with_both (Some m) f t n;
      wrong = λ h k. not_three f t g k.more (two_behind (Some m) (f ∷ t ∷ g ∷ k.more) k.command k.numbers tt k.plan);
      no_plan = λ command numbers p. not_three f t g rest (two_behind (Some m) (f ∷ t ∷ g ∷ rest) command numbers tt p);
    }

-- words as the code has them

first_is : (word v : List ℕ) (vs : List (List ℕ)) → BeginsWith word (v ∷ vs) → v ≡ word
first_is word v vs b = let e = b.all in cc

pub no_replay_file : (ws : List (String Global)) → length ws ≡ 1 → BeginsWith (codes "replay") (texts ws) → IsFirstWrong (texts ws) 2
no_replay_file [] l b = absurd (omega arith)
no_replay_file (v ∷ []) l b = none_behind None (string_bytes v ∷ []) (ap (λ x. x ∷ []) (first_is (codes "replay") (string_bytes v) [] b))
no_replay_file (v ∷ u ∷ ws) l b = absurd (omega arith)

pub replay_option :
    (ws : List (String Global)) (f g : String Global) → 2 ≤ length ws → BeginsWith (codes "replay") (texts ws) → f ≡ get_or ws 1 f → g ≡ get_or ws 1 g → string_bytes g ≢ codes "--semantics" → IsOption (string_bytes f)
    → IsFirstWrong (texts ws) 2
replay_option [] f g l b i j n o = absurd (omega arith)
replay_option (v ∷ []) f g l b i j n o = absurd (omega arith)
replay_option (v ∷ u ∷ ws) f g l b i j n o =
    option_behind None (string_bytes v ∷ string_bytes u ∷ texts ws) (string_bytes u) (texts ws)
    (ap (λ x. x ∷ string_bytes u ∷ texts ws) (first_is (codes "replay") (string_bytes v) (string_bytes u ∷ texts ws) b))
    (subst (λ (x : String Global). string_bytes x ≢ codes "--semantics") j n) (subst (λ (x : String Global). IsOption (string_bytes x)) i o)

pub no_trace_word :
    (ws : List (String Global)) (f g : String Global) → length ws ≡ 2 → BeginsWith (codes "replay") (texts ws) → f ≡ get_or ws 1 f → g ≡ get_or ws 1 g → string_bytes g ≢ codes "--semantics" → ¬ IsOption (string_bytes f)
    → IsFirstWrong (texts ws) 3
no_trace_word [] f g l b i j n o = absurd (omega arith)
no_trace_word (v ∷ []) f g l b i j n o = absurd (omega arith)
no_trace_word (v ∷ u ∷ []) f g l b i j n o =
    one_behind None (string_bytes v ∷ string_bytes u ∷ []) (string_bytes u) (ap (λ x. x ∷ string_bytes u ∷ []) (first_is (codes "replay") (string_bytes v) (string_bytes u ∷ []) b))
    (subst (λ (x : String Global). string_bytes x ≢ codes "--semantics") j n) (subst (λ (x : String Global). ¬ IsOption (string_bytes x)) i o)
no_trace_word (v ∷ u ∷ t ∷ ws) f g l b i j n o = absurd (omega arith)

pub replay_asks :
    (ws : List (String Global)) (f : String Global) → length ws ≡ 3 → BeginsWith (codes "replay") (texts ws) → f ≡ get_or ws 1 f → ¬ IsOption (string_bytes f) → AsksWith (texts ws) Replay None 0
replay_asks [] f l b i o = absurd (omega arith)
replay_asks (v ∷ []) f l b i o = absurd (omega arith)
replay_asks (v ∷ u ∷ []) f l b i o = absurd (omega arith)
replay_asks (v ∷ u ∷ t ∷ []) f l b i o =
    asks_to_replay None (string_bytes v ∷ string_bytes u ∷ string_bytes t ∷ []) (string_bytes u) (string_bytes t)
    (ap (λ x. x ∷ string_bytes u ∷ string_bytes t ∷ []) (first_is (codes "replay") (string_bytes v) (string_bytes u ∷ string_bytes t ∷ []) b))
    (subst (λ (x : String Global). ¬ IsOption (string_bytes x)) i o)
replay_asks (v ∷ u ∷ t ∷ s ∷ ws) f l b i o = absurd (omega arith)

pub replay_surplus :
    (ws : List (String Global)) (f g : String Global) → 4 ≤ length ws → BeginsWith (codes "replay") (texts ws) → f ≡ get_or ws 1 f → g ≡ get_or ws 1 g → string_bytes g ≢ codes "--semantics" → ¬ IsOption (string_bytes f)
    → IsFirstWrong (texts ws) 4
replay_surplus [] f g l b i j n o = absurd (omega arith)
replay_surplus (v ∷ []) f g l b i j n o = absurd (omega arith)
replay_surplus (v ∷ u ∷ []) f g l b i j n o = absurd (omega arith)
replay_surplus (v ∷ u ∷ t ∷ []) f g l b i j n o = absurd (omega arith)
replay_surplus (v ∷ u ∷ t ∷ s ∷ ws) f g l b i j n o =
    three_behind None (string_bytes v ∷ string_bytes u ∷ string_bytes t ∷ string_bytes s ∷ texts ws) (string_bytes u) (string_bytes t) (string_bytes s) (texts ws)
    (ap (λ x. x ∷ string_bytes u ∷ string_bytes t ∷ string_bytes s ∷ texts ws) (first_is (codes "replay") (string_bytes v) (string_bytes u ∷ string_bytes t ∷ string_bytes s ∷ texts ws) b))
    (subst (λ (x : String Global). string_bytes x ≢ codes "--semantics") j n) (subst (λ (x : String Global). ¬ IsOption (string_bytes x)) i o)

pub begins_with_option :
    (ws : List (String Global)) (f : String Global) → 2 ≤ length ws → BeginsWith (codes "replay") (texts ws) → f ≡ get_or ws 1 f → string_bytes f ≡ codes "--semantics" → BeginsWithOption (texts ws)
begins_with_option [] f l b i e = absurd (omega arith)
begins_with_option (v ∷ []) f l b i e = absurd (omega arith)
begins_with_option (v ∷ u ∷ ws) f l b i e =
    let first = first_is (codes "replay") (string_bytes v) (string_bytes u ∷ texts ws) b in
    let second : string_bytes u ≡ codes "--semantics" = subst (λ (x : String Global). string_bytes x ≡ codes "--semantics") i e in
    record { rest = texts ws; all = ap (λ x. x ∷ string_bytes u ∷ texts ws) first ∙ ap (λ x. codes "replay" ∷ x ∷ texts ws) second }

-- the option names a model

pub record IsNamed (rest : List (List ℕ)) : Type 0 where
  pub model : CommModel
  pub more : List (List ℕ)
  pub all : rest ≡ model_word model ∷ more

named_by : (other : Option CommModel) (rest : List (List ℕ)) (f t : List ℕ) → codes "replay" ∷ codes "--semantics" ∷ rest ≡ replay_front other ++ (f ∷ t ∷ []) → ¬ IsOption f → IsNamed rest
named_by None rest f t e n = absurd (n (subst IsOption (let k : codes "--semantics" ≡ f = cc in k) semantics_is_option))
named_by (Some m) rest f t e n = record { model = m; more = f ∷ t ∷ []; all = cc }

named_behind : (rest : List (List ℕ)) (command : Command) (numbers : List ℕ) → HasPlan (codes "replay" ∷ codes "--semantics" ∷ rest) command numbers → IsNamed rest
named_behind rest Check numbers p = absurd (check_or_replay (sym (check_is (codes "replay") (codes "--semantics" ∷ rest) numbers p)))
named_behind rest Replay numbers p = named_by p.0.0 rest p.0.1.file p.0.1.trace p.0.1.all p.0.1.no_option
named_behind rest Theory numbers p = absurd (replay_or_theory (theory_is (codes "replay") (codes "--semantics" ∷ rest) numbers p))
named_behind rest Gen numbers p = absurd (replay_or_gen (gen_is (codes "replay") (codes "--semantics" ∷ rest) numbers p))

no_name_wrong : (words : List (List ℕ)) → words ≡ codes "replay" ∷ codes "--semantics" ∷ [] → IsFirstWrong words 3
no_name_wrong words e =
    subst (λ ws. IsFirstWrong ws 3) (sym e) (
    record {
      before = 2;
      is_next = omega arith;
      within = omega arith;
      right = go_on_with_name;
      wrong = λ h. absurd (omega arith);
      no_plan = λ command numbers p. (let n = named_behind [] command numbers p in let k = n.all in cc);
    })

name_wrong : (words : List (List ℕ)) (w : List ℕ) (rest : List (List ℕ)) → words ≡ codes "replay" ∷ codes "--semantics" ∷ w ∷ rest → ((model : CommModel) → w ≢ model_word model) → IsFirstWrong words 3
name_wrong words w rest e n =
    subst (λ ws. IsFirstWrong ws 3) (sym e) (
    record {
      before = 2;
      is_next = omega arith;
      within = omega arith;
      right = go_on_with_name;
      wrong = λ h g. not_named g.more (named_behind (w ∷ g.more) g.command g.numbers g.plan);
      no_plan = λ command numbers p. not_named rest (named_behind (w ∷ rest) command numbers p);
    })
  where
    not_named : (more : List (List ℕ)) → IsNamed (w ∷ more) → ⊥
    not_named more k = let e = k.all in n k.model (let same : w ≡ model_word k.model = cc in same)

pub few_for_option : (ws : List (String Global)) → length ws ≤ 1 → BeginsWithOption (texts ws) → ⊥
few_for_option [] l b = let e = b.all in cc
few_for_option (v ∷ []) l b = let e = b.all in cc
few_for_option (v ∷ u ∷ ws) l b = omega arith

pub option_alone : (ws : List (String Global)) → length ws ≡ 2 → BeginsWithOption (texts ws) → IsFirstWrong (texts ws) 3
option_alone [] l b = absurd (omega arith)
option_alone (v ∷ []) l b = absurd (omega arith)
option_alone (v ∷ u ∷ []) l b = no_name_wrong (string_bytes v ∷ string_bytes u ∷ []) (let e = b.all in cc)
option_alone (v ∷ u ∷ t ∷ ws) l b = absurd (omega arith)

pub unnamed_model :
    (ws : List (String Global)) (f : String Global) → 3 ≤ length ws → BeginsWithOption (texts ws) → f ≡ get_or ws 2 f → ((model : CommModel) → string_bytes f ≢ model_word model)
    → IsFirstWrong (texts ws) 3
unnamed_model [] f l b i n = absurd (omega arith)
unnamed_model (v ∷ []) f l b i n = absurd (omega arith)
unnamed_model (v ∷ u ∷ []) f l b i n = absurd (omega arith)
unnamed_model (v ∷ u ∷ t ∷ ws) f l b i n =
    name_wrong (string_bytes v ∷ string_bytes u ∷ string_bytes t ∷ texts ws) (string_bytes t) (texts ws) (let e = b.all in cc)
    (subst (λ (x : String Global). (model : CommModel) → string_bytes x ≢ model_word model) i n)

pub begins_with_model :
    (ws : List (String Global)) (f : String Global) (model : CommModel) → 3 ≤ length ws → BeginsWithOption (texts ws) → f ≡ get_or ws 2 f → string_bytes f ≡ model_word model
    → BeginsWithModel model (texts ws)
begins_with_model [] f model l b i e = absurd (omega arith)
begins_with_model (v ∷ []) f model l b i e = absurd (omega arith)
begins_with_model (v ∷ u ∷ []) f model l b i e = absurd (omega arith)
begins_with_model (v ∷ u ∷ t ∷ ws) f model l b i e =
    let third : string_bytes t ≡ model_word model = subst (λ (x : String Global). string_bytes x ≡ model_word model) i e in
    record { rest = texts ws; all = (let k = b.all in cc) }

-- behind the option

pub few_for_model : (model : CommModel) (ws : List (String Global)) → length ws ≤ 2 → BeginsWithModel model (texts ws) → ⊥
few_for_model model [] l b = let e = b.all in cc
few_for_model model (v ∷ []) l b = let e = b.all in cc
few_for_model model (v ∷ u ∷ []) l b = let e = b.all in cc
few_for_model model (v ∷ u ∷ t ∷ ws) l b = omega arith

front_of : (model : CommModel) (v u t : List ℕ) (rest : List (List ℕ)) → BeginsWithModel model (v ∷ u ∷ t ∷ rest) → v ∷ u ∷ t ∷ rest ≡ replay_front (Some model) ++ rest
front_of model v u t rest b = let e = b.all in let same : rest ≡ b.rest = cc in e ∙ ap (λ ws. replay_front (Some model) ++ ws) (sym same)

pub model_alone : (model : CommModel) (ws : List (String Global)) → length ws ≡ 3 → BeginsWithModel model (texts ws) → IsFirstWrong (texts ws) 4
model_alone model [] l b = absurd (omega arith)
model_alone model (v ∷ []) l b = absurd (omega arith)
model_alone model (v ∷ u ∷ []) l b = absurd (omega arith)
model_alone model (v ∷ u ∷ t ∷ []) l b =
    none_behind (Some model) (string_bytes v ∷ string_bytes u ∷ string_bytes t ∷ []) (front_of model (string_bytes v) (string_bytes u) (string_bytes t) [] b)
model_alone model (v ∷ u ∷ t ∷ s ∷ ws) l b = absurd (omega arith)

pub model_option :
    (model : CommModel) (ws : List (String Global)) (f : String Global) → 4 ≤ length ws → BeginsWithModel model (texts ws) → f ≡ get_or ws 3 f → IsOption (string_bytes f) → IsFirstWrong (texts ws) 4
model_option model [] f l b i o = absurd (omega arith)
model_option model (v ∷ []) f l b i o = absurd (omega arith)
model_option model (v ∷ u ∷ []) f l b i o = absurd (omega arith)
model_option model (v ∷ u ∷ t ∷ []) f l b i o = absurd (omega arith)
model_option model (v ∷ u ∷ t ∷ s ∷ ws) f l b i o =
    option_behind (Some model) (string_bytes v ∷ string_bytes u ∷ string_bytes t ∷ string_bytes s ∷ texts ws) (string_bytes s) (texts ws)
    (front_of model (string_bytes v) (string_bytes u) (string_bytes t) (string_bytes s ∷ texts ws) b) tt (subst (λ (x : String Global). IsOption (string_bytes x)) i o)

pub model_file :
    (model : CommModel) (ws : List (String Global)) (f : String Global) → length ws ≡ 4 → BeginsWithModel model (texts ws) → f ≡ get_or ws 3 f → ¬ IsOption (string_bytes f) → IsFirstWrong (texts ws) 5
model_file model [] f l b i o = absurd (omega arith)
model_file model (v ∷ []) f l b i o = absurd (omega arith)
model_file model (v ∷ u ∷ []) f l b i o = absurd (omega arith)
model_file model (v ∷ u ∷ t ∷ []) f l b i o = absurd (omega arith)
model_file model (v ∷ u ∷ t ∷ s ∷ []) f l b i o =
    one_behind (Some model) (string_bytes v ∷ string_bytes u ∷ string_bytes t ∷ string_bytes s ∷ []) (string_bytes s)
    (front_of model (string_bytes v) (string_bytes u) (string_bytes t) (string_bytes s ∷ []) b) tt (subst (λ (x : String Global). ¬ IsOption (string_bytes x)) i o)
model_file model (v ∷ u ∷ t ∷ s ∷ r ∷ ws) f l b i o = absurd (omega arith)

pub model_asks :
    (model : CommModel) (ws : List (String Global)) (f : String Global) → length ws ≡ 5 → BeginsWithModel model (texts ws) → f ≡ get_or ws 3 f → ¬ IsOption (string_bytes f)
    → AsksWith (texts ws) Replay (Some model) 0
model_asks model [] f l b i o = absurd (omega arith)
model_asks model (v ∷ []) f l b i o = absurd (omega arith)
model_asks model (v ∷ u ∷ []) f l b i o = absurd (omega arith)
model_asks model (v ∷ u ∷ t ∷ []) f l b i o = absurd (omega arith)
model_asks model (v ∷ u ∷ t ∷ s ∷ []) f l b i o = absurd (omega arith)
model_asks model (v ∷ u ∷ t ∷ s ∷ r ∷ []) f l b i o =
    asks_to_replay (Some model) (string_bytes v ∷ string_bytes u ∷ string_bytes t ∷ string_bytes s ∷ string_bytes r ∷ []) (string_bytes s) (string_bytes r)
    (front_of model (string_bytes v) (string_bytes u) (string_bytes t) (string_bytes s ∷ string_bytes r ∷ []) b) (subst (λ (x : String Global). ¬ IsOption (string_bytes x)) i o)
model_asks model (v ∷ u ∷ t ∷ s ∷ r ∷ q ∷ ws) f l b i o = absurd (omega arith)

pub model_surplus :
    (model : CommModel) (ws : List (String Global)) (f : String Global) → 6 ≤ length ws → BeginsWithModel model (texts ws) → f ≡ get_or ws 3 f → ¬ IsOption (string_bytes f) → IsFirstWrong (texts ws) 6
model_surplus model [] f l b i o = absurd (omega arith)
model_surplus model (v ∷ []) f l b i o = absurd (omega arith)
model_surplus model (v ∷ u ∷ []) f l b i o = absurd (omega arith)
model_surplus model (v ∷ u ∷ t ∷ []) f l b i o = absurd (omega arith)
model_surplus model (v ∷ u ∷ t ∷ s ∷ []) f l b i o = absurd (omega arith)
model_surplus model (v ∷ u ∷ t ∷ s ∷ r ∷ []) f l b i o = absurd (omega arith)
model_surplus model (v ∷ u ∷ t ∷ s ∷ r ∷ q ∷ ws) f l b i o =
    three_behind (Some model) (string_bytes v ∷ string_bytes u ∷ string_bytes t ∷ string_bytes s ∷ string_bytes r ∷ string_bytes q ∷ texts ws) (string_bytes s) (string_bytes r) (string_bytes q) (texts ws)
    (front_of model (string_bytes v) (string_bytes u) (string_bytes t) (string_bytes s ∷ string_bytes r ∷ string_bytes q ∷ texts ws) b) tt
    (subst (λ (x : String Global). ¬ IsOption (string_bytes x)) i o)
