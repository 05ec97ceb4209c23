-- Each list of words is that of a file, or has a first fault.
use Rattle.std.proofs.Common.{◌≡◌, ℕ, ◌<◌, ◌≤◌, true, false, List, [], ◌∷◌, ◌++◌, Option, Some, None, ◌⊎◌}
use Rattle.std.proofs.Common.{length, take, slice_get, refl, ap, sym, ◌∙◌, subst, inl, inr, arith, zero, suc, append_assoc, append-nil}
use Rattle.dps_lex.specs.declared.vocabulary.FaultKind.{FaultKind}
use Rattle.dps_lex.specs.declared.vocabulary.FaultKind.TheVariants.{UnexpectedToken, UnexpectedEnd, TooDeep}
use Rattle.dps_syntax.specs.declared.grammar.Word.{Word}
use Rattle.dps_syntax.specs.declared.grammar.Production.{Production}
use Rattle.dps_syntax.specs.declared.grammar.More.{More as Option_of}
use Rattle.dps_syntax.specs.declared.grammar.Symbol.{Symbol}
use Rattle.dps_syntax.specs.declared.grammar.Symbol.TheVariants.{Sign, Inner, More, Close}
use Rattle.dps_syntax.specs.declared.grammar.Mark.{Mark}
use Rattle.dps_syntax.specs.declared.grammar.Mark.TheVariants as mark
use Rattle.dps_syntax.specs.Tree.{Parts}
use Rattle.dps_syntax.specs.Grammar.{alternatives, continuation, chosen, begins_all, takes, file}
use Rattle.dps_syntax.specs.Depth.{deepest, AreShallow, IsUnexpected, IsTooDeep, IsFaultAt}
use Rattle.dps_syntax.specs.Marks.{IsShallowWalk}
use Rattle.dps_syntax.specs.Expected.{Turns, Refuses, Accepts}
use Rattle.dps_syntax.specs.Calm.{calm, held}
use Rattle.dps_syntax.specs.LawsOfFiles.{IsShallowFileOf, EachListHasFileOrFault}
use Rattle.dps_syntax.proofs.Walking.{turns_same, turns_again, turns_row, row_stuck, row_end_stuck, turns_taken, turns_left, turns_left_end, turns_close, chosen_is, bool_cases}
use Rattle.dps_syntax.proofs.Calm.{calm_row, calm_taken, calm_behind}
use Rattle.dps_syntax.proofs.Stack.{rank, wait, wait_row, wait_taken}
use Rattle.dps_syntax.proofs.Files.{through, accepts, other_sign, no_sign_at_end, nothing_more, IsExact, exact_first, exact_more, too_deep_of, unexpected_of, cut_short_of, file_end}
use Rattle.dps_syntax.proofs.Trees.{tree_of}

-- what is expected once a sign, the end or nothing may come
data Turned : Option Word → List Symbol → Type 0 where
  at_sign : {next : Option Word} {ss : List Symbol} (k : Word) (new : List Symbol) (made : List Mark) → Turns next ss (Sign k ∷ new) made → calm new ≡ true → Turned next ss
  at_end : {next : Option Word} {ss : List Symbol} (made : List Mark) → Turns next ss [] made → Turned next ss
  refuses : {next : Option Word} {ss : List Symbol} → Refuses next ss → Turned next ss

extend : (next : Option Word) (a b : List Symbol) (made : List Mark) → Turns next a b made → Turned next b → Turned next a
extend next a b made f (at_sign k new more t c) = at_sign k new (made ++ more) (turns_again next a b (Sign k ∷ new) made more f t) c
extend next a b made f (at_end more t) = at_end (made ++ more) (turns_again next a b [] made more f t)
extend next a b made f (refuses r) = refuses (through next a b made f r)

-- the rest of a turn, from any symbols that are nearer to a sign
abbrev Later : ℕ → Option Word → Type 0
Later n next = (new : List Symbol) → wait new < n → calm new ≡ true → Turned next new

turn_row :
    (n : ℕ) (k : Word) (p : Production) (ss : List Symbol) → rank p < suc n → calm (Inner p ∷ ss) ≡ true → Later n (Some k) → (o : Option (List Symbol))
    → chosen (alternatives p) k ≡ o → Turned (Some k) (Inner p ∷ ss)
turn_row n k p ss l c later None e = refuses (row_stuck k p ss e)
turn_row n k p ss l c later (Some items) e =
    let o = chosen_is (alternatives p) items k e in
    let w = wait_row p items (Close p ∷ ss) o in
    extend (Some k) (Inner p ∷ ss) (items ++ Close p ∷ ss) (mark.Open p ∷ []) (turns_row k p items ss e) (later (items ++ Close p ∷ ss) (omega (arith, w, l)) (calm_row p items ss o c))

turn_more :
    (n : ℕ) (k : Word) (m : Option_of) (ss : List Symbol) → wait (More m ∷ ss) < suc n → calm (More m ∷ ss) ≡ true → Later n (Some k)
    → (begins_all (continuation m) k ≡ true) ⊎ (begins_all (continuation m) k ≡ false) → Turned (Some k) (More m ∷ ss)
turn_more n k m ss l c later (inl b) =
    let w = wait_taken m ss in
    extend (Some k) (More m ∷ ss) (continuation m ++ ss) [] (turns_taken k m ss b) (later (continuation m ++ ss) (omega (arith, w, l)) (calm_taken m ss c))
turn_more n k m ss l c later (inr b) = extend (Some k) (More m ∷ ss) ss [] (turns_left k m ss b) (later ss (omega (arith, l)) (calm_behind (More m) ss c))

turn : (n : ℕ) (next : Option Word) (ss : List Symbol) → wait ss < n → calm ss ≡ true → Turned next ss
turn zero next ss l c = absurd (omega (arith, l))
turn (suc n) next [] l c = at_end [] (turns_same next [])
turn (suc n) next (Sign k ∷ ss) l c = at_sign k ss [] (turns_same next (Sign k ∷ ss)) (calm_behind (Sign k) ss c)
turn (suc n) next (Close p ∷ ss) l c = extend next (Close p ∷ ss) ss (mark.Close p ∷ []) (turns_close next p ss) (turn n next ss (omega (arith, l)) (calm_behind (Close p) ss c))
turn (suc n) None (Inner p ∷ ss) l c = refuses (row_end_stuck p ss)
turn (suc n) (Some k) (Inner p ∷ ss) l c = turn_row n k p ss l c (λ new w d. turn n (Some k) new w d) (chosen (alternatives p) k) refl
turn (suc n) None (More m ∷ ss) l c = extend None (More m ∷ ss) ss [] (turns_left_end m ss) (turn n None ss (omega (arith, l)) (calm_behind (More m) ss c))
turn (suc n) (Some k) (More m ∷ ss) l c = turn_more n k m ss l c (λ new w d. turn n (Some k) new w d) (bool_cases (begins_all (continuation m) k))

-- a word, and then the end

data Step : Word → List Symbol → Type 0 where
  taken : {k : Word} {ss : List Symbol} (new : List Symbol) (made : List Mark) → Accepts k ss new made → Step k ss
  stuck : {k : Word} {ss : List Symbol} → Refuses (Some k) ss → Step k ss

step_of : (k : Word) (ss : List Symbol) → Turned (Some k) ss → Step k ss
step_of k ss (at_sign j new made t c) = elim (bool_cases (takes j k)) [
  | inl b ↦ taken new (made ++ mark.Token k ∷ []) (accepts j k ss new made t c b)
  | inr b ↦ stuck (through (Some k) ss (Sign j ∷ new) made t (other_sign j k new b))
]
step_of k ss (at_end made t) = stuck (through (Some k) ss [] made t (nothing_more k))
step_of k ss (refuses r) = stuck r

step : (k : Word) (ss : List Symbol) → calm ss ≡ true → Step k ss
step k ss c = step_of k ss (turn (suc (wait ss)) (Some k) ss (omega arith) c)

-- the whole text

abbrev HasFileOrFault : List Word → Type 0
HasFileOrFault text = ((trees : Parts) × IsShallowFileOf text trees) ⊎ ((place : ℕ) × ((kind : FaultKind) × IsFaultAt text place kind))

file_of_walk : (text : List Word) (ms : List Mark) → IsShallowWalk text ms → (trees : Parts) × IsShallowFileOf text trees
file_of_walk text ms w =
    let t = tree_of ms w.walked in
    (t.trees, record { file = record { derived = t.derived; spelled = t.spelled ∙ w.spelled }; shallow = subst AreShallow (sym t.levels) w.shallow })

finish : (front : List Word) (ss : List Symbol) (made : List Mark) → IsExact front ss made → Turned None ss → HasFileOrFault front
finish front ss made x (at_sign k new more t c) = inr (length front, (UnexpectedEnd, (refl, cut_short_of front ss made x (through None ss (Sign k ∷ new) more t (no_sign_at_end k new)))))
finish front ss made x (at_end more t) = inl (file_of_walk front (made ++ more) (file_end front ss made (made ++ more) x (more, refl, t)))
finish front ss made x (refuses r) = inr (length front, (UnexpectedEnd, (refl, cut_short_of front ss made x r)))

take_front : (front rest : List Word) → take (length front) (front ++ rest) ≡ front
take_front [] rest = refl
take_front (x ∷ front) rest = ap (λ t. x ∷ t) (take_front front rest)

get_behind : (front rest : List Word) (k : Word) → slice_get (front ++ k ∷ rest) (length front) ≡ Some k
get_behind [] rest k = refl
get_behind (x ∷ front) rest k = get_behind front rest k

le_or_lt : (a b : ℕ) → (a ≤ b) ⊎ (b < a)
le_or_lt zero b = inl (omega arith)
le_or_lt (suc a) zero = inr (omega arith)
le_or_lt (suc a) (suc b) = elim (le_or_lt a b) [ inl h ↦ inl (omega (arith, h)) | inr h ↦ inr (omega (arith, h)) ]

run : (rest front : List Word) (ss : List Symbol) (made : List Mark) → IsExact front ss made → HasFileOrFault (front ++ rest)
run [] front ss made x = subst HasFileOrFault (sym (append-nil front)) (finish front ss made x (turn (suc (wait ss)) None ss (omega arith) x.calm))
run (k ∷ rest) front ss made x =
    go (step k ss x.calm) (λ new more a h. subst HasFileOrFault (append_assoc front (k ∷ []) rest) (run rest (front ++ k ∷ []) new (made ++ more) (exact_more front ss new k made more x a h)))
  where
    go : Step k ss → ((new : List Symbol) (more : List Mark) → Accepts k ss new more → held new ≤ deepest → HasFileOrFault (front ++ k ∷ rest)) → HasFileOrFault (front ++ k ∷ rest)
    go (stuck r) later = inr (length front, (UnexpectedToken, (k, get_behind front rest k, subst (λ f. IsUnexpected f k) (sym (take_front front (k ∷ rest))) (unexpected_of front ss made k x r))))
    go (taken new more a) later = elim (le_or_lt (held new) deepest) [
      | inl h ↦ later new more a h
      | inr h ↦ inr (length front, (TooDeep, (k, get_behind front rest k, subst (λ f. IsTooDeep f k) (sym (take_front front (k ∷ rest))) (too_deep_of front ss new k made more x a h))))
    ]

pub file_or_first_fault : EachListHasFileOrFault
file_or_first_fault text = run text [] file [] exact_first
