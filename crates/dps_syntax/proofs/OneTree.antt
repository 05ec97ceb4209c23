-- The grammar is not ambiguous, and a file has no fault.
use Rattle.std.proofs.Common.{◌≡◌, ℕ, ◌+◌, ◌-◌, ◌<◌, ◌≤◌, false, List, [], ◌∷◌, ◌++◌, Some, None, length, take, get_or, slice_get, refl, ap, sym, ◌∙◌, subst, inl, inr, arith, zero, suc, length-append}
use Rattle.std.proofs.lemmas.List.Elements.{All-get_or}
use Rattle.std.proofs.lemmas.Option.{slice_get_within, get_or_from_slice_get}
use Rattle.dps_lex.specs.declared.vocabulary.FaultKind.TheVariants as fault
use Rattle.dps_syntax.specs.declared.grammar.Word.{Word}
use Rattle.dps_syntax.specs.declared.grammar.Production.{Production}
use Rattle.dps_syntax.specs.declared.grammar.Symbol.{Symbol}
use Rattle.dps_syntax.specs.declared.grammar.Symbol.TheVariants.{Close}
use Rattle.dps_syntax.specs.declared.grammar.Mark.{Mark}
use Rattle.dps_syntax.specs.declared.grammar.Mark.TheVariants as mark
use Rattle.dps_syntax.specs.Tree.{Lexeme, Parts, none, token, inner as within, lexemes, words}
use Rattle.dps_syntax.specs.Grammar.{alternatives, continuation, chosen, goes_on, begins_all, IsOneOf}
use Rattle.dps_syntax.specs.Depth.{deepest, AreShallow, depths, own_depth}
use Rattle.dps_syntax.specs.Marks.{marks, mark_words, mark_depths, Walks, done, sign, inner, close, taken, left}
use Rattle.dps_syntax.specs.Expected.{NextIs}
use Rattle.dps_syntax.specs.LawsOfFiles.{NoTokensHaveTwoTrees, NoWordsHaveFileAndFault}
use Rattle.dps_syntax.proofs.Tables.{not_both}
use Rattle.dps_syntax.proofs.Walking.{not_sign, of_inner, of_close, of_more, row_of, row_end_stuck, taken_begins, end_taken}
use Rattle.dps_syntax.proofs.Trees.{walk_of, walk_words, depths-marks, levels_nil}
use Rattle.dps_syntax.proofs.Alike.{AreAlike, alike_marks}
use Rattle.dps_syntax.proofs.Labels.{words_of_lexemes-lexemes, words_of_lexemes}

-- a walk is determined by its words

abbrev SameWalk : List Symbol → List Mark → List Mark → Type 0
SameWalk ss ms ns = Walks ss ns → mark_words ms ≡ mark_words ns → ms ≡ ns

next_of : (k : Word) (ts us : List Word) → us ≡ k ∷ ts → NextIs (Some k) us
next_of k ts us e = subst (NextIs (Some k)) (sym e) refl

same_items :
    (p : Production) (items others ss : List Symbol) (ms ns : List Mark) → IsOneOf (alternatives p) items → IsOneOf (alternatives p) others
    → Walks (items ++ Close p ∷ ss) ms → Walks (others ++ Close p ∷ ss) ns → (ws us : List Word) → mark_words ms ≡ ws → mark_words ns ≡ us
    → (k : Word) (ts vs : List Word) → ws ≡ k ∷ ts → us ≡ k ∷ vs → others ≡ items
same_items p items others ss ms ns o q d e ws us a b k ts vs f g =
    let first : chosen (alternatives p) k ≡ Some items = row_of p items ss ms k ts o (a ∙ f) d in
    let second : chosen (alternatives p) k ≡ Some others = row_of p others ss ns k vs q (b ∙ g) e in
    let both : Some others ≡ Some items = sym second ∙ first in
    cc

never_empty : {A : Type 0} (p : Production) (items ss : List Symbol) (ms : List Mark) → IsOneOf (alternatives p) items → Walks (items ++ Close p ∷ ss) ms → mark_words ms ≡ [] → A
never_empty p items ss ms o d e = absurd (row_end_stuck p ss (mark.Open p ∷ ms) (subst (NextIs None) (sym e) tt) (inner items o d))

unique : {ss : List Symbol} {ms : List Mark} → Walks ss ms → (ns : List Mark) → SameWalk ss ms ns
unique done [] d e = refl
unique done (m ∷ ns) d e = elim d [ ]
unique (sign {k} {w} {ss} {ms} t d) ns g e =
    let h = not_sign k ss ns g in
    let whole : w ∷ mark_words ms ≡ h.0 ∷ mark_words h.1 = e ∙ ap mark_words h.2 in
    let first : w ≡ h.0 = cc in
    let rest : mark_words ms ≡ mark_words h.1 = cc in
    ap (λ x. mark.Token x ∷ ms) first ∙ ap (λ x. mark.Token h.0 ∷ x) (unique d h.1 h.4 rest) ∙ sym h.2
unique (inner {p} {ss} {ms} items o d) ns g e =
    let h = of_inner p ss ns g in
    let same : mark_words ms ≡ mark_words h.0 = e ∙ ap mark_words h.1 in
    let items_same : h.2 ≡ items = by_words (mark_words ms) refl h.0 h.2 h.3 h.4 same in
    ap (λ x. mark.Open p ∷ x) (unique d h.0 (subst (λ x. Walks (x ++ Close p ∷ ss) h.0) items_same h.4) same) ∙ sym h.1
  where
    by_words :
        (ws : List Word) → mark_words ms ≡ ws → (rest : List Mark) (others : List Symbol) → IsOneOf (alternatives p) others
        → Walks (others ++ Close p ∷ ss) rest → mark_words ms ≡ mark_words rest → others ≡ items
    by_words [] a rest others q f s = never_empty p items ss ms o d a
    by_words (k ∷ ts) a rest others q f s = same_items p items others ss ms rest o q d f (mark_words ms) (mark_words rest) refl refl k ts ts a (sym s ∙ a)
unique (close {p} {ss} {ms} d) ns g e =
    let h = of_close p ss ns g in
    ap (λ x. mark.Close p ∷ x) (unique d h.0 h.2 (e ∙ ap mark_words h.1)) ∙ sym h.1
unique (taken {m} {ss} {ms} d) ns g e = elim (of_more m ss ns g) [
  | inl f ↦ unique d ns f e
  | inr f ↦ absurd (by_words (mark_words ns) refl f.0)
]
  where
    by_words : (ws : List Word) → mark_words ns ≡ ws → goes_on m (mark_words ns) ≡ false → ⊥
    by_words [] a n = end_taken m ss ms d (e ∙ a)
    by_words (k ∷ ts) a n = not_both (begins_all (continuation m) k) (taken_begins m ss ms k (next_of k ts (mark_words ms) (e ∙ a)) d) (sym (ap (goes_on m) a) ∙ n)
unique (left {m} {ss} {ms} n d) ns g e = elim (of_more m ss ns g) [
  | inl f ↦ absurd (by_words (mark_words ms) refl f)
  | inr f ↦ unique d ns f.1 e
]
  where
    by_words : (ws : List Word) → mark_words ms ≡ ws → Walks (continuation m ++ ss) ns → ⊥
    by_words [] a f = end_taken m ss ns f (sym e ∙ a)
    by_words (k ∷ ts) a f = not_both (begins_all (continuation m) k) (taken_begins m ss ns k (next_of k ts (mark_words ns) (sym e ∙ a)) f) (sym (ap (goes_on m) a) ∙ n)

-- trees of one form with the same tokens are the same

join_one : (a b c d : List Lexeme) → length a ≡ length b → a ++ c ≡ b ++ d → (a ≡ b) × (c ≡ d)
join_one [] [] c d l e = (refl, e)
join_one [] (y ∷ b) c d l e = absurd (omega (arith, l))
join_one (x ∷ a) [] c d l e = absurd (omega (arith, l))
join_one (x ∷ a) (y ∷ b) c d l e =
    let whole : x ∷ (a ++ c) ≡ y ∷ (b ++ d) = e in
    let first : x ≡ y = cc in
    let rest : a ++ c ≡ b ++ d = cc in
    let h = join_one a b c d (omega (arith, l)) rest in
    (ap (λ z. z ∷ a) first ∙ ap (λ z. y ∷ z) h.0, h.1)

alike_length : (ps qs : Parts) → AreAlike ps qs → length (lexemes ps) ≡ length (lexemes qs)
alike_length none none a = refl
alike_length none (token l qs) a = absurd a
alike_length none (within p i qs) a = absurd a
alike_length (token k ps) none a = absurd a
alike_length (token k ps) (token l qs) a = omega (arith, alike_length ps qs a.1)
alike_length (token k ps) (within p i qs) a = absurd a
alike_length (within q j ps) none a = absurd a
alike_length (within q j ps) (token l qs) a = absurd a
alike_length (within q j ps) (within p i qs) a = length-append (lexemes j) (lexemes ps) ∙ sums (alike_length j i a.1) (alike_length ps qs a.2) ∙ sym (length-append (lexemes i) (lexemes qs))
  where
    sums : {a b c d : ℕ} → a ≡ b → c ≡ d → a + c ≡ b + d
    sums e f = cc

alike_same : (ps qs : Parts) → AreAlike ps qs → lexemes ps ≡ lexemes qs → ps ≡ qs
alike_same none none a e = refl
alike_same none (token l qs) a e = absurd a
alike_same none (within p i qs) a e = absurd a
alike_same (token k ps) none a e = absurd a
alike_same (token k ps) (token l qs) a e =
    let whole : k ∷ lexemes ps ≡ l ∷ lexemes qs = e in
    let first : k ≡ l = cc in
    let rest : lexemes ps ≡ lexemes qs = cc in
    ap (λ x. token x ps) first ∙ ap (token l) (alike_same ps qs a.1 rest)
alike_same (token k ps) (within p i qs) a e = absurd a
alike_same (within q j ps) none a e = absurd a
alike_same (within q j ps) (token l qs) a e = absurd a
alike_same (within q j ps) (within p i qs) a e =
    let h = join_one (lexemes j) (lexemes i) (lexemes ps) (lexemes qs) (alike_length j i a.1) e in
    ap (λ x. within x j ps) a.0 ∙ ap (λ x. within p x ps) (alike_same j i a.1 h.0) ∙ ap (within p i) (alike_same ps qs a.2 h.1)

pub one_tree : NoTokensHaveTwoTrees
one_tree trees others d e l =
    let text : words trees ≡ words others = words_of_lexemes-lexemes trees ∙ ap words_of_lexemes l ∙ sym (words_of_lexemes-lexemes others) in
    let same : marks trees [] ≡ marks others [] = unique (walk_of trees d) (marks others []) (walk_of others e) (walk_words trees ∙ text ∙ sym (walk_words others)) in
    alike_same trees others (alike_marks trees others same) l

-- the depths of two walks agree as far as their words do

pub depths_agree :
    {ss : List Symbol} {ms : List Mark} → Walks ss ms → (ns : List Mark) → Walks ss ns → (front us vs : List Word) (k : Word) (d : ℕ)
    → mark_words ms ≡ front ++ k ∷ us → mark_words ns ≡ front ++ k ∷ vs
    → slice_get (mark_depths d ms) (length front) ≡ slice_get (mark_depths d ns) (length front)
depths_agree done ns g front us vs k d e f = absurd (clash front e)
  where
    clash : (front : List Word) → [] ≡ front ++ k ∷ us → ⊥
    clash [] e = cc
    clash (x ∷ front) e = let h : [] ≡ x ∷ (front ++ k ∷ us) = e in cc
depths_agree (sign {k = j} {w} {ss} {ms} t x) ns g [] us vs k d e f =
    let h = not_sign j ss ns g in
    ap (λ y. slice_get (mark_depths d y) 0) (sym h.2)
depths_agree (sign {k = j} {w} {ss} {ms} t x) ns g (a ∷ front) us vs k d e f =
    let h = not_sign j ss ns g in
    let left_words : w ∷ mark_words ms ≡ a ∷ (front ++ k ∷ us) = e in
    let right_words : h.0 ∷ mark_words h.1 ≡ a ∷ (front ++ k ∷ vs) = sym (ap mark_words h.2) ∙ f in
    let left_rest : mark_words ms ≡ front ++ k ∷ us = cc in
    let right_rest : mark_words h.1 ≡ front ++ k ∷ vs = cc in
    depths_agree x h.1 h.4 front us vs k d left_rest right_rest ∙ ap (λ y. slice_get (mark_depths d y) (length (a ∷ front))) (sym h.2)
depths_agree (inner {p} {ss} {ms} items o x) ns g front us vs k d e f =
    let h = of_inner p ss ns g in
    let there : mark_words h.0 ≡ front ++ k ∷ vs = sym (ap mark_words h.1) ∙ f in
    let same : h.2 ≡ items = by_front front e there in
    depths_agree x h.0 (subst (λ y. Walks (y ++ Close p ∷ ss) h.0) same h.4) front us vs k (d + own_depth p) e there ∙ ap (λ y. slice_get (mark_depths d y) (length front)) (sym h.1)
  where
    by_front : (front : List Word) → mark_words ms ≡ front ++ k ∷ us → mark_words (of_inner p ss ns g).0 ≡ front ++ k ∷ vs → (of_inner p ss ns g).2 ≡ items
    by_front [] e f = let h = of_inner p ss ns g in same_items p items h.2 ss ms h.0 o h.3 x h.4 (mark_words ms) (mark_words h.0) refl refl k us vs e f
    by_front (a ∷ front) e f = let h = of_inner p ss ns g in same_items p items h.2 ss ms h.0 o h.3 x h.4 (mark_words ms) (mark_words h.0) refl refl a (front ++ k ∷ us) (front ++ k ∷ vs) e f
depths_agree (close {p} {ss} {ms} x) ns g front us vs k d e f =
    let h = of_close p ss ns g in
    depths_agree x h.0 h.2 front us vs k (d - own_depth p) e (sym (ap mark_words h.1) ∙ f) ∙ ap (λ y. slice_get (mark_depths d y) (length front)) (sym h.1)
depths_agree (taken {m} {ss} {ms} x) ns g front us vs k d e f = elim (of_more m ss ns g) [
  | inl y ↦ depths_agree x ns y front us vs k d e f
  | inr y ↦ absurd (by_front front e f y.0)
]
  where
    skipped : (a : Word) (ts rs : List Word) → mark_words ms ≡ a ∷ ts → mark_words ns ≡ a ∷ rs → goes_on m (mark_words ns) ≡ false → ⊥
    skipped a ts rs e f n = not_both (begins_all (continuation m) a) (taken_begins m ss ms a (next_of a ts (mark_words ms) e) x) (sym (ap (goes_on m) f) ∙ n)

    by_front : (front : List Word) → mark_words ms ≡ front ++ k ∷ us → mark_words ns ≡ front ++ k ∷ vs → goes_on m (mark_words ns) ≡ false → ⊥
    by_front [] e f n = skipped k us vs e f n
    by_front (a ∷ front) e f n = skipped a (front ++ k ∷ us) (front ++ k ∷ vs) e f n
depths_agree (left {m} {ss} {ms} n x) ns g front us vs k d e f = elim (of_more m ss ns g) [
  | inl y ↦ absurd (by_front front e f y)
  | inr y ↦ depths_agree x ns y.1 front us vs k d e f
]
  where
    skipped : (a : Word) (ts rs : List Word) → mark_words ms ≡ a ∷ ts → mark_words ns ≡ a ∷ rs → Walks (continuation m ++ ss) ns → ⊥
    skipped a ts rs e f y = not_both (begins_all (continuation m) a) (taken_begins m ss ns a (next_of a rs (mark_words ns) f) y) (sym (ap (goes_on m) e) ∙ n)

    by_front : (front : List Word) → mark_words ms ≡ front ++ k ∷ us → mark_words ns ≡ front ++ k ∷ vs → Walks (continuation m ++ ss) ns → ⊥
    by_front [] e f y = skipped k us vs e f y
    by_front (a ∷ front) e f y = skipped a (front ++ k ∷ us) (front ++ k ∷ vs) e f y

-- a file has no fault

pub split_text : (text : List Word) (place : ℕ) (k : Word) → slice_get text place ≡ Some k → (more : List Word) × (text ≡ take place text ++ k ∷ more)
split_text [] place k e = cc
split_text (w ∷ text) zero k e = let h : Some w ≡ Some k = e in let first : w ≡ k = cc in (text, ap (λ x. x ∷ text) first)
split_text (w ∷ text) (suc n) k e = let h = split_text text n k e in (h.0, ap (λ x. w ∷ x) h.1)

pub take_length : (text : List Word) (place : ℕ) → place < length text → length (take place text) ≡ place
take_length [] place l = absurd (omega (arith, l))
take_length (w ∷ text) zero l = refl
take_length (w ∷ text) (suc n) l = omega (arith, take_length text n (omega (arith, l)))

pub not_deep : (ds : List ℕ) (n depth : ℕ) → AreShallow ds → slice_get ds n ≡ Some depth → deepest < depth → ⊥
not_deep ds n depth s g l =
    let h : get_or ds n 0 ≤ deepest = All-get_or (λ d. d ≤ deepest) ds n 0 (slice_get_within ds n depth g) s in
    let e : get_or ds n 0 ≡ depth = get_or_from_slice_get ds n depth 0 g in
    omega (arith, h, e, l)

pub depths_of : (ps : Parts) → mark_depths 0 (marks ps []) ≡ depths 0 ps
depths_of ps = depths-marks 0 ps [] ∙ levels_nil (depths 0 ps)

pub file_or_fault : NoWordsHaveFileAndFault
file_or_fault text trees place fault.UnexpectedToken s f =
    let h = split_text text place f.0 f.1 in
    f.2.stuck h.0 (trees, record { derived = s.file.derived; spelled = s.file.spelled ∙ h.1 })
file_or_fault text trees place fault.UnexpectedEnd s f = f.1.stuck (trees, s.file)
file_or_fault text trees place fault.TooDeep s f =
    let h = split_text text place f.0 f.1 in
    let deep = f.2 in
    let front = take place text in
    let agree = depths_agree (walk_of trees s.file.derived) (marks deep.trees []) (walk_of deep.trees deep.file.derived) front h.0 deep.more f.0 0 (walk_words trees ∙ s.file.spelled ∙ h.1)
    (walk_words deep.trees ∙ deep.file.spelled) in
    let found : slice_get (depths 0 trees) (length front) ≡ Some deep.depth =
    ap (λ ds. slice_get ds (length front)) (sym (depths_of trees)) ∙ agree ∙ ap (λ ds. slice_get ds (length front)) (depths_of deep.trees) ∙ deep.stands in
    not_deep (depths 0 trees) (length front) deep.depth s.shallow found deep.deep
file_or_fault text trees place fault.BadByte s f = absurd f
file_or_fault text trees place _ s f = absurd f
