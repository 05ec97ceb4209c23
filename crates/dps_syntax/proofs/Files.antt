-- A whole file, word by word.
use Rattle.std.proofs.Common.{slice_get, get_or, MatchBool, ℕ, ◌+◌, ◌<◌, ◌≤◌, length, arith, add-one, take, ◌≡◌, Bool, true}
use Rattle.std.proofs.Common.{false, List, [], ◌∷◌, ◌++◌, Option, Some, None, refl, ap, sym, ◌∙◌, subst, append_assoc, length-append}
use Rattle.std.proofs.lemmas.List.Elements.{All-nil, All-push}
use Rattle.dps_syntax.specs.declared.grammar.Word.{Word}
use Rattle.dps_syntax.specs.declared.grammar.Symbol.{Symbol}
use Rattle.dps_syntax.specs.declared.grammar.Symbol.TheVariants.{Sign}
use Rattle.dps_syntax.specs.declared.grammar.Mark.{Mark}
use Rattle.dps_syntax.specs.declared.grammar.Mark.TheVariants as mark
use Rattle.std.proofs.Math.Seq.{take-suc}
use Rattle.std.proofs.lemmas.Option.{slice_get-get_or, slice_get_within, get_or_from_slice_get}
use Rattle.dps_syntax.specs.Grammar.{takes, file}
use Rattle.dps_syntax.specs.Marks.{marks, mark_words, mark_depths, Walks, done, sign, IsShallowWalk}
use Rattle.dps_syntax.specs.Depth.{deepest, AreShallow, Begins, IsUnexpected, IsCutShort, IsTooDeep, IsFaultAt}
use Rattle.dps_syntax.specs.declared.expected.Awaited.{Awaited}
use Rattle.dps_syntax.specs.declared.expected.Awaited.TheVariants as awaited
use Rattle.dps_syntax.specs.Expected.{NextIs, Turns, Awaits, Refuses, Accepts, Took, Ended}
use Rattle.dps_syntax.specs.Calm.{calm, held}
use Rattle.dps_syntax.proofs.Tables.{not_both}
use Rattle.dps_syntax.proofs.Walking.{not_sign, words_append, words_silent}
use Rattle.dps_syntax.proofs.Calm.{comes}
use Rattle.dps_syntax.proofs.Trees.{tree_of, walk_of, walk_words}
use Rattle.dps_lex.specs.declared.vocabulary.FaultKind.TheVariants.{UnexpectedToken, UnexpectedEnd, TooDeep}

take_one : (xs : List Word) (i : ℕ) (k : Word) → slice_get xs i ≡ Some k → take (i + 1) xs ≡ take i xs ++ k ∷ []
take_one xs i k g = rw add-one (take-suc xs i k (slice_get_within xs i k g) ∙ ap (λ x. take i xs ++ x ∷ []) (get_or_from_slice_get xs i k k g))

first_is : (k : Word) (ts us : List Word) → ts ≡ k ∷ us → NextIs (Some k) ts
first_is k ts us e = subst (NextIs (Some k)) (sym e) refl

-- a word that may come

pub accepts : (j k : Word) (old new : List Symbol) (made : List Mark) → Turns (Some k) old (Sign j ∷ new) made → calm new ≡ true → takes j k ≡ true → Accepts k old new (made ++ mark.Token k ∷ [])
accepts j k old new made t c e =
    record {
      on = λ ms ts s d. (
          let h = t.on ms (first_is k (mark_words ms) ts s) d in
          let g = not_sign j new h.0 h.2 in
          let same : g.0 ∷ mark_words g.1 ≡ k ∷ ts = sym (ap mark_words h.1 ∙ words_silent made h.0 t.silent ∙ ap mark_words g.2) ∙ s in
          let tail : mark_words g.1 ≡ ts = cc in
          let first : g.0 ≡ k = cc in
          let split : h.0 ≡ mark.Token k ∷ g.1 = g.2 ∙ ap (λ x. mark.Token x ∷ g.1) first in
          (g.1, h.1 ∙ ap (λ x. made ++ x) split ∙ sym (append_assoc made (mark.Token k ∷ []) g.1), g.4, tail));
      back = λ ms d. subst (Walks old) (sym (append_assoc made (mark.Token k ∷ []) ms)) (t.back (mark.Token k ∷ ms) refl (sign e d));
      spelled = words_silent made (mark.Token k ∷ []) t.silent;
      level = λ ms. ap (mark_depths (held old)) (append_assoc made (mark.Token k ∷ []) ms) ∙ t.level (mark.Token k ∷ ms);
      calm = c;
    }

pub other_sign : (j k : Word) (new : List Symbol) → takes j k ≡ false → Refuses (Some k) (Sign j ∷ new)
other_sign j k new differ = λ ms n d. (
    let h = not_sign j new ms d in
    let n2 : NextIs (Some k) (h.0 ∷ mark_words h.1) = subst (NextIs (Some k)) (ap mark_words h.2) n in
    not_both (takes j k) (ap (takes j) (sym n2) ∙ h.3) differ)

pub no_sign_at_end : (j : Word) (new : List Symbol) → Refuses None (Sign j ∷ new)
no_sign_at_end j new = λ ms n d. (
    let h = not_sign j new ms d in
    let n2 : NextIs None (h.0 ∷ mark_words h.1) = subst (NextIs None) (ap mark_words h.2) n in
    absurd n2)

pub nothing_more : (k : Word) → Refuses (Some k) []
nothing_more k = λ ms n d. none_of k ms n d
  where
    none_of : (k : Word) (ms : List Mark) → NextIs (Some k) (mark_words ms) → Walks [] ms → ⊥
    none_of k [] n d = absurd n
    none_of k (m ∷ ms) n d = elim d [ ]

pub through : (next : Option Word) (old new : List Symbol) (made : List Mark) → Turns next old new made → Refuses next new → Refuses next old
through next old new made t r = λ ms n d. (
    let h = t.on ms n d in
    r h.0 (subst (NextIs next) (ap mark_words h.1 ∙ words_silent made h.0 t.silent) n) h.2)

pub took_sign :
    (j k : Word) (old new : List Symbol) (found : Awaited) (before mid after : List Mark) → found ≡ awaited.Sign j → Awaits (Some k) old found new before mid
    → true ≡ takes j k → after ≡ mid ++ mark.Token k ∷ [] → Took k old new before after
took_sign j k old new found before mid after e a i l =
    let h : Awaits (Some k) old (awaited.Sign j) new before mid = subst (λ f. Awaits (Some k) old f new before mid) e a in
    (h.0 ++ mark.Token k ∷ [], l ∙ ap (λ x. x ++ mark.Token k ∷ []) h.1 ∙ append_assoc before h.0 (mark.Token k ∷ []), accepts j k old new h.0 h.2 h.3 (sym i))

pub not_sign_found :
    (j k : Word) (old new : List Symbol) (found : Awaited) (before mid : List Mark) → found ≡ awaited.Sign j → Awaits (Some k) old found new before mid
    → false ≡ takes j k → Refuses (Some k) old
not_sign_found j k old new found before mid e a i =
    let h : Awaits (Some k) old (awaited.Sign j) new before mid = subst (λ f. Awaits (Some k) old f new before mid) e a in
    through (Some k) old (Sign j ∷ new) h.0 h.2 (other_sign j k new (sym i))

pub end_found : (k : Word) (old new : List Symbol) (found : Awaited) (before mid : List Mark) → found ≡ awaited.End → Awaits (Some k) old found new before mid → Refuses (Some k) old
end_found k old new found before mid e a =
    let h : Awaits (Some k) old awaited.End new before mid = subst (λ f. Awaits (Some k) old f new before mid) e a in
    through (Some k) old [] h.0 h.2 (nothing_more k)

pub sign_at_end : (j : Word) (old new : List Symbol) (found : Awaited) (before mid : List Mark) → found ≡ awaited.Sign j → Awaits None old found new before mid → Refuses None old
sign_at_end j old new found before mid e a =
    let h : Awaits None old (awaited.Sign j) new before mid = subst (λ f. Awaits None old f new before mid) e a in
    through None old (Sign j ∷ new) h.0 h.2 (no_sign_at_end j new)

pub ruleset for_tokens = (took_sign, not_sign_found, end_found, sign_at_end)

-- Behind the front the trees of a file are those that were made, and then those of what is expected. The mark_words of the
-- front stand at these levels, none too deep.
pub record IsExact (front : List Word) (ss : List Symbol) (made : List Mark) : Type 0 where
  pub on : (ms : List Mark) (ts : List Word) → mark_words ms ≡ front ++ ts → Walks file ms → (rest : List Mark) × (ms ≡ made ++ rest) × Walks ss rest × (mark_words rest ≡ ts)
  pub back : (ms : List Mark) → Walks ss ms → Walks file (made ++ ms)
  pub spelled : mark_words made ≡ front
  pub calm : calm ss ≡ true
  pub levels : List ℕ
  pub level : (ms : List Mark) → mark_depths 0 (made ++ ms) ≡ levels ++ mark_depths (held ss) ms
  pub counted : length levels ≡ length front
  pub shallow : AreShallow levels

pub exact_first : IsExact [] file []
exact_first =
    record { on = λ ms ts s d. (ms, refl, d, s); back = λ ms d. d; spelled = refl; calm = refl; levels = []; level = λ ms. refl; counted = refl; shallow = All-nil (λ depth. depth ≤ deepest) }

levels_behind :
    (front : List Word) (old new : List Symbol) (k : Word) (before made : List Mark) (x : IsExact front old before) → Accepts k old new made → (ms : List Mark)
    → mark_depths 0 ((before ++ made) ++ ms) ≡ x.levels ++ held new ∷ mark_depths (held new) ms
levels_behind front old new k before made x a ms = ap (mark_depths 0) (append_assoc before made ms) ∙ x.level (made ++ ms) ∙ ap (λ y. x.levels ++ y) (a.level ms)

pub exact_more :
    (front : List Word) (old new : List Symbol) (k : Word) (before made : List Mark) → IsExact front old before → Accepts k old new made → held new ≤ deepest
    → IsExact (front ++ k ∷ []) new (before ++ made)
exact_more front old new k before made x a h = record {
  on = λ ms ts s d. (
      let h = x.on ms (k ∷ ts) (s ∙ append_assoc front (k ∷ []) ts) d in
      let g = a.on h.0 ts h.3 h.2 in
      (g.0, h.1 ∙ ap (λ y. before ++ y) g.1 ∙ sym (append_assoc before made g.0), g.2, g.3));
  back = λ ms d. subst (Walks file) (sym (append_assoc before made ms)) (x.back (made ++ ms) (a.back ms d));
  spelled = words_append before made ∙ ap (λ y. y ++ mark_words made) x.spelled ∙ ap (λ y. front ++ y) a.spelled;
  calm = a.calm;
  levels = x.levels ++ held new ∷ [];
  level = λ ms. levels_behind front old new k before made x a ms ∙ sym (append_assoc x.levels (held new ∷ []) (mark_depths (held new) ms));
  counted = length-append x.levels (held new ∷ []) ∙ ap (λ n. n + 1) x.counted ∙ sym (length-append front (k ∷ []));
  shallow = All-push (λ depth. depth ≤ deepest) x.levels (held new) x.shallow h;
}

take_front : (levels more : List ℕ) (n : ℕ) → length levels ≡ n → take n (levels ++ more) ≡ levels
take_front levels more n e = ap (λ m. take m (levels ++ more)) (sym e) ∙ whole levels
  where
    whole : (xs : List ℕ) → take (length xs) (xs ++ more) ≡ xs
    whole [] = refl
    whole (x ∷ xs) = ap (λ t. x ∷ t) (whole xs)

get_behind : (levels more : List ℕ) (depth n : ℕ) → length levels ≡ n → slice_get (levels ++ depth ∷ more) n ≡ Some depth
get_behind levels more depth n e = ap (slice_get (levels ++ depth ∷ more)) (sym e) ∙ at_end levels
  where
    at_end : (xs : List ℕ) → slice_get (xs ++ depth ∷ more) (length xs) ≡ Some depth
    at_end [] = refl
    at_end (x ∷ xs) = at_end xs

begins_of : (front : List Word) (ss : List Symbol) (made : List Mark) → IsExact front ss made → Begins front
begins_of front ss made x =
    let h = comes ss x.calm in
    let t = tree_of (made ++ h.marks) (x.back h.marks h.derived) in
    record {
      more = mark_words h.marks;
      trees = t.trees;
      file = record { derived = t.derived; spelled = t.spelled ∙ words_append made h.marks ∙ ap (λ y. y ++ mark_words h.marks) x.spelled };
      shallow = subst AreShallow (sym (ap (take (length front)) (t.levels ∙ x.level h.marks) ∙ take_front x.levels (mark_depths (held ss) h.marks) (length front) x.counted)) x.shallow;
    }

pub too_deep_of : (front : List Word) (old new : List Symbol) (k : Word) (before made : List Mark) → IsExact front old before → Accepts k old new made → deepest < held new → IsTooDeep front k
too_deep_of front old new k before made x a h =
    let c = comes new a.calm in
    let spelled : mark_words ((before ++ made) ++ c.marks) ≡ front ++ k ∷ mark_words c.marks =
    words_append (before ++ made) c.marks ∙ ap (λ y. y ++ mark_words c.marks) (words_append before made ∙ ap (λ y. y ++ mark_words made) x.spelled ∙ ap (λ y. front ++ y) a.spelled)
    ∙ append_assoc front (k ∷ []) (mark_words c.marks) in
    let walked : Walks file ((before ++ made) ++ c.marks) = subst (Walks file) (sym (append_assoc before made c.marks)) (x.back (made ++ c.marks) (a.back c.marks c.derived)) in
    let t = tree_of ((before ++ made) ++ c.marks) walked in
    record {
      begins = begins_of front old before x;
      more = mark_words c.marks;
      trees = t.trees;
      file = record { derived = t.derived; spelled = t.spelled ∙ spelled };
      depth = held new;
      stands =
          ap (λ ds. slice_get ds (length front)) (t.levels ∙ levels_behind front old new k before made x a c.marks)
          ∙ get_behind x.levels (mark_depths (held new) c.marks) (held new) (length front) x.counted;
      deep = h;
    }

pub unexpected_of : (front : List Word) (ss : List Symbol) (made : List Mark) (k : Word) → IsExact front ss made → Refuses (Some k) ss → IsUnexpected front k
unexpected_of front ss made k x none = record {
  begins = begins_of front ss made x;
  stuck = λ more w. (
      let h = x.on (marks w.0 []) (k ∷ more) (walk_words w.0 ∙ w.1.spelled) (walk_of w.0 w.1.derived) in
      none h.0 (first_is k (mark_words h.0) more h.3) h.2);
}

words_nil : (xs : List Word) → xs ++ [] ≡ xs
words_nil [] = refl
words_nil (x ∷ xs) = ap (λ t. x ∷ t) (words_nil xs)

pub cut_short_of : (front : List Word) (ss : List Symbol) (made : List Mark) → IsExact front ss made → Refuses None ss → IsCutShort front
cut_short_of front ss made x none = record {
  begins = begins_of front ss made x;
  stuck = λ w. (
      let h = x.on (marks w.0 []) [] (walk_words w.0 ∙ w.1.spelled ∙ sym (words_nil front)) (walk_of w.0 w.1.derived) in
      none h.0 (subst (NextIs None) (sym h.3) tt) h.2);
}

-- the steps of the loop

pub exact_found :
    (text : List Word) (place : ℕ) (old new : List Symbol) (d : Word) (b : Bool) (before after : List Mark) → place < length text → b ≡ true
    → IsExact (take place text) old before → MatchBool b (Took (get_or text place d) old new before after) (Refuses (Some (get_or text place d)) old)
    → held new ≤ deepest → IsExact (take (place + 1) text) new after
exact_found text place old new d false before after l e x m h = cc
exact_found text place old new d true before after l e x m h =
    let k = get_or text place d in
    subst (λ f. IsExact f new after) (sym (take_one text place k (slice_get-get_or text place d l)))
    (subst (IsExact (take place text ++ k ∷ []) new) (sym m.1) (exact_more (take place text) old new k before m.0 x m.2 h))

pub too_deep_found :
    (text : List Word) (place : ℕ) (old new : List Symbol) (d : Word) (b : Bool) (before after : List Mark) → place < length text → b ≡ true
    → IsExact (take place text) old before → MatchBool b (Took (get_or text place d) old new before after) (Refuses (Some (get_or text place d)) old)
    → deepest < held new → IsFaultAt text place TooDeep
too_deep_found text place old new d false before after l e x m h = cc
too_deep_found text place old new d true before after l e x m h =
    let k = get_or text place d in
    (k, slice_get-get_or text place d l, too_deep_of (take place text) old new k before m.0 x m.2 h)

pub unexpected_found :
    (text : List Word) (place : ℕ) (old new : List Symbol) (d : Word) (b : Bool) (before after : List Mark) → place < length text → b ≡ false
    → IsExact (take place text) old before → MatchBool b (Took (get_or text place d) old new before after) (Refuses (Some (get_or text place d)) old)
    → IsFaultAt text place UnexpectedToken
unexpected_found text place old new d true before after l e x m = cc
unexpected_found text place old new d false before after l e x m =
    let k = get_or text place d in
    (k, slice_get-get_or text place d l, unexpected_of (take place text) old before k x m)

-- the end

marks_nil : (xs : List Mark) → xs ++ [] ≡ xs
marks_nil [] = refl
marks_nil (x ∷ xs) = ap (λ t. x ∷ t) (marks_nil xs)

levels_nil : (xs : List ℕ) → xs ++ [] ≡ xs
levels_nil [] = refl
levels_nil (x ∷ xs) = ap (λ t. x ∷ t) (levels_nil xs)

take_whole : (xs : List Word) → take (length xs) xs ≡ xs
take_whole [] = refl
take_whole (x ∷ xs) = ap (λ t. x ∷ t) (take_whole xs)

at_the_end : (text : List Word) (place : ℕ) → length text ≤ place → place ≤ length text → take place text ≡ text
at_the_end text place a b =
    let p : place ≡ length text = omega arith in
    ap (λ n. take n text) p ∙ take_whole text

pub file_end : (text : List Word) (ss : List Symbol) (before after : List Mark) → IsExact text ss before → Ended ss before after → IsShallowWalk text after
file_end text ss before after x e =
    let made = e.0 in
    let nothing : made ++ [] ≡ made = marks_nil made in
    let d : Walks ss made = subst (Walks ss) nothing (e.2.back [] tt done) in
    let flat : mark_depths (held ss) made ≡ [] = ap (mark_depths (held ss)) (sym nothing) ∙ e.2.level [] in
    record {
      walked = subst (Walks file) (sym e.1) (x.back made d);
      spelled = ap mark_words e.1 ∙ words_append before made ∙ ap (λ y. mark_words before ++ y) e.2.silent ∙ words_nil (mark_words before) ∙ x.spelled;
      shallow = subst AreShallow (sym (ap (mark_depths 0) e.1 ∙ x.level made ∙ ap (λ y. x.levels ++ y) flat ∙ levels_nil x.levels)) x.shallow;
    }

pub file_found :
    (text : List Word) (place : ℕ) (ss : List Symbol) (b : Bool) (before after : List Mark) → length text ≤ place → place ≤ length text → b ≡ true
    → IsExact (take place text) ss before → MatchBool b (Ended ss before after) (Refuses None ss) → IsShallowWalk text after
file_found text place ss true before after l u e x m = file_end text ss before after (subst (λ f. IsExact f ss before) (at_the_end text place l u) x) m
file_found text place ss false before after l u e x m = cc

pub cut_short_found :
    (text : List Word) (place : ℕ) (ss : List Symbol) (b : Bool) (before after : List Mark) → length text ≤ place → place ≤ length text → b ≡ false
    → IsExact (take place text) ss before → MatchBool b (Ended ss before after) (Refuses None ss) → IsFaultAt text (length text) UnexpectedEnd
cut_short_found text place ss true before after l u e x m = cc
cut_short_found text place ss false before after l u e x m = (refl, cut_short_of text ss before (subst (λ f. IsExact f ss before) (at_the_end text place l u) x) m)

pub ruleset for_files = (exact_first, exact_found, too_deep_found, unexpected_found, file_found, cut_short_found)
