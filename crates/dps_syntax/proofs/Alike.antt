-- Trees with the same marks.
use Rattle.std.proofs.Common.{◌≡◌, true, List, [], ◌∷◌, ◌++◌, refl, ap, sym, ◌∙◌, subst}
use Rattle.dps_syntax.specs.declared.grammar.Word.{Word}
use Rattle.dps_syntax.specs.declared.grammar.Production.{Production}
use Rattle.dps_syntax.specs.declared.grammar.Symbol.{Symbol}
use Rattle.dps_syntax.specs.declared.grammar.Symbol.TheVariants.{Sign, Inner, More, Close}
use Rattle.dps_syntax.specs.declared.grammar.Mark.{Mark}
use Rattle.dps_syntax.specs.declared.grammar.Mark.TheVariants as mark
use Rattle.dps_syntax.specs.Tree.{Parts, none, token, inner as within, word_of, words}
use Rattle.dps_syntax.specs.Grammar.{alternatives, continuation, takes, goes_on, Derives, done, sign, inner, taken, left, file}
use Rattle.dps_syntax.specs.Depth.{AreShallow, depths}
use Rattle.dps_syntax.specs.Marks.{marks, mark_words, mark_depths, Walks, IsShallowWalk}
use Rattle.dps_syntax.specs.Marks as walk
use Rattle.dps_syntax.specs.Built.{IsBalanced}
use Rattle.dps_syntax.proofs.Tables.{all_one, is_plain, rows_plain, more_plain}
use Rattle.dps_syntax.proofs.Trees.{depths-marks, walk_words, levels_nil, tree_of}

-- the marks of a file are balanced

closes_of : List Symbol → List Production
closes_of [] = []
closes_of (Sign k ∷ ss) = closes_of ss
closes_of (Inner p ∷ ss) = closes_of ss
closes_of (More m ∷ ss) = closes_of ss
closes_of (Close p ∷ ss) = p ∷ closes_of ss

closes_plain : (xs ys : List Symbol) → is_plain xs ≡ true → closes_of (xs ++ ys) ≡ closes_of ys
unfolding closes_of
closes_plain [] ys e = refl
closes_plain (Sign k ∷ xs) ys e = closes_plain xs ys e
closes_plain (Inner p ∷ xs) ys e = closes_plain xs ys e
closes_plain (More m ∷ xs) ys e = closes_plain xs ys e
closes_plain (Close p ∷ xs) ys e = cc

balanced : {ss : List Symbol} {ms : List Mark} → Walks ss ms → IsBalanced ms (closes_of ss)
unfolding closes_of
balanced walk.done = tt
balanced (walk.sign t d) = balanced d
balanced (walk.inner {p} {ss} {ms} items o d) = subst (IsBalanced ms) (closes_plain items (Close p ∷ ss) (all_one is_plain (alternatives p) items (rows_plain p) o)) (balanced d)
balanced (walk.close d) = (refl, balanced d)
balanced (walk.taken {m} {ss} {ms} d) = subst (IsBalanced ms) (closes_plain (continuation m) ss (more_plain m)) (balanced d)
balanced (walk.left g d) = balanced d

pub file_balanced : (text : List Word) (ms : List Mark) → IsShallowWalk text ms → IsBalanced ms []
unfolding closes_of
file_balanced text ms w = balanced w.walked

-- trees of one form, with the same words

abbrev pub AreAlike : Parts → Parts → Type 0
AreAlike none none = Unit {0}
AreAlike none (token l ps) = ⊥
AreAlike none (within p i ps) = ⊥
AreAlike (token k os) none = ⊥
AreAlike (token k os) (token l ps) = (word_of k ≡ word_of l) × AreAlike os ps
AreAlike (token k os) (within p i ps) = ⊥
AreAlike (within q j os) none = ⊥
AreAlike (within q j os) (token l ps) = ⊥
AreAlike (within q j os) (within p i ps) = (q ≡ p) × AreAlike j i × AreAlike os ps

-- nothing, or the end of a production
abbrev IsEnd : List Mark → Type 0
IsEnd [] = Unit {0}
IsEnd (mark.Open p ∷ ms) = ⊥
IsEnd (mark.Token w ∷ ms) = ⊥
IsEnd (mark.Close p ∷ ms) = Unit {0}

no_end : {A : Type 0} (m : Mark) (ms xs : List Mark) → IsEnd xs → xs ≡ m ∷ ms → (IsEnd (m ∷ ms) → ⊥) → A
no_end m ms xs e s n = absurd (n (subst IsEnd s e))

alike_of : (ps qs : Parts) (xs ys : List Mark) → IsEnd xs → IsEnd ys → marks ps xs ≡ marks qs ys → AreAlike ps qs × (xs ≡ ys)
alike_of none none xs ys a b e = (tt, e)
alike_of none (token l qs) xs ys a b e = no_end (mark.Token (word_of l)) (marks qs ys) xs a e (λ x. x)
alike_of none (within p i qs) xs ys a b e = no_end (mark.Open p) (marks i (mark.Close p ∷ marks qs ys)) xs a e (λ x. x)
alike_of (token k ps) none xs ys a b e = no_end (mark.Token (word_of k)) (marks ps xs) ys b (sym e) (λ x. x)
alike_of (within q j ps) none xs ys a b e = no_end (mark.Open q) (marks j (mark.Close q ∷ marks ps xs)) ys b (sym e) (λ x. x)
alike_of (token k ps) (token l qs) xs ys a b e =
    let whole : mark.Token (word_of k) ∷ marks ps xs ≡ mark.Token (word_of l) ∷ marks qs ys = e in
    let first : word_of k ≡ word_of l = cc in
    let rest : marks ps xs ≡ marks qs ys = cc in
    let h = alike_of ps qs xs ys a b rest in
    ((first, h.0), h.1)
alike_of (token k ps) (within p i qs) xs ys a b e = absurd (clash (word_of k) p (marks ps xs) (marks i (mark.Close p ∷ marks qs ys)) e)
  where
    clash : (w : Word) (p : Production) (ms ns : List Mark) → mark.Token w ∷ ms ≡ mark.Open p ∷ ns → ⊥
    clash w p ms ns e = cc
alike_of (within q j ps) (token l qs) xs ys a b e = absurd (clash (word_of l) q (marks qs ys) (marks j (mark.Close q ∷ marks ps xs)) e)
  where
    clash : (w : Word) (p : Production) (ms ns : List Mark) → mark.Open p ∷ ns ≡ mark.Token w ∷ ms → ⊥
    clash w p ms ns e = cc
alike_of (within q j ps) (within p i qs) xs ys a b e =
    let whole : mark.Open q ∷ marks j (mark.Close q ∷ marks ps xs) ≡ mark.Open p ∷ marks i (mark.Close p ∷ marks qs ys) = e in
    let first : q ≡ p = cc in
    let rest : marks j (mark.Close q ∷ marks ps xs) ≡ marks i (mark.Close p ∷ marks qs ys) = cc in
    let h = alike_of j i (mark.Close q ∷ marks ps xs) (mark.Close p ∷ marks qs ys) tt tt rest in
    let last : mark.Close q ∷ marks ps xs ≡ mark.Close p ∷ marks qs ys = h.1 in
    let behind : marks ps xs ≡ marks qs ys = cc in
    let g = alike_of ps qs xs ys a b behind in
    ((first, h.0, g.0), g.1)

pub alike_marks : (ps qs : Parts) → marks ps [] ≡ marks qs [] → AreAlike ps qs
alike_marks ps qs e = (alike_of ps qs [] [] tt tt e).0

alike_words : (ps qs : Parts) → AreAlike ps qs → words ps ≡ words qs
alike_words none none a = refl
alike_words none (token l qs) a = absurd a
alike_words none (within p i qs) a = absurd a
alike_words (token k ps) none a = absurd a
alike_words (token k ps) (token l qs) a = ap (λ x. x ∷ words ps) a.0 ∙ ap (λ x. word_of l ∷ x) (alike_words ps qs a.1)
alike_words (token k ps) (within p i qs) a = absurd a
alike_words (within q j ps) none a = absurd a
alike_words (within q j ps) (token l qs) a = absurd a
alike_words (within q j ps) (within p i qs) a = ap (λ x. x ++ words ps) (alike_words j i a.1) ∙ ap (λ x. words i ++ x) (alike_words ps qs a.2)

-- a derivation is one of all trees of its form
pub alike_derived : {ss : List Symbol} {ps : Parts} {after : List Word} → Derives ss ps after → (qs : Parts) → AreAlike ps qs → Derives ss qs after
alike_derived done none a = done
alike_derived done (token l qs) a = absurd a
alike_derived done (within p i qs) a = absurd a
alike_derived (sign t d) none a = absurd a
alike_derived (sign {k} t d) (token l qs) a = sign (ap (takes k) (sym a.0) ∙ t) (alike_derived d qs a.1)
alike_derived (sign t d) (within p i qs) a = absurd a
alike_derived (inner items o j d) none a = absurd a
alike_derived (inner items o j d) (token l qs) a = absurd a
alike_derived (inner {p} {ss} {inside} {parts} {after} items o j d) (within q i qs) a =
    let here : Derives items i (words parts ++ after) = alike_derived j i a.1 in
    let there : Derives items i (words qs ++ after) = subst (λ x. Derives items i (x ++ after)) (alike_words parts qs a.2) here in
    subst (λ x. Derives (Inner p ∷ ss) (within x i qs) after) a.0 (inner items o there (alike_derived d qs a.2))
alike_derived (taken d) qs a = taken (alike_derived d qs a)
alike_derived (left {m} {ss} {parts} {after} g d) qs a =
    left (ap (λ x. goes_on m (x ++ after)) (sym (alike_words parts qs a)) ∙ g) (alike_derived d qs a)

-- trees with the marks of a file are its trees
pub record IsWhole (text : List Word) (ps : Parts) : Type 0 where
  pub derived : Derives file ps []
  pub spelled : words ps ≡ text
  pub shallow : AreShallow (depths 0 ps)

pub whole_of : (text : List Word) (ms : List Mark) (ps : Parts) → IsShallowWalk text ms → marks ps [] ≡ ms → IsWhole text ps
whole_of text ms ps w e =
    let t = tree_of ms w.walked in
    record {
      derived = alike_derived t.derived ps (alike_marks t.trees ps (sym t.marked ∙ sym e));
      spelled = sym (walk_words ps) ∙ ap mark_words e ∙ w.spelled;
      shallow = subst AreShallow (ap (mark_depths 0) (sym e) ∙ depths-marks 0 ps [] ∙ levels_nil (depths 0 ps)) w.shallow;
    }
