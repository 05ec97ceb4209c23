-- What is expected next, and how it changes.
use Rattle.std.proofs.Common.{◌≡◌, ℕ, ◌+◌, ◌-◌, arith, Bool, true, false, not, ◌||◌, List, [], ◌∷◌, ◌++◌, Option, Some, None, ◌⊎◌, refl, ap, sym, ◌∙◌, subst, inl, inr, append_assoc, if◌then◌else◌}
use Rattle.dps_syntax.specs.declared.grammar.Word.{Word}
use Rattle.dps_syntax.specs.declared.grammar.Word.TheVariants.{Of, Zero}
use Rattle.dps_lex.specs.declared.vocabulary.TokenKind.TheVariants as token
use Rattle.dps_syntax.specs.declared.grammar.Production.{Production}
use Rattle.dps_syntax.specs.declared.grammar.More.{More as Option_of}
use Rattle.dps_syntax.specs.declared.grammar.Symbol.{Symbol}
use Rattle.dps_syntax.specs.declared.grammar.Symbol.TheVariants.{Sign, Inner, More, Close}
use Rattle.dps_syntax.specs.declared.grammar.Mark.{Mark}
use Rattle.dps_syntax.specs.declared.grammar.Mark.TheVariants as mark
use Rattle.dps_syntax.specs.Grammar.{alternatives, continuation, firsts, is_same, begins_all, chosen, goes_on, IsOneOf, takes}
use Rattle.dps_syntax.specs.Marks.{mark_words, Walks, done, sign, inner, close, taken, left}
use Rattle.dps_syntax.specs.Expected.{NextIs, Turns, Refuses}
use Rattle.dps_syntax.specs.Depth.{own_depth}
use Rattle.dps_syntax.specs.Marks.{mark_depths}
use Rattle.dps_syntax.specs.Calm.{among, held}
use Rattle.dps_syntax.proofs.Tables.{all, both, either, not_both, all_one, within, same_is, same_self, within_among, spelled, heads}
use Rattle.dps_syntax.proofs.Tables.{heads_all, is_plain, rows_plain, more_plain, is_solid, disjoint, distinct, rows_distinct, rows_solid, rows_begin, more_solid}

-- the token at the front begins the symbol
abbrev pub Starts : Symbol → List Word → Type 0
Starts s [] = ⊥
Starts s (k ∷ ts) = among (heads s) k ≡ true

-- the same of the first of these symbols, unless it is an option
abbrev pub Begun : List Symbol → List Word → Type 0
Begun [] ts = Unit {0}
Begun (Sign k ∷ ss) ts = Starts (Sign k) ts
Begun (Inner p ∷ ss) ts = Starts (Inner p) ts
Begun (More m ∷ ss) ts = Unit {0}
Begun (Close p ∷ ss) ts = Unit {0}

starts_wider : (s : Symbol) (p : Production) (ts : List Word) → within (heads s) (firsts p) ≡ true → Starts s ts → Starts (Inner p) ts
starts_wider s p [] h b = b
starts_wider s p (k ∷ ts) h b = within_among (heads s) (firsts p) k h b

row_begun : (p : Production) (items ss : List Symbol) (ts : List Word) → is_solid items ≡ true → within (heads_all items) (firsts p) ≡ true → Begun (items ++ ss) ts → Starts (Inner p) ts
row_begun p [] ss ts s h b = cc
row_begun p (Sign k ∷ items) ss ts s h b = starts_wider (Sign k) p ts h b
row_begun p (Inner q ∷ items) ss ts s h b = starts_wider (Inner q) p ts h b
row_begun p (More m ∷ items) ss ts s h b = cc
row_begun p (Close q ∷ items) ss ts s h b = cc

-- a sign takes the mark_words that it is spelled by
pub takes_among : (k w : Word) → takes k w ≡ among (spelled k) w
takes_among k w = by_number (is_same k w) (is_same k (Of token.Number))
  where
    or_false : (b : Bool) → b ≡ (b || false)
    or_false true = refl
    or_false false = refl

    by_number : (s b : Bool) → (s || (if b then is_same Zero w else false)) ≡ (s || among (if b then Zero ∷ [] else []) w)
    by_number s true = ap (λ x. s || x) (or_false (is_same Zero w))
    by_number s false = refl

or_true : (a b : Bool) → a ≡ true → (a || b) ≡ true
or_true true b e = refl
or_true false b e = cc

pub takes_self : (k : Word) → takes k k ≡ true
takes_self k = or_true (is_same k k) (if is_same k (Of token.Number) then is_same Zero k else false) (same_self k)

pub begun : {ss : List Symbol} {ms : List Mark} → Walks ss ms → Begun ss (mark_words ms)
begun done = tt
begun (sign {k} {w} t d) = sym (takes_among k w) ∙ t
begun (inner {p} {ss} {ms} items o d) =
    row_begun p items (Close p ∷ ss) (mark_words ms) (all_one is_solid (alternatives p) items (rows_solid p) o)
    (all_one (λ i. within (heads_all i) (firsts p)) (alternatives p) items (rows_begin p) o) (begun d)
begun (close d) = tt
begun (taken d) = tt
begun (left g d) = tt

-- what begins symbols of which the first is no option
solid_begun : (items ss : List Symbol) (k : Word) (ts : List Word) → is_solid items ≡ true → Begun (items ++ ss) (k ∷ ts) → among (heads_all items) k ≡ true
solid_begun [] ss k ts s b = cc
solid_begun (Sign j ∷ items) ss k ts s b = b
solid_begun (Inner q ∷ items) ss k ts s b = b
solid_begun (More m ∷ items) ss k ts s b = cc
solid_begun (Close q ∷ items) ss k ts s b = cc

solid_not_end : (items ss : List Symbol) → is_solid items ≡ true → Begun (items ++ ss) [] → ⊥
solid_not_end [] ss s b = cc
solid_not_end (Sign j ∷ items) ss s b = b
solid_not_end (Inner q ∷ items) ss s b = b
solid_not_end (More m ∷ items) ss s b = cc
solid_not_end (Close q ∷ items) ss s b = cc

pub begins_heads : (items : List Symbol) (k : Word) → begins_all items k ≡ among (heads_all items) k
begins_heads [] k = refl
begins_heads (Sign j ∷ items) k = takes_among j k
begins_heads (Inner q ∷ items) k = refl
begins_heads (More m ∷ items) k = refl
begins_heads (Close q ∷ items) k = refl

-- the chosen alternative

chosen_first : (items : List Symbol) (others : List (List Symbol)) (k : Word) → begins_all items k ≡ true → chosen (items ∷ others) k ≡ Some items
chosen_first items others k b = rw b refl

chosen_later : (items : List Symbol) (others : List (List Symbol)) (k : Word) → begins_all items k ≡ false → chosen (items ∷ others) k ≡ chosen others k
chosen_later items others k b = rw b refl

pub not_false : (b : Bool) → not b ≡ true → b ≡ false
not_false true e = sym e
not_false false e = refl

disjoint_not : (xs ys : List Word) (k : Word) → disjoint xs ys ≡ true → among xs k ≡ true → among ys k ≡ true → ⊥
disjoint_not [] ys k d a b = cc
disjoint_not (x ∷ xs) ys k d a b =
    let h = both (not (among ys x)) (disjoint xs ys) d in
    elim (either (is_same x k) (among xs k) a) [
      | inl s ↦ not_both (among ys x) (ap (among ys) (same_is x k s) ∙ b) (not_false (among ys x) h.0)
      | inr r ↦ disjoint_not xs ys k h.1 r b
    ]

pub bool_cases : (b : Bool) → (b ≡ true) ⊎ (b ≡ false)
bool_cases true = inl refl
bool_cases false = inr refl

pub chosen_only : (rows : List (List Symbol)) (items : List Symbol) (k : Word) → distinct rows ≡ true → IsOneOf rows items → among (heads_all items) k ≡ true → chosen rows k ≡ Some items
chosen_only [] items k d o b = absurd o
chosen_only (row ∷ rows) items k d (inl e) b = chosen_first row rows k (begins_heads row k ∙ ap (λ r. among (heads_all r) k) (sym e) ∙ b) ∙ ap Some (sym e)
chosen_only (row ∷ rows) items k d (inr o) b =
    let h = both (all (λ other. disjoint (heads_all row) (heads_all other)) rows) (distinct rows) d in
    elim (bool_cases (begins_all row k)) [
      | inl t ↦ absurd (disjoint_not (heads_all row) (heads_all items) k (all_one (λ other. disjoint (heads_all row) (heads_all other)) rows items h.0 o) (sym (begins_heads row k) ∙ t) b)
      | inr f ↦ chosen_later row rows k f ∙ chosen_only rows items k h.1 o b
    ]

pub chosen_is : (rows : List (List Symbol)) (items : List Symbol) (k : Word) → chosen rows k ≡ Some items → IsOneOf rows items
chosen_is [] items k e = cc
chosen_is (row ∷ rows) items k e =
    elim (bool_cases (begins_all row k)) [
      | inl t ↦ let f : Some row ≡ Some items = sym (chosen_first row rows k t) ∙ e in inl (some_one items row (sym f))
      | inr f ↦ inr (chosen_is rows items k (sym (chosen_later row rows k f) ∙ e))
    ]
  where
    some_one : (a b : List Symbol) → Some a ≡ Some b → a ≡ b
    some_one a b e = cc

pub words_append : (a b : List Mark) → mark_words (a ++ b) ≡ mark_words a ++ mark_words b
words_append [] b = refl
words_append (mark.Open p ∷ a) b = words_append a b
words_append (mark.Token k ∷ a) b = ap (λ t. k ∷ t) (words_append a b)
words_append (mark.Close p ∷ a) b = words_append a b

pub words_silent : (a b : List Mark) → mark_words a ≡ [] → mark_words (a ++ b) ≡ mark_words b
words_silent a b e = words_append a b ∙ ap (λ t. t ++ mark_words b) e

pub turns_same : (next : Option Word) (ss : List Symbol) → Turns next ss ss []
turns_same next ss = record { on = λ ms n d. (ms, refl, d); back = λ ms n d. d; silent = refl; level = λ ms. refl }

pub turns_again : (next : Option Word) (a b c : List Symbol) (made more : List Mark) → Turns next a b made → Turns next b c more → Turns next a c (made ++ more)
turns_again next a b c made more f g = record {
  on = λ ms n d. (
      let h = f.on ms n d in
      let k = g.on h.0 (subst (NextIs next) (ap mark_words h.1 ∙ words_silent made h.0 f.silent) n) h.2 in
      (k.0, h.1 ∙ ap (λ t. made ++ t) k.1 ∙ sym (append_assoc made more k.0), k.2));
  back = λ ms n d. subst (Walks a) (sym (append_assoc made more ms)) (f.back (more ++ ms) (subst (NextIs next) (sym (words_silent more ms g.silent)) n) (g.back ms n d));
  silent = words_silent made more f.silent ∙ g.silent;
  level = λ ms. ap (mark_depths (held a)) (append_assoc made more ms) ∙ f.level (more ++ ms) ∙ g.level ms;
}

-- taking a derivation apart

pub not_sign : (k : Word) (ss : List Symbol) (ms : List Mark) → Walks (Sign k ∷ ss) ms → (w : Word) × (rest : List Mark) × (ms ≡ mark.Token w ∷ rest) × (takes k w ≡ true) × Walks ss rest
not_sign k ss (mark.Token w ∷ ms) (sign t d) = (w, ms, refl, t, d)
not_sign k ss (mark.Open j ∷ ms) d = elim d [ ]
not_sign k ss (mark.Close j ∷ ms) d = elim d [ ]
not_sign k ss [] d = elim d [ ]

pub of_inner :
    (p : Production) (ss : List Symbol) (ms : List Mark) → Walks (Inner p ∷ ss) ms
    → (rest : List Mark) × (ms ≡ mark.Open p ∷ rest) × (items : List Symbol) × IsOneOf (alternatives p) items × Walks (items ++ Close p ∷ ss) rest
of_inner p ss (mark.Open q ∷ ms) (inner items o d) = (ms, refl, items, o, d)
of_inner p ss (mark.Token q ∷ ms) d = elim d [ ]
of_inner p ss (mark.Close q ∷ ms) d = elim d [ ]
of_inner p ss [] d = elim d [ ]

pub of_close : (p : Production) (ss : List Symbol) (ms : List Mark) → Walks (Close p ∷ ss) ms → (rest : List Mark) × (ms ≡ mark.Close p ∷ rest) × Walks ss rest
of_close p ss (mark.Close q ∷ ms) (close d) = (ms, refl, d)
of_close p ss (mark.Open q ∷ ms) d = elim d [ ]
of_close p ss (mark.Token q ∷ ms) d = elim d [ ]
of_close p ss [] d = elim d [ ]

pub of_more : (m : Option_of) (ss : List Symbol) (ms : List Mark) → Walks (More m ∷ ss) ms → Walks (continuation m ++ ss) ms ⊎ ((goes_on m (mark_words ms) ≡ false) × Walks ss ms)
of_more m ss ms (taken d) = inl d
of_more m ss ms (left g d) = inr (g, d)

-- the alternative of a tree is the one that its first token chooses
pub row_of :
    (p : Production) (items ss : List Symbol) (ms : List Mark) (k : Word) (ts : List Word) → IsOneOf (alternatives p) items → mark_words ms ≡ k ∷ ts
    → Walks (items ++ Close p ∷ ss) ms → chosen (alternatives p) k ≡ Some items
row_of p items ss ms k ts o e d =
    let b = solid_begun items (Close p ∷ ss) k ts (all_one is_solid (alternatives p) items (rows_solid p) o) (subst (Begun (items ++ Close p ∷ ss)) e (begun d)) in
    chosen_only (alternatives p) items k (rows_distinct p) o b

first_of : (k : Word) (ts : List Word) → NextIs (Some k) ts → (rest : List Word) × (ts ≡ k ∷ rest)
first_of k [] n = absurd n
first_of k (t ∷ ts) n = (ts, ap (λ x. x ∷ ts) n)

nothing_first : (ts : List Word) → NextIs None ts → ts ≡ []
nothing_first [] n = refl
nothing_first (t ∷ ts) n = absurd n

-- how many counted productions are open

held_plain : (items ss : List Symbol) → is_plain items ≡ true → held (items ++ ss) ≡ held ss
held_plain [] ss p = refl
held_plain (Sign k ∷ items) ss p = held_plain items ss p
held_plain (Inner q ∷ items) ss p = held_plain items ss p
held_plain (More m ∷ items) ss p = held_plain items ss p
held_plain (Close q ∷ items) ss p = cc

pub held_row : (p : Production) (items ss : List Symbol) → IsOneOf (alternatives p) items → held (items ++ Close p ∷ ss) ≡ held ss + own_depth p
held_row p items ss o = held_plain items (Close p ∷ ss) (all_one is_plain (alternatives p) items (rows_plain p) o)

pub held_taken : (m : Option_of) (ss : List Symbol) → held (continuation m ++ ss) ≡ held ss
held_taken m ss = held_plain (continuation m) ss (more_plain m)

pub up_down : (a b : ℕ) → a + b - b ≡ a
up_down a b = omega arith

pub turns_row : (k : Word) (p : Production) (items ss : List Symbol) → chosen (alternatives p) k ≡ Some items → Turns (Some k) (Inner p ∷ ss) (items ++ Close p ∷ ss) (mark.Open p ∷ [])
turns_row k p items ss c = record {
  on = λ ms n d. (
      let h = of_inner p ss ms d in
      let f = first_of k (mark_words ms) n in
      let o : chosen (alternatives p) k ≡ Some h.2 = row_of p h.2 ss h.0 k f.0 h.3 (sym (ap mark_words h.1) ∙ f.1) h.4 in
      let e : Some h.2 ≡ Some items = sym o ∙ c in
      let g : h.2 ≡ items = cc in
      (h.0, h.1, subst (λ i. Walks (i ++ Close p ∷ ss) h.0) g h.4));
  back = λ ms n d. inner items (chosen_is (alternatives p) items k c) d;
  silent = refl;
  level = λ ms. ap (λ h. mark_depths h ms) (sym (held_row p items ss (chosen_is (alternatives p) items k c)));
}

pub turns_close : (next : Option Word) (p : Production) (ss : List Symbol) → Turns next (Close p ∷ ss) ss (mark.Close p ∷ [])
turns_close next p ss = record { on = λ ms n d. of_close p ss ms d; back = λ ms n d. close d; silent = refl; level = λ ms. ap (λ h. mark_depths h ms) (up_down (held ss) (own_depth p)) }

-- no alternative begins with the token
pub row_stuck : (k : Word) (p : Production) (ss : List Symbol) → chosen (alternatives p) k ≡ None → Refuses (Some k) (Inner p ∷ ss)
row_stuck k p ss c = λ ms n d. (
    let h = of_inner p ss ms d in
    let f = first_of k (mark_words ms) n in
    let o : chosen (alternatives p) k ≡ Some h.2 = row_of p h.2 ss h.0 k f.0 h.3 (sym (ap mark_words h.1) ∙ f.1) h.4 in
    let e : Some h.2 ≡ None = sym o ∙ c in
    cc)

pub row_end_stuck : (p : Production) (ss : List Symbol) → Refuses None (Inner p ∷ ss)
row_end_stuck p ss = λ ms n d. (
    let h = of_inner p ss ms d in
    let e : mark_words h.0 ≡ [] = sym (ap mark_words h.1) ∙ nothing_first (mark_words ms) n in
    solid_not_end h.2 (Close p ∷ ss) (all_one is_solid (alternatives p) h.2 (rows_solid p) h.3) (subst (Begun (h.2 ++ Close p ∷ ss)) e (begun h.4)))

goes_on_at : (m : Option_of) (k : Word) (ts : List Word) → NextIs (Some k) ts → goes_on m ts ≡ begins_all (continuation m) k
goes_on_at m k [] n = absurd n
goes_on_at m k (t ∷ ts) n = ap (begins_all (continuation m)) n

pub taken_begins : (m : Option_of) (ss : List Symbol) (ms : List Mark) (k : Word) → NextIs (Some k) (mark_words ms) → Walks (continuation m ++ ss) ms → begins_all (continuation m) k ≡ true
taken_begins m ss ms k n d =
    let f = first_of k (mark_words ms) n in
    begins_heads (continuation m) k ∙ solid_begun (continuation m) ss k f.0 (more_solid m) (subst (Begun (continuation m ++ ss)) f.1 (begun d))

pub turns_taken : (k : Word) (m : Option_of) (ss : List Symbol) → begins_all (continuation m) k ≡ true → Turns (Some k) (More m ∷ ss) (continuation m ++ ss) []
turns_taken k m ss b = record {
  on = λ ms n d. elim (of_more m ss ms d) [
    | inl e ↦ (ms, refl, e)
    | inr e ↦ absurd (not_both (goes_on m (mark_words ms)) (goes_on_at m k (mark_words ms) n ∙ b) e.0)
  ];
  back = λ ms n d. taken d;
  silent = refl;
  level = λ ms. ap (λ h. mark_depths h ms) (sym (held_taken m ss));
}

pub turns_left : (k : Word) (m : Option_of) (ss : List Symbol) → begins_all (continuation m) k ≡ false → Turns (Some k) (More m ∷ ss) ss []
turns_left k m ss b = record {
  on = λ ms n d. elim (of_more m ss ms d) [
    | inl e ↦ absurd (not_both (begins_all (continuation m) k) (taken_begins m ss ms k n e) b)
    | inr e ↦ (ms, refl, e.1)
  ];
  back = λ ms n d. left (goes_on_at m k (mark_words ms) n ∙ b) d;
  silent = refl;
  level = λ ms. refl;
}

pub turns_left_end : (m : Option_of) (ss : List Symbol) → Turns None (More m ∷ ss) ss []
turns_left_end m ss = record {
  on = λ ms n d. elim (of_more m ss ms d) [
    | inl e ↦ absurd (solid_not_end (continuation m) ss (more_solid m) (subst (Begun (continuation m ++ ss)) (nothing_first (mark_words ms) n) (begun e)))
    | inr e ↦ (ms, refl, e.1)
  ];
  back = λ ms n d. left (ap (goes_on m) (nothing_first (mark_words ms) n)) d;
  silent = refl;
  level = λ ms. refl;
}

-- no option goes on at the end
pub end_taken : (m : Option_of) (ss : List Symbol) (ms : List Mark) → Walks (continuation m ++ ss) ms → mark_words ms ≡ [] → ⊥
end_taken m ss ms d e = solid_not_end (continuation m) ss (more_solid m) (subst (Begun (continuation m ++ ss)) e (begun d))
