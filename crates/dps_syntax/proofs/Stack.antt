-- The stack of what is expected, and how it turns.
use Rattle.std.proofs.Common.{reverse, ℕ, ◌+◌, ◌<◌, ◌≤◌, length, arith, nat_lt, ◌≡◌, true, false, List, [], ◌∷◌, ◌++◌, Option, Some, None, refl, ap, sym, ◌∙◌, subst, append_assoc}
use Rattle.dps_syntax.specs.declared.grammar.Word.{Word}
use Rattle.dps_syntax.specs.declared.grammar.Production.{Production}
use Rattle.dps_syntax.specs.declared.grammar.Production.TheVariants as production
use Rattle.dps_syntax.specs.declared.grammar.More.{More as Option_of}
use Rattle.dps_syntax.specs.declared.grammar.More.TheVariants as more
use Rattle.dps_syntax.specs.declared.grammar.Symbol.{Symbol}
use Rattle.dps_syntax.specs.declared.grammar.Symbol.TheVariants.{Sign, Inner, More, Close}
use Rattle.dps_syntax.specs.declared.grammar.Mark.{Mark}
use Rattle.dps_syntax.specs.declared.grammar.Mark.TheVariants as mark
use Rattle.std.proofs.lemmas.List.{reverse-append, reverse-reverse, length-reverse}
use Rattle.dps_syntax.specs.Depth.{own_depth}
use borrow.Author.Tests.{ltb-true}
use Rattle.dps_syntax.specs.Grammar.{alternatives, continuation, begins_all, chosen, IsOneOf}
use Rattle.dps_syntax.specs.Marks.{mark_words}
use Rattle.dps_syntax.specs.Expected.{NextIs, Turns, Refuses}
use Rattle.dps_syntax.specs.Calm.{calm, held}
use Rattle.dps_syntax.proofs.Tables.{all, all_one, is_solid, rows_solid, more_solid}
use Rattle.dps_syntax.proofs.Walking.{turns_same, turns_again, turns_row, row_stuck, row_end_stuck, turns_taken, turns_left, turns_left_end, turns_close, chosen_is, words_silent}
use Rattle.dps_syntax.proofs.Calm.{calm_row, calm_taken, calm_behind}

-- how many turns it may take until a sign is expected
abbrev pub rank : Production → ℕ
rank production.Decl = 2
rank production.Ids = 2
rank production.Rule = 2
rank production.Query = 2
rank production.Par = 4
rank production.Sum = 3
rank production.Pre = 2
rank production.Pattern = 2
rank production.Term = 2

abbrev pub wait : List Symbol → ℕ
wait [] = 0
wait (Sign k ∷ ss) = 1
wait (Inner p ∷ ss) = rank p
wait (More m ∷ ss) = 5 + wait ss
wait (Close p ∷ ss) = 1 + wait ss

abbrev pub front : List Symbol → ℕ
front [] = 9
front (s ∷ ss) = wait (s ∷ [])

pub rows_short : (x : Production) → all (λ items. nat_lt (front items) (rank x)) (alternatives x) ≡ true
rows_short production.Decl = refl
rows_short production.Ids = refl
rows_short production.Rule = refl
rows_short production.Query = refl
rows_short production.Par = refl
rows_short production.Sum = refl
rows_short production.Pre = refl
rows_short production.Pattern = refl
rows_short production.Term = refl

pub more_short : (x : Option_of) → nat_lt (front (continuation x)) 5 ≡ true
more_short more.Declarations = refl
more_short more.Private = refl
more_short more.Functions = refl
more_short more.Rules = refl
more_short more.Parameters = refl
more_short more.Names = refl
more_short more.Terms = refl
more_short more.Parallel = refl
more_short more.Choice = refl
more_short more.Then = refl
more_short more.Else = refl
more_short more.Arguments = refl
more_short more.Patterns = refl
more_short more.Brackets = refl
more_short more.Filling = refl

wait_front : (items ss : List Symbol) → is_solid items ≡ true → wait (items ++ ss) ≡ front items
wait_front [] ss s = cc
wait_front (Sign k ∷ items) ss s = refl
wait_front (Inner p ∷ items) ss s = refl
wait_front (More m ∷ items) ss s = cc
wait_front (Close p ∷ items) ss s = cc

pub wait_row : (p : Production) (items ss : List Symbol) → IsOneOf (alternatives p) items → wait (items ++ ss) < rank p
wait_row p items ss o =
    let e = wait_front items ss (all_one is_solid (alternatives p) items (rows_solid p) o) in
    let h = all_one (λ i. nat_lt (front i) (rank p)) (alternatives p) items (rows_short p) o in
    rw e (ltb-true (front items) (rank p) h)

pub wait_taken : (m : Option_of) (ss : List Symbol) → wait (continuation m ++ ss) < wait (More m ∷ ss)
wait_taken m ss =
    let e = wait_front (continuation m) ss (more_solid m) in
    let h : front (continuation m) < 5 = ltb-true (front (continuation m)) 5 (more_short m) in
    omega (arith, e, h)

-- what the loop of a turn keeps
pub record IsTurned (next : Option Word) (old now : List Symbol) (before after : List Mark) : Type 0 where
  pub made : List Mark
  pub split : after ≡ before ++ made
  pub turns : Turns next old now made
  pub calm : calm now ≡ true

append_nil : (xs : List Mark) → xs ++ [] ≡ xs
append_nil [] = refl
append_nil (x ∷ xs) = ap (λ t. x ∷ t) (append_nil xs)

pub turned_first : (next : Option Word) (now : List Symbol) (before : List Mark) → calm now ≡ true → IsTurned next now now before before
turned_first next now before c = record { made = []; split = sym (append_nil before); turns = turns_same next now; calm = c }

-- one turn more
step :
    (next : Option Word) (old now new from to : List Symbol) (before after last more : List Mark) → IsTurned next old now before after → now ≡ from → new ≡ to
    → last ≡ after ++ more → Turns next from to more → calm to ≡ true → IsTurned next old new before last
step next old now new from to before after last more t f g e u c = record {
  made = t.made ++ more;
  split = e ∙ ap (λ x. x ++ more) t.split ∙ append_assoc before t.made more;
  turns = turns_again next old now new t.made more t.turns (subst (λ x. Turns next x new more) (sym f) (subst (λ x. Turns next from x more) (sym g) u));
  calm = ap calm g ∙ c;
}

same_marks : (a : List Mark) → a ≡ a ++ []
same_marks a = sym (append_nil a)

pub go_close :
    (next : Option Word) (old now rest : List Symbol) (s : Symbol) (p : Production) (before after last : List Mark) → s ≡ Close p → now ≡ s ∷ rest
    → last ≡ after ++ mark.Close p ∷ [] → IsTurned next old now before after → IsTurned next old rest before last
go_close next old now rest s p before after last e n l t =
    let f : now ≡ Close p ∷ rest = n ∙ ap (λ x. x ∷ rest) e in
    step next old now rest (Close p ∷ rest) rest before after last (mark.Close p ∷ []) t f refl l (turns_close next p rest) (calm_behind (Close p) rest (ap calm (sym f) ∙ t.calm))

pub go_row :
    (next : Option Word) (k : Word) (old now rest closed new items : List Symbol) (s : Symbol) (p : Production) (rows : List (List Symbol))
    (before after last : List Mark)
    → next ≡ Some k → s ≡ Inner p → rows ≡ alternatives p → now ≡ s ∷ rest → chosen rows k ≡ Some items → closed ≡ Close p ∷ rest → new ≡ items ++ closed
    → last ≡ after ++ mark.Open p ∷ [] → IsTurned next old now before after → IsTurned next old new before last
go_row next k old now rest closed new items s p rows before after last x e r n c d m l t =
    let f : now ≡ Inner p ∷ rest = n ∙ ap (λ y. y ∷ rest) e in
    let h : chosen (alternatives p) k ≡ Some items = ap (λ y. chosen y k) (sym r) ∙ c in
    step next old now new (Inner p ∷ rest) (items ++ Close p ∷ rest) before after last (mark.Open p ∷ []) t f (m ∙ ap (λ y. items ++ y) d) l
    (subst (λ y. Turns y (Inner p ∷ rest) (items ++ Close p ∷ rest) (mark.Open p ∷ [])) (sym x) (turns_row k p items rest h))
    (calm_row p items rest (chosen_is (alternatives p) items k h) (ap calm (sym f) ∙ t.calm))

pub go_taken :
    (next : Option Word) (k : Word) (old now rest new items : List Symbol) (s : Symbol) (m : Option_of) (before after : List Mark) → next ≡ Some k → s ≡ More m
    → items ≡ continuation m → now ≡ s ∷ rest → true ≡ begins_all items k → new ≡ items ++ rest → IsTurned next old now before after
    → IsTurned next old new before after
go_taken next k old now rest new items s m before after x e i n b w t =
    let f : now ≡ More m ∷ rest = n ∙ ap (λ y. y ∷ rest) e in
    step next old now new (More m ∷ rest) (continuation m ++ rest) before after after [] t f (w ∙ ap (λ y. y ++ rest) i) (same_marks after)
    (subst (λ y. Turns y (More m ∷ rest) (continuation m ++ rest) []) (sym x) (turns_taken k m rest (ap (λ y. begins_all y k) (sym i) ∙ sym b)))
    (calm_taken m rest (ap calm (sym f) ∙ t.calm))

pub go_left :
    (next : Option Word) (k : Word) (old now rest items : List Symbol) (s : Symbol) (m : Option_of) (before after : List Mark) → next ≡ Some k → s ≡ More m
    → items ≡ continuation m → now ≡ s ∷ rest → false ≡ begins_all items k → IsTurned next old now before after → IsTurned next old rest before after
go_left next k old now rest items s m before after x e i n b t =
    let f : now ≡ More m ∷ rest = n ∙ ap (λ y. y ∷ rest) e in
    step next old now rest (More m ∷ rest) rest before after after [] t f refl (same_marks after)
    (subst (λ y. Turns y (More m ∷ rest) rest []) (sym x) (turns_left k m rest (ap (λ y. begins_all y k) (sym i) ∙ sym b)))
    (calm_behind (More m) rest (ap calm (sym f) ∙ t.calm))

pub go_left_end :
    (next : Option Word) (old now rest : List Symbol) (s : Symbol) (m : Option_of) (before after : List Mark) → next ≡ None → s ≡ More m → now ≡ s ∷ rest
    → IsTurned next old now before after → IsTurned next old rest before after
go_left_end next old now rest s m before after x e n t =
    let f : now ≡ More m ∷ rest = n ∙ ap (λ y. y ∷ rest) e in
    step next old now rest (More m ∷ rest) rest before after after [] t f refl (same_marks after)
    (subst (λ y. Turns y (More m ∷ rest) rest []) (sym x) (turns_left_end m rest))
    (calm_behind (More m) rest (ap calm (sym f) ∙ t.calm))

-- ends of a turn

refused : (next : Option Word) (old now : List Symbol) (before after : List Mark) → IsTurned next old now before after → Refuses next now → Refuses next old
refused next old now before after t r = λ ms n d. (
    let h = t.turns.on ms n d in
    r h.0 (subst (NextIs next) (ap mark_words h.1 ∙ words_silent t.made h.0 t.turns.silent) n) h.2)

pub stop_end :
    (next : Option Word) (old now rest : List Symbol) (s : Symbol) (p : Production) (before after : List Mark) → next ≡ None → s ≡ Inner p → now ≡ s ∷ rest
    → IsTurned next old now before after → Refuses next old
stop_end next old now rest s p before after x e n t =
    refused next old now before after t (subst (Refuses next) (sym (n ∙ ap (λ y. y ∷ rest) e)) (subst (λ y. Refuses y (Inner p ∷ rest)) (sym x) (row_end_stuck p rest)))

pub stop_row :
    (next : Option Word) (k : Word) (old now rest : List Symbol) (s : Symbol) (p : Production) (rows : List (List Symbol)) (before after : List Mark)
    → next ≡ Some k → s ≡ Inner p → rows ≡ alternatives p → now ≡ s ∷ rest → chosen rows k ≡ None → IsTurned next old now before after → Refuses next old
stop_row next k old now rest s p rows before after x e r n c t =
    refused next old now before after t
    (subst (Refuses next) (sym (n ∙ ap (λ y. y ∷ rest) e)) (subst (λ y. Refuses y (Inner p ∷ rest)) (sym x) (row_stuck k p rest (ap (λ y. chosen y k) (sym r) ∙ c))))

pub at_sign :
    (next : Option Word) (old now rest : List Symbol) (s : Symbol) (k : Word) (before after : List Mark) → s ≡ Sign k → now ≡ s ∷ rest
    → IsTurned next old now before after → (made : List Mark) × (after ≡ before ++ made) × Turns next old (Sign k ∷ rest) made × (calm rest ≡ true)
at_sign next old now rest s k before after e n t =
    let f : now ≡ Sign k ∷ rest = n ∙ ap (λ y. y ∷ rest) e in
    (t.made, t.split, subst (λ y. Turns next old y t.made) f t.turns, calm_behind (Sign k) rest (ap calm (sym f) ∙ t.calm))

pub at_end :
    (next : Option Word) (old now : List Symbol) (before after : List Mark) → now ≡ [] → IsTurned next old now before after
    → (made : List Mark) × (after ≡ before ++ made) × Turns next old [] made
at_end next old now before after e t = (t.made, t.split, subst (λ y. Turns next old y t.made) e t.turns)

pub wait_go :
    (k : Word) (now rest closed new items : List Symbol) (s : Symbol) (p : Production) (rows : List (List Symbol)) → s ≡ Inner p → rows ≡ alternatives p
    → now ≡ s ∷ rest → chosen rows k ≡ Some items → new ≡ items ++ closed → wait new < wait now
wait_go k now rest closed new items s p rows e r n c m =
    let f : wait now ≡ rank p = ap wait (n ∙ ap (λ y. y ∷ rest) e) in
    let h = wait_row p items closed (chosen_is (alternatives p) items k (ap (λ y. chosen y k) (sym r) ∙ c)) in
    omega (arith, f, ap wait m, h)

pub held_first : (s : Symbol) (ss : List Symbol) → held (s ∷ ss) ≡ held ss + held (s ∷ [])
held_first (Sign k) ss = omega arith
held_first (Inner p) ss = omega arith
held_first (More m) ss = omega arith
held_first (Close p) ss = omega arith

held_short : (ss : List Symbol) → held ss ≤ length ss
held_short [] = omega arith
held_short (Sign k ∷ ss) = omega (arith, held_short ss)
held_short (Inner p ∷ ss) = omega (arith, held_short ss)
held_short (More m ∷ ss) = omega (arith, held_short ss)
held_short (Close p ∷ ss) = omega (arith, held_short ss, own_short p)
  where
    own_short : (p : Production) → own_depth p ≤ 1
    own_short production.Decl = omega arith
    own_short production.Ids = omega arith
    own_short production.Rule = omega arith
    own_short production.Query = omega arith
    own_short production.Par = omega arith
    own_short production.Sum = omega arith
    own_short production.Pre = omega arith
    own_short production.Pattern = omega arith
    own_short production.Term = omega arith

-- one symbol more, where the last of the list is the next
pub held_pushed : (xs : List Symbol) (s : Symbol) → held (reverse (xs ++ s ∷ [])) ≡ held (reverse xs) + held (s ∷ [])
held_pushed xs s = ap held (reverse-append xs (s ∷ [])) ∙ held_first s (reverse xs)

pub held_within : (xs : List Symbol) → held (reverse xs) ≤ length xs
held_within xs = omega (arith, held_short (reverse xs), length-reverse xs)

pub ruleset for_stack = (reverse-append, reverse-reverse, held_pushed, held_within)

pub ruleset for_turns = (wait_taken, wait_go, turned_first, go_close, go_row, go_taken, go_left, go_left_end, stop_end, stop_row, at_sign, at_end)
