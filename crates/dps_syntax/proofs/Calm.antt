-- What is expected can come: no dead end is ever expected.
use Rattle.std.proofs.Common.{◌≡◌, Bool, true, false, not, ◌&&◌, List, [], ◌∷◌, ◌++◌, Option, Some, None, refl, ap, sym, ◌∙◌, inl, inr}
use Rattle.dps_syntax.specs.declared.grammar.Word.{Word}
use Rattle.dps_syntax.specs.declared.grammar.Word.TheVariants.{Of, Zero}
use Rattle.dps_lex.specs.declared.vocabulary.TokenKind.TheVariants as token
use Rattle.dps_syntax.specs.declared.grammar.Production.{Production}
use Rattle.dps_syntax.specs.declared.grammar.Production.TheVariants as production
use Rattle.dps_syntax.specs.declared.grammar.More.{More as Option_of}
use Rattle.dps_syntax.specs.declared.grammar.More.TheVariants as more
use Rattle.dps_syntax.specs.declared.grammar.Symbol.{Symbol}
use Rattle.dps_syntax.specs.declared.grammar.Symbol.TheVariants.{Sign, Inner, More, Close}
use Rattle.dps_syntax.specs.declared.grammar.Mark.{Mark}
use Rattle.dps_syntax.specs.declared.grammar.Mark.TheVariants as mark
use Rattle.dps_syntax.specs.Grammar.{alternatives, continuation, begins_all, goes_on, IsOneOf, sign_of, zero_sign}
use Rattle.dps_syntax.specs.Marks.{mark_words, Walks, done, sign, inner, close, left}
use Rattle.dps_syntax.specs.Calm.{among, closed_to, closed_behind, forbidden, sample, lead, outside, calm}
use Rattle.dps_syntax.proofs.Tables.{both, not_both, all_one, within, within_among, heads_all, parted, fits, rows_fit, more_fit, more_closed}
use Rattle.dps_syntax.specs.Expected.{NextIs}
use Rattle.dps_syntax.proofs.Walking.{begins_heads, bool_cases, not_false, takes_self}

-- calm stays calm

abbrev pub lead_else : Option Word → Option Word → Option Word
lead_else None other = other
lead_else (Some k) other = Some k

lead_append : (items ss : List Symbol) → lead (items ++ ss) ≡ lead_else (lead items) (lead ss)
lead_append [] ss = refl
lead_append (Sign k ∷ items) ss = refl
lead_append (Inner p ∷ items) ss = refl
lead_append (More m ∷ items) ss = lead_append items ss
lead_append (Close p ∷ items) ss = lead_append items ss

two : (a b : Bool) → a ≡ true → b ≡ true → (a && b) ≡ true
two true b e f = f
two false b e f = cc

outside_less : (kinds own : List Word) (next : Option Word) → within kinds own ≡ true → outside own next ≡ true → outside kinds next ≡ true
outside_less kinds own None w o = refl
outside_less kinds own (Some k) w o =
    elim (bool_cases (among kinds k)) [
      | inl t ↦ absurd (not_both (among own k) (within_among kinds own k w t) (not_false (among own k) o))
      | inr f ↦ ap not f
    ]

parted_outside : (own kinds : List Word) (here next : Option Word) → parted own kinds here ≡ true → outside own next ≡ true → outside kinds (lead_else here next) ≡ true
parted_outside own kinds None next h o = outside_less kinds own next h o
parted_outside own kinds (Some k) next h o = h

pub calm_append : (own : List Word) (items ss : List Symbol) → fits own items ≡ true → outside own (lead ss) ≡ true → calm ss ≡ true → calm (items ++ ss) ≡ true
calm_append own [] ss f o c = c
calm_append own (s ∷ items) ss f o c =
    let h = both (parted own (forbidden s) (lead items)) (fits own items) f in
    two (outside (forbidden s) (lead (items ++ ss))) (calm (items ++ ss))
    (ap (outside (forbidden s)) (lead_append items ss) ∙ parted_outside own (forbidden s) (lead items) (lead ss) h.0 o)
    (calm_append own items ss h.1 o c)

outside_nothing : (next : Option Word) → outside [] next ≡ true
outside_nothing None = refl
outside_nothing (Some k) = refl

pub calm_close : (p : Production) (ss : List Symbol) → calm ss ≡ true → calm (Close p ∷ ss) ≡ true
calm_close p ss c = two (outside [] (lead ss)) (calm ss) (outside_nothing (lead ss)) c

pub calm_row : (p : Production) (items ss : List Symbol) → IsOneOf (alternatives p) items → calm (Inner p ∷ ss) ≡ true → calm (items ++ Close p ∷ ss) ≡ true
calm_row p items ss o c =
    let h = both (outside (closed_to p) (lead ss)) (calm ss) c in
    calm_append (closed_to p) items (Close p ∷ ss) (all_one (fits (closed_to p)) (alternatives p) items (rows_fit p) o) h.0 (calm_close p ss h.1)

pub calm_taken : (m : Option_of) (ss : List Symbol) → calm (More m ∷ ss) ≡ true → calm (continuation m ++ ss) ≡ true
calm_taken m ss c =
    let h = both (outside (closed_behind m) (lead ss)) (calm ss) c in
    calm_append (closed_behind m) (continuation m) ss (more_fit m) h.0 h.1

pub calm_behind : (s : Symbol) (ss : List Symbol) → calm (s ∷ ss) ≡ true → calm ss ≡ true
calm_behind s ss c = (both (outside (forbidden s) (lead ss)) (calm ss) c).1

-- a word of each production

left_out : (m : Option_of) (next : Option Word) (ss : List Symbol) (ms : List Mark) → NextIs next (mark_words ms) → outside (closed_behind m) next ≡ true → Walks ss ms → Walks (More m ∷ ss) ms
left_out m next ss ms n o d = left (stays next (mark_words ms) n o) d
  where
    stays : (next : Option Word) (ts : List Word) → NextIs next ts → outside (closed_behind m) next ≡ true → goes_on m ts ≡ false
    stays None [] n o = refl
    stays None (t ∷ ts) n o = absurd n
    stays (Some k) [] n o = absurd n
    stays (Some k) (t ∷ ts) n o =
        let a : among (closed_behind m) t ≡ false = ap (among (closed_behind m)) n ∙ not_false (among (closed_behind m) k) o in
        elim (bool_cases (begins_all (continuation m) t)) [
          | inl b ↦ absurd (not_both (among (closed_behind m) t) (within_among (heads_all (continuation m)) (closed_behind m) t (more_closed m) (sym (begins_heads (continuation m) t) ∙ b)) a)
          | inr b ↦ b
        ]

-- some trees of a production, before these
pub record Tree (p : Production) (ss : List Symbol) : Type 0 where
  pub marks : List Mark
  pub next : NextIs (Some (sample p)) (mark_words marks)
  pub derived : Walks (Inner p ∷ ss) marks

Sample : Production → Type 0
Sample p = (ss : List Symbol) (next : Option Word) (ms : List Mark) → NextIs next (mark_words ms) → outside (closed_to p) next ≡ true → Walks ss ms → Tree p ss

weaker : (kinds own : List Word) (next : Option Word) → within kinds own ≡ true → outside own next ≡ true → outside kinds next ≡ true
weaker kinds own next w o = outside_less kinds own next w o

term_word : Sample production.Term
unfolding Sample
term_word ss next ms n o d = record {
  marks = mark.Open production.Term ∷ mark.Token (Of token.Identifier) ∷ mark.Close production.Term ∷ ms;
  next = refl;
  derived =
      inner (sign_of token.Identifier ∷ More more.Brackets ∷ []) (inl refl) (sign refl (left_out more.Brackets next (Close production.Term ∷ ss) (mark.Close production.Term ∷ ms) n o (close d)));
}

pattern_word : Sample production.Pattern
unfolding Sample
pattern_word ss next ms n o d = record {
  marks = mark.Open production.Pattern ∷ mark.Token (Of token.Identifier) ∷ mark.Close production.Pattern ∷ ms;
  next = refl;
  derived = inner (sign_of token.Identifier ∷ []) (inl refl) (sign refl (close d));
}

pre_word : Sample production.Pre
unfolding Sample
pre_word ss next ms n o d = record {
  marks = mark.Open production.Pre ∷ mark.Token Zero ∷ mark.Close production.Pre ∷ ms;
  next = refl;
  derived = inner (zero_sign ∷ []) (inl refl) (sign refl (close d));
}

sum_word : Sample production.Sum
unfolding Sample
sum_word ss next ms n o d =
    let h = pre_word (More more.Choice ∷ Close production.Sum ∷ ss) next (mark.Close production.Sum ∷ ms) n (weaker (closed_to production.Pre) (closed_to production.Sum) next refl o)
    (left_out more.Choice next (Close production.Sum ∷ ss) (mark.Close production.Sum ∷ ms) n (weaker (closed_behind more.Choice) (closed_to production.Sum) next refl o) (close d)) in
    record { marks = mark.Open production.Sum ∷ h.marks; next = h.next; derived = inner (Inner production.Pre ∷ More more.Choice ∷ []) (inl refl) h.derived }

par_word : Sample production.Par
unfolding Sample
par_word ss next ms n o d =
    let h = sum_word (More more.Parallel ∷ Close production.Par ∷ ss) next (mark.Close production.Par ∷ ms) n (weaker (closed_to production.Sum) (closed_to production.Par) next refl o)
    (left_out more.Parallel next (Close production.Par ∷ ss) (mark.Close production.Par ∷ ms) n (weaker (closed_behind more.Parallel) (closed_to production.Par) next refl o) (close d)) in
    record { marks = mark.Open production.Par ∷ h.marks; next = h.next; derived = inner (Inner production.Sum ∷ More more.Parallel ∷ []) (inl refl) h.derived }

ids_word : Sample production.Ids
unfolding Sample
ids_word ss next ms n o d = record {
  marks = mark.Open production.Ids ∷ mark.Token (Of token.Identifier) ∷ mark.Close production.Ids ∷ ms;
  next = refl;
  derived = inner (sign_of token.Identifier ∷ More more.Names ∷ []) (inl refl) (sign refl (left_out more.Names next (Close production.Ids ∷ ss) (mark.Close production.Ids ∷ ms) n o (close d)));
}

decl_word : Sample production.Decl
unfolding Sample
decl_word ss next ms n o d =
    let last = sign_of token.Dot ∷ Close production.Decl ∷ ss in
    let lasts = mark.Token (Of token.Dot) ∷ mark.Close production.Decl ∷ ms in
    let e : Walks last lasts = sign refl (close d) in
    let h = ids_word (More more.Private ∷ last) (Some (Of token.Dot)) lasts refl refl (left refl e) in
    record {
      marks = mark.Open production.Decl ∷ mark.Token (Of token.Free) ∷ h.marks;
      next = refl;
      derived = inner
          (sign_of token.Free ∷ Inner production.Ids ∷ More more.Private ∷ sign_of token.Dot ∷ []) (inl refl) (sign refl h.derived);
    }

rule_word : Sample production.Rule
unfolding Sample
rule_word ss next ms n o d =
    let t = term_word (Close production.Rule ∷ ss) next (mark.Close production.Rule ∷ ms) n o (close d) in
    let last = sign_of token.CloseParenthesis ∷ sign_of token.Arrow ∷ Inner production.Term ∷ Close production.Rule ∷ ss in
    let lasts = mark.Token (Of token.CloseParenthesis) ∷ mark.Token (Of token.Arrow) ∷ t.marks in
    let a : Walks last lasts = sign refl (sign refl t.derived) in
    let h = term_word (More more.Terms ∷ last) (Some (Of token.CloseParenthesis)) lasts refl refl (left refl a) in
    record {
      marks = mark.Open production.Rule ∷ mark.Token (Of token.Identifier) ∷ mark.Token (Of token.OpenParenthesis) ∷ h.marks;
      next = refl;
      derived = inner
          (sign_of token.Identifier ∷ sign_of token.OpenParenthesis ∷ Inner production.Term ∷ More more.Terms ∷ sign_of token.CloseParenthesis ∷ sign_of token.Arrow ∷ Inner production.Term ∷ [])
          (inl refl) (sign refl (sign refl h.derived));
    }

query_word : Sample production.Query
unfolding Sample
query_word ss next ms n o d =
    let last = sign_of token.CloseParenthesis ∷ sign_of token.Dot ∷ Close production.Query ∷ ss in
    let lasts = mark.Token (Of token.CloseParenthesis) ∷ mark.Token (Of token.Dot) ∷ mark.Close production.Query ∷ ms in
    let a : Walks last lasts = sign refl (sign refl (close d)) in
    let right = par_word last (Some (Of token.CloseParenthesis)) lasts refl refl a in
    let b : Walks (sign_of token.Comma ∷ Inner production.Par ∷ last) (mark.Token (Of token.Comma) ∷ right.marks) = sign refl right.derived in
    let first = par_word (sign_of token.Comma ∷ Inner production.Par ∷ last) (Some (Of token.Comma)) (mark.Token (Of token.Comma) ∷ right.marks) refl refl b in
    record {
      marks = mark.Open production.Query ∷ mark.Token (Of token.Query) ∷ mark.Token (Of token.TraceEquiv) ∷ mark.Token (Of token.OpenParenthesis) ∷ first.marks;
      next = refl;
      derived =
          inner (sign_of token.Query ∷ sign_of token.TraceEquiv ∷ sign_of token.OpenParenthesis ∷ Inner production.Par ∷ sign_of token.Comma ∷ Inner production.Par ∷ sign_of token.CloseParenthesis
          ∷ sign_of token.Dot ∷ []) (inl refl) (sign refl (sign refl (sign refl first.derived)));
    }

word : (p : Production) → Sample p
unfolding Sample
word production.Decl = decl_word
word production.Ids = ids_word
word production.Rule = rule_word
word production.Query = query_word
word production.Par = par_word
word production.Sum = sum_word
word production.Pre = pre_word
word production.Pattern = pattern_word
word production.Term = term_word

pub record Comes (ss : List Symbol) : Type 0 where
  pub marks : List Mark
  pub next : NextIs (lead ss) (mark_words marks)
  pub derived : Walks ss marks

-- what is calmly expected can come
pub comes : (ss : List Symbol) → calm ss ≡ true → Comes ss
unfolding Sample
comes [] c = record { marks = []; next = tt; derived = done }
comes (Sign k ∷ ss) c = let h = comes ss (calm_behind (Sign k) ss c) in record { marks = mark.Token k ∷ h.marks; next = refl; derived = sign (takes_self k) h.derived }
comes (Close p ∷ ss) c = let h = comes ss (calm_behind (Close p) ss c) in record { marks = mark.Close p ∷ h.marks; next = h.next; derived = close h.derived }
comes (Inner p ∷ ss) c =
    let b = both (outside (closed_to p) (lead ss)) (calm ss) c in
    let h = comes ss b.1 in
    let w = word p ss (lead ss) h.marks h.next b.0 h.derived in
    record { marks = w.marks; next = w.next; derived = w.derived }
comes (More m ∷ ss) c =
    let b = both (outside (closed_behind m) (lead ss)) (calm ss) c in
    let h = comes ss b.1 in
    record { marks = h.marks; next = h.next; derived = left_out m (lead ss) ss h.marks h.next b.0 h.derived }
