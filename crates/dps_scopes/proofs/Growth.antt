-- How a signature grows while a text is read, part by part.
use Rattle.std.proofs.Common.{◌≡◌, ◌≤◌, ℕ, List, [], ◌∷◌, ◌++◌, sym, ap, subst, ◌∙◌, append_assoc}
use Rattle.std.proofs.lemmas.List.{append-nil}
use Rattle.dps_signature.specs.Signature.{Signature}
use Rattle.dps_syntax.specs.Tree.{Parts}
use Rattle.dps_scopes.specs.declared.meaning.Projection.{Projection}
use Rattle.dps_scopes.specs.Scopes.{IsProjection, with_tuple}
use Rattle.dps_scopes.specs.Terms.{count_inner}
use Rattle.dps_scopes.specs.Growth.{GrowsByTuples, same, one_more, HasTextsOf}

-- signatures that grow by tuples

pub none_added : (s : Signature) → GrowsByTuples s s
none_added s = same

pub unchanged : (s t : Signature) → t ≡ s → GrowsByTuples s t
unchanged s t e = subst (GrowsByTuples s) (sym e) same

pub followed : (s t u : Signature) → GrowsByTuples s t → GrowsByTuples t u → GrowsByTuples s u
followed s t u g same = g
followed s t u g (one_more h some few e) = one_more (followed s t _ g h) some few e

-- a tuple alone, and a tuple with the terms behind it

pub tuple_added : (s t : Signature) (n : ℕ) → t ≡ (with_tuple s n).signature → 2 ≤ n → n ≤ 8 → GrowsByTuples s t
tuple_added s t n e some few = one_more {before = s} {n = n} same some few e

pub tuple_then_more :
    (s t u : Signature) (n : ℕ) → GrowsByTuples t u → t ≡ (with_tuple s n).signature → 2 ≤ n → n ≤ 8 → GrowsByTuples s u
tuple_then_more s t u n g e some few = followed s t u (tuple_added s t n e some few) g

pub projection_added : (s t : Signature) (p : Projection) → t ≡ (with_tuple s p.length).signature → IsProjection p → GrowsByTuples s t
projection_added s t p e i = tuple_added s t p.length e i.some i.few

pub projection_then_more :
    (s t u : Signature) (p : Projection) → GrowsByTuples t u → t ≡ (with_tuple s p.length).signature → IsProjection p → GrowsByTuples s u
projection_then_more s t u p g e i = tuple_then_more s t u p.length g e i.some i.few

-- a tuple of as many members as stand in a row, with these behind it
pub members_then_more :
    (s t u : Signature) (ps : Parts) (n : ℕ) → n ≡ count_inner ps → 2 ≤ n → n ≤ 8 → t ≡ (with_tuple s n).signature → GrowsByTuples t u
    → GrowsByTuples s u
members_then_more s t u ps n f some few e g = tuple_then_more s t u n g e some few

-- the variables of a rule

pub no_text_more : (xs : List (List ℕ)) → HasTextsOf xs xs
no_text_more xs = record { more = []; texts = sym (append-nil xs) }

pub texts_kept : (xs ys : List (List ℕ)) → ys ≡ xs → HasTextsOf xs ys
texts_kept xs ys e = record { more = []; texts = e ∙ sym (append-nil xs) }

pub one_text_more : (xs ys : List (List ℕ)) (x : List ℕ) → ys ≡ xs ++ x ∷ [] → HasTextsOf xs ys
one_text_more xs ys x e = record { more = x ∷ []; texts = e }

pub more_texts : (xs ys zs : List (List ℕ)) → HasTextsOf xs ys → HasTextsOf ys zs → HasTextsOf xs zs
more_texts xs ys zs h k = record { more = h.more ++ k.more; texts = k.texts ∙ (ap (λ l. l ++ k.more) h.texts ∙ append_assoc xs h.more k.more) }

pub ruleset for_terms = (none_added, no_text_more)

pub ruleset for_applied = (none_added, unchanged, tuple_added, tuple_then_more, projection_added, projection_then_more)

pub ruleset for_brackets = (none_added, unchanged, members_then_more, no_text_more)

pub ruleset for_texts = (texts_kept, one_text_more)

pub ruleset for_rows = (none_added, followed, no_text_more, more_texts)
