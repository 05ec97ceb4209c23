-- Rows of productions, read one by one.
use Rattle.std.proofs.Common.{◌≡◌, ℕ, zero, suc, ◌+◌, ◌<◌, ◌≤◌, List, [], ◌∷◌, ◌++◌, refl, sym, ap, ◌∙◌, length, get_or, drop, append_assoc, add-one, arith, subst, length-append}
use Rattle.std.proofs.Math.Seq.{drop-cons, drop-length}
use Rattle.std.proofs.lemmas.List.{append-nil}
use Rattle.dps_scopes.specs.declared.fault.NameFault.{NameFault}
use Rattle.dps_syntax.specs.declared.tree.Part.{Part}
use Rattle.dps_syntax.specs.declared.tree.Part.TheVariants.{Token, Inner}
use Rattle.dps_syntax.specs.Tree.{Lexeme, Derivation, Parts, none, token, inner, count}
use Rattle.dps_syntax.specs.Parts.{parts_of}
use Rattle.dps_scopes.specs.Outcome.{Outcome, done, faulty, and_then}
use Rattle.dps_scopes.specs.Definition.{Definition}
use Rattle.dps_scopes.specs.Scopes.{Locals}
use Rattle.dps_scopes.specs.Terms.{count_inner, term, terms}
use Rattle.dps_scopes.specs.RuleTerms.{rule_term, rule_terms}

-- what is left of a list begins with the element at hand
pub drop_next : {X : Type 0} (xs : List X) (i : ℕ) (d x : X) → i < length xs → get_or xs i d ≡ x → drop i xs ≡ x ∷ drop (i + 1) xs
drop_next xs i d x h e = rw (add-one, drop-cons xs i d) (ap (λ y. y ∷ drop (suc i) xs) e)

-- what is left of a row begins with the part at hand
pub at_token : (xs : List Part) (i : ℕ) (d : Part) (l : Lexeme) → i < length xs → get_or xs i d ≡ Token l → parts_of (drop i xs) ≡ token l (parts_of (drop (i + 1) xs))
at_token xs i d l h e = rw (add-one, drop-cons xs i d, e) refl

pub at_inner : (xs : List Part) (i : ℕ) (d : Part) (t : Derivation) → i < length xs → get_or xs i d ≡ Inner t → parts_of (drop i xs) ≡ inner t.production t.parts (parts_of (drop (i + 1) xs))
at_inner xs i d t h e = rw (add-one, drop-cons xs i d, e) refl

pub at_end : (xs : List Part) (i : ℕ) → length xs ≡ i → parts_of (drop i xs) ≡ none
at_end xs i h = ap parts_of (ap (λ n. drop n xs) (sym h) ∙ drop-length xs)

-- each production of a row is smaller than the row
pub inner_is_smaller : (xs : List Part) (i : ℕ) (d : Part) (t : Derivation) → i < length xs → get_or xs i d ≡ Inner t → count t.parts < count (parts_of xs)
inner_is_smaller [] i d t h e = absurd (omega arith)
inner_is_smaller (Token l ∷ xs) zero d t h e = cc
inner_is_smaller (Token l ∷ xs) (suc i) d t h e = omega (arith, inner_is_smaller xs i d t (omega arith) e)
inner_is_smaller (Inner u ∷ xs) zero d t h e =
    let same : u ≡ t = cc in
    omega (arith, ap (λ (v : Derivation). count v.parts) same)
inner_is_smaller (Inner u ∷ xs) (suc i) d t h e = omega (arith, inner_is_smaller xs i d t (omega arith) e)

-- What a loop keeps that counts the productions of a row: some are counted, and the others are left.
pub record IsCounting (all rest : Parts) (index counted : ℕ) : Type 0 where
  pub counts : counted + count_inner rest ≡ count_inner all
  pub within : counted ≤ index

pub counting_first : (all : Parts) → IsCounting all all 0 0
counting_first all = record { counts = omega arith; within = omega arith }

pub counting_token :
    (all : Parts) (xs : List Part) (i n : ℕ) (d : Part) (l : Lexeme) → IsCounting all (parts_of (drop i xs)) i n → i < length xs
    → get_or xs i d ≡ Token l → IsCounting all (parts_of (drop (i + 1) xs)) (i + 1) n
counting_token all xs i n d l r h e = record {
  counts = ap (λ ps. n + count_inner ps) (sym (at_token xs i d l h e)) ∙ r.counts;
  within = omega (arith, r.within);
}

pub counting_inner :
    (all : Parts) (xs : List Part) (i n : ℕ) (d : Part) (t : Derivation) → IsCounting all (parts_of (drop i xs)) i n → i < length xs
    → get_or xs i d ≡ Inner t → IsCounting all (parts_of (drop (i + 1) xs)) (i + 1) (n + 1)
counting_inner all xs i n d t r h e =
    let one : n + count_inner (inner t.production t.parts (parts_of (drop (i + 1) xs))) ≡ count_inner all = ap (λ ps. n + count_inner ps) (sym (at_inner xs i d t h e)) ∙ r.counts in
    record { counts = omega (arith, one); within = omega (arith, r.within) }

pub counting_last : (all : Parts) (xs : List Part) (i n : ℕ) → IsCounting all (parts_of (drop i xs)) i n → length xs ≡ i → n ≡ count_inner all
counting_last all xs i n r e =
    let left : n + count_inner none ≡ count_inner all = ap (λ ps. n + count_inner ps) (sym (at_end xs i e)) ∙ r.counts in
    omega (arith, left)

pub ruleset for_counting = (counting_first, counting_token, counting_inner, counting_last)

-- `many` reads the productions of a row one by one, by `one`
pub record IsRow {S A : Type 0} (one : Parts → S → Outcome S A) (many : Parts → S → Outcome S (List A)) : Type 0 where
  pub ended : (s : S) → many none s ≡ done [] s
  pub passed : (l : Lexeme) (ps : Parts) (s : S) → many (token l ps) s ≡ many ps s
  pub taken : (t : Derivation) (ps : Parts) (s : S) → many (inner t.production t.parts ps) s ≡ and_then (one t.parts s) (λ w after. and_then (many ps after) (λ ws last. done (w ∷ ws) last))

-- What `many` makes of a row follows from what was found so far, and from what is left.
pub record Reads {S A : Type 0} (many : Parts → S → Outcome S (List A)) (all : Parts) (start : S) (found : List A) (rest : Parts) (now : S) : Type 0 where
  pub so_far : many all start ≡ and_then (many rest now) (λ ws last. done (found ++ ws) last)
  pub counted : length found + count_inner rest ≡ count_inner all

module _ {S A : Type 0} (one : Parts → S → Outcome S A) (many : Parts → S → Outcome S (List A)) (row : IsRow one many) where
  pub started : (all : Parts) (s : S) → Reads many all s [] all s
  started all s = record { so_far = whole (many all s); counted = omega arith }
    where
      whole : (o : Outcome S (List A)) → o ≡ and_then o (λ ws last. done ([] ++ ws) last)
      whole (done ws last) = refl
      whole (faulty f) = refl

  pub past_token :
      (all : Parts) (start : S) (found : List A) (xs : List Part) (i : ℕ) (d : Part) (l : Lexeme) (now : S)
      → Reads many all start found (parts_of (drop i xs)) now → i < length xs → get_or xs i d ≡ Token l
      → Reads many all start found (parts_of (drop (i + 1) xs)) now
  past_token all start found xs i d l now reads h e = go (subst (λ ps. Reads many all start found ps now) (at_token xs i d l h e) reads)
    where
      go : Reads many all start found (token l (parts_of (drop (i + 1) xs))) now → Reads many all start found (parts_of (drop (i + 1) xs)) now
      go r = record {
        so_far = r.so_far ∙ ap (λ o. and_then o (λ ws last. done (found ++ ws) last)) (row.passed l (parts_of (drop (i + 1) xs)) now);
        counted = r.counted;
      }

  pub past_inner :
      (all : Parts) (start : S) (found new : List A) (xs : List Part) (i : ℕ) (d : Part) (t : Derivation) (now : S) (w : A) (after : S)
      → Reads many all start found (parts_of (drop i xs)) now → i < length xs → get_or xs i d ≡ Inner t → one t.parts now ≡ done w after
      → new ≡ found ++ w ∷ [] → Reads many all start new (parts_of (drop (i + 1) xs)) after
  past_inner all start found new xs i d t now w after reads h e o n =
      subst (λ ws. Reads many all start ws ps after) (sym n) (go (subst (λ qs. Reads many all start found qs now) (at_inner xs i d t h e) reads))
    where
      ps : Parts
      ps = parts_of (drop (i + 1) xs)

      more : (o : Outcome S (List A)) → and_then (and_then o (λ ws last. done (w ∷ ws) last)) (λ ws last. done (found ++ ws) last) ≡ and_then o (λ ws last. done ((found ++ w ∷ []) ++ ws) last)
      more (done ws last) = ap (λ xs. done xs last) (sym (append_assoc found (w ∷ []) ws))
      more (faulty f) = refl

      go : Reads many all start found (inner t.production t.parts (parts_of (drop (i + 1) xs))) now → Reads many all start (found ++ w ∷ []) (parts_of (drop (i + 1) xs)) after
      go r = record {
        so_far =
            r.so_far ∙ (ap (λ o. and_then o (λ ws last. done (found ++ ws) last))
            (row.taken t (parts_of (drop (i + 1) xs)) now ∙ ap (λ o. and_then o (λ w after. and_then (many (parts_of (drop (i + 1) xs)) after) (λ ws last. done (w ∷ ws) last))) o)
            ∙ more (many (parts_of (drop (i + 1) xs)) after));
        counted = omega (arith, r.counted, length-append found (w ∷ []));
      }

  pub faulted :
      (all : Parts) (start : S) (found : List A) (xs : List Part) (i : ℕ) (d : Part) (t : Derivation) (now : S) (f : NameFault)
      → Reads many all start found (parts_of (drop i xs)) now → i < length xs → get_or xs i d ≡ Inner t → one t.parts now ≡ faulty f
      → many all start ≡ faulty f
  faulted all start found xs i d t now f reads h e o = go (subst (λ qs. Reads many all start found qs now) (at_inner xs i d t h e) reads)
    where
      go : Reads many all start found (inner t.production t.parts (parts_of (drop (i + 1) xs))) now → many all start ≡ faulty f
      go r =
          r.so_far ∙ ap (λ o. and_then o (λ ws last. done (found ++ ws) last))
          (row.taken t (parts_of (drop (i + 1) xs)) now ∙ ap (λ o. and_then o (λ w after. and_then (many (parts_of (drop (i + 1) xs)) after) (λ ws last. done (w ∷ ws) last))) o)

  pub finished : (all : Parts) (start : S) (found : List A) (xs : List Part) (i : ℕ) (now : S) → Reads many all start found (parts_of (drop i xs)) now → length xs ≡ i → many all start ≡ done found now
  finished all start found xs i now reads e = go (subst (λ ps. Reads many all start found ps now) (at_end xs i e) reads)
    where
      go : Reads many all start found none now → many all start ≡ done found now
      go r = r.so_far ∙ (ap (λ o. and_then o (λ ws last. done (found ++ ws) last)) (row.ended now) ∙ ap (λ xs. done xs now) (append-nil found))

pub found_all :
    {S A : Type 0} (many : Parts → S → Outcome S (List A)) (all : Parts) (start : S) (found : List A) (xs : List Part) (i : ℕ) (now : S)
    → Reads many all start found (parts_of (drop i xs)) now → length xs ≡ i → length found ≡ count_inner all
found_all many all start found xs i now reads e =
    let r = subst (λ ps. Reads many all start found ps now) (at_end xs i e) reads in
    omega (arith, r.counted)

-- the rows of terms
pub terms_are_row : (definitions : List Definition) (scope : Locals) → IsRow (term definitions scope) (terms definitions scope)
terms_are_row definitions scope = record { ended = λ s. refl; passed = λ l ps s. refl; taken = λ t ps s. refl }

pub rule_terms_are_row : (definitions : List Definition) → IsRow (rule_term definitions) (rule_terms definitions)
rule_terms_are_row definitions = record { ended = λ s. refl; passed = λ l ps s. refl; taken = λ t ps s. refl }

pub ruleset for_rows = (started, past_token, past_inner, faulted, finished, found_all, terms_are_row, rule_terms_are_row)
