-- First faults are determined, and each text is a file or has one.
use Rattle.std.proofs.Common.{◌≡◌, ℕ, ◌+◌, ◌<◌, ◌≤◌, List, [], ◌∷◌, ◌++◌, Option, Some, None, ◌⊎◌, length}
use Rattle.std.proofs.Common.{take, drop, slice_get, refl, ap, sym, ◌∙◌, subst, inl, inr, arith, zero, suc, append_assoc, append-nil}
use Rattle.std.specs.Prelude.{MatchOption}
use Rattle.std.proofs.lemmas.List.Elements.{All-take}
use Rattle.std.proofs.lemmas.Option.{slice_get_within}
use Rattle.dps_lex.specs.Reading.{IsReading, line_behind, column_behind}
use Rattle.dps_lex.specs.LawsOfReading.{EachTextHasAReading, NoTextHasTwoReadings}
use Rattle.dps_lex.specs.declared.vocabulary.Token.{Token}
use Rattle.dps_lex.specs.declared.vocabulary.Fault.{Fault}
use Rattle.dps_lex.specs.declared.vocabulary.FaultKind.{FaultKind}
use Rattle.dps_lex.specs.declared.vocabulary.FaultKind.TheVariants as fault
use Rattle.dps_syntax.specs.declared.grammar.Word.{Word}
use Rattle.dps_syntax.specs.Tree.{Lexeme, Parts, none, token, inner, lexemes, words, word_of}
use Rattle.dps_syntax.specs.Depth.{deepest, own_depth, AreShallow, depths, Begins, IsFaultAt}
use Rattle.dps_syntax.specs.Files.{lexemes_at, words_at, IsSyntaxFault, IsFirstFault, at_token, lexical, at_end}
use Rattle.dps_syntax.specs.LawsOfFiles.{IsShallowFileOf, NoWordsHaveTwoFaults, IsTreeOfText, EachTextIsFileOrHasFault, NoTextIsFileAndHasFault, NoTextHasTwoFaults}
use Rattle.dps_syntax.proofs.Trees.{walk_of, walk_words}
use Rattle.dps_syntax.specs.Marks.{marks}
use Rattle.dps_syntax.proofs.Alike.{AreAlike, alike_derived}
use Rattle.dps_syntax.proofs.Labels.{words_same, words_of_lexemes, words_of_lexemes-lexemes}
use Rattle.dps_syntax.proofs.OneTree.{depths_agree, depths_of, take_length, not_deep, file_or_fault}
use Rattle.dps_syntax.proofs.SomeFile.{file_or_first_fault}
use Rattle.dps_syntax.proofs.Whole.{fault_within, fault_behind, words_count}

-- two places

get_take : (xs : List ℕ) (n i x : ℕ) → i < n → slice_get xs i ≡ Some x → slice_get (take n xs) i ≡ Some x
get_take [] n i x l e = let h : slice_get [] i ≡ Some x = e in absurd (omega (arith, slice_get_within [] i x h))
get_take (y ∷ xs) zero i x l e = absurd (omega (arith, l))
get_take (y ∷ xs) (suc n) zero x l e = e
get_take (y ∷ xs) (suc n) (suc i) x l e = get_take xs n i x (omega (arith, l)) e

-- a longer front goes on as the shorter one
longer : (text : List Word) (p q : ℕ) (k : Word) → p < q → slice_get text p ≡ Some k → (more : List Word) × (take q text ≡ take p text ++ k ∷ more)
longer [] p q k l e = let h : slice_get [] p ≡ Some k = e in absurd (omega (arith, slice_get_within [] p k h))
longer (w ∷ text) p zero k l e = absurd (omega (arith, l))
longer (w ∷ text) zero (suc q) k l e = let h : Some w ≡ Some k = e in let first : w ≡ k = cc in (take q text, ap (λ x. x ∷ take q text) first)
longer (w ∷ text) (suc p) (suc q) k l e = let h = longer text p q k (omega (arith, l)) e in (h.0, ap (λ x. w ∷ x) h.1)

-- where a file begins with a longer front, nothing is wrong before its end
not_before : (text : List Word) (p q : ℕ) (kind : FaultKind) → p < q → q ≤ length text → IsFaultAt text p kind → Begins (take q text) → ⊥
not_before text p q fault.UnexpectedToken l w f b =
    let h = longer text p q f.0 l f.1 in
    f.2.stuck (h.0 ++ b.more) (b.trees, record { derived = b.file.derived; spelled = b.file.spelled ∙ ap (λ x. x ++ b.more) h.1 ∙ append_assoc (take p text) (f.0 ∷ h.0) b.more })
not_before text p q fault.UnexpectedEnd l w f b = absurd (omega (arith, l, w, f.0))
not_before text p q fault.TooDeep l w f b =
    let h = longer text p q f.0 l f.1 in
    let deep = f.2 in
    let front = take p text in
    let text_of : words b.trees ≡ front ++ f.0 ∷ (h.0 ++ b.more) = b.file.spelled ∙ ap (λ x. x ++ b.more) h.1 ∙ append_assoc front (f.0 ∷ h.0) b.more in
    let agree = depths_agree (walk_of b.trees b.file.derived) (marks deep.trees []) (walk_of deep.trees deep.file.derived) front (h.0 ++ b.more) deep.more f.0 0 (walk_words b.trees ∙ text_of)
    (walk_words deep.trees ∙ deep.file.spelled) in
    let found : slice_get (depths 0 b.trees) (length front) ≡ Some deep.depth =
    ap (λ ds. slice_get ds (length front)) (sym (depths_of b.trees)) ∙ agree ∙ ap (λ ds. slice_get ds (length front)) (depths_of deep.trees) ∙ deep.stands in
    let at : length front ≡ p = take_length text p (slice_get_within text p f.0 f.1) in
    let long : length (take q text) ≡ q = whole_length text q w in
    let within : length front < length (take q text) = omega (arith, at, long, l) in
    let taken = get_take (depths 0 b.trees) (length (take q text)) (length front) deep.depth within found in
    not_deep (take (length (take q text)) (depths 0 b.trees)) (length front) deep.depth b.shallow taken deep.deep
  where
    whole_length : (text : List Word) (q : ℕ) → q ≤ length text → length (take q text) ≡ q
    whole_length [] zero w = refl
    whole_length [] (suc q) w = absurd (omega (arith, w))
    whole_length (x ∷ text) zero w = refl
    whole_length (x ∷ text) (suc q) w = omega (arith, whole_length text q (omega (arith, w)))
not_before text p q fault.BadByte l w f b = absurd f
not_before text p q _ l w f b = absurd f

take_all : (xs : List Word) (n : ℕ) → length xs ≤ n → take n xs ≡ xs
take_all [] zero l = refl
take_all [] (suc n) l = refl
take_all (x ∷ xs) zero l = absurd (omega (arith, l))
take_all (x ∷ xs) (suc n) l = ap (λ t. x ∷ t) (take_all xs n (omega (arith, l)))

begins_at : (text : List Word) (place : ℕ) (kind : FaultKind) → IsFaultAt text place kind → Begins (take place text)
begins_at text place fault.UnexpectedToken f = f.2.begins
begins_at text place fault.TooDeep f = f.2.begins
begins_at text place fault.UnexpectedEnd f = subst Begins (sym (take_all text place (omega (arith, f.0)))) f.1.begins
begins_at text place fault.BadByte f = absurd f
begins_at text place _ f = absurd f

some_same : (a b : Word) (o : Option Word) → o ≡ Some a → o ≡ Some b → a ≡ b
some_same a b o e f = let h : Some a ≡ Some b = sym e ∙ f in cc

-- no token is both unexpected and too deep
clash : (text : List Word) (place : ℕ) → IsFaultAt text place fault.UnexpectedToken → IsFaultAt text place fault.TooDeep → ⊥
clash text place f g =
    let same : g.0 ≡ f.0 = some_same g.0 f.0 (slice_get text place) g.1 f.1 in
    let deep = g.2 in
    f.2.stuck deep.more (deep.trees, record { derived = deep.file.derived; spelled = deep.file.spelled ∙ ap (λ x. take place text ++ x ∷ deep.more) same })

same_kind : (text : List Word) (place : ℕ) (a b : FaultKind) → IsFaultAt text place a → IsFaultAt text place b → a ≡ b
same_kind text place fault.UnexpectedToken fault.UnexpectedToken f g = refl
same_kind text place fault.TooDeep fault.TooDeep f g = refl
same_kind text place fault.UnexpectedEnd fault.UnexpectedEnd f g = refl
same_kind text place fault.UnexpectedToken fault.TooDeep f g = absurd (clash text place f g)
same_kind text place fault.TooDeep fault.UnexpectedToken f g = absurd (clash text place g f)
same_kind text place fault.UnexpectedToken fault.UnexpectedEnd f g = absurd (omega (arith, slice_get_within text place f.0 f.1, g.0))
same_kind text place fault.TooDeep fault.UnexpectedEnd f g = absurd (omega (arith, slice_get_within text place f.0 f.1, g.0))
same_kind text place fault.UnexpectedEnd fault.UnexpectedToken f g = absurd (omega (arith, slice_get_within text place g.0 g.1, f.0))
same_kind text place fault.UnexpectedEnd fault.TooDeep f g = absurd (omega (arith, slice_get_within text place g.0 g.1, f.0))
same_kind text place fault.UnexpectedToken _ f g = absurd g
same_kind text place fault.TooDeep _ f g = absurd g
same_kind text place fault.UnexpectedEnd _ f g = absurd g
same_kind text place _ b f g = absurd f

three : (a b : ℕ) → (a < b) ⊎ ((a ≡ b) ⊎ (b < a))
three zero zero = inr (inl refl)
three zero (suc b) = inl (omega arith)
three (suc a) zero = inr (inr (omega arith))
three (suc a) (suc b) = elim (three a b) [
  | inl h ↦ inl (omega (arith, h))
  | inr r ↦ elim r [ inl h ↦ inr (inl (ap suc h)) | inr h ↦ inr (inr (omega (arith, h))) ]
]

pub one_fault : NoWordsHaveTwoFaults
one_fault text place other kind second f g = elim (three place other) [
  | inl l ↦ absurd (not_before text place other kind l (fault_within text other second g) f (begins_at text other second g))
  | inr r ↦ elim r [
    | inl e ↦ (e, same_kind text place kind second f (subst (λ n. IsFaultAt text n second) (sym e) g))
    | inr l ↦ absurd (not_before text other place second l (fault_within text place kind f) g (begins_at text place kind f))
  ]
]

-- trees of the same form with these tokens

abbrev relabelled : Parts → List Lexeme → Parts
relabelled none ls = none
relabelled (token l ps) [] = token l ps
relabelled (token l ps) (x ∷ ls) = token x (relabelled ps ls)
relabelled (inner p i ps) ls = inner p (relabelled i (take (length (words i)) ls)) (relabelled ps (drop (length (words i)) ls))

parted : (a b : List Word) (ls : List Lexeme) → a ++ b ≡ words_of_lexemes ls → (a ≡ words_of_lexemes (take (length a) ls)) × (b ≡ words_of_lexemes (drop (length a) ls))
parted [] b ls e = (refl, e)
parted (x ∷ a) b [] e = let h : x ∷ (a ++ b) ≡ [] = e in cc
parted (x ∷ a) b (l ∷ ls) e =
    let whole : x ∷ (a ++ b) ≡ word_of l ∷ words_of_lexemes ls = e in
    let first : x ≡ word_of l = cc in
    let rest : a ++ b ≡ words_of_lexemes ls = cc in
    let h = parted a b ls rest in
    (ap (λ z. z ∷ a) first ∙ ap (λ z. word_of l ∷ z) h.0, h.1)

relabelled_alike : (ps : Parts) (ls : List Lexeme) → words ps ≡ words_of_lexemes ls → AreAlike ps (relabelled ps ls)
relabelled_alike none ls e = tt
relabelled_alike (token l ps) [] e = absurd (never (word_of l) (words ps) e)
  where
    never : (w : Word) (ws : List Word) → w ∷ ws ≡ [] → ⊥
    never w ws e = cc
relabelled_alike (token l ps) (x ∷ ls) e =
    let whole : word_of l ∷ words ps ≡ word_of x ∷ words_of_lexemes ls = e in
    let first : word_of l ≡ word_of x = cc in
    let rest : words ps ≡ words_of_lexemes ls = cc in
    (first, relabelled_alike ps ls rest)
relabelled_alike (inner p i ps) ls e =
    let h = parted (words i) (words ps) ls e in
    (refl, relabelled_alike i (take (length (words i)) ls) h.0, relabelled_alike ps (drop (length (words i)) ls) h.1)

take_drop : (n : ℕ) (ls : List Lexeme) → take n ls ++ drop n ls ≡ ls
take_drop zero ls = refl
take_drop (suc n) [] = refl
take_drop (suc n) (l ∷ ls) = ap (λ x. l ∷ x) (take_drop n ls)

relabelled_lexemes : (ps : Parts) (ls : List Lexeme) → words ps ≡ words_of_lexemes ls → lexemes (relabelled ps ls) ≡ ls
relabelled_lexemes none [] e = refl
relabelled_lexemes none (x ∷ ls) e = let h : [] ≡ word_of x ∷ words_of_lexemes ls = e in cc
relabelled_lexemes (token l ps) [] e = let h : word_of l ∷ words ps ≡ [] = e in cc
relabelled_lexemes (token l ps) (x ∷ ls) e =
    let whole : word_of l ∷ words ps ≡ word_of x ∷ words_of_lexemes ls = e in
    let rest : words ps ≡ words_of_lexemes ls = cc in
    ap (λ z. x ∷ z) (relabelled_lexemes ps ls rest)
relabelled_lexemes (inner p i ps) ls e =
    let h = parted (words i) (words ps) ls e in
    let n = length (words i) in
    ap (λ z. z ++ lexemes (relabelled ps (drop n ls))) (relabelled_lexemes i (take n ls) h.0) ∙ ap (λ z. take n ls ++ z) (relabelled_lexemes ps (drop n ls) h.1) ∙ take_drop n ls

alike_depths : (ps qs : Parts) (d : ℕ) → AreAlike ps qs → depths d ps ≡ depths d qs
alike_depths none none d a = refl
alike_depths none (token l qs) d a = absurd a
alike_depths none (inner p i qs) d a = absurd a
alike_depths (token k ps) none d a = absurd a
alike_depths (token k ps) (token l qs) d a = ap (λ x. d ∷ x) (alike_depths ps qs d a.1)
alike_depths (token k ps) (inner p i qs) d a = absurd a
alike_depths (inner q j ps) none d a = absurd a
alike_depths (inner q j ps) (token l qs) d a = absurd a
alike_depths (inner q j ps) (inner p i qs) d a =
    ap (λ x. depths (d + own_depth x) j ++ depths d ps) a.0
    ∙ ap (λ x. x ++ depths d ps) (alike_depths j i (d + own_depth p) a.1)
    ∙ ap (λ x. depths (d + own_depth p) i ++ x) (alike_depths ps qs d a.2)

-- texts

file_text : (bytes : List ℕ) (tokens : List Token) (trees : Parts) → IsReading bytes tokens None → IsShallowFileOf (words_at bytes tokens) trees → (found : Parts) × IsTreeOfText bytes found
file_text bytes tokens trees r s =
    let ls = lexemes_at bytes tokens in
    let e : words trees ≡ words_of_lexemes ls = s.file.spelled ∙ words_same bytes tokens in
    let a = relabelled_alike trees ls e in (
      relabelled trees ls,
      record {
        tokens = tokens;
        reading = r;
        derived = alike_derived s.file.derived (relabelled trees ls) a;
        spelled = relabelled_lexemes trees ls e;
        shallow = subst AreShallow (alike_depths trees (relabelled trees ls) 0 a) s.shallow;
      },
    )

begins_shallow : (text : List Word) (trees : Parts) → IsShallowFileOf text trees → Begins text
begins_shallow text trees s = record {
  more = [];
  trees = trees;
  file = record { derived = s.file.derived; spelled = s.file.spelled ∙ sym (append-nil text) };
  shallow = All-take (λ depth. depth ≤ deepest) (length text) (depths 0 trees) s.shallow;
}

abbrev fault_of : List ℕ → Option Token → FaultKind → Fault
fault_of bytes None kind = record { line = line_behind bytes; column = column_behind bytes; kind = kind }
fault_of bytes (Some t) kind = record { line = t.line; column = t.column; kind = kind }

syntax_fault :
    (bytes : List ℕ) (tokens : List Token) (place : ℕ) (kind : FaultKind) → IsFaultAt (words_at bytes tokens) place kind → (o : Option Token)
    → slice_get tokens place ≡ o → IsSyntaxFault bytes tokens place (fault_of bytes o kind)
syntax_fault bytes tokens place kind f None e =
    record {
      first = f;
      stands = subst
          (λ x. MatchOption x ((line_behind bytes ≡ line_behind bytes) × (column_behind bytes ≡ column_behind bytes)) (λ t. (line_behind bytes ≡ t.line) × (column_behind bytes ≡ t.column)))
          (sym e) (refl, refl);
    }
syntax_fault bytes tokens place kind f (Some u) e =
    record { first = f; stands = subst (λ x. MatchOption x ((u.line ≡ line_behind bytes) × (u.column ≡ column_behind bytes)) (λ t. (u.line ≡ t.line) × (u.column ≡ t.column))) (sym e) (refl, refl) }

abbrev IsOrHas : List ℕ → Type 0
IsOrHas bytes = ((trees : Parts) × IsTreeOfText bytes trees) ⊎ ((fault : Fault) × IsFirstFault bytes fault)

of_fault :
    (bytes : List ℕ) (tokens : List Token) (stop : Option Fault) (place : ℕ) (kind : FaultKind) → IsReading bytes tokens stop
    → IsFaultAt (words_at bytes tokens) place kind → (place < length tokens) ⊎ (length tokens ≤ place) → IsOrHas bytes
of_fault bytes tokens stop place kind r f (inl l) =
    let o = slice_get tokens place in
    inr (fault_of bytes o kind, at_token tokens stop place r l (syntax_fault bytes tokens place kind f o refl))
of_fault bytes tokens (Some wrong) place kind r f (inr l) =
    inr (wrong, lexical tokens r (fault_behind (words_at bytes tokens) place kind (omega (arith, l, words_count bytes tokens)) f))
of_fault bytes tokens None place kind r f (inr l) =
    let e : place ≡ length tokens = omega (arith, l, words_count bytes tokens, fault_within (words_at bytes tokens) place kind f) in
    let o = slice_get tokens (length tokens) in
    inr (fault_of bytes o kind, at_end tokens r (syntax_fault bytes tokens (length tokens) kind (subst (λ n. IsFaultAt (words_at bytes tokens) n kind) e f) o refl))

lt_or_le : (a b : ℕ) → (a < b) ⊎ (b ≤ a)
lt_or_le a zero = inr (omega arith)
lt_or_le zero (suc b) = inl (omega arith)
lt_or_le (suc a) (suc b) = elim (lt_or_le a b) [ inl h ↦ inl (omega (arith, h)) | inr h ↦ inr (omega (arith, h)) ]

of_words :
    (bytes : List ℕ) (tokens : List Token) (stop : Option Fault) → IsReading bytes tokens stop
    → ((trees : Parts) × IsShallowFileOf (words_at bytes tokens) trees) ⊎ ((place : ℕ) × ((kind : FaultKind) × IsFaultAt (words_at bytes tokens) place kind))
    → IsOrHas bytes
of_words bytes tokens None r (inl s) = inl (file_text bytes tokens s.0 r s.1)
of_words bytes tokens (Some wrong) r (inl s) = inr (wrong, lexical tokens r (begins_shallow (words_at bytes tokens) s.0 s.1))
of_words bytes tokens stop r (inr f) = of_fault bytes tokens stop f.0 f.1.0 r f.1.1 (lt_or_le f.0 (length tokens))

pub some_text : EachTextHasAReading → EachTextIsFileOrHasFault
some_text each bytes =
    let r = each bytes in
    of_words bytes r.0 r.1.0 r.1.1 (file_or_first_fault (words_at bytes r.0))

shallow_words : (bytes : List ℕ) (trees : Parts) (t : IsTreeOfText bytes trees) → IsShallowFileOf (words_at bytes t.tokens) trees
shallow_words bytes trees t = record {
  file = record { derived = t.derived; spelled = words_of_lexemes-lexemes trees ∙ ap words_of_lexemes t.spelled ∙ sym (words_same bytes t.tokens) };
  shallow = t.shallow;
}

never_at : (bytes : List ℕ) (trees : Parts) (t : IsTreeOfText bytes trees) (tokens : List Token) (place : ℕ) (wrong : Fault) → t.tokens ≡ tokens → IsSyntaxFault bytes tokens place wrong → ⊥
never_at bytes trees t tokens place wrong e f =
    file_or_fault (words_at bytes tokens) trees place wrong.kind (subst (λ x. IsShallowFileOf (words_at bytes x) trees) e (shallow_words bytes trees t)) f.first

pub not_both_of_text : NoTextHasTwoReadings → NoTextIsFileAndHasFault
not_both_of_text one bytes trees wrong t (at_token tokens stop place r l f) = never_at bytes trees t tokens place wrong (one bytes t.tokens tokens None stop t.reading r).0 f
not_both_of_text one bytes trees wrong t (lexical tokens r b) =
    let h : None ≡ Some wrong = (one bytes t.tokens tokens None (Some wrong) t.reading r).1 in
    cc
not_both_of_text one bytes trees wrong t (at_end tokens r f) = never_at bytes trees t tokens (length tokens) wrong (one bytes t.tokens tokens None None t.reading r).0 f

-- two faults of one text

one_place :
    (bytes : List ℕ) (a b : Fault) (o : Option Token) → a.kind ≡ b.kind
    → MatchOption o ((a.line ≡ line_behind bytes) × (a.column ≡ column_behind bytes)) (λ t. (a.line ≡ t.line) × (a.column ≡ t.column))
    → MatchOption o ((b.line ≡ line_behind bytes) × (b.column ≡ column_behind bytes)) (λ t. (b.line ≡ t.line) × (b.column ≡ t.column)) → a ≡ b
one_place bytes a b None k f g =
    let line : a.line ≡ b.line = f.0 ∙ sym g.0 in
    let column : a.column ≡ b.column = f.1 ∙ sym g.1 in
    λ i. record { line = line i; column = column i; kind = k i }
one_place bytes a b (Some t) k f g =
    let line : a.line ≡ b.line = f.0 ∙ sym g.0 in
    let column : a.column ≡ b.column = f.1 ∙ sym g.1 in
    λ i. record { line = line i; column = column i; kind = k i }

one_syntax_fault : (bytes : List ℕ) (tokens others : List Token) (p q : ℕ) (a b : Fault) → tokens ≡ others → IsSyntaxFault bytes tokens p a → IsSyntaxFault bytes others q b → (p ≡ q) × (a ≡ b)
one_syntax_fault bytes tokens others p q a b same f h =
    let g : IsSyntaxFault bytes tokens q b = subst (λ ts. IsSyntaxFault bytes ts q b) (sym same) h in
    let e = one_fault (words_at bytes tokens) p q a.kind b.kind f.first g.first in
    let here : IsSyntaxFault bytes tokens p b = subst (λ n. IsSyntaxFault bytes tokens n b) (sym e.0) g in
    (e.0, one_place bytes a b (slice_get tokens p) e.1 f.stands here.stands)

not_among : (bytes : List ℕ) (tokens others : List Token) (place : ℕ) (a : Fault) → tokens ≡ others → place < length tokens → IsSyntaxFault bytes tokens place a → Begins (words_at bytes others) → ⊥
not_among bytes tokens others place a same l f b =
    let text = words_at bytes tokens in
    let begins : Begins text = subst (λ ts. Begins (words_at bytes ts)) (sym same) b in
    not_before text place (length text) a.kind (omega (arith, l, words_count bytes tokens)) (omega arith) f.first (subst Begins (sym (take_all text (length text) (omega arith))) begins)

pub one_fault_of_text : NoTextHasTwoReadings → NoTextHasTwoFaults
one_fault_of_text one bytes a b (at_token ts s p r l f) (at_token us o q k m g) = (one_syntax_fault bytes ts us p q a b (one bytes ts us s o r k).0 f g).1
one_fault_of_text one bytes a b (at_token ts s p r l f) (lexical us k h) = absurd (not_among bytes ts us p a (one bytes ts us s (Some b) r k).0 l f h)
one_fault_of_text one bytes a b (at_token ts s p r l f) (at_end us k g) =
    let same = (one bytes ts us s None r k).0 in
    absurd (omega (arith, l, (one_syntax_fault bytes ts us p (length us) a b same f g).0, ap length same))
one_fault_of_text one bytes a b (lexical ts r h) (at_token us o q k m g) = absurd (not_among bytes us ts q b (one bytes us ts o (Some a) k r).0 m g h)
one_fault_of_text one bytes a b (lexical ts r h) (lexical us k g) =
    let e : Some a ≡ Some b = (one bytes ts us (Some a) (Some b) r k).1 in
    cc
one_fault_of_text one bytes a b (lexical ts r h) (at_end us k g) =
    let e : Some a ≡ None = (one bytes ts us (Some a) None r k).1 in
    cc
one_fault_of_text one bytes a b (at_end ts r f) (at_token us o q k m g) =
    let same = (one bytes us ts o None k r).0 in
    absurd (omega (arith, m, (one_syntax_fault bytes us ts q (length ts) b a same g f).0, ap length same))
one_fault_of_text one bytes a b (at_end ts r f) (lexical us k h) =
    let e : None ≡ Some b = (one bytes ts us None (Some b) r k).1 in
    cc
one_fault_of_text one bytes a b (at_end ts r f) (at_end us k g) = (one_syntax_fault bytes ts us (length ts) (length us) a b (one bytes ts us None None r k).0 f g).1
