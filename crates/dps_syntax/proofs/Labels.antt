-- Marks with their tokens, and the trees that are built from them.
use Rattle.std.proofs.Common.{◌≡◌, ℕ, ◌+◌, ◌<◌, ◌≤◌, List, [], ◌∷◌, ◌++◌, length, drop, get_or, refl, ap, sym, ◌∙◌, subst, arith, append_assoc, zero, suc}
use Rattle.std.specs.Prelude.{map}
use Rattle.dps_lex.specs.declared.vocabulary.Token.{Token}
use Rattle.dps_syntax.specs.declared.grammar.Word.{Word}
use Rattle.dps_syntax.specs.declared.grammar.Production.{Production}
use Rattle.dps_syntax.specs.declared.grammar.Mark.{Mark}
use Rattle.dps_syntax.specs.declared.grammar.Mark.TheVariants as mark
use Rattle.dps_syntax.specs.declared.builder.Level.{Level}
use Rattle.dps_syntax.specs.declared.builder.Builder.{Builder}
use Rattle.dps_syntax.specs.Tree.{Lexeme, Parts, none, token, inner, lexemes, word_of, words}
use Rattle.dps_syntax.specs.Parts.{parts_of}
use Rattle.dps_syntax.specs.Files.{lexeme_at, lexemes_at, words_at}
use Rattle.dps_syntax.specs.Marks.{marks, mark_words}
use Rattle.dps_syntax.specs.Built.{Piece, begin, one, end, pieces, labelled, IsBalanced, pieces_of, built, opened, opened_onto, Adds, Ends}

-- what the loop over the marks keeps
pub record IsBuilding (bytes : List ℕ) (ms : List Mark) (tokens : List Token) (place next : ℕ) (builder : Builder) : Type 0 where
  pub within : place ≤ length ms
  pub built : built builder (labelled (drop place ms) (lexemes_at bytes (drop next tokens))) ≡ labelled ms (lexemes_at bytes tokens)
  pub balanced : IsBalanced (drop place ms) (opened builder)
  pub spelled : mark_words (drop place ms) ≡ words_at bytes (drop next tokens)

pub building_first :
    (bytes : List ℕ) (ms : List Mark) (tokens : List Token) (builder : Builder) → ((rest : List Piece) → built builder rest ≡ rest) → opened builder ≡ []
    → IsBalanced ms [] → mark_words ms ≡ words_at bytes tokens → IsBuilding bytes ms tokens 0 0 builder
building_first bytes ms tokens builder b o bal s = record {
  within = omega arith;
  built = b (labelled ms (lexemes_at bytes tokens));
  balanced = subst (IsBalanced ms) (sym o) bal;
  spelled = s;
}

split_at : {X : Type 0} (xs : List X) (i : ℕ) (d : X) → i < length xs → drop i xs ≡ get_or xs i d ∷ drop (i + 1) xs
split_at [] i d l = absurd (omega (arith, l))
split_at (x ∷ xs) zero d l = refl
split_at (x ∷ xs) (suc i) d l = split_at xs i d (omega (arith, l)) ∙ ap (λ n. get_or xs i d ∷ drop n (x ∷ xs)) (more i)
  where
    more : (i : ℕ) → suc (i + 1) ≡ suc i + 1
    more i = omega arith

next_mark : (ms : List Mark) (place : ℕ) (d m : Mark) → place < length ms → get_or ms place d ≡ m → drop place ms ≡ m ∷ drop (place + 1) ms
next_mark ms place d m l e = split_at ms place d l ∙ ap (λ x. x ∷ drop (place + 1) ms) e

pub building_open :
    (bytes : List ℕ) (ms : List Mark) (tokens : List Token) (place next : ℕ) (old new : Builder) (d : Mark) (p : Production) → place < length ms
    → get_or ms place d ≡ mark.Open p → IsBuilding bytes ms tokens place next old → Adds (begin p) old new → opened new ≡ p ∷ opened old
    → IsBuilding bytes ms tokens (place + 1) next new
building_open bytes ms tokens place next old new d p l e b a o =
    let s : drop place ms ≡ mark.Open p ∷ drop (place + 1) ms = next_mark ms place d (mark.Open p) l e in
    let ls = lexemes_at bytes (drop next tokens) in
    record {
      within = omega arith;
      built = a.added (labelled (drop (place + 1) ms) ls) ∙ ap (λ x. built old (labelled x ls)) (sym s) ∙ b.built;
      balanced = subst (IsBalanced (drop (place + 1) ms)) (sym o) (let h : IsBalanced (mark.Open p ∷ drop (place + 1) ms) (opened old) = subst (λ x. IsBalanced x (opened old)) s b.balanced in h);
      spelled = sym (ap mark_words s) ∙ b.spelled;
    }

some_open : (ms : List Mark) (p : Production) (ps : List Production) → IsBalanced (mark.Close p ∷ ms) ps → ps ≡ [] → ⊥
some_open ms p [] b e = b
some_open ms p (q ∷ ps) b e = cc

pub building_may_close :
    (bytes : List ℕ) (ms : List Mark) (tokens : List Token) (place next : ℕ) (old : Builder) (d : Mark) (p : Production) → place < length ms
    → get_or ms place d ≡ mark.Close p → IsBuilding bytes ms tokens place next old → opened old ≡ [] → ⊥
building_may_close bytes ms tokens place next old d p l e b o =
    some_open (drop (place + 1) ms) p (opened old) (subst (λ x. IsBalanced x (opened old)) (next_mark ms place d (mark.Close p) l e) b.balanced) o

closes_first : (ms : List Mark) (p q : Production) (ps : List Production) → IsBalanced (mark.Close p ∷ ms) (q ∷ ps) → (q ≡ p) × IsBalanced ms ps
closes_first ms p q ps b = b

pub building_close :
    (bytes : List ℕ) (ms : List Mark) (tokens : List Token) (place next : ℕ) (old new : Builder) (d : Mark) (p : Production) → place < length ms
    → get_or ms place d ≡ mark.Close p → IsBuilding bytes ms tokens place next old → Ends old new → IsBuilding bytes ms tokens (place + 1) next new
building_close bytes ms tokens place next old new d p l e b a =
    let s : drop place ms ≡ mark.Close p ∷ drop (place + 1) ms = next_mark ms place d (mark.Close p) l e in
    let ls = lexemes_at bytes (drop next tokens) in
    let h : IsBalanced (mark.Close p ∷ drop (place + 1) ms) (a.production ∷ opened new) = subst (λ x. IsBalanced x (a.production ∷ opened new)) s
    (subst (IsBalanced (drop place ms)) a.opened b.balanced) in
    let f = closes_first (drop (place + 1) ms) p a.production (opened new) h in
    record {
      within = omega arith;
      built = a.added (labelled (drop (place + 1) ms) ls) ∙ ap (λ x. built old (end x ∷ labelled (drop (place + 1) ms) ls)) f.0 ∙ ap (λ x. built old (labelled x ls)) (sym s) ∙ b.built;
      balanced = f.1;
      spelled = sym (ap mark_words s) ∙ b.spelled;
    }

some_token : (bytes : List ℕ) (tokens : List Token) (next : ℕ) (w : Word) (ws : List Word) → w ∷ ws ≡ words_at bytes (drop next tokens) → next < length tokens
some_token bytes [] zero w ws e = absurd (clash w ws e)
  where
    clash : (w : Word) (ws : List Word) → w ∷ ws ≡ [] → ⊥
    clash w ws e = cc
some_token bytes [] (suc n) w ws e = absurd (clash w ws e)
  where
    clash : (w : Word) (ws : List Word) → w ∷ ws ≡ [] → ⊥
    clash w ws e = cc
some_token bytes (t ∷ ts) zero w ws e = omega arith
some_token bytes (t ∷ ts) (suc n) w ws e = omega (arith, some_token bytes ts n w ws e)

pub building_has_token :
    (bytes : List ℕ) (ms : List Mark) (tokens : List Token) (place next : ℕ) (old : Builder) (d : Mark) (w : Word) → place < length ms
    → get_or ms place d ≡ mark.Token w → IsBuilding bytes ms tokens place next old → next < length tokens
building_has_token bytes ms tokens place next old d w l e b =
    let s : drop place ms ≡ mark.Token w ∷ drop (place + 1) ms = next_mark ms place d (mark.Token w) l e in
    some_token bytes tokens next w (mark_words (drop (place + 1) ms)) (sym (ap mark_words s) ∙ b.spelled)

pub building_token :
    (bytes : List ℕ) (ms : List Mark) (tokens : List Token) (place next : ℕ) (old new : Builder) (d : Mark) (w : Word) (t : Token) (lexeme : Lexeme)
    → place < length ms → get_or ms place d ≡ mark.Token w → IsBuilding bytes ms tokens place next old → lexeme ≡ lexeme_at bytes (get_or tokens next t)
    → Adds (one lexeme) old new → opened new ≡ opened old → IsBuilding bytes ms tokens (place + 1) (next + 1) new
building_token bytes ms tokens place next old new d w t lexeme l e b x a o =
    let s : drop place ms ≡ mark.Token w ∷ drop (place + 1) ms = next_mark ms place d (mark.Token w) l e in
    let u : drop next tokens ≡ get_or tokens next t ∷ drop (next + 1) tokens = split_at tokens next t (building_has_token bytes ms tokens place next old d w l e b) in
    let ls = lexemes_at bytes (drop (next + 1) tokens) in
    let k = get_or tokens next t in
    let ws : w ∷ mark_words (drop (place + 1) ms) ≡ word_of (lexeme_at bytes k) ∷ words_at bytes (drop (next + 1) tokens) = sym (ap mark_words s) ∙ b.spelled ∙ ap (words_at bytes) u in
    let tail : mark_words (drop (place + 1) ms) ≡ words_at bytes (drop (next + 1) tokens) = cc in
    record {
      within = omega arith;
      built =
          a.added (labelled (drop (place + 1) ms) ls) ∙ ap (λ y. built old (one y ∷ labelled (drop (place + 1) ms) ls)) x
          ∙ sym (ap (λ y. built old (labelled (drop place ms) (lexemes_at bytes y))) u ∙ ap (λ y. built old (labelled y (lexeme_at bytes k ∷ ls))) s) ∙ b.built;
      balanced = subst (IsBalanced (drop (place + 1) ms)) (sym o) (let h : IsBalanced (mark.Token w ∷ drop (place + 1) ms) (opened old) = subst (λ y. IsBalanced y (opened old)) s b.balanced in h);
      spelled = tail;
    }

drop_all : {X : Type 0} (xs : List X) → drop (length xs) xs ≡ []
drop_all [] = refl
drop_all (x ∷ xs) = drop_all xs

none_open : (ps : List Production) → IsBalanced [] ps → ps ≡ []
none_open [] b = refl
none_open (p ∷ ps) b = absurd b

opened_some : (levels : List Level) (ps : List Production) → opened_onto levels ps ≡ [] → ps ≡ []
opened_some [] ps e = e
opened_some (level ∷ levels) ps e = let h : level.production ∷ ps ≡ [] = opened_some levels (level.production ∷ ps) e in cc

no_levels : (levels : List Level) → opened_onto levels [] ≡ [] → levels ≡ []
no_levels [] e = refl
no_levels (level ∷ levels) e = let h : level.production ∷ [] ≡ [] = opened_some levels (level.production ∷ []) e in cc

pub building_last :
    (bytes : List ℕ) (ms : List Mark) (tokens : List Token) (place next : ℕ) (builder : Builder) → length ms ≤ place
    → IsBuilding bytes ms tokens place next builder → pieces (parts_of builder.parts.items) [] ≡ labelled ms (lexemes_at bytes tokens)
building_last bytes ms tokens place next builder l b =
    let p : place ≡ length ms = omega (arith, l, b.within) in
    let s : drop place ms ≡ [] = ap (λ n. drop n ms) p ∙ drop_all ms in
    let levels : builder.levels.items ≡ [] = no_levels builder.levels.items (none_open (opened builder) (subst (λ x. IsBalanced x (opened builder)) s b.balanced)) in
    sym (ap (λ x. pieces_of x (pieces (parts_of builder.parts.items) [])) levels) ∙ sym (ap (λ x. built builder (labelled x (lexemes_at bytes (drop next tokens)))) s) ∙ b.built

pub ruleset for_trees = (building_first, building_open, building_close, building_may_close, building_has_token, building_token, building_last)

-- what labelled marks hold

abbrev marks_in : List Piece → List Mark
marks_in [] = []
marks_in (begin p ∷ ps) = mark.Open p ∷ marks_in ps
marks_in (one l ∷ ps) = mark.Token (word_of l) ∷ marks_in ps
marks_in (end p ∷ ps) = mark.Close p ∷ marks_in ps

abbrev lexemes_in : List Piece → List Lexeme
lexemes_in [] = []
lexemes_in (begin p ∷ ps) = lexemes_in ps
lexemes_in (one l ∷ ps) = l ∷ lexemes_in ps
lexemes_in (end p ∷ ps) = lexemes_in ps

marks_in-pieces : (ps : Parts) (rest : List Piece) → marks_in (pieces ps rest) ≡ marks ps (marks_in rest)
marks_in-pieces none rest = refl
marks_in-pieces (token l ps) rest = ap (λ x. mark.Token (word_of l) ∷ x) (marks_in-pieces ps rest)
marks_in-pieces (inner p i ps) rest = ap (λ x. mark.Open p ∷ x) (marks_in-pieces i (end p ∷ pieces ps rest) ∙ ap (λ x. marks i (mark.Close p ∷ x)) (marks_in-pieces ps rest))

lexemes_in-pieces : (ps : Parts) (rest : List Piece) → lexemes_in (pieces ps rest) ≡ lexemes ps ++ lexemes_in rest
lexemes_in-pieces none rest = refl
lexemes_in-pieces (token l ps) rest = ap (λ x. l ∷ x) (lexemes_in-pieces ps rest)
lexemes_in-pieces (inner p i ps) rest =
    lexemes_in-pieces i (end p ∷ pieces ps rest) ∙ ap (λ x. lexemes i ++ x) (lexemes_in-pieces ps rest) ∙ sym (append_assoc (lexemes i) (lexemes ps) (lexemes_in rest))

abbrev pub words_of_lexemes : List Lexeme → List Word
words_of_lexemes ls = map word_of ls

marks_in-labelled : (ms : List Mark) (ls : List Lexeme) → mark_words ms ≡ words_of_lexemes ls → marks_in (labelled ms ls) ≡ ms
marks_in-labelled [] ls e = refl
marks_in-labelled (mark.Open p ∷ ms) ls e = ap (λ x. mark.Open p ∷ x) (marks_in-labelled ms ls e)
marks_in-labelled (mark.Close p ∷ ms) ls e = ap (λ x. mark.Close p ∷ x) (marks_in-labelled ms ls e)
marks_in-labelled (mark.Token w ∷ ms) [] e = let h : w ∷ mark_words ms ≡ [] = e in cc
marks_in-labelled (mark.Token w ∷ ms) (l ∷ ls) e =
    let whole : w ∷ mark_words ms ≡ word_of l ∷ words_of_lexemes ls = e in
    let first : w ≡ word_of l = cc in
    let rest : mark_words ms ≡ words_of_lexemes ls = cc in
    ap (λ x. mark.Token x ∷ marks_in (labelled ms ls)) (sym first) ∙ ap (λ x. mark.Token w ∷ x) (marks_in-labelled ms ls rest)

lexemes_in-labelled : (ms : List Mark) (ls : List Lexeme) → mark_words ms ≡ words_of_lexemes ls → lexemes_in (labelled ms ls) ≡ ls
lexemes_in-labelled [] [] e = refl
lexemes_in-labelled [] (l ∷ ls) e = let h : [] ≡ word_of l ∷ words_of_lexemes ls = e in cc
lexemes_in-labelled (mark.Open p ∷ ms) ls e = lexemes_in-labelled ms ls e
lexemes_in-labelled (mark.Close p ∷ ms) ls e = lexemes_in-labelled ms ls e
lexemes_in-labelled (mark.Token w ∷ ms) [] e = let h : w ∷ mark_words ms ≡ [] = e in cc
lexemes_in-labelled (mark.Token w ∷ ms) (l ∷ ls) e =
    let whole : w ∷ mark_words ms ≡ word_of l ∷ words_of_lexemes ls = e in
    let rest : mark_words ms ≡ words_of_lexemes ls = cc in
    ap (λ x. l ∷ x) (lexemes_in-labelled ms ls rest)

lexemes_nil : (ls : List Lexeme) → ls ++ [] ≡ ls
lexemes_nil [] = refl
lexemes_nil (l ∷ ls) = ap (λ x. l ∷ x) (lexemes_nil ls)

pub words_same : (bytes : List ℕ) (tokens : List Token) → words_at bytes tokens ≡ words_of_lexemes (lexemes_at bytes tokens)
words_same bytes [] = refl
words_same bytes (t ∷ ts) = ap (λ x. word_of (lexeme_at bytes t) ∷ x) (words_same bytes ts)

-- the trees that were built have these marks and these tokens
pub built_marks : (bytes : List ℕ) (tokens : List Token) (ms : List Mark) (ps : Parts) → pieces ps [] ≡ labelled ms (lexemes_at bytes tokens) → mark_words ms ≡ words_at bytes tokens → marks ps [] ≡ ms
built_marks bytes tokens ms ps e w = sym (marks_in-pieces ps []) ∙ ap marks_in e ∙ marks_in-labelled ms (lexemes_at bytes tokens) (w ∙ words_same bytes tokens)

pub built_lexemes :
    (bytes : List ℕ) (tokens : List Token) (ms : List Mark) (ps : Parts) → pieces ps [] ≡ labelled ms (lexemes_at bytes tokens)
    → mark_words ms ≡ words_at bytes tokens → lexemes ps ≡ lexemes_at bytes tokens
built_lexemes bytes tokens ms ps e w = sym (lexemes_nil (lexemes ps)) ∙ sym (lexemes_in-pieces ps []) ∙ ap lexemes_in e ∙ lexemes_in-labelled ms (lexemes_at bytes tokens) (w ∙ words_same bytes tokens)

words_join : (a b : List Lexeme) → words_of_lexemes (a ++ b) ≡ words_of_lexemes a ++ words_of_lexemes b
words_join [] b = refl
words_join (l ∷ a) b = ap (λ x. word_of l ∷ x) (words_join a b)

pub words_of_lexemes-lexemes : (ps : Parts) → words ps ≡ words_of_lexemes (lexemes ps)
words_of_lexemes-lexemes none = refl
words_of_lexemes-lexemes (token l ps) = ap (λ x. word_of l ∷ x) (words_of_lexemes-lexemes ps)
words_of_lexemes-lexemes (inner p i ps) =
    ap (λ x. x ++ words ps) (words_of_lexemes-lexemes i) ∙ ap (λ x. words_of_lexemes (lexemes i) ++ x) (words_of_lexemes-lexemes ps) ∙ sym (words_join (lexemes i) (lexemes ps))
