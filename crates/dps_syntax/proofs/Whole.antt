-- Whole files.
use Rattle.std.proofs.Common.{◌≡◌, ℕ, ◌<◌, ◌≤◌, List, [], ◌∷◌, ◌++◌, Option, Some, None, length, take, refl, ap, sym, ◌∙◌, subst, arith, append-nil}
use Rattle.std.specs.Prelude.{All, map}
use Rattle.std.proofs.lemmas.List.{length-map}
use Rattle.std.proofs.lemmas.List.Elements.{All-cons, All-nil, All-head, All-tail, All-take}
use Rattle.std.proofs.lemmas.Option.{slice_get_within}
use Rattle.dps_lex.specs.Reading.{IsReading}
use Rattle.dps_lex.specs.LawsOfReading.{HasSpansInOrder, AreInOrder, IsSpelled}
use Rattle.dps_lex.specs.declared.vocabulary.Token.{Token}
use Rattle.dps_lex.specs.declared.vocabulary.Fault.{Fault}
use Rattle.dps_lex.specs.declared.vocabulary.FaultKind.{FaultKind}
use Rattle.dps_lex.specs.declared.vocabulary.FaultKind.TheVariants as fault
use Rattle.dps_syntax.specs.declared.grammar.Word.{Word}
use Rattle.dps_syntax.specs.declared.grammar.Mark.{Mark}
use Rattle.dps_syntax.specs.declared.tree.File.{File}
use Rattle.dps_syntax.specs.declared.recognition.Stop.{Stop}
use Rattle.dps_syntax.specs.Tree.{Parts, words, lexemes, word_of}
use Rattle.dps_syntax.specs.Grammar.{Derives, file}
use Rattle.dps_syntax.specs.Depth.{deepest, AreShallow, depths, Begins, IsFaultAt}
use Rattle.dps_syntax.specs.Marks.{IsShallowWalk, mark_words}
use Rattle.dps_syntax.specs.Built.{pieces, labelled, IsBalanced}
use Rattle.dps_syntax.specs.Files.{lexeme_at, lexemes_at, words_at, AreFirstTokens, trees_of, HasItsKeyword, IsFileOfTokens}
use Rattle.dps_syntax.specs.Files.{StandsAt, IsSyntaxFault, IsFileOfText, IsFirstFault, at_token, lexical, at_end}
use Rattle.dps_syntax.specs.Spans.{IsSpan, AreDeclarations}
use Rattle.dps_syntax.proofs.Labels.{built_marks, built_lexemes, words_same, words_of_lexemes-lexemes}
use Rattle.dps_syntax.proofs.Alike.{file_balanced, whole_of}
use Rattle.dps_syntax.proofs.Declared.{file_declares}

-- the tokens lie in the text

spans_from : (bytes : List ℕ) (from : ℕ) (tokens more : List Token) → AreInOrder from (length bytes) (tokens ++ more) → All (IsSpelled bytes) (tokens ++ more) → All (IsSpan bytes) tokens
spans_from bytes from [] more o s = All-nil (IsSpan bytes)
spans_from bytes from (t ∷ ts) more o s =
    let rest = spans_from bytes t.end ts more o.2 (All-tail (IsSpelled bytes) t (ts ++ more) s) in
    let within : t.end ≤ length bytes = end_within bytes t.end (ts ++ more) o.2 in
    let start : t.start < t.end = o.1 in
    All-cons (IsSpan bytes) t ts (record { in_order = omega (arith, start); within = within; text = All-head (IsSpelled bytes) t (ts ++ more) s }) rest
  where
    end_within : (bytes : List ℕ) (from : ℕ) (ts : List Token) → AreInOrder from (length bytes) ts → from ≤ length bytes
    end_within bytes from [] o = o
    end_within bytes from (t ∷ ts) o =
        let h = end_within bytes t.end ts o.2 in
        let a : from ≤ t.start = o.0 in
        let b : t.start < t.end = o.1 in
        omega (arith, h, a, b)

pub spans_of_first : (bytes : List ℕ) (tokens : List Token) → HasSpansInOrder → AreFirstTokens bytes tokens → All (IsSpan bytes) tokens
spans_of_first bytes tokens h f =
    let g = h bytes (tokens ++ f.0) f.1.0 f.1.1 in
    spans_from bytes 0 tokens f.0 g.0 g.1

pub spans_of_all : (bytes : List ℕ) (tokens : List Token) (stop : Option Fault) → HasSpansInOrder → IsReading bytes tokens stop → All (IsSpan bytes) tokens
spans_of_all bytes tokens stop h r = spans_of_first bytes tokens h ([], (stop, subst (λ x. IsReading bytes x stop) (sym (append-nil tokens)) r))

-- the file that was built

pub balanced_marks : (text : List Word) (ms : List Mark) → IsShallowWalk text ms → IsBalanced ms []
balanced_marks text ms w = file_balanced text ms w

pub spelled_marks : (bytes : List ℕ) (tokens : List Token) (text : List Word) (ms : List Mark) → text ≡ words_at bytes tokens → IsShallowWalk text ms → mark_words ms ≡ words_at bytes tokens
spelled_marks bytes tokens text ms e w = w.spelled ∙ e

pub declared_parts :
    (bytes : List ℕ) (tokens : List Token) (text : List Word) (ms : List Mark) (ps : Parts) → text ≡ words_at bytes tokens → IsShallowWalk text ms
    → pieces ps [] ≡ labelled ms (lexemes_at bytes tokens) → AreDeclarations ps
declared_parts bytes tokens text ms ps e w b =
    file_declares ps (whole_of text ms ps w (built_marks bytes tokens ms ps b (w.spelled ∙ e))).derived

pub file_built :
    (bytes : List ℕ) (tokens : List Token) (text : List Word) (ms : List Mark) (ps : Parts) (found : File) → text ≡ words_at bytes tokens
    → IsShallowWalk text ms → pieces ps [] ≡ labelled ms (lexemes_at bytes tokens) → trees_of found.declarations.items ≡ ps
    → All HasItsKeyword found.declarations.items → IsFileOfTokens (lexemes_at bytes tokens) found
file_built bytes tokens text ms ps found e w b t k =
    let whole = whole_of text ms ps w (built_marks bytes tokens ms ps b (w.spelled ∙ e)) in
    record {
      derived = subst (λ x. Derives file x []) (sym t) whole.derived;
      spelled = ap lexemes t ∙ built_lexemes bytes tokens ms ps b (w.spelled ∙ e);
      shallow = subst (λ x. AreShallow (depths 0 x)) (sym t) whole.shallow;
      keywords = k;
    }

pub fault_found : (text tokens_text : List Word) (stop : Stop) → text ≡ tokens_text → IsFaultAt text stop.place stop.kind → IsFaultAt tokens_text stop.place stop.kind
fault_found text tokens_text stop e f = subst (λ x. IsFaultAt x stop.place stop.kind) e f

pub ruleset for_file = (balanced_marks, spelled_marks, declared_parts, file_built, fault_found)

-- its first fault

pub syntax_fault :
    (bytes : List ℕ) (tokens : List Token) (stop : Stop) (fault : Fault) → IsFaultAt (words_at bytes tokens) stop.place stop.kind → fault.kind ≡ stop.kind
    → StandsAt bytes tokens stop.place fault → IsSyntaxFault bytes tokens stop.place fault
syntax_fault bytes tokens stop fault f k s = record { first = subst (IsFaultAt (words_at bytes tokens) stop.place) (sym k) f; stands = s }

pub refused :
    (bytes : List ℕ) (tokens : List Token) (stop : Stop) (fault : Fault) → IsFaultAt (words_at bytes tokens) stop.place stop.kind → fault.kind ≡ stop.kind
    → StandsAt bytes tokens stop.place fault → (place : ℕ) × IsSyntaxFault bytes tokens place fault
refused bytes tokens stop fault f k s = (stop.place, syntax_fault bytes tokens stop fault f k s)

pub ruleset for_parse = (spans_of_first, refused)

-- the end is behind the last word
pub fault_within : (text : List Word) (place : ℕ) (kind : FaultKind) → IsFaultAt text place kind → place ≤ length text
fault_within text place fault.UnexpectedToken f = let h = slice_get_within text place f.0 f.1 in omega (arith, h)
fault_within text place fault.TooDeep f = let h = slice_get_within text place f.0 f.1 in omega (arith, h)
fault_within text place fault.UnexpectedEnd f = omega (arith, f.0)
fault_within text place fault.BadByte f = absurd f
fault_within text place _ f = absurd f

pub fault_behind : (text : List Word) (place : ℕ) (kind : FaultKind) → length text ≤ place → IsFaultAt text place kind → Begins text
fault_behind text place fault.UnexpectedToken l f = let h = slice_get_within text place f.0 f.1 in absurd (omega (arith, h, l))
fault_behind text place fault.TooDeep l f = let h = slice_get_within text place f.0 f.1 in absurd (omega (arith, h, l))
fault_behind text place fault.UnexpectedEnd l f = f.1.begins
fault_behind text place fault.BadByte l f = absurd f
fault_behind text place _ l f = absurd f

begins_with : (bytes : List ℕ) (tokens : List Token) (found : File) → IsFileOfTokens (lexemes_at bytes tokens) found → Begins (words_at bytes tokens)
begins_with bytes tokens found f =
    let trees = trees_of found.declarations.items in
    let text : words trees ≡ words_at bytes tokens = words_of_lexemes-lexemes trees ∙ ap (map word_of) f.spelled ∙ sym (words_same bytes tokens) in
    record {
      more = [];
      trees = trees;
      file = record { derived = f.derived; spelled = text ∙ sym (append-nil (words_at bytes tokens)) };
      shallow = All-take (λ depth. depth ≤ deepest) (length (words_at bytes tokens)) (depths 0 trees) f.shallow;
    }

pub text_found : (bytes : List ℕ) (tokens : List Token) (found : File) → IsReading bytes tokens None → IsFileOfTokens (lexemes_at bytes tokens) found → IsFileOfText bytes found
text_found bytes tokens found r f = record { tokens = tokens; reading = r; file = f }

pub lexical_found :
    (bytes : List ℕ) (tokens : List Token) (found : File) (fault : Fault) → IsReading bytes tokens (Some fault) → IsFileOfTokens (lexemes_at bytes tokens) found
    → IsFirstFault bytes fault
lexical_found bytes tokens found fault r f = lexical tokens r (begins_with bytes tokens found f)

pub ruleset for_read_file = (spans_of_all, text_found, lexical_found)

pub at_token_found :
    (bytes : List ℕ) (tokens : List Token) (lexical_stop : Option Fault) (stop : Stop) (fault : Fault) → IsReading bytes tokens lexical_stop
    → stop.place < length tokens → IsFaultAt (words_at bytes tokens) stop.place stop.kind → fault.kind ≡ stop.kind → StandsAt bytes tokens stop.place fault
    → IsFirstFault bytes fault
at_token_found bytes tokens lexical_stop stop fault r l f k s = at_token tokens lexical_stop stop.place r l (syntax_fault bytes tokens stop fault f k s)

pub words_count : (bytes : List ℕ) (tokens : List Token) → length (words_at bytes tokens) ≡ length tokens
words_count bytes tokens = length-map tokens (λ t. word_of (lexeme_at bytes t))

pub behind_found :
    (bytes : List ℕ) (tokens : List Token) (last : Option Fault) (stop : Stop) (fault : Fault) → IsReading bytes tokens last → last ≡ Some fault
    → length tokens ≤ stop.place → IsFaultAt (words_at bytes tokens) stop.place stop.kind → IsFirstFault bytes fault
behind_found bytes tokens last stop fault r e l f =
    lexical tokens (subst (IsReading bytes tokens) e r) (fault_behind (words_at bytes tokens) stop.place stop.kind (omega (arith, l, words_count bytes tokens)) f)

pub at_end_found :
    (bytes : List ℕ) (tokens : List Token) (last : Option Fault) (stop : Stop) (fault : Fault) → IsReading bytes tokens last → last ≡ None
    → length tokens ≤ stop.place → IsFaultAt (words_at bytes tokens) stop.place stop.kind → fault.kind ≡ stop.kind → StandsAt bytes tokens stop.place fault
    → IsFirstFault bytes fault
at_end_found bytes tokens last stop fault r n l f k s =
    let e : stop.place ≡ length tokens = omega (arith, l, words_count bytes tokens, fault_within (words_at bytes tokens) stop.place stop.kind f) in
    at_end tokens (subst (IsReading bytes tokens) n r) (subst (λ n. IsSyntaxFault bytes tokens n fault) e (syntax_fault bytes tokens stop fault f k s))

pub ruleset for_earlier = (at_token_found, behind_found, at_end_found)
